pub mod Text
pub mod Alarms
pub mod Agreement
pub mod Block
pub use Rattle.dp_report.specs.Text.{ballot_text, mode_letter, order_text, thruster_lines}
pub use Rattle.dp_report.specs.Alarms.{alarm_line, alarm_lines, alarm_text, cause_line, consequence_lines, damage_lines, demand_lines, limit_lines, numbered_line, numbered_lines, reference_line, reference_lines, sensor_lines}
pub use Rattle.dp_report.specs.Agreement.{agreed, agreed_alarms, agreed_bits, agreed_cause, are_two, is_cause, no_alarms, raised_by}
pub use Rattle.dp_report.specs.Block.{block_text}
