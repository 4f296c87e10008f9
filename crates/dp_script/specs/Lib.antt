pub mod Chains
pub mod Acts
pub mod Hexadecimal
pub mod Commands
pub mod Instructions
pub mod Faults
pub mod TimedActs
pub mod Drafts
pub mod Generator
pub mod Made
pub mod Left
pub mod Written
pub use Rattle.dp_script.specs.Acts.{IsWithin, usual_acts}
pub use Rattle.dp_script.specs.Hexadecimal.{is_lower_digit, paired}
pub use Rattle.dp_script.specs.Commands.{command_of, exchange_of, hexadecimal_of, message_of, phrase_of, phrase_of_parts, signed_of, verb_of, whole_of}
pub use Rattle.dp_script.specs.Instructions.{IsGiven, acts_of, below_of, instruction_of, near_of, other_of, single_of, told_of}
pub use Rattle.dp_script.specs.Faults.{fault_in, fault_of, first_fault, said_by}
pub use Rattle.dp_script.specs.TimedActs.{IsScript, acts_at, acts_in, has_usual_acts, timed_acts_by, timed_acts_of, timed_acts_with}
pub use Rattle.dp_script.specs.Drafts.{IsDraftOf, IsPassed}
pub use Rattle.dp_script.specs.Generator.{draw_at, drawn, number_of, state_after}
pub use Rattle.dp_script.specs.Made.{draws_at, heading_body, heading_line, joined, line_at, lines_from, made, made_lines, place_line, wind_body, wind_line, wire_line}
pub use Rattle.dp_script.specs.Left.{lines_left}
pub use Rattle.dp_script.specs.Written.{LineIsWritten, Says, WriteAll, arguments_of, word_of}
