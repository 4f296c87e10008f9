use Rattle.dp_report.specs.Alarms.{limit_lines}
use Rattle.dp_report.proofs.Pieces.{three_pieces}
use Rattle.dp_report.proofs.alarms.append_limits.Goals as goal

pub returns-clause-text : goal.returns-clause-text
unfolding limit_lines
returns-clause-text c =
    three_pieces _ _ _ _ _ _ _ c.append_alarm.ensures.text c.append_alarm-2.ensures.text c.append_alarm-3.ensures.text
