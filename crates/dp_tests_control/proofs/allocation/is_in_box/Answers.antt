use Rattle.std.proofs.Common.{rules}
use Rattle.dp_tests_control.proofs.allocation.is_in_box.Goals as goal

pub returns : goal.returns
returns c = λ yes. record { surge = search rules; sway = search rules; yaw = search (rules, yes) }
