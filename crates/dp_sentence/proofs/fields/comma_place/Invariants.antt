use Rattle.std.proofs.Common.{◌≤◌, ◌-◌, length}
use Rattle.std.specs.List.{position_or_len}
use Rattle.dp_sentence.specs.Fields.{is_comma}
use Rattle.dp_sentence.proofs.fields.comma_place.Given as goal

-- no comma stands before this place
abbrev pub invariant-loop-at : goal.invariant-loop-at
invariant-loop-at l = l.at ≤ position_or_len is_comma l.text

abbrev pub decreases-loop-at : goal.decreases-loop-at
decreases-loop-at l = length l.text - l.at
