use Rattle.std.proofs.Common.{◌≡◌, ◌+◌, ◌≤◌, ◌++◌, length}
use Rattle.std.specs.Prelude.{map}
use Rattle.dp_sentence.specs.Fields.{parts}
use Rattle.dp_sentence.proofs.fields.keep.Given as goal

-- the parts so far, and those of what is left
abbrev pub invariant-loop-commas : goal.invariant-loop-commas
invariant-loop-commas g l = record {
  all : parts l.fn.rest ≡ map (λ f. f.now) l.into.items ++ parts l.rest;
  count : length (parts l.rest) ≡ l.commas + 1;
  few : length l.into.items ≤ g.row.N;
}

abbrev pub decreases-loop-commas : goal.decreases-loop-commas
decreases-loop-commas g l = l.commas
