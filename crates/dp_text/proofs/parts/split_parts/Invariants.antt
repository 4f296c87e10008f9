use Rattle.std.proofs.Common.{◌≡◌, length, ◌++◌}
use Rattle.dp_text.specs.Parts.{parts_of, texts_of}
use Rattle.dp_text.proofs.parts.split_parts.Given as goal

abbrev pub invariant-loop-part : goal.invariant-loop-part
invariant-loop-part g l = texts_of l.parts.items ++ parts_of l.rest ≡ parts_of l.text

abbrev pub decreases-loop-part : goal.decreases-loop-part
decreases-loop-part g l = length l.rest
