use Rattle.std.proofs.Common.{◌-◌, ◌≤◌, length}
use Rattle.dp_shell.specs.Reads.{ReadsOnly}
use Rattle.dp_shell.specs.Texts.{ReadsPrefix}
use Rattle.dp_shell.proofs.reading.fill.Given as goal

-- a prefix of the text was read
abbrev pub invariant-loop-count : goal.invariant-loop-count
invariant-loop-count g l = record {
  since : ReadsOnly g.F.Shelf.files g.F.Shelf.apart g.F.Shelf.faults l.name l.fn.shelf l.shelf;
  prefix : ReadsPrefix (g.F.Shelf.files l.fn.shelf) l.name l.text.items;
  size : length l.text.items ≤ l.limit;
}

abbrev pub decreases-loop-count : goal.decreases-loop-count
decreases-loop-count g l = l.limit - length l.text.items
