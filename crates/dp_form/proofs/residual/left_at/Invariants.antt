use Rattle.std.proofs.Common.{◌≡◌, take, ◌+◌, ◌*◌, ◌^◌, length, All}
use Rattle.dp_form.specs.Vectors.{entry}
use Rattle.dp_form.specs.Residual.{residual}
use Rattle.dp_form.specs.Range.{IsWithin}
use Rattle.dp_form.proofs.residual.left_at.Given as goal

abbrev pub invariant-loop-square : goal.invariant-loop-square
invariant-loop-square g l = record {
  is : l.left ≡ entry (residual l.s.at (take l.square-index l.w.list.items)) l.i l.j;
  small : IsWithin (2 ^ 121 + l.square-index * 2 ^ 120) l.left;
  wide : All (λ q. length q.l ≡ g.row.N) (take l.square-index l.w.list.items);
}
