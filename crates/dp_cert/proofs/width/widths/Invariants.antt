use Rattle.std.proofs.Common.{◌≡◌, ◌<◌, ◌^◌, ℕ, false, pos, length}
use Rattle.dp_plant.specs.Vectors.{entry}
use Rattle.dp_cert.specs.InRange.{IsUpTo}
use Rattle.dp_cert.specs.Width.{is_wide, width}
use Rattle.dp_cert.proofs.width.widths.Given as goal

abbrev pub invariant-loop-i : goal.invariant-loop-i
invariant-loop-i g l = record {
  wide : length l.widths ≡ g.row.N;
  is : (k : ℕ) → k < l.i → entry l.widths k ≡ width l.n (entry l.span k);
  narrow : (k : ℕ) → k < l.i → is_wide (width l.n (entry l.span k)) ≡ false;
  bound : (k : ℕ) → k < l.i → IsUpTo (pos (2 ^ 56)) (entry l.widths k);
}
