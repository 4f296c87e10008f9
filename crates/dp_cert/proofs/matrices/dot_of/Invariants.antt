use Rattle.std.proofs.Common.{◌≡◌, ◌^◌, ◌*◌, ℕ, take}
use Rattle.std.specs.Prelude.{All}
use Rattle.dp_form.specs.Vectors.{dot}
use Rattle.dp_form.specs.Range.{IsWithin}
use Rattle.dp_cert.proofs.matrices.dot_of.Given as goal

abbrev pub invariant-loop-k : goal.invariant-loop-k
invariant-loop-k g l = record {
  is : l.sum ≡ dot (take l.k l.x) l.y;
  small : (m : ℕ) → All (IsWithin m) l.y → IsWithin (l.k * (2 ^ 40 * m)) l.sum;
}
