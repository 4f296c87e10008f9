use Rattle.std.proofs.Common.{◌≡◌, ◌<◌, ◌^◌, ℕ, [], pos, length, get_or, map, unsigned_abs}
use Rattle.std.specs.Prelude.{All}
use Rattle.dp_form.specs.Range.{IsWithin}
use Rattle.dp_cert.proofs.forms.absolute_rows.Given as goal

abbrev pub invariant-loop-i : goal.invariant-loop-i
invariant-loop-i g l = record {
  tall : length l.at ≡ g.row.N;
  is : (k : ℕ) → k < l.i → get_or l.at k [] ≡ map (λ z. pos (unsigned_abs z)) (get_or l.p k []);
  small : (k : ℕ) → k < l.i → All (IsWithin (2 ^ 40)) (get_or l.at k []);
}
