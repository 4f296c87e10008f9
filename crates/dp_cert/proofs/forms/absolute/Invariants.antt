use Rattle.std.proofs.Common.{◌≡◌, ◌<◌, ◌^◌, ℕ, pos, length, get_or, unsigned_abs}
use Rattle.dp_form.specs.Range.{IsWithin}
use Rattle.dp_cert.proofs.forms.absolute.Given as goal

abbrev pub invariant-loop-j : goal.invariant-loop-j
invariant-loop-j g l = record {
  wide : length l.sizes ≡ g.row.N;
  is : (k : ℕ) → k < l.j → get_or l.sizes k (pos 0) ≡ pos (unsigned_abs (get_or l.row k (pos 0)));
  small : (k : ℕ) → k < l.j → IsWithin (2 ^ 40) (get_or l.sizes k (pos 0));
}
