-- The rest of a row, summed up entry by entry.
use Rattle.std.proofs.Common.{◌≡◌, ◌<◌, ◌≤◌, ◌+◌, ℕ, List, length, take, ap, ◌∙◌, arith, ℤ, pos, ◌+ℤ◌}
use Rattle.std.proofs.lemmas.Int.{ints}
use Rattle.std.proofs.lemmas.List.{take_more, take_all}
use Rattle.std.proofs.lemmas.List.Sums.{sum_by_push, sum_by-remove}
use Rattle.std.specs.Prelude.{sum_by}
use Rattle.std.specs.List.{remove}
use Rattle.std.specs.Int.RustNames.{unsigned_abs}
use Rattle.dp_form.proofs.Entries.{place}

-- the sum of the absolute values of the first j entries
abbrev pub sizes_below : List ℤ → ℕ → ℕ
sizes_below r j = sum_by unsigned_abs (take j r)

pub sizes_more : (r : List ℤ) (j : ℕ) → j < length r → sizes_below r (j + 1) ≡ sizes_below r j + unsigned_abs (place r j)
sizes_more r j h = ap (sum_by unsigned_abs) (take_more r j (pos 0) h) ∙ sum_by_push unsigned_abs (take j r) (place r j)

pub sizes_all : (r : List ℤ) (j : ℕ) → length r ≤ j → sizes_below r j ≡ sum_by unsigned_abs r
sizes_all r j h = ap (sum_by unsigned_abs) (take_all j r h)

pub sizes_rest : (r : List ℤ) (i : ℕ) → i < length r → sum_by unsigned_abs (remove r i) + unsigned_abs (place r i) ≡ sum_by unsigned_abs r
sizes_rest r i h = sum_by-remove unsigned_abs r i (pos 0) h

-- the step of the sum: at j before i, past i, and at i itself
pub step_before : (r : List ℤ) (i j : ℕ) (old new : ℤ) → j < length r → old ≡ pos (sizes_below r j) → new ≡ old +ℤ pos (unsigned_abs (place r j)) → new ≡ pos (sizes_below r (j + 1))
step_before r i j old new h e f = omega (arith, ints, sizes_more r j h)

pub step_after : (r : List ℤ) (i j : ℕ) (old new : ℤ) → j < length r → old +ℤ pos (unsigned_abs (place r i)) ≡ pos (sizes_below r j) → new ≡ old +ℤ pos (unsigned_abs (place r j)) → new +ℤ pos (unsigned_abs (place r i)) ≡ pos (sizes_below r (j + 1))
step_after r i j old new h e f = omega (arith, ints, sizes_more r j h)

pub step_at : (r : List ℤ) (i j : ℕ) (old : ℤ) → j < length r → j ≡ i → old ≡ pos (sizes_below r j) → old +ℤ pos (unsigned_abs (place r i)) ≡ pos (sizes_below r (j + 1))
step_at r i j old h s e = let a : unsigned_abs (place r j) ≡ unsigned_abs (place r i) = ap (λ (k : ℕ). unsigned_abs (place r k)) s in omega (arith, ints, sizes_more r j h)

pub all_rest : (r : List ℤ) (i j : ℕ) (sum : ℤ) → i < length r → length r ≤ j → sum +ℤ pos (unsigned_abs (place r i)) ≡ pos (sizes_below r j) → sum ≡ pos (sum_by unsigned_abs (remove r i))
all_rest r i j sum h k e = omega (arith, ints, sizes_all r j k, sizes_rest r i h)
