-- A table that is filled from the prefix.
use Rattle.std.proofs.Common.{◌≡◌, ℕ, zero, suc, ◌+◌, ◌<◌, List, [], ◌∷◌, length, Some, slice_get, slice_set, refl, arith, ap, ◌∙◌}
use borrow.Author.Count.{below_more}

-- the entry that was written
slice_get-set_same : {A : Type 0} (xs : List A) (i : ℕ) (v : A) → i < length xs → slice_get (slice_set xs i v) i ≡ Some v
slice_get-set_same [] i v h = absurd (omega arith)
slice_get-set_same (x ∷ xs) zero v h = refl
slice_get-set_same (x ∷ xs) (suc i) v h = slice_get-set_same xs i v (omega arith)

-- an entry before the one that was written
slice_get-set_after : {A : Type 0} (xs : List A) (i k : ℕ) (v : A) → k < i → slice_get (slice_set xs i v) k ≡ slice_get xs k
slice_get-set_after [] i k v h = refl
slice_get-set_after (x ∷ xs) zero k v h = absurd (omega arith)
slice_get-set_after (x ∷ xs) (suc i) zero v h = refl
slice_get-set_after (x ∷ xs) (suc i) (suc k) v h = slice_get-set_after xs i k v (omega arith)

-- with the entry at i written, the first i + 1 entries are the values of f
pub filled_more : {A : Type 0} (f : ℕ → A) (xs : List A) (i : ℕ) (v : A) → i < length xs → v ≡ f i → ((k : ℕ) → k < i → slice_get xs k ≡ Some (f k)) → (k : ℕ) → k < i + 1 → slice_get (slice_set xs i v) k ≡ Some (f k)
filled_more f xs i v l e h = below_more (λ k. slice_get (slice_set xs i v) k ≡ Some (f k)) i (λ k m. slice_get-set_after xs i k v m ∙ h k m) (slice_get-set_same xs i v l ∙ ap Some e)
