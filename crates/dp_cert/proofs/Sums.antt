-- Sums of products, full_scale entry after another.
use Rattle.std.proofs.Common.{◌≡◌, ◌<◌, ◌≤◌, ◌+◌, ℕ, zero, suc, List, [], ◌∷◌, length, drop, refl, ap, ap₂, ℤ, pos, ◌+ℤ◌, ◌*ℤ◌}
use Rattle.std.proofs.lemmas.List.{drop_more, drop_all}
use Rattle.dp_form.specs.Vectors.{dot, apply, row}
use Rattle.dp_form.proofs.Entries.{place}

pub length-apply : (p : List (List ℤ)) (y : List ℤ) → length (apply p y) ≡ length p
length-apply [] y = refl
length-apply (r ∷ p) y = ap suc (length-apply p y)

pub place-apply : (p : List (List ℤ)) (y : List ℤ) (i : ℕ) → place (apply p y) i ≡ dot (row p i) y
place-apply [] y i = refl
place-apply (r ∷ p) y zero = refl
place-apply (r ∷ p) y (suc i) = place-apply p y i

pub dot_more : (x y : List ℤ) (j : ℕ) → j < length x → j < length y → dot (drop j x) (drop j y) ≡ place x j *ℤ place y j +ℤ dot (drop (j + 1) x) (drop (j + 1) y)
dot_more x y j h k = ap₂ dot (drop_more x j (pos 0) h) (drop_more y j (pos 0) k)

pub dot_all : (x y : List ℤ) (j : ℕ) → length x ≤ j → dot (drop j x) y ≡ pos 0
dot_all x y j h = ap (λ (z : List ℤ). dot z y) (drop_all j x h)
