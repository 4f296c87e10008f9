-- Rows and entries of sums, outer products and residuals.
use Rattle.std.proofs.Common.{◌≡◌, ◌<◌, ◌+◌, ℕ, zero, suc, List, [], ◌∷◌, ◌++◌, length, take, refl, sym, ap, subst, ◌∙◌, ℤ, pos, neg_ℤ, ◌+ℤ◌, ◌-ℤ◌, ◌*ℤ◌}
use Rattle.std.proofs.lemmas.List.{take_more}
use Rattle.std.proofs.lemmas.List.Elements.{All-push}
use Rattle.std.specs.Prelude.{slice_index_or, All}
use lib.IntN.{*ℤ-zero, zero-*ℤ, +ℤ_idl, +ℤ_idr}
use Rattle.dp_form.proofs.Ring.{var, ◌⊗◌, minus, ring}
use Rattle.dp_form.specs.Vectors.{add, scale, matrix_add, outer, row, entry}
use Rattle.dp_form.specs.Residual.{residual}
use Rattle.dp_form.specs.declared.Square.{Square}

-- the entry of a vector at i, 0 past its end
abbrev pub place : List ℤ → ℕ → ℤ
place r i = slice_index_or r i (pos 0)

pub place-add : (x y : List ℤ) (i : ℕ) → place (add x y) i ≡ place x i +ℤ place y i
place-add [] y i = sym (+ℤ_idl (place y i))
place-add (a ∷ x) [] i = sym (+ℤ_idr (place (a ∷ x) i))
place-add (a ∷ x) (b ∷ y) zero = refl
place-add (a ∷ x) (b ∷ y) (suc i) = place-add x y i

pub place-scale : (k : ℤ) (x : List ℤ) (i : ℕ) → place (scale k x) i ≡ k *ℤ place x i
place-scale k [] i = sym (*ℤ-zero k)
place-scale k (a ∷ x) zero = refl
place-scale k (a ∷ x) (suc i) = place-scale k x i

add_nil : (x : List ℤ) → add x [] ≡ x
add_nil [] = refl
add_nil (a ∷ x) = refl

pub row-matrix_add : (p q : List (List ℤ)) (i : ℕ) → row (matrix_add p q) i ≡ add (row p i) (row q i)
row-matrix_add [] q i = refl
row-matrix_add (r ∷ p) [] i = sym (add_nil (row (r ∷ p) i))
row-matrix_add (r ∷ p) (s ∷ q) zero = refl
row-matrix_add (r ∷ p) (s ∷ q) (suc i) = row-matrix_add p q i

pub entry-matrix_add : (p q : List (List ℤ)) (i j : ℕ) → entry (matrix_add p q) i j ≡ entry p i j +ℤ entry q i j
entry-matrix_add p q i j = ap (λ (r : List ℤ). place r j) (row-matrix_add p q i) ∙ place-add (row p i) (row q i) j

pub entry-outer : (x y : List ℤ) (i j : ℕ) → entry (outer x y) i j ≡ place x i *ℤ place y j
entry-outer [] y i j = sym (zero-*ℤ (place y j))
entry-outer (a ∷ x) y zero j = place-scale a y j
entry-outer (a ∷ x) y (suc i) j = entry-outer x y i j

-- a matrix less one square
abbrev pub less : {n : ℕ} → List (List ℤ) → Square n → List (List ℤ)
less p q = matrix_add p (outer (scale (neg_ℤ q.d) q.l) q.l)

-- what the square takes from the entry in row i and column j
abbrev pub part : {n : ℕ} → Square n → ℕ → ℕ → ℤ
part q i j = q.d *ℤ (place q.l i *ℤ place q.l j)

negated : (d a b : ℤ) → (neg_ℤ d *ℤ a) *ℤ b ≡ neg_ℤ (d *ℤ (a *ℤ b))
negated d a b = ring (d ∷ (a ∷ (b ∷ []))) ((minus (var 0) ⊗ var 1) ⊗ var 2) (minus (var 0 ⊗ (var 1 ⊗ var 2))) tt

pub entry-less : {n : ℕ} (p : List (List ℤ)) (q : Square n) (i j : ℕ) → entry (less p q) i j ≡ entry p i j -ℤ part q i j
entry-less p q i j =
    entry-matrix_add p (outer (scale (neg_ℤ q.d) q.l) q.l) i j
    ∙ ap (λ (z : ℤ). entry p i j +ℤ z)
    (entry-outer (scale (neg_ℤ q.d) q.l) q.l i j ∙ ap (λ (z : ℤ). z *ℤ place q.l j) (place-scale (neg_ℤ q.d) q.l i) ∙ negated q.d (place q.l i) (place q.l j))

-- one square more
pub residual-push : {n : ℕ} (p : List (List ℤ)) (qs : List (Square n)) (q : Square n) → residual p (qs ++ q ∷ []) ≡ less (residual p qs) q
residual-push p [] q = refl
residual-push p (h ∷ qs) q = residual-push (less p h) qs q

pub entry-residual_push : {n : ℕ} (p : List (List ℤ)) (qs : List (Square n)) (q : Square n) (i j : ℕ) → entry (residual p (qs ++ q ∷ [])) i j ≡ entry (residual p qs) i j -ℤ part q i j
entry-residual_push p qs q i j = ap (λ (m : List (List ℤ)). entry m i j) (residual-push p qs q) ∙ entry-less (residual p qs) q i j

-- the list up to k, and its element there
pub residual-take_more : {n : ℕ} (p : List (List ℤ)) (qs : List (Square n)) (k : ℕ) (q : Square n) → k < length qs → q ≡ slice_index_or qs k q → residual p (take (k + 1) qs) ≡ less (residual p (take k qs)) q
residual-take_more {n} p qs k q h e = ap (λ (z : List (Square n)). residual p z) (take_more qs k q h ∙ ap (λ (z : Square n). take k qs ++ z ∷ []) (sym e)) ∙ residual-push p (take k qs) q

pub entry-residual_more : {n : ℕ} (p : List (List ℤ)) (qs : List (Square n)) (k : ℕ) (q : Square n) (i j : ℕ) → k < length qs → q ≡ slice_index_or qs k q → entry (residual p (take (k + 1) qs)) i j ≡ entry (residual p (take k qs)) i j -ℤ part q i j
entry-residual_more p qs k q i j h e = ap (λ (m : List (List ℤ)). entry m i j) (residual-take_more p qs k q h e) ∙ entry-less (residual p (take k qs)) q i j

pub All-take_more : {X : Type 0} (P : X → Type 0) (xs : List X) (k : ℕ) (x : X) → k < length xs → x ≡ slice_index_or xs k x → All P (take k xs) → P x → All P (take (k + 1) xs)
All-take_more {X} P xs k x h e a b = subst (All P) (sym (take_more xs k x h ∙ ap (λ (z : X). take k xs ++ z ∷ []) (sym e))) (All-push P (take k xs) x a b)
