-- A symmetric matrix whose diagonal outweighs its rows gives a form that is at least 0.
use Rattle.std.proofs.Common.{◌≡◌, ℕ, zero, suc, List, [], ◌∷◌, refl, sym, ap, subst, ◌∙◌, arith, ℤ, pos, negsuc, ◌+ℤ◌, ◌-ℤ◌, ◌*ℤ◌, ◌≤ℤ◌}
use Rattle.std.proofs.lemmas.Int.{ints}
use Rattle.std.proofs.lemmas.List.Sums.{sum_by-cons}
use Rattle.std.specs.Prelude.{sum_by}
use Rattle.std.specs.List.{remove}
use Rattle.std.specs.Int.RustNames.{unsigned_abs}
use lib.IntN.{*ℤ_comm, *ℤ-zero, zero-*ℤ}
use Rattle.dp_form.specs.Vectors.{dot, add, scale, apply, row, entry}
use Rattle.dp_form.specs.Form.{form}
use Rattle.dp_form.proofs.Ring.{var, num, ◌⊕◌, ◌⊗◌, minus, ring}
use Rattle.dp_form.proofs.Order.{square_nonneg, mul_nonneg, mul_le}
use Rattle.dp_form.proofs.Bilinear.{dot_comm, dot_add_right, dot_scale_right}
use Rattle.dp_form.proofs.Entries.{place, place-add}

-- ---- the first row and column taken off
abbrev pub head_of : List ℤ → ℤ
head_of [] = pos 0
head_of (a ∷ r) = a

abbrev pub tail_of : List ℤ → List ℤ
tail_of [] = []
tail_of (a ∷ r) = r

abbrev pub heads : List (List ℤ) → List ℤ
heads [] = []
heads (r ∷ p) = head_of r ∷ heads p

abbrev pub tails : List (List ℤ) → List (List ℤ)
tails [] = []
tails (r ∷ p) = tail_of r ∷ tails p

place-head_of : (r : List ℤ) → place r 0 ≡ head_of r
place-head_of [] = refl
place-head_of (a ∷ r) = refl

place-tail_of : (r : List ℤ) (i : ℕ) → place (tail_of r) i ≡ place r (suc i)
place-tail_of [] i = refl
place-tail_of (a ∷ r) i = refl

place-heads : (p : List (List ℤ)) (i : ℕ) → place (heads p) i ≡ place (row p i) 0
place-heads [] i = refl
place-heads (r ∷ p) zero = sym (place-head_of r)
place-heads (r ∷ p) (suc i) = place-heads p i

row-tails : (p : List (List ℤ)) (i : ℕ) → row (tails p) i ≡ tail_of (row p i)
row-tails [] i = refl
row-tails (r ∷ p) zero = refl
row-tails (r ∷ p) (suc i) = row-tails p i

entry-tails : (p : List (List ℤ)) (i j : ℕ) → entry (tails p) i j ≡ place (row p i) (suc j)
entry-tails p i j = ap (λ (r : List ℤ). place r j) (row-tails p i) ∙ place-tail_of (row p i) j

head_tail : (r : List ℤ) (a : ℤ) (x : List ℤ) → dot r (a ∷ x) ≡ a *ℤ head_of r +ℤ dot (tail_of r) x
head_tail [] a x = omega (arith, ints)
head_tail (b ∷ r) a x = ap (λ (z : ℤ). z +ℤ dot r x) (*ℤ_comm b a)

apply_column : (p : List (List ℤ)) (a : ℤ) (x : List ℤ) → apply p (a ∷ x) ≡ add (scale a (heads p)) (apply (tails p) x)
apply_column [] a x = refl
apply_column (r ∷ p) a x = let e = head_tail r a x in let f = apply_column p a x in cc

-- two vectors with the same entries
dot_zero : (x z : List ℤ) → ((i : ℕ) → place x i ≡ pos 0) → dot x z ≡ pos 0
dot_zero [] z h = refl
dot_zero (a ∷ x) [] h = refl
dot_zero (a ∷ x) (c ∷ z) h = ap (λ (u : ℤ). u *ℤ c +ℤ dot x z) (h 0) ∙ omega (arith, ints, zero-*ℤ c, dot_zero x z (λ i. h (suc i)))

dot_same : (x y z : List ℤ) → ((i : ℕ) → place x i ≡ place y i) → dot x z ≡ dot y z
dot_same [] y z h = sym (dot_zero y z (λ i. sym (h i)))
dot_same (a ∷ x) [] z h = dot_zero (a ∷ x) z h
dot_same (a ∷ x) (b ∷ y) [] h = refl
dot_same (a ∷ x) (b ∷ y) (c ∷ z) h = ap (λ (u : ℤ). u *ℤ c +ℤ dot x z) (h 0) ∙ ap (λ (u : ℤ). b *ℤ c +ℤ u) (dot_same x y z (λ i. h (suc i)))

form_cons : (r : List ℤ) (p : List (List ℤ)) (a : ℤ) (x : List ℤ) → ((i : ℕ) → place (heads p) i ≡ place (tail_of r) i) →
    form (r ∷ p) (a ∷ x) ≡ a *ℤ (a *ℤ head_of r +ℤ dot (tail_of r) x) +ℤ (a *ℤ dot (tail_of r) x +ℤ form (tails p) x)
form_cons r p a x e =
    ap (λ (z : ℤ). a *ℤ z +ℤ dot x (apply p (a ∷ x))) (head_tail r a x)
    ∙ ap (λ (z : ℤ). a *ℤ (a *ℤ head_of r +ℤ dot (tail_of r) x) +ℤ z)
    (ap (dot x) (apply_column p a x) ∙ dot_add_right x (scale a (heads p)) (apply (tails p) x)
    ∙ ap (λ (z : ℤ). z +ℤ form (tails p) x) (dot_scale_right a x (heads p) ∙ ap (λ (z : ℤ). a *ℤ z) (dot_comm x (heads p) ∙ dot_same (heads p) (tail_of r) x e)))

-- ---- the sizes of a row
abbrev pub sizes : List ℤ → List ℤ
sizes [] = []
sizes (a ∷ r) = pos (unsigned_abs a) ∷ sizes r

abbrev pub total : List ℤ → ℤ
total [] = pos 0
total (a ∷ r) = a +ℤ total r

-- the sizes of a row but for the entry at i
abbrev pub rest : ℕ → List ℤ → ℤ
rest i [] = pos 0
rest zero (a ∷ r) = total (sizes r)
rest (suc i) (a ∷ r) = pos (unsigned_abs a) +ℤ rest i r

total-sizes : (r : List ℤ) → total (sizes r) ≡ pos (sum_by unsigned_abs r)
total-sizes [] = refl
total-sizes (a ∷ r) = omega (arith, ints, total-sizes r, sum_by-cons unsigned_abs a r)

pub rest-remove : (i : ℕ) (r : List ℤ) → rest i r ≡ pos (sum_by unsigned_abs (remove r i))
rest-remove zero [] = refl
rest-remove (suc i) [] = refl
rest-remove zero (a ∷ r) = total-sizes r
rest-remove (suc i) (a ∷ r) = omega (arith, ints, rest-remove i r, sum_by-cons unsigned_abs a (remove r i))

place-sizes : (r : List ℤ) (i : ℕ) → place (sizes r) i ≡ pos (unsigned_abs (place r i))
place-sizes [] i = refl
place-sizes (a ∷ r) zero = refl
place-sizes (a ∷ r) (suc i) = place-sizes r i

rest-tail_of : (i : ℕ) (r : List ℤ) → rest (suc i) r ≡ pos (unsigned_abs (place r 0)) +ℤ rest i (tail_of r)
rest-tail_of zero [] = refl
rest-tail_of (suc i) [] = refl
rest-tail_of i (a ∷ r) = refl

rest_first : (r : List ℤ) → rest 0 r ≡ total (sizes (tail_of r))
rest_first [] = refl
rest_first (a ∷ r) = refl

-- the sum of s_i x_i²
abbrev pub weighted : List ℤ → List ℤ → ℤ
weighted [] x = pos 0
weighted (s ∷ ss) [] = pos 0
weighted (s ∷ ss) (a ∷ x) = s *ℤ (a *ℤ a) +ℤ weighted ss x

weighted_add : (s t x : List ℤ) → weighted (add s t) x ≡ weighted s x +ℤ weighted t x
weighted_add [] t x = omega (arith, ints)
weighted_add (s ∷ ss) [] x = omega (arith, ints)
weighted_add (s ∷ ss) (t ∷ ts) [] = refl
weighted_add (s ∷ ss) (t ∷ ts) (a ∷ x) =
    ap (λ (z : ℤ). (s +ℤ t) *ℤ (a *ℤ a) +ℤ z) (weighted_add ss ts x)
    ∙ ring (s ∷ (t ∷ (a ∷ (weighted ss x ∷ (weighted ts x ∷ [])))))
    ((var 0 ⊕ var 1) ⊗ (var 2 ⊗ var 2) ⊕ (var 3 ⊕ var 4))
    (var 0 ⊗ (var 2 ⊗ var 2) ⊕ var 3 ⊕ (var 1 ⊗ (var 2 ⊗ var 2) ⊕ var 4)) tt

weighted_cons : (s : List ℤ) (a : ℤ) (x : List ℤ) → weighted s (a ∷ x) ≡ head_of s *ℤ (a *ℤ a) +ℤ weighted (tail_of s) x
weighted_cons [] a x = omega (arith, ints, zero-*ℤ (a *ℤ a))
weighted_cons (s ∷ ss) a x = refl

weighted_nil : (s : List ℤ) → weighted s [] ≡ pos 0
weighted_nil [] = refl
weighted_nil (s ∷ ss) = refl

weighted_low : (s x : List ℤ) → ((i : ℕ) → place s i ≤ℤ pos 0) → weighted s x ≤ℤ pos 0
weighted_low [] x h = omega (arith, ints)
weighted_low (s ∷ ss) [] h = omega (arith, ints)
weighted_low (s ∷ ss) (a ∷ x) h =
    let m = mul_le (a *ℤ a) s (pos 0) (square_nonneg a) (h 0) in
    let c = *ℤ_comm (a *ℤ a) s in
    let z = *ℤ-zero (a *ℤ a) in
    let r = weighted_low ss x (λ i. h (suc i)) in
    omega (arith, ints)

-- |r| a² + 2 r a b + |r| b² is a square times |r|
one_pair : (r a b : ℤ) → pos 0 ≤ℤ (pos (unsigned_abs r) *ℤ (a *ℤ a) +ℤ pos 2 *ℤ (a *ℤ (r *ℤ b)) +ℤ pos (unsigned_abs r) *ℤ (b *ℤ b))
one_pair (pos k) a b = rw (ring (pos k ∷ (a ∷ (b ∷ [])))
    (var 0 ⊗ (var 1 ⊗ var 1) ⊕ num (pos 2) ⊗ (var 1 ⊗ (var 0 ⊗ var 2)) ⊕ var 0 ⊗ (var 2 ⊗ var 2))
    (var 0 ⊗ ((var 1 ⊕ var 2) ⊗ (var 1 ⊕ var 2))) tt) (mul_nonneg (pos k) ((a +ℤ b) *ℤ (a +ℤ b)) (omega (arith, ints)) (square_nonneg (a +ℤ b)))
one_pair (negsuc k) a b = rw (ring (pos (suc k) ∷ (a ∷ (b ∷ [])))
    (var 0 ⊗ (var 1 ⊗ var 1) ⊕ num (pos 2) ⊗ (var 1 ⊗ (minus (var 0) ⊗ var 2)) ⊕ var 0 ⊗ (var 2 ⊗ var 2))
    (var 0 ⊗ ((var 1 ⊕ minus (var 2)) ⊗ (var 1 ⊕ minus (var 2)))) tt) (mul_nonneg (pos (suc k)) ((a -ℤ b) *ℤ (a -ℤ b)) (omega (arith, ints)) (square_nonneg (a -ℤ b)))

size_nonneg : (r : List ℤ) → pos 0 ≤ℤ total (sizes r)
size_nonneg [] = omega (arith, ints)
size_nonneg (a ∷ r) = omega (arith, ints, size_nonneg r)

row_pairs : (r : List ℤ) (a : ℤ) (x : List ℤ) → pos 0 ≤ℤ (total (sizes r) *ℤ (a *ℤ a) +ℤ pos 2 *ℤ (a *ℤ dot r x) +ℤ weighted (sizes r) x)
row_pairs [] a x = omega (arith, ints, *ℤ-zero a)
row_pairs (b ∷ r) a [] = omega (arith, ints, *ℤ-zero a, mul_nonneg (total (sizes (b ∷ r))) (a *ℤ a) (size_nonneg (b ∷ r)) (square_nonneg a))
row_pairs (b ∷ r) a (c ∷ x) =
    let e = one_pair b a c in
    let f = row_pairs r a x in
    let g = ring (pos (unsigned_abs b) ∷ (b ∷ (a ∷ (c ∷ (total (sizes r) ∷ (dot r x ∷ (weighted (sizes r) x ∷ [])))))))
    ((var 0 ⊕ var 4) ⊗ (var 2 ⊗ var 2) ⊕ num (pos 2) ⊗ (var 2 ⊗ (var 1 ⊗ var 3 ⊕ var 5)) ⊕ (var 0 ⊗ (var 3 ⊗ var 3) ⊕ var 6))
    ((var 0 ⊗ (var 2 ⊗ var 2) ⊕ num (pos 2) ⊗ (var 2 ⊗ (var 1 ⊗ var 3)) ⊕ var 0 ⊗ (var 3 ⊗ var 3)) ⊕ (var 4 ⊗ (var 2 ⊗ var 2) ⊕ num (pos 2) ⊗ (var 2 ⊗ var 5) ⊕ var 6)) tt in
    rw g (omega (arith, ints))

-- the last step, on numbers: h is the diagonal entry, t the rest of its row, c the mixed part, f and w the smaller matrix's
last_step : (s h t c f v w a : ℤ) → (s +ℤ t) ≤ℤ h → (v +ℤ w) ≤ℤ f → pos 0 ≤ℤ (t *ℤ (a *ℤ a) +ℤ pos 2 *ℤ (a *ℤ c) +ℤ w) →
    (s *ℤ (a *ℤ a) +ℤ v) ≤ℤ (a *ℤ (a *ℤ h +ℤ c) +ℤ (a *ℤ c +ℤ f))
last_step s h t c f v w a d i q =
    let m = mul_le (a *ℤ a) (s +ℤ t) h (square_nonneg a) d in
    let e = ring (a ∷ (s ∷ (t ∷ []))) (var 0 ⊗ var 0 ⊗ (var 1 ⊕ var 2)) (var 1 ⊗ (var 0 ⊗ var 0) ⊕ var 2 ⊗ (var 0 ⊗ var 0)) tt in
    let g = ring (a ∷ (h ∷ (c ∷ (f ∷ [])))) (var 0 ⊗ (var 0 ⊗ var 1 ⊕ var 2) ⊕ (var 0 ⊗ var 2 ⊕ var 3)) (var 0 ⊗ var 0 ⊗ var 1 ⊕ num (pos 2) ⊗ (var 0 ⊗ var 2) ⊕ var 3) tt in
    omega (arith, ints)

-- ---- each row's diagonal entry is at least s_i and the sizes of the rest of the row
abbrev pub Outweighs : List ℤ → List (List ℤ) → Type 0
Outweighs s p = (i : ℕ) → (place s i +ℤ rest i (row p i)) ≤ℤ entry p i i

abbrev pub Mirrored : List (List ℤ) → Type 0
Mirrored p = (i j : ℕ) → entry p i j ≡ entry p j i

-- row i of the smaller matrix, on numbers: its slack grows by what the row loses
smaller_row : (s h r d si : ℤ) → (s +ℤ (h +ℤ r)) ≤ℤ d → si ≡ s +ℤ h → (si +ℤ r) ≤ℤ d
smaller_row s h r d si a b = omega (arith, ints)

outweighs_smaller : (s : List ℤ) (r : List ℤ) (p : List (List ℤ)) → ((i : ℕ) → place (heads p) i ≡ place (tail_of r) i) → Outweighs s (r ∷ p) → Outweighs (add (tail_of s) (sizes (tail_of r))) (tails p)
outweighs_smaller s r p e h i =
    let column : place (tail_of r) i ≡ place (row p i) 0 = sym (e i) ∙ place-heads p i in
    let slack : place (add (tail_of s) (sizes (tail_of r))) i ≡ place s (suc i) +ℤ pos (unsigned_abs (place (row p i) 0)) =
    place-add (tail_of s) (sizes (tail_of r)) i ∙ ap (λ (z : ℤ). z +ℤ place (sizes (tail_of r)) i) (place-tail_of s i)
    ∙ ap (λ (z : ℤ). place s (suc i) +ℤ z) (place-sizes (tail_of r) i ∙ ap (λ (z : ℤ). pos (unsigned_abs z)) column) in
    let k : (place s (suc i) +ℤ (pos (unsigned_abs (place (row p i) 0)) +ℤ rest i (tail_of (row p i)))) ≤ℤ place (row p i) (suc i) =
    subst (λ (z : ℤ). (place s (suc i) +ℤ z) ≤ℤ place (row p i) (suc i)) (rest-tail_of i (row p i)) (h (suc i)) in
    subst (λ (z : ℤ). (place (add (tail_of s) (sizes (tail_of r))) i +ℤ rest i (row (tails p) i)) ≤ℤ z) (sym (entry-tails p i i))
    (subst (λ (z : List ℤ). (place (add (tail_of s) (sizes (tail_of r))) i +ℤ rest i z) ≤ℤ place (row p i) (suc i)) (sym (row-tails p i))
    (smaller_row (place s (suc i)) (pos (unsigned_abs (place (row p i) 0))) (rest i (tail_of (row p i))) (place (row p i) (suc i)) (place (add (tail_of s) (sizes (tail_of r))) i) k slack))

mirrored_column : (r : List ℤ) (p : List (List ℤ)) → Mirrored (r ∷ p) → (i : ℕ) → place (heads p) i ≡ place (tail_of r) i
mirrored_column r p m i = place-heads p i ∙ m (suc i) 0 ∙ sym (place-tail_of r i)

mirrored_smaller : (r : List ℤ) (p : List (List ℤ)) → Mirrored (r ∷ p) → Mirrored (tails p)
mirrored_smaller r p m i j = entry-tails p i j ∙ m (suc i) (suc j) ∙ sym (entry-tails p j i)

first_row : (s : List ℤ) (r : List ℤ) → (place s 0 +ℤ rest 0 r) ≤ℤ place r 0 → (head_of s +ℤ total (sizes (tail_of r))) ≤ℤ head_of r
first_row s r h = omega (arith, ints, place-head_of s, place-head_of r, rest_first r)

pub outweighs_low : (s : List ℤ) (p : List (List ℤ)) (x : List ℤ) → Mirrored p → Outweighs s p → weighted s x ≤ℤ form p x
outweighs_low s p [] m h = rw weighted_nil (omega (arith, ints))
outweighs_low s [] (a ∷ x) m h = weighted_low s (a ∷ x) (λ i. none (place s i) (rest i []) (rest_none i) (h i))
  where
    none : (s r : ℤ) → r ≡ pos 0 → (s +ℤ r) ≤ℤ pos 0 → s ≤ℤ pos 0
    none s r e k = omega (arith, ints)

    rest_none : (i : ℕ) → rest i [] ≡ pos 0
    rest_none zero = refl
    rest_none (suc i) = refl
outweighs_low s (r ∷ p) (a ∷ x) m h =
    let column = mirrored_column r p m in
    let i : weighted (add (tail_of s) (sizes (tail_of r))) x ≤ℤ form (tails p) x =
    outweighs_low (add (tail_of s) (sizes (tail_of r))) (tails p) x (mirrored_smaller r p m) (outweighs_smaller s r p column h) in
    let j : (weighted (tail_of s) x +ℤ weighted (sizes (tail_of r)) x) ≤ℤ form (tails p) x = rw weighted_add at i in
    subst (λ (z : ℤ). z ≤ℤ form (r ∷ p) (a ∷ x)) (sym (weighted_cons s a x))
    (subst (λ (z : ℤ). (head_of s *ℤ (a *ℤ a) +ℤ weighted (tail_of s) x) ≤ℤ z) (sym (form_cons r p a x column))
    (last_step (head_of s) (head_of r) (total (sizes (tail_of r))) (dot (tail_of r) x) (form (tails p) x) (weighted (tail_of s) x) (weighted (sizes (tail_of r)) x) a
    (first_row s r (h 0)) j (row_pairs (tail_of r) a x)))
