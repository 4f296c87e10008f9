-- The forms of the matrices that a certificate shows: sizes, symmetry, and what they say at a vector.
use Rattle.std.proofs.Common.{◌≡◌, ◌<◌, ◌≤◌, ◌-◌, ℕ, zero, suc, List, [], ◌∷◌, length, refl, sym, ap, subst, ◌∙◌, arith, ℤ, pos, negsuc, ◌+ℤ◌, ◌*ℤ◌, ◌≤ℤ◌}
use Rattle.std.proofs.lemmas.Int.{ints, by_lt_z}
use Rattle.std.proofs.lemmas.List.{get_or_past}
use lib.IntN.{*ℤ_comm, *ℤ-zero, zero-*ℤ}
use Rattle.dp_form.proofs.Ring.{var, num, ◌⊕◌, ◌⊗◌, minus, ring}
use Rattle.dp_form.specs.Vectors.{dot, add, scale, apply, matrix_add, outer, row, entry}
use Rattle.dp_form.specs.Form.{bilinear, form, HasSize, IsSymmetric, IsNonNegative}
use Rattle.dp_form.proofs.Bilinear.{dot_comm, dot_nil, dot_add, dot_add_right, dot_scale, dot_scale_right, bilinear_matrix_add, bilinear_outer}
use Rattle.dp_form.proofs.Entries.{place, row-matrix_add}
use Rattle.dp_form.proofs.Sizes.{length-scale}
use Rattle.dp_form.proofs.Shown.{has_size}
use Rattle.dp_cert.specs.Matrices.{matrix_scale, row_times, matrix_times, transposed_times, contraction_matrix, output_matrix}

-- ---- what the matrices make of vectors
apply_matrix_scale : (k : ℤ) (p : List (List ℤ)) (x : List ℤ) → apply (matrix_scale k p) x ≡ scale k (apply p x)
apply_matrix_scale k [] x = refl
apply_matrix_scale k (r ∷ p) x = let e = dot_scale k r x in let f = apply_matrix_scale k p x in cc

pub bilinear_matrix_scale : (k : ℤ) (p : List (List ℤ)) (x y : List ℤ) → bilinear (matrix_scale k p) x y ≡ k *ℤ bilinear p x y
bilinear_matrix_scale k p x y = ap (dot x) (apply_matrix_scale k p y) ∙ dot_scale_right k x (apply p y)

dot_row_times : (r : List ℤ) (q : List (List ℤ)) (x : List ℤ) → dot (row_times r q) x ≡ dot r (apply q x)
dot_row_times [] q x = refl
dot_row_times (a ∷ r) [] x = refl
dot_row_times (a ∷ r) (s ∷ q) x =
    dot_add (scale a s) (row_times r q) x ∙ ap (λ (z : ℤ). z +ℤ dot (row_times r q) x) (dot_scale a s x) ∙ ap (λ (z : ℤ). a *ℤ dot s x +ℤ z) (dot_row_times r q x)

apply_matrix_times : (p q : List (List ℤ)) (x : List ℤ) → apply (matrix_times p q) x ≡ apply p (apply q x)
apply_matrix_times [] q x = refl
apply_matrix_times (r ∷ p) q x = let e = dot_row_times r q x in let f = apply_matrix_times p q x in cc

bilinear_transposed : (a m : List (List ℤ)) (x y : List ℤ) → bilinear (transposed_times a m) x y ≡ dot (apply a x) (apply m y)
bilinear_transposed [] m x y = dot_nil x
bilinear_transposed (r ∷ a) [] x y = dot_nil x
bilinear_transposed (r ∷ a) (s ∷ m) x y =
    bilinear_matrix_add (outer r s) (transposed_times a m) x y ∙ ap (λ (z : ℤ). z +ℤ bilinear (transposed_times a m) x y) (bilinear_outer r s x y)
    ∙ ap (λ (z : ℤ). dot r x *ℤ dot s y +ℤ z) (bilinear_transposed a m x y)

pub bilinear_pulled : (p a : List (List ℤ)) (x y : List ℤ) → bilinear (transposed_times a (matrix_times p a)) x y ≡ bilinear p (apply a x) (apply a y)
bilinear_pulled p a x y = bilinear_transposed a (matrix_times p a) x y ∙ ap (dot (apply a x)) (apply_matrix_times p a y)

pub bilinear_contraction : (rate : ℤ) (p a : List (List ℤ)) (x y : List ℤ) → bilinear (contraction_matrix rate p a) x y ≡ rate *ℤ rate *ℤ bilinear p x y +ℤ negsuc 0 *ℤ bilinear p (apply a x) (apply a y)
bilinear_contraction rate p a x y =
    bilinear_matrix_add (matrix_scale (rate *ℤ rate) p) (matrix_scale (negsuc 0) (transposed_times a (matrix_times p a))) x y
    ∙ ap (λ (z : ℤ). z +ℤ bilinear (matrix_scale (negsuc 0) (transposed_times a (matrix_times p a))) x y) (bilinear_matrix_scale (rate *ℤ rate) p x y)
    ∙ ap (λ (z : ℤ). rate *ℤ rate *ℤ bilinear p x y +ℤ z) (bilinear_matrix_scale (negsuc 0) (transposed_times a (matrix_times p a)) x y ∙ ap (λ (z : ℤ). negsuc 0 *ℤ z) (bilinear_pulled p a x y))

pub bilinear_output : (k : ℤ) (p : List (List ℤ)) (g x y : List ℤ) → bilinear (output_matrix k p g) x y ≡ k *ℤ k *ℤ bilinear p x y +ℤ negsuc 0 *ℤ dot g x *ℤ dot g y
bilinear_output k p g x y =
    bilinear_matrix_add (matrix_scale (k *ℤ k) p) (outer (scale (negsuc 0) g) g) x y
    ∙ ap (λ (z : ℤ). z +ℤ bilinear (outer (scale (negsuc 0) g) g) x y) (bilinear_matrix_scale (k *ℤ k) p x y)
    ∙ ap (λ (z : ℤ). k *ℤ k *ℤ bilinear p x y +ℤ z) (bilinear_outer (scale (negsuc 0) g) g x y ∙ ap (λ (z : ℤ). z *ℤ dot g y) (dot_scale (negsuc 0) g x))

-- ---- what the conditions say at a vector
pub shrinks : (p a : List (List ℤ)) (rate : ℤ) → IsNonNegative (contraction_matrix rate p a) → (x : List ℤ) → form p (apply a x) ≤ℤ (rate *ℤ rate *ℤ form p x)
shrinks p a rate h x = let e = bilinear_contraction rate p a x x in let i = h x in omega (arith, ints)

pub output_below : (p : List (List ℤ)) (k : ℤ) (g : List ℤ) → IsNonNegative (output_matrix k p g) → (x : List ℤ) → (dot g x *ℤ dot g x) ≤ℤ (k *ℤ k *ℤ form p x)
output_below p k g h x =
    let e = bilinear_output k p g x x in let i = h x in
    let q = (ring (dot g x ∷ []) (num (negsuc 0) ⊗ var 0 ⊗ var 0) (minus (var 0 ⊗ var 0)) tt) in
    omega (arith, ints)

-- 1 at i, after zeros
abbrev pub one_at : ℕ → List ℤ
one_at zero = pos 1 ∷ []
one_at (suc i) = pos 0 ∷ one_at i

-- ---- symmetry: of a matrix whose bilinear form is symmetric, by unit vectors
pub dot_one_at : (i : ℕ) (z : List ℤ) → dot (one_at i) z ≡ place z i
dot_one_at zero [] = refl
dot_one_at zero (a ∷ z) = first a z
  where
    first : (a : ℤ) (z : List ℤ) → pos 1 *ℤ a +ℤ pos 0 ≡ a
    first a z = omega (arith, ints)
dot_one_at (suc i) [] = refl
dot_one_at (suc i) (a ∷ z) = ap (λ (x : ℤ). pos 0 *ℤ a +ℤ x) (dot_one_at i z) ∙ later a (place z i)
  where
    later : (a x : ℤ) → pos 0 *ℤ a +ℤ x ≡ x
    later a x = omega (arith, ints, zero-*ℤ a)

pub place_apply : (p : List (List ℤ)) (y : List ℤ) (i : ℕ) → place (apply p y) i ≡ dot (row p i) y
place_apply [] y i = refl
place_apply (r ∷ p) y zero = refl
place_apply (r ∷ p) y (suc i) = place_apply p y i

pub entry_bilinear : (p : List (List ℤ)) (i j : ℕ) → entry p i j ≡ bilinear p (one_at i) (one_at j)
entry_bilinear p i j = sym (dot_one_at i (apply p (one_at j)) ∙ place_apply p (one_at j) i ∙ dot_comm (row p i) (one_at j) ∙ dot_one_at j (row p i))

-- the bilinear form is the same with its vectors exchanged
abbrev pub Exchanges : List (List ℤ) → Type 0
Exchanges p = (x y : List ℤ) → bilinear p x y ≡ bilinear p y x

pub exchanges_symmetric : (n : ℕ) (p : List (List ℤ)) → Exchanges p → IsSymmetric n p
exchanges_symmetric n p h i j a b = entry_bilinear p i j ∙ h (one_at i) (one_at j) ∙ sym (entry_bilinear p j i)

contraction_exchanges : (rate : ℤ) (p a : List (List ℤ)) → Exchanges p → Exchanges (contraction_matrix rate p a)
contraction_exchanges rate p a h x y =
    bilinear_contraction rate p a x y ∙ ap (λ (z : ℤ). rate *ℤ rate *ℤ z +ℤ negsuc 0 *ℤ bilinear p (apply a x) (apply a y)) (h x y)
    ∙ ap (λ (z : ℤ). rate *ℤ rate *ℤ bilinear p y x +ℤ negsuc 0 *ℤ z) (h (apply a x) (apply a y)) ∙ sym (bilinear_contraction rate p a y x)

output_exchanges : (k : ℤ) (p : List (List ℤ)) (g : List ℤ) → Exchanges p → Exchanges (output_matrix k p g)
output_exchanges k p g h x y =
    bilinear_output k p g x y ∙ ap (λ (z : ℤ). k *ℤ k *ℤ z +ℤ negsuc 0 *ℤ dot g x *ℤ dot g y) (h x y)
    ∙ (ring (k ∷ (bilinear p y x ∷ (dot g x ∷ (dot g y ∷ [])))) (var 0 ⊗ var 0 ⊗ var 1 ⊕ num (negsuc 0) ⊗ var 2 ⊗ var 3) (var 0 ⊗ var 0 ⊗ var 1 ⊕ num (negsuc 0) ⊗ var 3 ⊗ var 2) tt)
    ∙ sym (bilinear_output k p g y x)

-- a symmetric matrix' form exchanges: first row and column taken off
abbrev head_of : List ℤ → ℤ
head_of [] = pos 0
head_of (a ∷ r) = a

abbrev tail_of : List ℤ → List ℤ
tail_of [] = []
tail_of (a ∷ r) = r

abbrev heads : List (List ℤ) → List ℤ
heads [] = []
heads (r ∷ p) = head_of r ∷ heads p

abbrev tails : List (List ℤ) → List (List ℤ)
tails [] = []
tails (r ∷ p) = tail_of r ∷ tails p

-- p_ij is p_ji, for all i and j
abbrev pub Mirrored : List (List ℤ) → Type 0
Mirrored p = (i j : ℕ) → entry p i j ≡ entry p j i

place_head : (r : List ℤ) → place r 0 ≡ head_of r
place_head [] = refl
place_head (a ∷ r) = refl

place_tail : (r : List ℤ) (i : ℕ) → place (tail_of r) i ≡ place r (suc i)
place_tail [] i = refl
place_tail (a ∷ r) i = refl

place_heads : (p : List (List ℤ)) (i : ℕ) → place (heads p) i ≡ place (row p i) 0
place_heads [] i = refl
place_heads (r ∷ p) zero = sym (place_head r)
place_heads (r ∷ p) (suc i) = place_heads p i

row_tails : (p : List (List ℤ)) (i : ℕ) → row (tails p) i ≡ tail_of (row p i)
row_tails [] i = refl
row_tails (r ∷ p) zero = refl
row_tails (r ∷ p) (suc i) = row_tails p i

entry_tails : (p : List (List ℤ)) (i j : ℕ) → entry (tails p) i j ≡ place (row p i) (suc j)
entry_tails p i j = ap (λ (r : List ℤ). place r j) (row_tails p i) ∙ place_tail (row p i) j

head_tail : (r : List ℤ) (a : ℤ) (x : List ℤ) → dot r (a ∷ x) ≡ a *ℤ head_of r +ℤ dot (tail_of r) x
head_tail [] a x = omega (arith, ints, *ℤ-zero a)
head_tail (b ∷ r) a x = ap (λ (z : ℤ). z +ℤ dot r x) (*ℤ_comm b a)

apply_column : (p : List (List ℤ)) (a : ℤ) (x : List ℤ) → apply p (a ∷ x) ≡ add (scale a (heads p)) (apply (tails p) x)
apply_column [] a x = refl
apply_column (r ∷ p) a x = let e = head_tail r a x in let f = apply_column p a x in cc

dot_zero : (x z : List ℤ) → ((i : ℕ) → place x i ≡ pos 0) → dot x z ≡ pos 0
dot_zero [] z h = refl
dot_zero (a ∷ x) [] h = refl
dot_zero (a ∷ x) (c ∷ z) h = ap (λ (u : ℤ). u *ℤ c +ℤ dot x z) (h 0) ∙ omega (arith, ints, zero-*ℤ c, dot_zero x z (λ i. h (suc i)))

pub dot_same : (x y z : List ℤ) → ((i : ℕ) → place x i ≡ place y i) → dot x z ≡ dot y z
dot_same [] y z h = sym (dot_zero y z (λ i. sym (h i)))
dot_same (a ∷ x) [] z h = dot_zero (a ∷ x) z h
dot_same (a ∷ x) (b ∷ y) [] h = refl
dot_same (a ∷ x) (b ∷ y) (c ∷ z) h = ap (λ (u : ℤ). u *ℤ c +ℤ dot x z) (h 0) ∙ ap (λ (u : ℤ). b *ℤ c +ℤ u) (dot_same x y z (λ i. h (suc i)))

bilinear_cons : (r : List ℤ) (p : List (List ℤ)) (a b : ℤ) (x y : List ℤ) → ((i : ℕ) → place (heads p) i ≡ place (tail_of r) i) →
    bilinear (r ∷ p) (a ∷ x) (b ∷ y) ≡ a *ℤ (b *ℤ head_of r +ℤ dot (tail_of r) y) +ℤ (b *ℤ dot (tail_of r) x +ℤ bilinear (tails p) x y)
bilinear_cons r p a b x y e =
    ap (λ (z : ℤ). a *ℤ z +ℤ dot x (apply p (b ∷ y))) (head_tail r b y)
    ∙ ap (λ (z : ℤ). a *ℤ (b *ℤ head_of r +ℤ dot (tail_of r) y) +ℤ z)
    (ap (dot x) (apply_column p b y) ∙ dot_add_right x (scale b (heads p)) (apply (tails p) y)
    ∙ ap (λ (z : ℤ). z +ℤ bilinear (tails p) x y) (dot_scale_right b x (heads p) ∙ ap (λ (z : ℤ). b *ℤ z) (dot_comm x (heads p) ∙ dot_same (heads p) (tail_of r) x e)))

bilinear_nil : (p : List (List ℤ)) (x : List ℤ) → bilinear p x [] ≡ pos 0
bilinear_nil [] x = dot_nil x
bilinear_nil (r ∷ p) [] = refl
bilinear_nil (r ∷ p) (a ∷ x) = ap (λ (z : ℤ). a *ℤ z +ℤ dot x (apply p [])) (dot_nil r) ∙ omega (arith, ints, *ℤ-zero a, bilinear_nil p x)

mirrored_heads : (r : List ℤ) (p : List (List ℤ)) → Mirrored (r ∷ p) → (i : ℕ) → place (heads p) i ≡ place (tail_of r) i
mirrored_heads r p m i = place_heads p i ∙ m (suc i) 0 ∙ sym (place_tail r i)

mirrored_tails : (r : List ℤ) (p : List (List ℤ)) → Mirrored (r ∷ p) → Mirrored (tails p)
mirrored_tails r p m i j = entry_tails p i j ∙ m (suc i) (suc j) ∙ sym (entry_tails p j i)

pub mirrored_exchanges : (p : List (List ℤ)) → Mirrored p → Exchanges p
mirrored_exchanges p m [] y = sym (bilinear_nil p y)
mirrored_exchanges p m (a ∷ x) [] = bilinear_nil p (a ∷ x)
mirrored_exchanges [] m (a ∷ x) (b ∷ y) = refl
mirrored_exchanges (r ∷ p) m (a ∷ x) (b ∷ y) =
    let e = mirrored_heads r p m in
    bilinear_cons r p a b x y e
    ∙ ap (λ (z : ℤ). a *ℤ (b *ℤ head_of r +ℤ dot (tail_of r) y) +ℤ (b *ℤ dot (tail_of r) x +ℤ z)) (mirrored_exchanges (tails p) (mirrored_tails r p m) x y)
    ∙ (ring (a ∷ (b ∷ (head_of r ∷ (dot (tail_of r) x ∷ (dot (tail_of r) y ∷ (bilinear (tails p) y x ∷ [])))))) (var 0 ⊗ (var 1 ⊗ var 2 ⊕ var 4) ⊕ (var 1 ⊗ var 3 ⊕ var 5)) (var 1 ⊗ (var 0 ⊗ var 2 ⊕ var 3) ⊕ (var 0 ⊗ var 4 ⊕ var 5)) tt)
    ∙ sym (bilinear_cons r p b a y x e)

-- past the last row and column there are zeros
by_lt : {P : Type 0} (a b : ℕ) → (a < b → P) → (b ≤ a → P) → P
by_lt a b f g = by_lt_z (pos a) (pos b) (λ l. f (omega (arith, ints))) (λ l. g (omega (arith, ints)))

row_past : (n : ℕ) (p : List (List ℤ)) (i : ℕ) → length p ≡ n → n ≤ i → row p i ≡ []
row_past n p i h k = get_or_past p i [] (omega arith)

entry_below : (n : ℕ) (p : List (List ℤ)) (i j : ℕ) → length p ≡ n → n ≤ i → entry p i j ≡ pos 0
entry_below n p i j h k = ap (λ (r : List ℤ). place r j) (row_past n p i h k)

entry_right : (n : ℕ) (p : List (List ℤ)) (i j : ℕ) → HasSize n p → n ≤ j → entry p i j ≡ pos 0
entry_right n p i j h k = by_lt i n
    (λ l. get_or_past (row p i) j (pos 0) (omega (arith, h.columns i [] (omega (arith, h.rows)))))
    (λ l. entry_below n p i j h.rows l)

pub symmetric_mirrored : (n : ℕ) (p : List (List ℤ)) → HasSize n p → IsSymmetric n p → Mirrored p
symmetric_mirrored n p h s i j = by_lt i n
    (λ a. by_lt j n (λ b. s i j a b) (λ b. entry_right n p i j h b ∙ sym (entry_below n p j i h.rows b)))
    (λ a. entry_below n p i j h.rows a ∙ sym (entry_right n p j i h a))

-- ---- sizes
-- no more than n rows, each of no more than n entries
pub record FitsIn (n : ℕ) (p : List (List ℤ)) : Type 0 where
  pub rows : length p ≤ n
  pub columns : (i : ℕ) → length (row p i) ≤ n

length_add_within : (n : ℕ) (x y : List ℤ) → length x ≤ n → length y ≤ n → length (add x y) ≤ n
length_add_within n [] y a b = b
length_add_within n (a ∷ x) [] h k = h
length_add_within n (a ∷ x) (b ∷ y) h k = omega (arith, length_add_within (n - 1) x y (omega arith) (omega arith))

length_add_full : (n : ℕ) (x y : List ℤ) → length x ≡ n → length y ≤ n → length (add x y) ≡ n
length_add_full n [] [] a b = a
length_add_full n [] (b ∷ y) h k = absurd (omega arith)
length_add_full n (a ∷ x) [] h k = h
length_add_full n (a ∷ x) (b ∷ y) h k = ap suc (length_add_full (length x) x y refl (omega arith)) ∙ h

length_rows_full : (n : ℕ) (p q : List (List ℤ)) → length p ≡ n → length q ≤ n → length (matrix_add p q) ≡ n
length_rows_full n [] [] a b = a
length_rows_full n [] (s ∷ q) h k = absurd (omega arith)
length_rows_full n (r ∷ p) [] h k = h
length_rows_full n (r ∷ p) (s ∷ q) h k = ap suc (length_rows_full (length p) p q refl (omega arith)) ∙ h

length_rows_within : (n : ℕ) (p q : List (List ℤ)) → length p ≤ n → length q ≤ n → length (matrix_add p q) ≤ n
length_rows_within n [] q a b = b
length_rows_within n (r ∷ p) [] h k = h
length_rows_within n (r ∷ p) (s ∷ q) h k = omega (arith, length_rows_within (n - 1) p q (omega arith) (omega arith))

row_matrix_scale : (k : ℤ) (p : List (List ℤ)) (i : ℕ) → row (matrix_scale k p) i ≡ scale k (row p i)
row_matrix_scale k [] i = refl
row_matrix_scale k (r ∷ p) zero = refl
row_matrix_scale k (r ∷ p) (suc i) = row_matrix_scale k p i

length_matrix_scale : (k : ℤ) (p : List (List ℤ)) → length (matrix_scale k p) ≡ length p
length_matrix_scale k [] = refl
length_matrix_scale k (r ∷ p) = ap suc (length_matrix_scale k p)

length_row_scaled : (k : ℤ) (p : List (List ℤ)) (i : ℕ) → length (row (matrix_scale k p) i) ≡ length (row p i)
length_row_scaled k p i = ap length (row_matrix_scale k p i) ∙ length-scale k (row p i)

scaled_fits : (n : ℕ) (k : ℤ) (p : List (List ℤ)) → FitsIn n p → FitsIn n (matrix_scale k p)
scaled_fits n k p h = record { rows = omega (arith, length_matrix_scale k p, h.rows); columns = λ i. omega (arith, length_row_scaled k p i, h.columns i) }

sum_fits : (n : ℕ) (p q : List (List ℤ)) → FitsIn n p → FitsIn n q → FitsIn n (matrix_add p q)
sum_fits n p q h k = record {
  rows = length_rows_within n p q h.rows k.rows;
  columns = λ i. omega (arith, ap length (row-matrix_add p q i), length_add_within n (row p i) (row q i) (h.columns i) (k.columns i));
}

length_outer : (x y : List ℤ) → length (outer x y) ≡ length x
length_outer [] y = refl
length_outer (a ∷ x) y = ap suc (length_outer x y)

length_row_outer : (x y : List ℤ) (i : ℕ) → length (row (outer x y) i) ≤ length y
length_row_outer [] y i = omega arith
length_row_outer (a ∷ x) y zero = omega (arith, length-scale a y)
length_row_outer (a ∷ x) y (suc i) = length_row_outer x y i

outer_fits : (n : ℕ) (x y : List ℤ) → length x ≤ n → length y ≤ n → FitsIn n (outer x y)
outer_fits n x y h k = record { rows = omega (arith, length_outer x y); columns = λ i. omega (arith, length_row_outer x y i) }

-- the rest of a matrix that fits
rest_fits : (n : ℕ) (r : List ℤ) (p : List (List ℤ)) → FitsIn n (r ∷ p) → FitsIn n p
rest_fits n r p h = record { rows = omega (arith, h.rows); columns = λ i. h.columns (suc i) }

length_row_times : (n : ℕ) (r : List ℤ) (q : List (List ℤ)) → FitsIn n q → length (row_times r q) ≤ n
length_row_times n [] q h = omega arith
length_row_times n (a ∷ r) [] h = omega arith
length_row_times n (a ∷ r) (s ∷ q) h = length_add_within n (scale a s) (row_times r q) (omega (arith, length-scale a s, h.columns 0)) (length_row_times n r q (rest_fits n s q h))

length_matrix_times : (p q : List (List ℤ)) → length (matrix_times p q) ≡ length p
length_matrix_times [] q = refl
length_matrix_times (r ∷ p) q = ap suc (length_matrix_times p q)

length_row_product : (n : ℕ) (p q : List (List ℤ)) → FitsIn n q → (i : ℕ) → length (row (matrix_times p q) i) ≤ n
length_row_product n [] q h i = omega arith
length_row_product n (r ∷ p) q h zero = length_row_times n r q h
length_row_product n (r ∷ p) q h (suc i) = length_row_product n p q h i

product_fits : (n : ℕ) (p q : List (List ℤ)) → length p ≤ n → FitsIn n q → FitsIn n (matrix_times p q)
product_fits n p q l h = record { rows = omega (arith, length_matrix_times p q); columns = length_row_product n p q h }

empty_fits : (n : ℕ) → FitsIn n []
empty_fits n = record { rows = omega arith; columns = λ i. omega arith }

transposed_fits : (n : ℕ) (a m : List (List ℤ)) → FitsIn n a → FitsIn n m → FitsIn n (transposed_times a m)
transposed_fits n [] m h k = empty_fits n
transposed_fits n (r ∷ a) [] h k = empty_fits n
transposed_fits n (r ∷ a) (s ∷ m) h k =
    sum_fits n (outer r s) (transposed_times a m) (outer_fits n r s (h.columns 0) (k.columns 0)) (transposed_fits n a m (rest_fits n r a h) (rest_fits n s m k))

-- a matrix of full size fits
pub full_fits : (n : ℕ) (p : List (List ℤ)) → HasSize n p → FitsIn n p
full_fits n p h = record {
  rows = omega (arith, h.rows);
  columns = λ i. by_lt i n
      (λ a. omega (arith, h.columns i [] (omega (arith, a, h.rows))))
      (λ b. subst (λ (r : List ℤ). length r ≤ n) (sym (row_past n p i h.rows b)) (omega arith));
}

-- a matrix of full size plus full_scale that fits
sum_full : (n : ℕ) (p q : List (List ℤ)) → HasSize n p → FitsIn n q → HasSize n (matrix_add p q)
sum_full n p q h k = has_size n (matrix_add p q) (length_rows_full n p q h.rows k.rows)
    (λ i l. ap length (row-matrix_add p q i) ∙ length_add_full n (row p i) (row q i) (h.columns i [] (omega (arith, h.rows))) (k.columns i))

scaled_full : (n : ℕ) (k : ℤ) (p : List (List ℤ)) → HasSize n p → HasSize n (matrix_scale k p)
scaled_full n k p h = has_size n (matrix_scale k p) (length_matrix_scale k p ∙ h.rows) (λ i l. length_row_scaled k p i ∙ h.columns i [] (omega (arith, h.rows)))

pub contraction_size : (n : ℕ) (rate : ℤ) (p a : List (List ℤ)) → HasSize n p → FitsIn n a → HasSize n (contraction_matrix rate p a)
contraction_size n rate p a h k =
    sum_full n (matrix_scale (rate *ℤ rate) p) (matrix_scale (negsuc 0) (transposed_times a (matrix_times p a))) (scaled_full n (rate *ℤ rate) p h)
    (scaled_fits n (negsuc 0) (transposed_times a (matrix_times p a)) (transposed_fits n a (matrix_times p a) k (product_fits n p a (omega (arith, h.rows)) k)))

pub output_size : (n : ℕ) (k : ℤ) (p : List (List ℤ)) (g : List ℤ) → HasSize n p → length g ≤ n → HasSize n (output_matrix k p g)
output_size n k p g h l =
    sum_full n (matrix_scale (k *ℤ k) p) (outer (scale (negsuc 0) g) g) (scaled_full n (k *ℤ k) p h)
    (outer_fits n (scale (negsuc 0) g) g (omega (arith, length-scale (negsuc 0) g)) l)

-- ---- symmetric where P is
pub contraction_symmetric : (n : ℕ) (rate : ℤ) (p a : List (List ℤ)) → HasSize n p → IsSymmetric n p → IsSymmetric n (contraction_matrix rate p a)
contraction_symmetric n rate p a h s = exchanges_symmetric n (contraction_matrix rate p a) (contraction_exchanges rate p a (mirrored_exchanges p (symmetric_mirrored n p h s)))

pub output_symmetric : (n : ℕ) (k : ℤ) (p : List (List ℤ)) (g : List ℤ) → HasSize n p → IsSymmetric n p → IsSymmetric n (output_matrix k p g)
output_symmetric n k p g h s = exchanges_symmetric n (output_matrix k p g) (output_exchanges k p g (mirrored_exchanges p (symmetric_mirrored n p h s)))
