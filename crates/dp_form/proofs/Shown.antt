-- What squares show is at least 0.
use Rattle.std.proofs.Common.{◌≡◌, ◌<◌, ◌≤◌, ℕ, List, [], ◌∷◌, length, sym, ap, subst, ◌∙◌, arith, ℤ, pos, neg_ℤ, ◌+ℤ◌, ◌-ℤ◌, ◌*ℤ◌, ◌≤ℤ◌}
use Rattle.std.proofs.lemmas.Int.{ints, by_lt_z}
use Rattle.std.proofs.lemmas.List.{get_or_past, get_or_default}
use Rattle.std.proofs.lemmas.List.Elements.{All-head, All-tail}
use Rattle.std.specs.Prelude.{All}
use Rattle.dp_form.specs.Vectors.{dot, scale, matrix_add, outer, row, entry}
use Rattle.dp_form.specs.Form.{form, HasSize, IsSymmetric, IsNonNegative}
use Rattle.dp_form.specs.Residual.{residual}
use Rattle.dp_form.specs.Shown.{IsShown}
use Rattle.dp_form.specs.Dominance.{IsDiagonallyDominant}
use Rattle.dp_form.specs.declared.Square.{Square}
use Rattle.dp_form.proofs.Ring.{var, ◌⊕◌, ◌⊗◌, minus, ring}
use Rattle.dp_form.proofs.Order.{square_nonneg, mul_nonneg}
use Rattle.dp_form.proofs.Bilinear.{bilinear_matrix_add, bilinear_outer, dot_scale}
use Rattle.dp_form.proofs.Entries.{less, part, place, entry-less}
use Rattle.dp_form.proofs.Sizes.{length-row_residual, length-residual}
use Rattle.dp_form.proofs.Dominance.{Mirrored, Outweighs, rest-remove, rest, outweighs_low}

one_square : (p : List (List ℤ)) (d : ℤ) (l x : List ℤ) → form (matrix_add p (outer (scale (neg_ℤ d) l) l)) x +ℤ d *ℤ (dot l x *ℤ dot l x) ≡ form p x
one_square p d l x =
    ap (λ (z : ℤ). z +ℤ d *ℤ (dot l x *ℤ dot l x))
    (bilinear_matrix_add p (outer (scale (neg_ℤ d) l) l) x x ∙ ap (λ (z : ℤ). form p x +ℤ z) (bilinear_outer (scale (neg_ℤ d) l) l x x ∙ ap (λ (z : ℤ). z *ℤ dot l x) (dot_scale (neg_ℤ d) l x)))
    ∙ ring (form p x ∷ (d ∷ (dot l x ∷ []))) (var 0 ⊕ minus (var 1) ⊗ var 2 ⊗ var 2 ⊕ var 1 ⊗ (var 2 ⊗ var 2)) (var 0) tt

residual_low : {n : ℕ} (p : List (List ℤ)) (qs : List (Square n)) (x : List ℤ) → All (λ q. pos 0 ≤ℤ q.d) qs → form (residual p qs) x ≤ℤ form p x
residual_low p [] x h = omega (arith, ints)
residual_low {n} p (q ∷ qs) x h =
    let i = residual_low (less p q) qs x (All-tail (λ (z : Square n). pos 0 ≤ℤ z.d) q qs h) in
    let e = one_square p q.d q.l x in
    let s = mul_nonneg q.d (dot q.l x *ℤ dot q.l x) (All-head (λ (z : Square n). pos 0 ≤ℤ z.d) q qs h) (square_nonneg (dot q.l x)) in
    omega (arith, ints)

part_mirrored : (d a b : ℤ) → d *ℤ (a *ℤ b) ≡ d *ℤ (b *ℤ a)
part_mirrored d a b = ring (d ∷ (a ∷ (b ∷ []))) (var 0 ⊗ (var 1 ⊗ var 2)) (var 0 ⊗ (var 2 ⊗ var 1)) tt

residual_symmetric : {n : ℕ} (m : ℕ) (p : List (List ℤ)) (qs : List (Square n)) → IsSymmetric m p → IsSymmetric m (residual p qs)
residual_symmetric m p [] h = h
residual_symmetric m p (q ∷ qs) h = residual_symmetric m (less p q) qs
    (λ i j a b. entry-less p q i j ∙ ap (λ (z : ℤ). z -ℤ part q i j) (h i j a b) ∙ ap (λ (z : ℤ). entry p j i -ℤ z) (part_mirrored q.d (place q.l i) (place q.l j)) ∙ sym (entry-less p q j i))

by_lt : {P : Type 0} (a b : ℕ) → (a < b → P) → (b ≤ a → P) → P
by_lt a b f g = by_lt_z (pos a) (pos b) (λ l. f (omega (arith, ints))) (λ l. g (omega (arith, ints)))

-- past the last row and the last column there are zeros
row_past : (n : ℕ) (p : List (List ℤ)) (i : ℕ) → length p ≡ n → n ≤ i → row p i ≡ []
row_past n p i h k = get_or_past p i [] (omega arith)

entry_below : (n : ℕ) (p : List (List ℤ)) (i j : ℕ) → length p ≡ n → n ≤ i → entry p i j ≡ pos 0
entry_below n p i j h k = ap (λ (r : List ℤ). place r j) (row_past n p i h k)

entry_right : (n : ℕ) (p : List (List ℤ)) (i j : ℕ) → HasSize n p → n ≤ j → entry p i j ≡ pos 0
entry_right n p i j h k = by_lt i n
    (λ l. get_or_past (row p i) j (pos 0) (omega (arith, h.columns i [] (omega (arith, h.rows)))))
    (λ l. entry_below n p i j h.rows l)

mirrored : (n : ℕ) (p : List (List ℤ)) → HasSize n p → IsSymmetric n p → Mirrored p
mirrored n p h s i j = by_lt i n
    (λ a. by_lt j n (λ b. s i j a b) (λ b. entry_right n p i j h b ∙ sym (entry_below n p j i h.rows b)))
    (λ a. entry_below n p i j h.rows a ∙ sym (entry_right n p j i h a))

outweighs : (n : ℕ) (p : List (List ℤ)) → length p ≡ n → ((i : ℕ) → i < n → (rest i (row p i)) ≤ℤ entry p i i) → Outweighs [] p
outweighs n p h k i = by_lt i n
    (λ a. omega (arith, ints, k i a))
    (λ a. subst (λ (r : List ℤ). (pos 0 +ℤ rest i r) ≤ℤ place r i) (sym (row_past n p i h a)) (empty i))
  where
    empty : (i : ℕ) → (pos 0 +ℤ rest i []) ≤ℤ pos 0
    empty i = omega (arith, ints, rest-remove i [])

-- a matrix of n rows, where each has n entries
pub has_size : (n : ℕ) (p : List (List ℤ)) → length p ≡ n → ((k : ℕ) → k < n → length (row p k) ≡ n) → HasSize n p
has_size n p h w = record { rows = h; columns = λ k d l. ap length (get_or_default p k d [] l) ∙ w k (omega arith) }

residual_size : {n : ℕ} (p : List (List ℤ)) (qs : List (Square n)) → HasSize n p → All (λ q. length q.l ≡ n) qs → HasSize n (residual p qs)
residual_size {n} p qs h l = has_size n (residual p qs) (length-residual p qs h.rows l)
    (λ k k_in. length-row_residual p qs k k_in (h.columns k [] (omega (arith, h.rows))) l)

pub dominant_nonneg : (n : ℕ) (p : List (List ℤ)) → HasSize n p → IsSymmetric n p → IsDiagonallyDominant n p → IsNonNegative p
dominant_nonneg n p h s k x = outweighs_low [] p x (mirrored n p h s) (outweighs n p h.rows (λ i a. omega (arith, ints, k i a, rest-remove i (row p i))))

pub shown_nonneg : {n : ℕ} (p : List (List ℤ)) (qs : List (Square n)) → HasSize n p → All (λ q. length q.l ≡ n) qs → All (λ q. pos 0 ≤ℤ q.d) qs → IsSymmetric n p → IsShown p qs → IsNonNegative p
shown_nonneg {n} p qs h l w s k x =
    let low = dominant_nonneg n (residual p qs) (residual_size p qs h l) (residual_symmetric n p qs s) k x in
    let more = residual_low p qs x w in
    omega (arith, ints)
