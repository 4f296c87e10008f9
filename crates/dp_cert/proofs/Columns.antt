-- The entries of the matrices that a certificate shows, as code works them out, and matrices with the same entries.
use Rattle.std.proofs.Common.{◌≡◌, ◌<◌, ℕ, suc, List, [], ◌∷◌, length, refl, sym, ap, ◌∙◌, arith, ℤ, negsuc, ◌+ℤ◌, ◌-ℤ◌, ◌*ℤ◌}
use Rattle.std.proofs.lemmas.Int.{ints}
use Rattle.dp_form.proofs.Ring.{var, num, ◌⊕◌, ◌⊗◌, minus, ring}
use Rattle.dp_form.specs.Vectors.{dot, apply, row, entry}
use Rattle.dp_form.specs.Form.{bilinear, HasSize}
use Rattle.dp_form.proofs.Bilinear.{dot_comm}
use Rattle.dp_form.proofs.Entries.{place}
use Rattle.dp_cert.specs.Matrices.{column, contraction_matrix, output_matrix}
use Rattle.dp_cert.proofs.MatrixForms.{one_at, dot_one_at, entry_bilinear, bilinear_contraction, bilinear_output}

apply_one_at : (a : List (List ℤ)) (j : ℕ) → apply a (one_at j) ≡ column a j
apply_one_at [] j = refl
apply_one_at (r ∷ a) j = let e : dot r (one_at j) ≡ place r j = dot_comm r (one_at j) ∙ dot_one_at j r in let f = apply_one_at a j in cc

pub entry_contraction : (rate : ℤ) (p a : List (List ℤ)) (i j : ℕ) → entry (contraction_matrix rate p a) i j ≡ rate *ℤ rate *ℤ entry p i j -ℤ bilinear p (column a i) (column a j)
entry_contraction rate p a i j =
    entry_bilinear (contraction_matrix rate p a) i j ∙ bilinear_contraction rate p a (one_at i) (one_at j)
    ∙ ap (λ (z : ℤ). rate *ℤ rate *ℤ z +ℤ negsuc 0 *ℤ bilinear p (apply a (one_at i)) (apply a (one_at j))) (sym (entry_bilinear p i j))
    ∙ ap (λ (z : List ℤ). rate *ℤ rate *ℤ entry p i j +ℤ negsuc 0 *ℤ bilinear p z (apply a (one_at j))) (apply_one_at a i)
    ∙ ap (λ (z : List ℤ). rate *ℤ rate *ℤ entry p i j +ℤ negsuc 0 *ℤ bilinear p (column a i) z) (apply_one_at a j)
    ∙ less (rate *ℤ rate *ℤ entry p i j) (bilinear p (column a i) (column a j))
  where
    less : (a b : ℤ) → a +ℤ negsuc 0 *ℤ b ≡ a -ℤ b
    less a b = omega (arith, ints)

pub entry_output : (k : ℤ) (p : List (List ℤ)) (g : List ℤ) (i j : ℕ) → entry (output_matrix k p g) i j ≡ k *ℤ k *ℤ entry p i j -ℤ place g i *ℤ place g j
entry_output k p g i j =
    entry_bilinear (output_matrix k p g) i j ∙ bilinear_output k p g (one_at i) (one_at j)
    ∙ ap (λ (z : ℤ). k *ℤ k *ℤ z +ℤ negsuc 0 *ℤ dot g (one_at i) *ℤ dot g (one_at j)) (sym (entry_bilinear p i j))
    ∙ ap (λ (z : ℤ). k *ℤ k *ℤ entry p i j +ℤ negsuc 0 *ℤ z *ℤ dot g (one_at j)) (dot_comm g (one_at i) ∙ dot_one_at i g)
    ∙ ap (λ (z : ℤ). k *ℤ k *ℤ entry p i j +ℤ negsuc 0 *ℤ place g i *ℤ z) (dot_comm g (one_at j) ∙ dot_one_at j g)
    ∙ less (k *ℤ k *ℤ entry p i j) (place g i) (place g j)
  where
    less : (a x y : ℤ) → a +ℤ negsuc 0 *ℤ x *ℤ y ≡ a -ℤ x *ℤ y
    less a x y = (ring (a ∷ (x ∷ (y ∷ []))) (var 0 ⊕ num (negsuc 0) ⊗ var 1 ⊗ var 2) (var 0 ⊕ minus (var 1 ⊗ var 2)) tt)

-- two vectors, and two matrices, of full_scale size with the same entries
pub same_vector : (x y : List ℤ) → length x ≡ length y → ((j : ℕ) → j < length x → place x j ≡ place y j) → x ≡ y
same_vector [] [] l h = refl
same_vector [] (b ∷ y) l h = absurd (omega arith)
same_vector (a ∷ x) [] l h = absurd (omega arith)
same_vector (a ∷ x) (b ∷ y) l h = let e : a ≡ b = h 0 (omega arith) in let f = same_vector x y (omega arith) (λ j k. h (suc j) (omega (arith, k))) in cc

same_rows : (n : ℕ) (p q : List (List ℤ)) → length p ≡ length q → ((i : ℕ) → i < length p → length (row p i) ≡ n) → ((i : ℕ) → i < length p → length (row q i) ≡ n) →
    ((i j : ℕ) → i < length p → j < n → entry p i j ≡ entry q i j) → p ≡ q
same_rows n [] [] l a b h = refl
same_rows n [] (s ∷ q) l a b h = absurd (omega arith)
same_rows n (r ∷ p) [] l a b h = absurd (omega arith)
same_rows n (r ∷ p) (s ∷ q) l a b h =
    let ra : length r ≡ n = a 0 (omega arith) in
    let e : r ≡ s = same_vector r s (ra ∙ sym (b 0 (omega arith))) (λ j k. h 0 j (omega arith) (omega (arith, k, ra))) in
    let f : p ≡ q = same_rows n p q (omega arith) (λ i k. a (suc i) (omega (arith, k))) (λ i k. b (suc i) (omega (arith, k))) (λ i j k m. h (suc i) j (omega (arith, k)) m) in
    cc

pub same_matrix : (n : ℕ) (p q : List (List ℤ)) → HasSize n p → HasSize n q → ((i j : ℕ) → i < n → j < n → entry p i j ≡ entry q i j) → p ≡ q
same_matrix n p q a b h =
    same_rows n p q (a.rows ∙ sym b.rows) (λ i k. a.columns i [] k) (λ i k. b.columns i [] (omega (arith, k, a.rows, b.rows))) (λ i j k m. h i j (omega (arith, k, a.rows)) m)
