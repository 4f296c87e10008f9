-- The sizes of sums, outer products and residuals.
use Rattle.std.proofs.Common.{◌≡◌, ◌<◌, ℕ, zero, suc, List, [], ◌∷◌, length, refl, ap, ◌∙◌, arith, ℤ, neg_ℤ}
use Rattle.std.proofs.lemmas.List.Elements.{All-head, All-tail}
use Rattle.std.specs.Prelude.{All}
use Rattle.dp_form.specs.Vectors.{add, scale, matrix_add, outer, row}
use Rattle.dp_form.specs.Residual.{residual}
use Rattle.dp_form.specs.declared.Square.{Square}
use Rattle.dp_form.proofs.Entries.{less, row-matrix_add}

pub length-add : (n : ℕ) (x y : List ℤ) → length x ≡ n → length y ≡ n → length (add x y) ≡ n
length-add n [] y a b = b
length-add n (a ∷ x) [] h k = h
length-add n (a ∷ x) (b ∷ y) h k = ap suc (length-add (length x) x y refl (omega arith)) ∙ h

pub length-scale : (k : ℤ) (x : List ℤ) → length (scale k x) ≡ length x
length-scale k [] = refl
length-scale k (a ∷ x) = ap suc (length-scale k x)

length-row_outer : (x y : List ℤ) (i : ℕ) → i < length x → length (row (outer x y) i) ≡ length y
length-row_outer [] y i h = absurd (omega arith)
length-row_outer (a ∷ x) y zero h = length-scale a y
length-row_outer (a ∷ x) y (suc i) h = length-row_outer x y i (omega arith)

length-row_less : {n : ℕ} (p : List (List ℤ)) (q : Square n) (i : ℕ) → i < n → length (row p i) ≡ n → length q.l ≡ n → length (row (less p q) i) ≡ n
length-row_less {n} p q i h k l =
    let e = length-scale (neg_ℤ q.d) q.l in
    let o : length (row (outer (scale (neg_ℤ q.d) q.l) q.l) i) ≡ n = length-row_outer (scale (neg_ℤ q.d) q.l) q.l i (omega arith) ∙ l in
    ap length (row-matrix_add p (outer (scale (neg_ℤ q.d) q.l) q.l) i) ∙ length-add n (row p i) (row (outer (scale (neg_ℤ q.d) q.l) q.l) i) k o

pub length-row_residual : {n : ℕ} (p : List (List ℤ)) (qs : List (Square n)) (i : ℕ) → i < n → length (row p i) ≡ n → All (λ q. length q.l ≡ n) qs → length (row (residual p qs) i) ≡ n
length-row_residual p [] i h k l = k
length-row_residual {n} p (q ∷ qs) i h k l =
    length-row_residual (less p q) qs i h (length-row_less p q i h k (All-head (λ (z : Square n). length z.l ≡ n) q qs l)) (All-tail (λ (z : Square n). length z.l ≡ n) q qs l)

length-matrix_add : (n : ℕ) (p q : List (List ℤ)) → length p ≡ n → length q ≡ n → length (matrix_add p q) ≡ n
length-matrix_add n [] q a b = b
length-matrix_add n (r ∷ p) [] h k = h
length-matrix_add n (r ∷ p) (s ∷ q) h k = ap suc (length-matrix_add (length p) p q refl (omega arith)) ∙ h

length-outer : (x y : List ℤ) → length (outer x y) ≡ length x
length-outer [] y = refl
length-outer (a ∷ x) y = ap suc (length-outer x y)

pub length-residual : {n : ℕ} (p : List (List ℤ)) (qs : List (Square n)) → length p ≡ n → All (λ q. length q.l ≡ n) qs → length (residual p qs) ≡ n
length-residual p [] h l = h
length-residual {n} p (q ∷ qs) h l =
    let here : length q.l ≡ n = All-head (λ (z : Square n). length z.l ≡ n) q qs l in
    let wide : length (outer (scale (neg_ℤ q.d) q.l) q.l) ≡ n = length-outer (scale (neg_ℤ q.d) q.l) q.l ∙ length-scale (neg_ℤ q.d) q.l ∙ here in
    length-residual (less p q) qs (length-matrix_add n p (outer (scale (neg_ℤ q.d) q.l) q.l) h wide) (All-tail (λ (z : Square n). length z.l ≡ n) q qs l)
