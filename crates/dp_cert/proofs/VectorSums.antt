-- Sums, multiples and differences of vectors, of any length.
use Rattle.std.proofs.Common.{◌≡◌, List, [], ◌∷◌, refl, sym, ap, ◌∙◌, arith, ℤ, negsuc, ◌+ℤ◌, ◌-ℤ◌, ◌*ℤ◌}
use Rattle.std.proofs.lemmas.Int.{ints}
use lib.IntN.{+ℤ_comm, +ℤ_assoc}
use Rattle.dp_form.specs.Vectors.{add, scale, apply, matrix_add}
use Rattle.dp_form.proofs.RingLaws.{*ℤ_assoc, +ℤ-*ℤ, *ℤ-+ℤ}
use Rattle.dp_form.proofs.Bilinear.{apply_add, apply_scale, dot_add}
use Rattle.dp_cert.specs.States.{gap}

pub add_comm : (x y : List ℤ) → add x y ≡ add y x
add_comm [] [] = refl
add_comm [] (b ∷ y) = refl
add_comm (a ∷ x) [] = refl
add_comm (a ∷ x) (b ∷ y) = let e = +ℤ_comm a b in let f = add_comm x y in cc

pub add_assoc : (x y z : List ℤ) → add (add x y) z ≡ add x (add y z)
add_assoc [] y z = refl
add_assoc (a ∷ x) [] z = refl
add_assoc (a ∷ x) (b ∷ y) [] = refl
add_assoc (a ∷ x) (b ∷ y) (c ∷ z) = let e = +ℤ_assoc a b c in let f = add_assoc x y z in cc

pub scale_add : (k : ℤ) (x y : List ℤ) → scale k (add x y) ≡ add (scale k x) (scale k y)
scale_add k [] y = refl
scale_add k (a ∷ x) [] = refl
scale_add k (a ∷ x) (b ∷ y) = let e = *ℤ-+ℤ k a b in let f = scale_add k x y in cc

pub scale_scale : (j k : ℤ) (x : List ℤ) → scale j (scale k x) ≡ scale (j *ℤ k) x
scale_scale j k [] = refl
scale_scale j k (a ∷ x) = let e = *ℤ_assoc j k a in let f = scale_scale j k x in cc

pub scale_sum : (j k : ℤ) (x : List ℤ) → scale (j +ℤ k) x ≡ add (scale j x) (scale k x)
scale_sum j k [] = refl
scale_sum j k (a ∷ x) = let e = +ℤ-*ℤ j k a in let f = scale_sum j k x in cc

pub add_swap : (x y z : List ℤ) → add (add x y) z ≡ add (add x z) y
add_swap x y z = add_assoc x y z ∙ ap (add x) (add_comm y z) ∙ sym (add_assoc x z y)

pub add_four : (x y u v : List ℤ) → add (add x y) (add u v) ≡ add (add x u) (add y v)
add_four x y u v = sym (add_assoc (add x y) u v) ∙ ap (λ (z : List ℤ). add z v) (add_swap x y u) ∙ add_assoc (add x u) y v

-- (a y + s w) + (b y + t w)
pub lines_sum : (a b s t : ℤ) (y w : List ℤ) → add (add (scale a y) (scale s w)) (add (scale b y) (scale t w)) ≡ add (scale (a +ℤ b) y) (scale (s +ℤ t) w)
lines_sum a b s t y w =
    add_four (scale a y) (scale s w) (scale b y) (scale t w)
    ∙ ap (λ (z : List ℤ). add z (add (scale s w) (scale t w))) (sym (scale_sum a b y))
    ∙ ap (add (scale (a +ℤ b) y)) (sym (scale_sum s t w))

pub line_scaled : (k a t : ℤ) (y w : List ℤ) → scale k (add (scale a y) (scale t w)) ≡ add (scale (k *ℤ a) y) (scale (k *ℤ t) w)
line_scaled k a t y w =
    scale_add k (scale a y) (scale t w)
    ∙ ap (λ (z : List ℤ). add z (scale k (scale t w))) (scale_scale k a y)
    ∙ ap (add (scale (k *ℤ a) y)) (scale_scale k t w)

pub point_scaled : (k t : ℤ) (y w : List ℤ) → scale k (add y (scale t w)) ≡ add (scale k y) (scale (k *ℤ t) w)
point_scaled k t y w = scale_add k y (scale t w) ∙ ap (add (scale k y)) (scale_scale k t w)

-- ---- differences
pub gap_sum : (x y u v : List ℤ) → gap (add x y) (add u v) ≡ add (gap x u) (gap y v)
gap_sum x y u v = ap (add (add x y)) (scale_add (negsuc 0) u v) ∙ add_four x y (scale (negsuc 0) u) (scale (negsuc 0) v)

minus_one : (j k : ℤ) → j +ℤ negsuc 0 *ℤ k ≡ j -ℤ k
minus_one j k = omega (arith, ints)

pub gap_scale : (j k : ℤ) (x : List ℤ) → gap (scale j x) (scale k x) ≡ scale (j -ℤ k) x
gap_scale j k x =
    ap (add (scale j x)) (scale_scale (negsuc 0) k x) ∙ sym (scale_sum j (negsuc 0 *ℤ k) x)
    ∙ ap (λ (z : ℤ). scale z x) (minus_one j k)

pub gap_apply : (m : List (List ℤ)) (x y : List ℤ) → gap (apply m x) (apply m y) ≡ apply m (gap x y)
gap_apply m x y = ap (add (apply m x)) (sym (apply_scale m (negsuc 0) y)) ∙ sym (apply_add m x (scale (negsuc 0) y))

-- ---- a matrix plus an outer product
pub apply_sum : (p q : List (List ℤ)) (y : List ℤ) → apply (matrix_add p q) y ≡ add (apply p y) (apply q y)
apply_sum [] q y = refl
apply_sum (r ∷ p) [] y = refl
apply_sum (r ∷ p) (s ∷ q) y = let e = dot_add r s y in let f = apply_sum p q y in cc
