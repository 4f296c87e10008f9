-- A matrix gives a map that is linear on both sides.
use Rattle.std.proofs.Common.{◌≡◌, List, [], ◌∷◌, refl, sym, ap, ◌∙◌, arith, ℤ, pos, ◌+ℤ◌, ◌*ℤ◌}
use Rattle.std.proofs.lemmas.Int.{ints}
use lib.IntN.{*ℤ_comm, +ℤ_idl, +ℤ_idr, *ℤ-zero}
use Rattle.dp_form.specs.Vectors.{dot, add, scale, apply, matrix_add, outer}
use Rattle.dp_form.specs.Form.{bilinear}
use Rattle.dp_form.proofs.RingLaws.{*ℤ_assoc, +ℤ-*ℤ, *ℤ-+ℤ}

four_sum : (a b c d : ℤ) → (a +ℤ b) +ℤ (c +ℤ d) ≡ (a +ℤ c) +ℤ (b +ℤ d)
four_sum a b c d = omega (arith, ints)

pub dot_comm : (x y : List ℤ) → dot x y ≡ dot y x
dot_comm [] [] = refl
dot_comm [] (b ∷ y) = refl
dot_comm (a ∷ x) [] = refl
dot_comm (a ∷ x) (b ∷ y) = ap (λ (z : ℤ). z +ℤ dot x y) (*ℤ_comm a b) ∙ ap (λ (z : ℤ). b *ℤ a +ℤ z) (dot_comm x y)

pub dot_nil : (x : List ℤ) → dot x [] ≡ pos 0
dot_nil [] = refl
dot_nil (a ∷ x) = refl

pub add_nil : (x : List ℤ) → add x [] ≡ x
add_nil [] = refl
add_nil (a ∷ x) = refl

pub dot_add : (x y z : List ℤ) → dot (add x y) z ≡ dot x z +ℤ dot y z
dot_add [] y z = sym (+ℤ_idl (dot y z))
dot_add (a ∷ x) [] z = sym (+ℤ_idr (dot (a ∷ x) z))
dot_add (a ∷ x) (b ∷ y) [] = refl
dot_add (a ∷ x) (b ∷ y) (c ∷ z) = ap (λ (u : ℤ). (a +ℤ b) *ℤ c +ℤ u) (dot_add x y z) ∙ ap (λ (u : ℤ). u +ℤ (dot x z +ℤ dot y z)) (+ℤ-*ℤ a b c) ∙ four_sum (a *ℤ c) (b *ℤ c) (dot x z) (dot y z)

pub dot_add_right : (z x y : List ℤ) → dot z (add x y) ≡ dot z x +ℤ dot z y
dot_add_right z x y = dot_comm z (add x y) ∙ dot_add x y z ∙ ap (λ (u : ℤ). u +ℤ dot y z) (dot_comm x z) ∙ ap (λ (u : ℤ). dot z x +ℤ u) (dot_comm y z)

pub dot_scale : (k : ℤ) (x y : List ℤ) → dot (scale k x) y ≡ k *ℤ dot x y
dot_scale k [] y = sym (*ℤ-zero k)
dot_scale k (a ∷ x) [] = sym (*ℤ-zero k)
dot_scale k (a ∷ x) (b ∷ y) = ap (λ (u : ℤ). k *ℤ a *ℤ b +ℤ u) (dot_scale k x y) ∙ ap (λ (u : ℤ). u +ℤ k *ℤ dot x y) (*ℤ_assoc k a b) ∙ sym (*ℤ-+ℤ k (a *ℤ b) (dot x y))

pub dot_scale_right : (k : ℤ) (x y : List ℤ) → dot x (scale k y) ≡ k *ℤ dot x y
dot_scale_right k x y = dot_comm x (scale k y) ∙ dot_scale k y x ∙ ap (λ (u : ℤ). k *ℤ u) (dot_comm y x)

pub apply_add : (p : List (List ℤ)) (x y : List ℤ) → apply p (add x y) ≡ add (apply p x) (apply p y)
apply_add [] x y = refl
apply_add (r ∷ p) x y = let e = dot_add_right r x y in let f = apply_add p x y in cc

pub apply_scale : (p : List (List ℤ)) (k : ℤ) (x : List ℤ) → apply p (scale k x) ≡ scale k (apply p x)
apply_scale [] k x = refl
apply_scale (r ∷ p) k x = let e = dot_scale_right k r x in let f = apply_scale p k x in cc

pub bilinear_add : (p : List (List ℤ)) (x y z : List ℤ) → bilinear p (add x y) z ≡ bilinear p x z +ℤ bilinear p y z
bilinear_add p x y z = dot_add x y (apply p z)

pub bilinear_add_right : (p : List (List ℤ)) (z x y : List ℤ) → bilinear p z (add x y) ≡ bilinear p z x +ℤ bilinear p z y
bilinear_add_right p z x y = ap (dot z) (apply_add p x y) ∙ dot_add_right z (apply p x) (apply p y)

pub bilinear_scale : (p : List (List ℤ)) (k : ℤ) (x y : List ℤ) → bilinear p (scale k x) y ≡ k *ℤ bilinear p x y
bilinear_scale p k x y = dot_scale k x (apply p y)

pub bilinear_scale_right : (p : List (List ℤ)) (k : ℤ) (x y : List ℤ) → bilinear p x (scale k y) ≡ k *ℤ bilinear p x y
bilinear_scale_right p k x y = ap (dot x) (apply_scale p k y) ∙ dot_scale_right k x (apply p y)

-- two matrices
pub apply_matrix_add : (p q : List (List ℤ)) (x y : List ℤ) → dot x (apply (matrix_add p q) y) ≡ dot x (apply p y) +ℤ dot x (apply q y)
apply_matrix_add [] q x y = rw (dot_nil x) (sym (+ℤ_idl (dot x (apply q y))))
apply_matrix_add (r ∷ p) [] x y = rw (dot_nil x) (sym (+ℤ_idr (dot x (apply (r ∷ p) y))))
apply_matrix_add (r ∷ p) (s ∷ q) [] y = refl
apply_matrix_add (r ∷ p) (s ∷ q) (a ∷ x) y =
    ap (λ (u : ℤ). a *ℤ dot (add r s) y +ℤ u) (apply_matrix_add p q x y)
    ∙ ap (λ (u : ℤ). a *ℤ u +ℤ (dot x (apply p y) +ℤ dot x (apply q y))) (dot_add r s y)
    ∙ ap (λ (u : ℤ). u +ℤ (dot x (apply p y) +ℤ dot x (apply q y))) (*ℤ-+ℤ a (dot r y) (dot s y))
    ∙ four_sum (a *ℤ dot r y) (a *ℤ dot s y) (dot x (apply p y)) (dot x (apply q y))

pub bilinear_matrix_add : (p q : List (List ℤ)) (x y : List ℤ) → bilinear (matrix_add p q) x y ≡ bilinear p x y +ℤ bilinear q x y
bilinear_matrix_add p q x y = apply_matrix_add p q x y

pub apply_outer : (l m : List ℤ) (y : List ℤ) → apply (outer l m) y ≡ scale (dot m y) l
apply_outer [] m y = refl
apply_outer (a ∷ l) m y = let e : dot (scale a m) y ≡ dot m y *ℤ a = dot_scale a m y ∙ *ℤ_comm a (dot m y) in let f = apply_outer l m y in cc

pub bilinear_outer : (l m x y : List ℤ) → bilinear (outer l m) x y ≡ dot l x *ℤ dot m y
bilinear_outer l m x y = ap (dot x) (apply_outer l m y) ∙ dot_scale_right (dot m y) x l ∙ *ℤ_comm (dot m y) (dot x l) ∙ ap (λ (u : ℤ). u *ℤ dot m y) (dot_comm x l)
