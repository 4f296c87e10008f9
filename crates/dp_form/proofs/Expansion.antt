-- What a form is at sums and multiples of vectors.
use Rattle.std.proofs.Common.{◌≡◌, List, [], ◌∷◌, ap, ◌∙◌, ℤ, ◌+ℤ◌, ◌*ℤ◌}
use Rattle.dp_form.specs.Vectors.{add, scale}
use Rattle.dp_form.specs.Form.{bilinear, form}
use Rattle.dp_form.proofs.Ring.{var, ◌⊕◌, ◌⊗◌, ring}
use Rattle.dp_form.proofs.Bilinear.{bilinear_add, bilinear_add_right, bilinear_scale, bilinear_scale_right}

pub form_scale : (p : List (List ℤ)) (k : ℤ) (x : List ℤ) → form p (scale k x) ≡ k *ℤ k *ℤ form p x
form_scale p k x = bilinear_scale p k x (scale k x) ∙ ap (λ (z : ℤ). k *ℤ z) (bilinear_scale_right p k x x) ∙ ring (k ∷ (form p x ∷ [])) (var 0 ⊗ (var 0 ⊗ var 1)) (var 0 ⊗ var 0 ⊗ var 1) tt

-- what the form is at j x + k y
pub form_two : (p : List (List ℤ)) (j k : ℤ) (x y : List ℤ) →
    form p (add (scale j x) (scale k y)) ≡ j *ℤ j *ℤ form p x +ℤ j *ℤ k *ℤ (bilinear p x y +ℤ bilinear p y x) +ℤ k *ℤ k *ℤ form p y
form_two p j k x y =
    bilinear_add p (scale j x) (scale k y) (add (scale j x) (scale k y))
    ∙ simp (bilinear_add_right, bilinear_scale, bilinear_scale_right)
    (ring (j ∷ (k ∷ (form p x ∷ (bilinear p x y ∷ (bilinear p y x ∷ (form p y ∷ []))))))
    (var 0 ⊗ (var 0 ⊗ var 2) ⊕ var 0 ⊗ (var 1 ⊗ var 3) ⊕ (var 1 ⊗ (var 0 ⊗ var 4) ⊕ var 1 ⊗ (var 1 ⊗ var 5)))
    (var 0 ⊗ var 0 ⊗ var 2 ⊕ var 0 ⊗ var 1 ⊗ (var 3 ⊕ var 4) ⊕ var 1 ⊗ var 1 ⊗ var 5) tt)

pub form_sum : (p : List (List ℤ)) (x y : List ℤ) → form p (add x y) ≡ form p x +ℤ (bilinear p x y +ℤ bilinear p y x) +ℤ form p y
form_sum p x y =
    bilinear_add p x y (add x y)
    ∙ simp bilinear_add_right
    (ring (form p x ∷ (bilinear p x y ∷ (bilinear p y x ∷ (form p y ∷ []))))
    (var 0 ⊕ var 1 ⊕ (var 2 ⊕ var 3))
    (var 0 ⊕ (var 1 ⊕ var 2) ⊕ var 3) tt)
