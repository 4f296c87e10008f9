-- The split along two axes.
use Rattle.std.proofs.Common.{◌≡◌, List, [], ◌∷◌, sym, ap, ◌∙◌, arith, ℤ, pos, ◌+ℤ◌, ◌-ℤ◌, ◌*ℤ◌, ◌≤ℤ◌}
use Rattle.std.proofs.lemmas.Int.{ints}
use lib.IntN.{*ℤ_comm}
use Rattle.dp_form.specs.Vectors.{add, scale}
use Rattle.dp_form.specs.Form.{bilinear, form, plane_form, IsNonNegative}
use Rattle.dp_form.specs.Axes.{along, across}
use Rattle.dp_form.proofs.Ring.{var, num, ◌⊕◌, ◌⊗◌, minus, ring}
use Rattle.dp_form.proofs.Order.{mul_le}
use Rattle.dp_form.proofs.Expansion.{form_two}

pub axes_form : (p : List (List ℤ)) (c s : ℤ) (x y : List ℤ) →
    (c *ℤ c +ℤ s *ℤ s) *ℤ (form p x +ℤ form p y) ≡ form p (add (scale c x) (scale s y)) +ℤ form p (add (scale c y) (scale (pos 0 -ℤ s) x))
axes_form p c s x y =
    sym (ap (λ (z : ℤ). z +ℤ form p (add (scale c y) (scale (pos 0 -ℤ s) x))) (form_two p c s x y)
    ∙ ap (λ (z : ℤ). c *ℤ c *ℤ form p x +ℤ c *ℤ s *ℤ (bilinear p x y +ℤ bilinear p y x) +ℤ s *ℤ s *ℤ form p y +ℤ z) (form_two p c (pos 0 -ℤ s) y x)
    ∙ ring (c ∷ (s ∷ (form p x ∷ (form p y ∷ (bilinear p x y ∷ (bilinear p y x ∷ []))))))
    (var 0 ⊗ var 0 ⊗ var 2 ⊕ var 0 ⊗ var 1 ⊗ (var 4 ⊕ var 5) ⊕ var 1 ⊗ var 1 ⊗ var 3
    ⊕ (var 0 ⊗ var 0 ⊗ var 3 ⊕ var 0 ⊗ (num (pos 0) ⊕ minus (var 1)) ⊗ (var 5 ⊕ var 4) ⊕ (num (pos 0) ⊕ minus (var 1)) ⊗ (num (pos 0) ⊕ minus (var 1)) ⊗ var 2))
    ((var 0 ⊗ var 0 ⊕ var 1 ⊗ var 1) ⊗ (var 2 ⊕ var 3)) tt)

pub short_pair : (p : List (List ℤ)) → IsNonNegative p → (q c s : ℤ) (x y : List ℤ) → (c *ℤ c +ℤ s *ℤ s) ≤ℤ (q *ℤ q) →
    (form p (along c s x y) +ℤ form p (across c s x y)) ≤ℤ (q *ℤ q *ℤ plane_form p x y)
short_pair p h q c s x y k =
    let v = plane_form p x y in
    let v0 : pos 0 ≤ℤ v = omega (arith, ints, h x, h y) in
    last (v *ℤ (c *ℤ c +ℤ s *ℤ s)) (v *ℤ (q *ℤ q)) ((c *ℤ c +ℤ s *ℤ s) *ℤ v) (q *ℤ q *ℤ v) (form p (along c s x y) +ℤ form p (across c s x y))
    (mul_le v (c *ℤ c +ℤ s *ℤ s) (q *ℤ q) v0 k) (*ℤ_comm v (c *ℤ c +ℤ s *ℤ s)) (*ℤ_comm v (q *ℤ q)) (axes_form p c s x y)
  where
    last : (a b a' b' f : ℤ) → a ≤ℤ b → a ≡ a' → b ≡ b' → a' ≡ f → f ≤ℤ b'
    last a b a' b' f m l r e = omega (arith, ints)
