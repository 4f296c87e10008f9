-- The form of a mixture.
use Rattle.std.proofs.Common.{◌≡◌, List, [], ◌∷◌, refl, ap, ◌∙◌, arith, ℤ, pos, negsuc, ◌+ℤ◌, ◌*ℤ◌, ◌≤ℤ◌}
use Rattle.std.proofs.lemmas.Int.{ints}
use Rattle.std.proofs.lemmas.List.Elements.{All-head, All-tail}
use Rattle.std.specs.Prelude.{All}
use lib.IntN.{*ℤ-zero}
use Rattle.dp_form.specs.Vectors.{dot, add, scale, apply}
use Rattle.dp_form.specs.Form.{bilinear, form, IsNonNegative}
use Rattle.dp_form.specs.Mix.{Weighted, mixture, total_weight, weighted_forms}
use Rattle.dp_form.proofs.Ring.{var, ◌⊕◌, ◌⊗◌, ring}
use Rattle.dp_form.proofs.Order.{mul_le}
use Rattle.dp_form.proofs.Bilinear.{dot_nil, bilinear_add, bilinear_add_right, bilinear_scale, bilinear_scale_right}
use Rattle.dp_form.proofs.Expansion.{form_two, form_sum, form_scale}

-- the mixed part of two vectors is at most the sum of their forms, since the form of their difference is at least 0
mixed_le : (p : List (List ℤ)) → IsNonNegative p → (x y : List ℤ) → (bilinear p x y +ℤ bilinear p y x) ≤ℤ (form p x +ℤ form p y)
mixed_le p h x y =
    let a : pos 0 ≤ℤ (pos 1 *ℤ pos 1 *ℤ form p x +ℤ pos 1 *ℤ negsuc 0 *ℤ (bilinear p x y +ℤ bilinear p y x) +ℤ negsuc 0 *ℤ negsuc 0 *ℤ form p y) =
    rw form_two at (h (add (scale (pos 1) x) (scale (negsuc 0) y))) in
    omega (arith, ints)

bilinear_nil : (p : List (List ℤ)) (x : List ℤ) → bilinear p x [] ≡ pos 0
bilinear_nil [] x = dot_nil x
bilinear_nil (r ∷ p) [] = refl
bilinear_nil (r ∷ p) (a ∷ x) = ap (λ (z : ℤ). a *ℤ z +ℤ dot x (apply p [])) (dot_nil r) ∙ omega (arith, ints, *ℤ-zero a, bilinear_nil p x)

-- k w + t is what one more weighted vector makes of a bound
mixed_step : (k b c v w t f m n : ℤ) → pos 0 ≤ℤ k → (b +ℤ c) ≤ℤ (v +ℤ f) → (m +ℤ n) ≤ℤ (w *ℤ v +ℤ t) → ((k *ℤ b +ℤ m) +ℤ (k *ℤ c +ℤ n)) ≤ℤ ((k +ℤ w) *ℤ v +ℤ (k *ℤ f +ℤ t))
mixed_step k b c v w t f m n k0 h i =
    let l = mul_le k (b +ℤ c) (v +ℤ f) k0 h in
    let e1 = ring (k ∷ (b ∷ (c ∷ []))) (var 0 ⊗ (var 1 ⊕ var 2)) (var 0 ⊗ var 1 ⊕ var 0 ⊗ var 2) tt in
    let e2 = ring (k ∷ (v ∷ (f ∷ []))) (var 0 ⊗ (var 1 ⊕ var 2)) (var 0 ⊗ var 1 ⊕ var 0 ⊗ var 2) tt in
    let e3 = ring (k ∷ (w ∷ (v ∷ []))) ((var 0 ⊕ var 1) ⊗ var 2) (var 0 ⊗ var 2 ⊕ var 1 ⊗ var 2) tt in
    omega (arith, ints)

mixed_mixture : (p : List (List ℤ)) → IsNonNegative p → (x : List ℤ) (ws : List Weighted) → All (λ w. pos 0 ≤ℤ w.weight) ws →
    (bilinear p x (mixture ws) +ℤ bilinear p (mixture ws) x) ≤ℤ (total_weight ws *ℤ form p x +ℤ weighted_forms p ws)
mixed_mixture p h x [] a = omega (arith, ints, bilinear_nil p x)
mixed_mixture p h x (w ∷ ws) a =
    let k = w.weight in let v = w.vector in let s = mixture ws in
    let k0 : pos 0 ≤ℤ k = All-head (λ (z : Weighted). pos 0 ≤ℤ z.weight) w ws a in
    let i = mixed_mixture p h x ws (All-tail (λ (z : Weighted). pos 0 ≤ℤ z.weight) w ws a) in
    let e1 : bilinear p x (add (scale k v) s) ≡ k *ℤ bilinear p x v +ℤ bilinear p x s =
    bilinear_add_right p x (scale k v) s ∙ ap (λ (z : ℤ). z +ℤ bilinear p x s) (bilinear_scale_right p k x v) in
    let e2 : bilinear p (add (scale k v) s) x ≡ k *ℤ bilinear p v x +ℤ bilinear p s x =
    bilinear_add p (scale k v) s x ∙ ap (λ (z : ℤ). z +ℤ bilinear p s x) (bilinear_scale p k v x) in
    let q = mixed_step k (bilinear p x v) (bilinear p v x) (form p x) (total_weight ws) (weighted_forms p ws) (form p v) (bilinear p x s) (bilinear p s x) k0 (mixed_le p h x v) i in
    omega (arith, ints)

mix_step : (k v b c f w t : ℤ) → pos 0 ≤ℤ k → (b +ℤ c) ≤ℤ (w *ℤ v +ℤ t) → f ≤ℤ (w *ℤ t) → (k *ℤ k *ℤ v +ℤ (k *ℤ b +ℤ k *ℤ c) +ℤ f) ≤ℤ ((k +ℤ w) *ℤ (k *ℤ v +ℤ t))
mix_step k v b c f w t k0 h i =
    let l = mul_le k (b +ℤ c) (w *ℤ v +ℤ t) k0 h in
    let e1 = ring (k ∷ (b ∷ (c ∷ []))) (var 0 ⊗ (var 1 ⊕ var 2)) (var 0 ⊗ var 1 ⊕ var 0 ⊗ var 2) tt in
    let e2 = ring (k ∷ (v ∷ (w ∷ (t ∷ [])))) ((var 0 ⊕ var 2) ⊗ (var 0 ⊗ var 1 ⊕ var 3)) (var 0 ⊗ var 0 ⊗ var 1 ⊕ var 0 ⊗ (var 2 ⊗ var 1 ⊕ var 3) ⊕ var 2 ⊗ var 3) tt in
    omega (arith, ints)

pub mix : (p : List (List ℤ)) → IsNonNegative p → (ws : List Weighted) → All (λ w. pos 0 ≤ℤ w.weight) ws → form p (mixture ws) ≤ℤ (total_weight ws *ℤ weighted_forms p ws)
mix p h [] a = omega (arith, ints)
mix p h (w ∷ ws) a =
    let k = w.weight in let v = w.vector in let s = mixture ws in
    let k0 : pos 0 ≤ℤ k = All-head (λ (z : Weighted). pos 0 ≤ℤ z.weight) w ws a in
    let rest = All-tail (λ (z : Weighted). pos 0 ≤ℤ z.weight) w ws a in
    let i = mix p h ws rest in
    let m = mixed_mixture p h v ws rest in
    let e1 = form_sum p (scale k v) s in
    let e2 = form_scale p k v in
    let e3 = bilinear_scale p k v s in
    let e4 = bilinear_scale_right p k s v in
    let q = mix_step k (form p v) (bilinear p v s) (bilinear p s v) (form p s) (total_weight ws) (weighted_forms p ws) k0 m i in
    omega (arith, ints)

total_low : (ws : List Weighted) → All (λ w. pos 0 ≤ℤ w.weight) ws → pos 0 ≤ℤ total_weight ws
total_low [] a = omega (arith, ints)
total_low (w ∷ ws) a = omega (arith, ints, All-head (λ (z : Weighted). pos 0 ≤ℤ z.weight) w ws a, total_low ws (All-tail (λ (z : Weighted). pos 0 ≤ℤ z.weight) w ws a))

forms_below : (p : List (List ℤ)) (r : ℤ) (ws : List Weighted) → All (λ w. pos 0 ≤ℤ w.weight) ws → All (λ w. form p w.vector ≤ℤ r) ws → weighted_forms p ws ≤ℤ (total_weight ws *ℤ r)
forms_below p r [] a b = omega (arith, ints)
forms_below p r (w ∷ ws) a b =
    let i = forms_below p r ws (All-tail (λ (z : Weighted). pos 0 ≤ℤ z.weight) w ws a) (All-tail (λ (z : Weighted). form p z.vector ≤ℤ r) w ws b) in
    let m = mul_le w.weight (form p w.vector) r (All-head (λ (z : Weighted). pos 0 ≤ℤ z.weight) w ws a) (All-head (λ (z : Weighted). form p z.vector ≤ℤ r) w ws b) in
    let e = ring (w.weight ∷ (total_weight ws ∷ (r ∷ []))) ((var 0 ⊕ var 1) ⊗ var 2) (var 0 ⊗ var 2 ⊕ var 1 ⊗ var 2) tt in
    omega (arith, ints)

pub mix_below : (p : List (List ℤ)) → IsNonNegative p → (r : ℤ) (ws : List Weighted) → All (λ w. pos 0 ≤ℤ w.weight) ws → All (λ w. form p w.vector ≤ℤ r) ws →
    form p (mixture ws) ≤ℤ (total_weight ws *ℤ (total_weight ws *ℤ r))
mix_below p h r ws a b =
    let m = mix p h ws a in
    let n = mul_le (total_weight ws) (weighted_forms p ws) (total_weight ws *ℤ r) (total_low ws a) (forms_below p r ws a b) in
    omega (arith, ints)
