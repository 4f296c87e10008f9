-- The triangle inequality.
use Rattle.std.proofs.Common.{◌≡◌, List, [], ◌∷◌, subst, arith, ℤ, pos, negsuc, ◌+ℤ◌, ◌-ℤ◌, ◌*ℤ◌, ◌≤ℤ◌, ◌<ℤ◌}
use Rattle.std.proofs.lemmas.Int.{ints, by_lt_z}
use lib.IntN.{*ℤ-zero}
use Rattle.dp_form.specs.Vectors.{add, scale}
use Rattle.dp_form.specs.Form.{bilinear, form, IsNonNegative}
use Rattle.dp_form.proofs.Ring.{var, num, ◌⊕◌, ◌⊗◌, minus, ring}
use Rattle.dp_form.proofs.Order.{square_nonneg, mul_nonneg, mul_le, le_cancel, mul_pos}
use Rattle.dp_form.proofs.Expansion.{form_two, form_sum}

square_apart : (n m : ℤ) → (n +ℤ m) *ℤ (n +ℤ m) ≡ n *ℤ n +ℤ pos 2 *ℤ (n *ℤ m) +ℤ m *ℤ m
square_apart n m = ring (n ∷ (m ∷ [])) ((var 0 ⊕ var 1) ⊗ (var 0 ⊕ var 1)) (var 0 ⊗ var 0 ⊕ num (pos 2) ⊗ (var 0 ⊗ var 1) ⊕ var 1 ⊗ var 1) tt

two_products : (n m : ℤ) → m *ℤ n *ℤ (pos 2 *ℤ (n *ℤ m)) ≡ m *ℤ m *ℤ (n *ℤ n) +ℤ n *ℤ n *ℤ (m *ℤ m)
two_products n m = ring (n ∷ (m ∷ []))
    (var 1 ⊗ var 0 ⊗ (num (pos 2) ⊗ (var 0 ⊗ var 1)))
    (var 1 ⊗ var 1 ⊗ (var 0 ⊗ var 0) ⊕ var 0 ⊗ var 0 ⊗ (var 1 ⊗ var 1)) tt

-- the form at j = m, k = -n; at j = t, k = -1; and at j = -1, k = t
negated_middle : (m n vx vy c : ℤ) → m *ℤ m *ℤ vx +ℤ m *ℤ (pos 0 -ℤ n) *ℤ c +ℤ (pos 0 -ℤ n) *ℤ (pos 0 -ℤ n) *ℤ vy ≡ m *ℤ m *ℤ vx -ℤ m *ℤ n *ℤ c +ℤ n *ℤ n *ℤ vy
negated_middle m n vx vy c = ring (m ∷ (n ∷ (vx ∷ (vy ∷ (c ∷ [])))))
    (var 0 ⊗ var 0 ⊗ var 2 ⊕ var 0 ⊗ (num (pos 0) ⊕ minus (var 1)) ⊗ var 4 ⊕ (num (pos 0) ⊕ minus (var 1)) ⊗ (num (pos 0) ⊕ minus (var 1)) ⊗ var 3)
    (var 0 ⊗ var 0 ⊗ var 2 ⊕ minus (var 0 ⊗ var 1 ⊗ var 4) ⊕ var 1 ⊗ var 1 ⊗ var 3) tt

first_large : (t vx vy c : ℤ) → t *ℤ t *ℤ vx +ℤ t *ℤ negsuc 0 *ℤ c +ℤ negsuc 0 *ℤ negsuc 0 *ℤ vy ≡ t *ℤ t *ℤ vx -ℤ t *ℤ c +ℤ vy
first_large t vx vy c = ring (t ∷ (vx ∷ (vy ∷ (c ∷ []))))
    (var 0 ⊗ var 0 ⊗ var 1 ⊕ var 0 ⊗ num (negsuc 0) ⊗ var 3 ⊕ num (negsuc 0) ⊗ num (negsuc 0) ⊗ var 2)
    (var 0 ⊗ var 0 ⊗ var 1 ⊕ minus (var 0 ⊗ var 3) ⊕ var 2) tt

second_large : (t vx vy c : ℤ) → negsuc 0 *ℤ negsuc 0 *ℤ vx +ℤ negsuc 0 *ℤ t *ℤ c +ℤ t *ℤ t *ℤ vy ≡ t *ℤ t *ℤ vy -ℤ t *ℤ c +ℤ vx
second_large t vx vy c = ring (t ∷ (vx ∷ (vy ∷ (c ∷ []))))
    (num (negsuc 0) ⊗ num (negsuc 0) ⊗ var 1 ⊕ num (negsuc 0) ⊗ var 0 ⊗ var 3 ⊕ var 0 ⊗ var 0 ⊗ var 2)
    (var 0 ⊗ var 0 ⊗ var 2 ⊕ minus (var 0 ⊗ var 3) ⊕ var 1) tt

-- ---- c stands for the mixed part: the form at j x + k y is j² vx + j k c + k² vy

middle_inside : (n m vx vy c : ℤ) → pos 0 <ℤ n → pos 0 <ℤ m → vx ≤ℤ (n *ℤ n) → vy ≤ℤ (m *ℤ m) → ((j k : ℤ) → pos 0 ≤ℤ (j *ℤ j *ℤ vx +ℤ j *ℤ k *ℤ c +ℤ k *ℤ k *ℤ vy)) → c ≤ℤ (pos 2 *ℤ (n *ℤ m))
middle_inside n m vx vy c n0 m0 hx hy h =
    let p : pos 0 ≤ℤ ((m *ℤ m) *ℤ vx -ℤ (m *ℤ n) *ℤ c +ℤ (n *ℤ n) *ℤ vy) = rw negated_middle at (h m (pos 0 -ℤ n)) in
    let q : ((m *ℤ m) *ℤ vx) ≤ℤ ((m *ℤ m) *ℤ (n *ℤ n)) = mul_le (m *ℤ m) vx (n *ℤ n) (square_nonneg m) hx in
    let r : ((n *ℤ n) *ℤ vy) ≤ℤ ((n *ℤ n) *ℤ (m *ℤ m)) = mul_le (n *ℤ n) vy (m *ℤ m) (square_nonneg n) hy in
    let e = two_products n m in
    le_cancel (m *ℤ n) c (pos 2 *ℤ (n *ℤ m)) (mul_pos m n m0 n0) (omega (arith, ints))

-- with vx at most 0, the mixed part is at most 0
middle_flat : (vx vy c m : ℤ) → vx ≤ℤ pos 0 → vy ≤ℤ (m *ℤ m) → ((t : ℤ) → pos 0 ≤ℤ (t *ℤ t *ℤ vx -ℤ t *ℤ c +ℤ vy)) → c ≤ℤ pos 0
middle_flat vx vy c m hx hy h =
    let t = m *ℤ m +ℤ pos 1 in
    let s = square_nonneg m in
    let p : pos 0 ≤ℤ (t *ℤ t *ℤ vx -ℤ t *ℤ c +ℤ vy) = h t in
    let q : ((t *ℤ t) *ℤ vx) ≤ℤ ((t *ℤ t) *ℤ pos 0) = mul_le (t *ℤ t) vx (pos 0) (square_nonneg t) hx in
    let q0 : (t *ℤ t) *ℤ pos 0 ≡ pos 0 = *ℤ-zero (t *ℤ t) in
    by_lt_z (pos 0) c
    (λ l. let u : (t *ℤ pos 1) ≤ℤ (t *ℤ c) = mul_le t (pos 1) c (omega (arith, ints)) (omega (arith, ints)) in
    let u1 : t *ℤ pos 1 ≡ t = omega (arith, ints) in
    absurd (omega (arith, ints)))
    (λ l. l)

triangle_at : (n m vx vy c : ℤ) → pos 0 ≤ℤ n → pos 0 ≤ℤ m → vx ≤ℤ (n *ℤ n) → vy ≤ℤ (m *ℤ m) → ((j k : ℤ) → pos 0 ≤ℤ (j *ℤ j *ℤ vx +ℤ j *ℤ k *ℤ c +ℤ k *ℤ k *ℤ vy)) → (vx +ℤ c +ℤ vy) ≤ℤ ((n +ℤ m) *ℤ (n +ℤ m))
triangle_at n m vx vy c n0 m0 hx hy h =
    let e = square_apart n m in
    let p : c ≤ℤ (pos 2 *ℤ (n *ℤ m)) = by_lt_z (pos 0) n
    (λ l. by_lt_z (pos 0) m
    (λ k. middle_inside n m vx vy c l k hx hy h)
    (λ k. let z : m ≡ pos 0 = omega (arith, ints) in
    let vy0 : vy ≤ℤ pos 0 = subst (λ (x : ℤ). vy ≤ℤ (x *ℤ x)) z hy in
    let f : c ≤ℤ pos 0 = middle_flat vy vx c n vy0 hx (λ t. rw second_large at (h (negsuc 0) t)) in
    let g = mul_nonneg n m n0 m0 in
    omega (arith, ints)))
    (λ l. let z : n ≡ pos 0 = omega (arith, ints) in
    let vx0 : vx ≤ℤ pos 0 = subst (λ (x : ℤ). vx ≤ℤ (x *ℤ x)) z hx in
    let f : c ≤ℤ pos 0 = middle_flat vx vy c m vx0 hy (λ t. rw first_large at (h t (negsuc 0))) in
    let g = mul_nonneg n m n0 m0 in
    omega (arith, ints)) in
    omega (arith, ints)

-- ---- of forms

pub triangle : (p : List (List ℤ)) → IsNonNegative p → (x y : List ℤ) (n m : ℤ) → pos 0 ≤ℤ n → pos 0 ≤ℤ m →
    form p x ≤ℤ (n *ℤ n) → form p y ≤ℤ (m *ℤ m) → form p (add x y) ≤ℤ ((n +ℤ m) *ℤ (n +ℤ m))
triangle p h x y n m n0 m0 hx hy =
    rw form_sum (triangle_at n m (form p x) (form p y) (bilinear p x y +ℤ bilinear p y x) n0 m0 hx hy
    (λ j k. rw form_two at (h (add (scale j x) (scale k y)))))

-- ---- the triangle of two coordinates
gathered : (j k a c b a' c' b' : ℤ) → (j *ℤ j *ℤ a +ℤ j *ℤ k *ℤ c +ℤ k *ℤ k *ℤ b) +ℤ (j *ℤ j *ℤ a' +ℤ j *ℤ k *ℤ c' +ℤ k *ℤ k *ℤ b') ≡ j *ℤ j *ℤ (a +ℤ a') +ℤ j *ℤ k *ℤ (c +ℤ c') +ℤ k *ℤ k *ℤ (b +ℤ b')
gathered j k a c b a' c' b' = ring (j ∷ (k ∷ (a ∷ (c ∷ (b ∷ (a' ∷ (c' ∷ (b' ∷ []))))))))
    ((var 0 ⊗ var 0 ⊗ var 2 ⊕ var 0 ⊗ var 1 ⊗ var 3 ⊕ var 1 ⊗ var 1 ⊗ var 4) ⊕ (var 0 ⊗ var 0 ⊗ var 5 ⊕ var 0 ⊗ var 1 ⊗ var 6 ⊕ var 1 ⊗ var 1 ⊗ var 7))
    (var 0 ⊗ var 0 ⊗ (var 2 ⊕ var 5) ⊕ var 0 ⊗ var 1 ⊗ (var 3 ⊕ var 6) ⊕ var 1 ⊗ var 1 ⊗ (var 4 ⊕ var 7)) tt

pub plane_triangle : (p : List (List ℤ)) → IsNonNegative p → (x y u w : List ℤ) (n m : ℤ) → pos 0 ≤ℤ n → pos 0 ≤ℤ m →
    (form p x +ℤ form p y) ≤ℤ (n *ℤ n) → (form p u +ℤ form p w) ≤ℤ (m *ℤ m) → (form p (add x u) +ℤ form p (add y w)) ≤ℤ ((n +ℤ m) *ℤ (n +ℤ m))
plane_triangle p h x y u w n m n0 m0 hx hy =
    let c = bilinear p x u +ℤ bilinear p u x in let c' = bilinear p y w +ℤ bilinear p w y in
    let e1 = form_sum p x u in let e2 = form_sum p y w in
    let t = triangle_at n m (form p x +ℤ form p y) (form p u +ℤ form p w) (c +ℤ c') n0 m0 hx hy
    (λ (j : ℤ) (k : ℤ).
    let a : pos 0 ≤ℤ (j *ℤ j *ℤ form p x +ℤ j *ℤ k *ℤ c +ℤ k *ℤ k *ℤ form p u) = rw form_two at (h (add (scale j x) (scale k u))) in
    let b : pos 0 ≤ℤ (j *ℤ j *ℤ form p y +ℤ j *ℤ k *ℤ c' +ℤ k *ℤ k *ℤ form p w) = rw form_two at (h (add (scale j y) (scale k w))) in
    subst (λ (z : ℤ). pos 0 ≤ℤ z) (gathered j k (form p x) c (form p u) (form p y) c' (form p w)) (omega (arith, ints))) in
    omega (arith, ints)
