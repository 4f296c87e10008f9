-- Numbers and vectors of a bounded size, and a form at such a vector.
use Rattle.std.proofs.Common.{◌≡◌, suc, List, [], ◌∷◌, length, refl, sym, ap, ◌∙◌, arith, ℤ, pos, negsuc, neg_ℤ, ◌+ℤ◌, ◌-ℤ◌, ◌*ℤ◌, ◌≤ℤ◌, ◌<ℤ◌}
use Rattle.std.proofs.lemmas.Int.{ints}
use Rattle.std.specs.Prelude.{unsigned_abs}
use Rattle.dp_form.proofs.Ring.{var, num, ◌⊕◌, ◌⊗◌, minus, ring}
use Rattle.dp_form.proofs.Order.{square_le_cancel, mul_nonneg, mul_le, le_cancel}
use Rattle.dp_form.specs.Vectors.{dot, add, scale, apply}
use Rattle.dp_form.specs.Form.{form}
use Rattle.dp_form.specs.Clamp.{Share}
use Rattle.dp_cert.specs.Matrices.{absolute, absolute_rows}
use Rattle.dp_cert.proofs.Sums.{length-apply}

-- a is from -k to k
pub record Near (k a : ℤ) : Type 0 where
  pub below : neg_ℤ k ≤ℤ a
  pub above : a ≤ℤ k

pub near_size : (k a : ℤ) → Near k a → pos (unsigned_abs a) ≤ℤ k
near_size k (pos n) h = omega (arith, ints, h.above)
near_size k (negsuc n) h = omega (arith, ints, h.below)

pub size_near : (k a : ℤ) → pos (unsigned_abs a) ≤ℤ k → Near k a
size_near k (pos n) h = record { below = omega (arith, ints); above = omega (arith, ints) }
size_near k (negsuc n) h = record { below = omega (arith, ints); above = omega (arith, ints) }

pub near_product : (k l a b : ℤ) → Near k a → Near l b → Near (k *ℤ l) (a *ℤ b)
near_product k l a b f g =
    let p = mul_nonneg (k -ℤ a) (l +ℤ b) (omega (arith, ints, f.above)) (omega (arith, ints, g.below)) in
    let q = mul_nonneg (k +ℤ a) (l -ℤ b) (omega (arith, ints, f.below)) (omega (arith, ints, g.above)) in
    let u = mul_nonneg (k -ℤ a) (l -ℤ b) (omega (arith, ints, f.above)) (omega (arith, ints, g.above)) in
    let w = mul_nonneg (k +ℤ a) (l +ℤ b) (omega (arith, ints, f.below)) (omega (arith, ints, g.below)) in
    let e = (ring (k ∷ (l ∷ (a ∷ (b ∷ [])))) ((var 0 ⊕ minus (var 2)) ⊗ (var 1 ⊕ var 3) ⊕ (var 0 ⊕ var 2) ⊗ (var 1 ⊕ minus (var 3))) (num (pos 2) ⊗ (var 0 ⊗ var 1) ⊕ num (negsuc 1) ⊗ (var 2 ⊗ var 3)) tt) in
    let d = (ring (k ∷ (l ∷ (a ∷ (b ∷ [])))) ((var 0 ⊕ minus (var 2)) ⊗ (var 1 ⊕ minus (var 3)) ⊕ (var 0 ⊕ var 2) ⊗ (var 1 ⊕ var 3)) (num (pos 2) ⊗ (var 0 ⊗ var 1) ⊕ num (pos 2) ⊗ (var 2 ⊗ var 3)) tt) in
    record { below = omega (arith, ints); above = omega (arith, ints) }

pub near_times : (m k x : ℤ) → pos 0 ≤ℤ m → Near k x → Near (m *ℤ k) (m *ℤ x)
near_times m k x h n =
    let e = (ring (m ∷ (k ∷ [])) (var 0 ⊗ minus (var 1)) (minus (var 0 ⊗ var 1)) tt) in
    let a = mul_le m (neg_ℤ k) x h n.below in
    let b = mul_le m x k h n.above in
    record { below = omega (arith, ints); above = omega (arith, ints) }

-- a factor above 0 dropped on both sides
pub near_cancel : (d k x : ℤ) → pos 0 <ℤ d → Near (d *ℤ k) (d *ℤ x) → Near k x
near_cancel d k x h n =
    let e = (ring (d ∷ (k ∷ [])) (var 0 ⊗ minus (var 1)) (minus (var 0 ⊗ var 1)) tt) in
    record { below = le_cancel d (neg_ℤ k) x h (omega (arith, ints, n.below)); above = le_cancel d x k h n.above }

-- |c| is at most q where c² is at most q²
pub near_square : (q c : ℤ) → pos 0 ≤ℤ q → (c *ℤ c) ≤ℤ (q *ℤ q) → Near q c
near_square q c h k =
    let a = square_le_cancel c q h k in
    let e = (ring (c ∷ []) (minus (var 0) ⊗ minus (var 0)) (var 0 ⊗ var 0) tt) in
    let b = square_le_cancel (neg_ℤ c) q h (omega (arith, ints)) in
    record { below = omega (arith, ints); above = a }

-- and the square of what is near
pub square_near : (s y : ℤ) → Near s y → (y *ℤ y) ≤ℤ (s *ℤ s)
square_near s y n = (near_product s s y y n n).above

-- a share of what is near is near
pub near_share : (f g k : ℤ) → pos 0 ≤ℤ k → Share f g → Near k f → Near k g
near_share f g k k0 s n =
    let a = near_times s.part k f s.from_zero n in
    let b = mul_le k s.part s.whole k0 s.to_one in
    let c = (ring (k ∷ (s.part ∷ [])) (var 0 ⊗ var 1) (var 1 ⊗ var 0) tt) in
    let d = (ring (k ∷ (s.whole ∷ [])) (var 0 ⊗ var 1) (var 1 ⊗ var 0) tt) in
    near_cancel s.whole k g s.whole_positive (record { below = omega (arith, ints, s.is_share, a.below); above = omega (arith, ints, s.is_share, a.above) })

-- ---- entry by entry
abbrev pub Within : List ℤ → List ℤ → Type 0
Within m [] = Unit {0}
Within [] (a ∷ x) = ⊥
Within (k ∷ m) (a ∷ x) = Near k a × Within m x

pub within_scale : (k t : ℤ) (m x : List ℤ) → Near k t → Within m x → Within (scale k m) (scale t x)
within_scale k t m [] n h = tt
within_scale k t [] (a ∷ x) n h = absurd h
within_scale k t (b ∷ m) (a ∷ x) n h = (near_product k b t a n h.0, within_scale k t m x n h.1)

near_sum : (k l a b : ℤ) → Near k a → Near l b → Near (k +ℤ l) (a +ℤ b)
near_sum k l a b f g = record { below = omega (arith, ints, f.below, g.below); above = omega (arith, ints, f.above, g.above) }

pub within_add : (m l x y : List ℤ) → Within m x → Within l y → length m ≡ length x → length l ≡ length y → Within (add m l) (add x y)
within_add [] l [] y f g e d = g
within_add [] l (a ∷ x) y f g e d = absurd f
within_add (k ∷ m) l [] y f g e d = absurd (omega arith)
within_add (k ∷ m) [] (a ∷ x) [] f g e d = f
within_add (k ∷ m) [] (a ∷ x) (b ∷ y) f g e d = absurd g
within_add (k ∷ m) (n ∷ l) (a ∷ x) [] f g e d = absurd (omega arith)
within_add (k ∷ m) (n ∷ l) (a ∷ x) (b ∷ y) f g e d = (near_sum k n a b f.0 g.0, within_add m l x y f.1 g.1 (omega arith) (omega arith))

own_size : (a : ℤ) → Near (pos (unsigned_abs a)) a
own_size (pos n) = record { below = omega (arith, ints); above = omega (arith, ints) }
own_size (negsuc n) = record { below = omega (arith, ints); above = omega (arith, ints) }

own_sizes : (x : List ℤ) → Within (absolute x) x
own_sizes [] = tt
own_sizes (a ∷ x) = (own_size a, own_sizes x)

near_zero : Near (pos 0) (pos 0)
near_zero = record { below = omega (arith, ints); above = omega (arith, ints) }

dot_near : (k l x y : List ℤ) → Within k x → Within l y → length k ≡ length x → length l ≡ length y → Near (dot k l) (dot x y)
dot_near [] l [] y f g e d = near_zero
dot_near [] l (a ∷ x) y f g e d = absurd f
dot_near (m ∷ k) l [] y f g e d = absurd (omega arith)
dot_near (m ∷ k) [] (a ∷ x) [] f g e d = near_zero
dot_near (m ∷ k) [] (a ∷ x) (b ∷ y) f g e d = absurd g
dot_near (m ∷ k) (n ∷ l) (a ∷ x) [] f g e d = absurd (omega arith)
dot_near (m ∷ k) (n ∷ l) (a ∷ x) (b ∷ y) f g e d =
    near_sum (m *ℤ n) (dot k l) (a *ℤ b) (dot x y) (near_product m n a b f.0 g.0) (dot_near k l x y f.1 g.1 (omega arith) (omega arith))

length-absolute : (x : List ℤ) → length (absolute x) ≡ length x
length-absolute [] = refl
length-absolute (a ∷ x) = ap suc (length-absolute x)

length-absolute_rows : (p : List (List ℤ)) → length (absolute_rows p) ≡ length p
length-absolute_rows [] = refl
length-absolute_rows (r ∷ p) = ap suc (length-absolute_rows p)

apply_near : (p : List (List ℤ)) (m x : List ℤ) → Within m x → length m ≡ length x → Within (apply (absolute_rows p) m) (apply p x)
apply_near [] m x f e = tt
apply_near (r ∷ p) m x f e = (dot_near (absolute r) m r x (own_sizes r) f (length-absolute r) e, apply_near p m x f e)

-- the sum of |p_ij| m_i m_j bounds the form
pub form_near : (p : List (List ℤ)) (m x : List ℤ) → Within m x → length m ≡ length x → Near (form (absolute_rows p) m) (form p x)
form_near p m x f e = dot_near m (apply (absolute_rows p) m) x (apply p x) f (apply_near p m x f e) e (length-apply (absolute_rows p) m ∙ length-absolute_rows p ∙ sym (length-apply p x))
