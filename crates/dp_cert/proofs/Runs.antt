-- The bound that every step keeps, and what it means for forces.
use Rattle.std.proofs.Common.{◌≡◌, [], ◌∷◌, sym, ap, subst, ◌∙◌, arith, ℤ, pos, ◌+ℤ◌, ◌-ℤ◌, ◌*ℤ◌, ◌≤ℤ◌, ◌<ℤ◌}
use Rattle.std.proofs.lemmas.Int.{ints}
use Rattle.std.specs.Prelude.{unsigned_abs}
use Rattle.dp_form.proofs.Ring.{var, num, ◌⊕◌, ◌⊗◌, minus, ring}
use Rattle.dp_form.proofs.Order.{mul_nonneg, mul_le, mul_pos, le_cancel}
use Rattle.dp_fixed.specs.Division.{floor_of, ceil_of}
use Rattle.dp_fixed.proofs.Divisions.{ceil_is}
use Rattle.dp_cert.proofs.Near.{Near, near_product, near_size, size_near}
use Rattle.dp_cert.proofs.Floors.{rest}
use Rattle.dp_cert.proofs.Demands.{demand_split, demand_rest, near_factor}

-- squares keep the order of numbers from 0 up
pub square_le : (a b : ℤ) → pos 0 ≤ℤ a → a ≤ℤ b → (a *ℤ a) ≤ℤ (b *ℤ b)
square_le a b h k =
    let p = mul_le a a b h k in
    let q = mul_le b a b (omega (arith, ints)) k in
    let e = (ring (a ∷ (b ∷ [])) (var 0 ⊗ var 1) (var 1 ⊗ var 0) tt) in
    omega (arith, ints)

-- n is at least m / (q - rate), so a step that shrinks by rate / q and adds m / q keeps n
pub bound_kept : (q rate m n v : ℤ) → pos 0 <ℤ q → pos 0 ≤ℤ rate → pos 0 ≤ℤ m → pos 0 ≤ℤ n → m ≤ℤ ((q -ℤ rate) *ℤ n) →
    (q *ℤ q *ℤ v) ≤ℤ ((rate *ℤ n +ℤ m) *ℤ (rate *ℤ n +ℤ m)) → v ≤ℤ (n *ℤ n)
bound_kept q rate m n v q0 r0 m0 n0 h k =
    let e = (ring (q ∷ (rate ∷ (n ∷ []))) ((var 0 ⊕ minus (var 1)) ⊗ var 2) (var 0 ⊗ var 2 ⊕ minus (var 1 ⊗ var 2)) tt) in
    let a : pos 0 ≤ℤ (rate *ℤ n) = mul_nonneg rate n r0 n0 in
    let b : ((rate *ℤ n +ℤ m) *ℤ (rate *ℤ n +ℤ m)) ≤ℤ ((q *ℤ n) *ℤ (q *ℤ n)) = square_le (rate *ℤ n +ℤ m) (q *ℤ n) (omega (arith, ints)) (omega (arith, ints)) in
    let c = (ring (q ∷ (n ∷ [])) (var 0 ⊗ var 1 ⊗ (var 0 ⊗ var 1)) (var 0 ⊗ var 0 ⊗ (var 1 ⊗ var 1)) tt) in
    le_cancel (q *ℤ q) v (n *ℤ n) (mul_pos q q q0 q0) (joined (q *ℤ q *ℤ v) ((rate *ℤ n +ℤ m) *ℤ (rate *ℤ n +ℤ m)) ((q *ℤ n) *ℤ (q *ℤ n)) (q *ℤ q *ℤ (n *ℤ n)) k b c)
  where
    joined : (x y z w : ℤ) → x ≤ℤ y → y ≤ℤ z → z ≡ w → x ≤ℤ w
    joined x y z w p q e = omega (arith, ints)

-- the whole number that every step keeps, for what a step adds
abbrev pub kept_bound : ℤ → ℤ → ℤ → ℤ
kept_bound q rate m = ceil_of m (q -ℤ rate)

pub kept_enough : (q rate m : ℤ) → rate <ℤ q → m ≤ℤ ((q -ℤ rate) *ℤ kept_bound q rate m)
kept_enough q rate m h =
    let c = ceil_is m (q -ℤ rate) (omega (arith, ints)) in
    let e = (ring (q ∷ (rate ∷ (kept_bound q rate m ∷ []))) ((var 0 ⊕ minus (var 1)) ⊗ var 2) (var 2 ⊗ (var 0 ⊕ minus (var 1))) tt) in
    omega (arith, ints, c.above, e)

pub kept_small : (q rate m : ℤ) → rate <ℤ q → ((q -ℤ rate) *ℤ kept_bound q rate m) ≤ℤ (m +ℤ (q -ℤ rate))
kept_small q rate m h =
    let c = ceil_is m (q -ℤ rate) (omega (arith, ints)) in
    let e = (ring (q ∷ (rate ∷ (kept_bound q rate m ∷ []))) ((var 0 ⊕ minus (var 1)) ⊗ var 2) (var 2 ⊗ (var 0 ⊕ minus (var 1))) tt) in
    omega (arith, ints, c.below, e)

pub kept_low : (q rate m : ℤ) → rate <ℤ q → pos 0 ≤ℤ m → pos 0 ≤ℤ kept_bound q rate m
kept_low q rate m h m0 =
    let a = kept_enough q rate m h in
    le_cancel (q -ℤ rate) (pos 0) (kept_bound q rate m) (omega (arith, ints)) (zero_below (q -ℤ rate) ((q -ℤ rate) *ℤ kept_bound q rate m) (omega (arith, ints)))
  where
    zero_below : (d x : ℤ) → pos 0 ≤ℤ x → (d *ℤ pos 0) ≤ℤ x
    zero_below d x h = let e = (ring (d ∷ []) (var 0 ⊗ num (pos 0)) (num (pos 0)) tt) in omega (arith, ints)

-- ---- forces
-- one share of a force, times q
share_below : (q b d k : ℤ) → pos 0 ≤ℤ q → (q *ℤ pos (unsigned_abs d)) ≤ℤ k → (q *ℤ pos (unsigned_abs (b *ℤ d))) ≤ℤ (pos (unsigned_abs b) *ℤ k)
share_below q b d k q0 h =
    let a = mul_le (pos (unsigned_abs b)) (q *ℤ pos (unsigned_abs d)) k (omega (arith, ints)) h in
    let m = near_size (pos (unsigned_abs b) *ℤ pos (unsigned_abs d)) (b *ℤ d)
    (near_product (pos (unsigned_abs b)) (pos (unsigned_abs d)) b d (own_near b) (own_near d)) in
    sized q (pos (unsigned_abs b)) (pos (unsigned_abs d)) (pos (unsigned_abs (b *ℤ d))) k q0 a m
  where
    own_near : (z : ℤ) → Near (pos (unsigned_abs z)) z
    own_near z = size_near (pos (unsigned_abs z)) z (omega (arith, ints))

    sized : (q b d x k : ℤ) → pos 0 ≤ℤ q → (b *ℤ (q *ℤ d)) ≤ℤ (b *ℤ k) → x ≤ℤ (b *ℤ d) → (q *ℤ x) ≤ℤ (b *ℤ k)
    sized q b d x k q0 h m =
        let u = mul_le q x (b *ℤ d) q0 m in
        let e = (ring (q ∷ (b ∷ (d ∷ []))) (var 0 ⊗ (var 1 ⊗ var 2)) (var 1 ⊗ (var 0 ⊗ var 2)) tt) in
        omega (arith, ints)

near_three : (k l d a b r : ℤ) → Near k a → Near l b → Near d r → Near (k +ℤ l +ℤ d) (a +ℤ b +ℤ r)
near_three k l d a b r f g h = record { below = omega (arith, ints, f.below, g.below, h.below); above = omega (arith, ints, f.above, g.above, h.above) }

-- the floors of two forces with the same yaw part
force_near : (d r0 r1 r2 a a' b b' w : ℤ) → pos 0 <ℤ d →
    (d *ℤ pos (unsigned_abs (floor_of ((r0 *ℤ a +ℤ r1 *ℤ b) +ℤ r2 *ℤ w) d -ℤ floor_of ((r0 *ℤ a' +ℤ r1 *ℤ b') +ℤ r2 *ℤ w) d)))
    ≤ℤ (pos (unsigned_abs (r0 *ℤ (a -ℤ a'))) +ℤ pos (unsigned_abs (r1 *ℤ (b -ℤ b'))) +ℤ d)
force_near d r0 r1 r2 a a' b b' w h =
    let z = (r0 *ℤ a +ℤ r1 *ℤ b) +ℤ r2 *ℤ w in let z' = (r0 *ℤ a' +ℤ r1 *ℤ b') +ℤ r2 *ℤ w in
    let u = r0 *ℤ (a -ℤ a') in let v = r1 *ℤ (b -ℤ b') in
    let k = pos (unsigned_abs u) +ℤ pos (unsigned_abs v) +ℤ d in
    let e : d *ℤ (floor_of z d -ℤ floor_of z' d) ≡ u +ℤ v +ℤ rest d z z' =
    demand_split d z z' ∙ ap (λ (x : ℤ). x +ℤ rest d z z')
    (ring (r0 ∷ (r1 ∷ (r2 ∷ (a ∷ (a' ∷ (b ∷ (b' ∷ (w ∷ [])))))))) (var 0 ⊗ var 3 ⊕ var 1 ⊗ var 5 ⊕ var 2 ⊗ var 7 ⊕ minus (var 0 ⊗ var 4 ⊕ var 1 ⊗ var 6 ⊕ var 2 ⊗ var 7)) (var 0 ⊗ (var 3 ⊕ minus (var 4)) ⊕ var 1 ⊗ (var 5 ⊕ minus (var 6))) tt) in
    let n : Near k (u +ℤ v +ℤ rest d z z') = near_three (pos (unsigned_abs u)) (pos (unsigned_abs v)) d u v (rest d z z') (own_near u) (own_near v) (demand_rest d z z' h) in
    near_factor d k (floor_of z d -ℤ floor_of z' d) (subst (Near k) (sym e) n)
  where
    own_near : (z : ℤ) → Near (pos (unsigned_abs z)) z
    own_near z = size_near (pos (unsigned_abs z)) z (omega (arith, ints))

-- the demands' bounds, put together with the shares b0 and b1, where F is the force's move
force_sum : (q d n b0 b1 g0 g1 x0 x1 force : ℤ) → pos 0 ≤ℤ q → (q *ℤ x0) ≤ℤ (b0 *ℤ (g0 *ℤ n +ℤ q)) → (q *ℤ x1) ≤ℤ (b1 *ℤ (g1 *ℤ n +ℤ q)) → force ≤ℤ (x0 +ℤ x1 +ℤ d) →
    (q *ℤ (force -ℤ (b0 +ℤ b1 +ℤ d))) ≤ℤ ((b0 *ℤ g0 +ℤ b1 *ℤ g1) *ℤ n)
force_sum q d n b0 b1 g0 g1 x0 x1 force q0 h0 h1 hf =
    let a = mul_le q force (x0 +ℤ x1 +ℤ d) q0 hf in
    let e0 = (ring (q ∷ (x0 ∷ (x1 ∷ (d ∷ [])))) (var 0 ⊗ (var 1 ⊕ var 2 ⊕ var 3)) (var 0 ⊗ var 1 ⊕ var 0 ⊗ var 2 ⊕ var 0 ⊗ var 3) tt) in
    let e1 = (ring (q ∷ (n ∷ (b0 ∷ (g0 ∷ [])))) (var 2 ⊗ (var 3 ⊗ var 1 ⊕ var 0)) (var 2 ⊗ var 3 ⊗ var 1 ⊕ var 0 ⊗ var 2) tt) in
    let e2 = (ring (q ∷ (n ∷ (b1 ∷ (g1 ∷ [])))) (var 2 ⊗ (var 3 ⊗ var 1 ⊕ var 0)) (var 2 ⊗ var 3 ⊗ var 1 ⊕ var 0 ⊗ var 2) tt) in
    let e3 = (ring (q ∷ (force ∷ (b0 ∷ (b1 ∷ (d ∷ []))))) (var 0 ⊗ (var 1 ⊕ minus (var 2 ⊕ var 3 ⊕ var 4))) (var 0 ⊗ var 1 ⊕ minus (var 0 ⊗ var 2) ⊕ minus (var 0 ⊗ var 3) ⊕ minus (var 0 ⊗ var 4)) tt) in
    let e4 = (ring (n ∷ (b0 ∷ (b1 ∷ (g0 ∷ (g1 ∷ []))))) ((var 1 ⊗ var 3 ⊕ var 2 ⊗ var 4) ⊗ var 0) (var 1 ⊗ var 3 ⊗ var 0 ⊕ var 2 ⊗ var 4 ⊗ var 0) tt) in
    omega (arith, ints)

-- gain and offset are large enough, for n up to (m + q - rate) / (q - rate) with m = input s + q rounding
bound_reached : (q e sg input s r n move gain offset : ℤ) → pos 0 <ℤ q → pos 0 <ℤ e → pos 0 ≤ℤ sg → pos 0 ≤ℤ s →
    (q *ℤ move) ≤ℤ (sg *ℤ n) → (e *ℤ n) ≤ℤ (input *ℤ s +ℤ q *ℤ r +ℤ e) → (sg *ℤ input) ≤ℤ (gain *ℤ (q *ℤ e)) → (sg *ℤ (q *ℤ r +ℤ e)) ≤ℤ (offset *ℤ (q *ℤ e)) →
    move ≤ℤ (gain *ℤ s +ℤ offset)
bound_reached q e sg input s r n move gain offset q0 e0 sg0 s0 hm hn hs ho =
    let a = mul_le e (q *ℤ move) (sg *ℤ n) (omega (arith, ints)) hm in
    let b = mul_le sg (e *ℤ n) (input *ℤ s +ℤ q *ℤ r +ℤ e) sg0 hn in
    let c = mul_le s (sg *ℤ input) (gain *ℤ (q *ℤ e)) s0 hs in
    let e1 = (ring (q ∷ (e ∷ (move ∷ []))) (var 1 ⊗ (var 0 ⊗ var 2)) (var 0 ⊗ var 1 ⊗ var 2) tt) in
    let e2 = (ring (e ∷ (sg ∷ (n ∷ []))) (var 0 ⊗ (var 1 ⊗ var 2)) (var 1 ⊗ (var 0 ⊗ var 2)) tt) in
    let e3 = (ring (sg ∷ (input ∷ (s ∷ (q ∷ (r ∷ (e ∷ [])))))) (var 0 ⊗ (var 1 ⊗ var 2 ⊕ var 3 ⊗ var 4 ⊕ var 5)) (var 2 ⊗ (var 0 ⊗ var 1) ⊕ var 0 ⊗ (var 3 ⊗ var 4 ⊕ var 5)) tt) in
    let e4 = (ring (s ∷ (gain ∷ (offset ∷ (q ∷ (e ∷ []))))) (var 0 ⊗ (var 1 ⊗ (var 3 ⊗ var 4)) ⊕ var 2 ⊗ (var 3 ⊗ var 4)) (var 3 ⊗ var 4 ⊗ (var 1 ⊗ var 0 ⊕ var 2)) tt) in
    le_cancel (q *ℤ e) move (gain *ℤ s +ℤ offset) (mul_pos q e q0 e0) (omega (arith, ints))

-- the force of a thruster with shares r0, r1, r2 of the demands
pub force_below : (q rate d n s input rounding r0 r1 r2 g0 g1 a a' b b' w : ℤ) → pos 0 <ℤ q → rate <ℤ q → pos 0 <ℤ d → pos 0 ≤ℤ s → pos 0 ≤ℤ g0 → pos 0 ≤ℤ g1 →
    ((q -ℤ rate) *ℤ n) ≤ℤ (input *ℤ s +ℤ q *ℤ rounding +ℤ (q -ℤ rate)) →
    (q *ℤ pos (unsigned_abs (a -ℤ a'))) ≤ℤ (g0 *ℤ n +ℤ q) → (q *ℤ pos (unsigned_abs (b -ℤ b'))) ≤ℤ (g1 *ℤ n +ℤ q) →
    let shares = pos (unsigned_abs r0) *ℤ g0 +ℤ pos (unsigned_abs r1) *ℤ g1 in
    (d *ℤ pos (unsigned_abs (floor_of ((r0 *ℤ a +ℤ r1 *ℤ b) +ℤ r2 *ℤ w) d -ℤ floor_of ((r0 *ℤ a' +ℤ r1 *ℤ b') +ℤ r2 *ℤ w) d)))
    ≤ℤ (ceil_of (shares *ℤ input) (q *ℤ (q -ℤ rate)) *ℤ s
    +ℤ (pos (unsigned_abs r0) +ℤ pos (unsigned_abs r1) +ℤ d +ℤ ceil_of (shares *ℤ (q *ℤ rounding +ℤ (q -ℤ rate))) (q *ℤ (q -ℤ rate))))
force_below q rate d n s input rounding r0 r1 r2 g0 g1 a a' b b' w q0 h d0 s0 k0 k1 hn ha hb =
    let q1 : pos 0 ≤ℤ q = omega (arith, ints) in
    let b0 = pos (unsigned_abs r0) in let b1 = pos (unsigned_abs r1) in
    let sg = b0 *ℤ g0 +ℤ b1 *ℤ g1 in
    let e = q -ℤ rate in
    let e0 : pos 0 <ℤ e = omega (arith, ints) in
    let qe0 = mul_pos q e q0 e0 in
    let c1 = ceil_is (sg *ℤ input) (q *ℤ e) qe0 in
    let c2 = ceil_is (sg *ℤ (q *ℤ rounding +ℤ (q -ℤ rate))) (q *ℤ e) qe0 in
    let x0 = share_below q r0 (a -ℤ a') (g0 *ℤ n +ℤ q) q1 ha in
    let x1 = share_below q r1 (b -ℤ b') (g1 *ℤ n +ℤ q) q1 hb in
    let f = force_near d r0 r1 r2 a a' b b' w d0 in
    let force = d *ℤ pos (unsigned_abs (floor_of ((r0 *ℤ a +ℤ r1 *ℤ b) +ℤ r2 *ℤ w) d -ℤ floor_of ((r0 *ℤ a' +ℤ r1 *ℤ b') +ℤ r2 *ℤ w) d)) in
    let sum = force_sum q d n b0 b1 g0 g1 (pos (unsigned_abs (r0 *ℤ (a -ℤ a')))) (pos (unsigned_abs (r1 *ℤ (b -ℤ b')))) force q1 x0 x1 f in
    let sg0 : pos 0 ≤ℤ sg = sum_low (b0 *ℤ g0) (b1 *ℤ g1) (mul_nonneg b0 g0 (omega (arith, ints)) k0) (mul_nonneg b1 g1 (omega (arith, ints)) k1) in
    let k = bound_reached q e sg input s rounding n (force -ℤ (b0 +ℤ b1 +ℤ d)) (ceil_of (sg *ℤ input) (q *ℤ e)) (ceil_of (sg *ℤ (q *ℤ rounding +ℤ (q -ℤ rate))) (q *ℤ e)) q0 e0 sg0 s0 sum hn c1.above c2.above in
    moved force (b0 +ℤ b1 +ℤ d) (ceil_of (sg *ℤ input) (q *ℤ e) *ℤ s) (ceil_of (sg *ℤ (q *ℤ rounding +ℤ (q -ℤ rate))) (q *ℤ e)) k
  where
    sum_low : (a b : ℤ) → pos 0 ≤ℤ a → pos 0 ≤ℤ b → pos 0 ≤ℤ (a +ℤ b)
    sum_low a b h k = omega (arith, ints)

    moved : (f b c o : ℤ) → (f -ℤ b) ≤ℤ (c +ℤ o) → f ≤ℤ (c +ℤ (b +ℤ o))
    moved f b c o h = omega (arith, ints)
