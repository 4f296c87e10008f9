-- The way until a coordinate stands.
use Rattle.std.proofs.Common.{◌≡◌, ℕ, ◌+◌, ◌-◌, ◌≤◌, zero, suc, refl, sym, ◌∙◌, ap, [], ◌∷◌, arith, ℤ, pos, negsuc, neg_ℤ, ◌+ℤ◌, ◌-ℤ◌, ◌*ℤ◌, ◌≤ℤ◌, ◌<ℤ◌}
use Rattle.std.specs.Int.{int_max}
use Rattle.std.proofs.lemmas.Int.{ints, clamps, by_lt_z}
use Rattle.dp_form.proofs.Ring.{var, num, ◌⊕◌, ◌⊗◌, minus, ring}
use Rattle.dp_form.proofs.Order.{mul_le, mul_nonneg}
use Rattle.dp_guide.specs.Course.{ways, stopping_way}

next_multiple : (n : ℕ) (a : ℤ) → pos (suc n) *ℤ a ≡ pos n *ℤ a +ℤ a
next_multiple n a =
    let e : pos (suc n) ≡ pos n +ℤ pos 1 = omega (arith, ints) in
    ap (λ (z : ℤ). z *ℤ a) e ∙ ring (pos n ∷ (a ∷ [])) ((var 0 ⊕ num (pos 1)) ⊗ var 1) (var 0 ⊗ var 1 ⊕ var 1) tt

none_times : (a : ℤ) → pos 0 *ℤ a ≡ pos 0
none_times a = ring (a ∷ []) (num (pos 0) ⊗ var 0) (num (pos 0)) tt

-- the first part apart
pub ways_first : (n : ℕ) (v a : ℤ) → ways (suc n) v a ≡ int_max (pos 0) v +ℤ ways n (v -ℤ a) a
ways_first zero v a = let z = none_times a in omega (arith, ints, clamps)
ways_first (suc n) v a =
    let ih = ways_first n v a in
    let e = next_multiple n a in
    omega (arith, ints, clamps)

pub ways_nonneg : (n : ℕ) (v a : ℤ) → pos 0 ≤ℤ ways n v a
ways_nonneg zero v a = omega (arith, ints)
ways_nonneg (suc n) v a = let ih = ways_nonneg n v a in omega (arith, ints, clamps)

pub ways_monotone : (n : ℕ) (v w a : ℤ) → v ≤ℤ w → ways n v a ≤ℤ ways n w a
ways_monotone zero v w a h = omega (arith, ints)
ways_monotone (suc n) v w a h = let ih = ways_monotone n v w a h in omega (arith, ints, clamps)

pub ways_none : (n : ℕ) (v a : ℤ) → pos 0 ≤ℤ a → v ≤ℤ pos 0 → ways n v a ≡ pos 0
ways_none zero v a p h = refl
ways_none (suc n) v a p h =
    let ih = ways_none n v a p h in
    let m = mul_nonneg (pos n) a (omega (arith, ints)) p in
    omega (arith, ints, clamps)

-- parts past the v-th add nothing
pub ways_more : (n k : ℕ) (v a : ℤ) → pos 1 ≤ℤ a → v ≤ℤ pos n → ways (k + n) v a ≡ ways n v a
ways_more n zero v a p h = let e : 0 + n ≡ n = omega arith in ap (λ (k : ℕ). ways k v a) e
ways_more n (suc k) v a p h =
    let ih = ways_more n k v a p h in
    let m = mul_le (pos (k + n)) (pos 1) a (omega (arith, ints)) p in
    let e : suc k + n ≡ suc (k + n) = omega arith in
    let f : ways (suc (k + n)) v a ≡ ways n v a = omega (arith, ints, clamps) in
    ap (λ (j : ℕ). ways j v a) e ∙ f

ways_enough : (n m : ℕ) (v a : ℤ) → pos 1 ≤ℤ a → v ≤ℤ pos n → n ≤ m → ways m v a ≡ ways n v a
ways_enough n m v a p h l =
    let e : m ≡ (m - n) + n = omega arith in
    ap (λ (k : ℕ). ways k v a) e ∙ ways_more n (m - n) v a p h

-- of a velocity from 0 up, any number of parts from v on serves
pub stopping_is : (v a : ℤ) (n : ℕ) → pos 1 ≤ℤ a → pos 0 ≤ℤ v → v ≤ℤ pos n → stopping_way v a ≡ ways n v a
stopping_is (pos m) a n p l h = sym (ways_enough m n (pos m) a p (omega (arith, ints)) (omega (arith, ints)))
stopping_is (negsuc m) a n p l h = absurd (omega (arith, ints))

pub stopping_turned : (v a : ℤ) → stopping_way (neg_ℤ v) a ≡ neg_ℤ (stopping_way v a)
stopping_turned (pos zero) a = refl
stopping_turned (pos (suc n)) a = refl
stopping_turned (negsuc n) a = omega (arith, ints)

pub stopping_nonneg : (v a : ℤ) → pos 0 ≤ℤ v → pos 0 ≤ℤ stopping_way v a
stopping_nonneg (pos n) a h = ways_nonneg n (pos n) a
stopping_nonneg (negsuc n) a h = absurd (omega (arith, ints))

pub stopping_nonpos : (v a : ℤ) → v ≤ℤ pos 0 → stopping_way v a ≤ℤ pos 0
stopping_nonpos (pos zero) a h = omega (arith, ints)
stopping_nonpos (pos (suc n)) a h = absurd (omega (arith, ints))
stopping_nonpos (negsuc n) a h = let m = ways_nonneg (suc n) (pos (suc n)) a in omega (arith, ints)

stopping_up : (v w a : ℤ) → pos 1 ≤ℤ a → pos 0 ≤ℤ v → v ≤ℤ w → stopping_way v a ≤ℤ stopping_way w a
stopping_up v (pos n) a p l h =
    let e = stopping_is v a n p l h in
    let m = ways_monotone n v (pos n) a h in
    omega (arith, ints)
stopping_up v (negsuc n) a p l h = absurd (omega (arith, ints))

pub stopping_monotone : (v w a : ℤ) → pos 1 ≤ℤ a → v ≤ℤ w → stopping_way v a ≤ℤ stopping_way w a
stopping_monotone v w a p h = by_lt_z v (pos 0)
    (λ below. by_lt_z w (pos 0)
    (λ both.
    let m = stopping_up (neg_ℤ w) (neg_ℤ v) a p (omega (arith, ints)) (omega (arith, ints)) in
    let e = stopping_turned v a in
    let f = stopping_turned w a in
    omega (arith, ints))
    (λ up. let m = stopping_nonpos v a (omega (arith, ints)) in let k = stopping_nonneg w a up in omega (arith, ints)))
    (λ up. stopping_up v w a p up h)

-- with a velocity from accel up: this cycle's way, and that from accel less
pub stopping_step : (v a : ℤ) → pos 1 ≤ℤ a → a ≤ℤ v → stopping_way v a ≡ v +ℤ stopping_way (v -ℤ a) a
stopping_step (pos zero) a p h = absurd (omega (arith, ints))
stopping_step (pos (suc n)) a p h =
    let f = ways_first n (pos (suc n)) a in
    let e = stopping_is (pos (suc n) -ℤ a) a n p (omega (arith, ints)) (omega (arith, ints)) in
    omega (arith, ints, clamps)
stopping_step (negsuc n) a p h = absurd (omega (arith, ints))

-- a velocity up to accel stops at once
pub stopping_small : (v a : ℤ) → pos 1 ≤ℤ a → pos 0 ≤ℤ v → v ≤ℤ a → stopping_way v a ≡ v
stopping_small (pos zero) a p l h = refl
stopping_small (pos (suc n)) a p l h =
    let f = ways_first n (pos (suc n)) a in
    let e = ways_none n (pos (suc n) -ℤ a) a (omega (arith, ints)) (omega (arith, ints)) in
    omega (arith, ints, clamps)
stopping_small (negsuc n) a p l h = absurd (omega (arith, ints))

pub stopping_more : (v a : ℤ) → pos 1 ≤ℤ a → pos 0 ≤ℤ v → v ≤ℤ stopping_way v a
stopping_more v a p l = by_lt_z v a
    (λ small. let e = stopping_small v a p l (omega (arith, ints)) in omega (arith, ints))
    (λ fast.
    let e = stopping_step v a p fast in
    let m = stopping_nonneg (v -ℤ a) a (omega (arith, ints)) in
    omega (arith, ints))

-- ---- the closed form

-- k parts that are all from 0 up
pub ways_closed : (k : ℕ) (v a : ℤ) → pos 0 ≤ℤ a → (pos k *ℤ a) ≤ℤ (v +ℤ a) → pos 2 *ℤ ways k v a ≡ pos 2 *ℤ (pos k *ℤ v) -ℤ a *ℤ (pos k *ℤ (pos k -ℤ pos 1))
ways_closed zero v a p h = ring (v ∷ (a ∷ [])) (num (pos 2) ⊗ num (pos 0)) (num (pos 2) ⊗ (num (pos 0) ⊗ var 0) ⊕ minus (var 1 ⊗ (num (pos 0) ⊗ (num (pos 0) ⊕ minus (num (pos 1)))))) tt
ways_closed (suc k) v a p h =
    let e = next_multiple k a in
    let ih = ways_closed k v a p (omega (arith, ints)) in
    let o : pos (suc k) ≡ pos k +ℤ pos 1 = omega (arith, ints) in
    let part : int_max (pos 0) (v -ℤ pos k *ℤ a) ≡ v -ℤ pos k *ℤ a = omega (arith, ints, clamps) in
    let sum : pos 2 *ℤ (ways k v a +ℤ (v -ℤ pos k *ℤ a)) ≡ pos 2 *ℤ ways k v a +ℤ pos 2 *ℤ (v -ℤ pos k *ℤ a) = ring (ways k v a ∷ (v ∷ (pos k ∷ (a ∷ [])))) (num (pos 2) ⊗ (var 0 ⊕ (var 1 ⊕ minus (var 2 ⊗ var 3)))) (num (pos 2) ⊗ var 0 ⊕ num (pos 2) ⊗ (var 1 ⊕ minus (var 2 ⊗ var 3))) tt in
    let on : pos 2 *ℤ (pos k *ℤ v) -ℤ a *ℤ (pos k *ℤ (pos k -ℤ pos 1)) +ℤ pos 2 *ℤ (v -ℤ pos k *ℤ a) ≡ pos 2 *ℤ ((pos k +ℤ pos 1) *ℤ v) -ℤ a *ℤ ((pos k +ℤ pos 1) *ℤ ((pos k +ℤ pos 1) -ℤ pos 1)) = ring (v ∷ (a ∷ (pos k ∷ []))) (num (pos 2) ⊗ (var 2 ⊗ var 0) ⊕ minus (var 1 ⊗ (var 2 ⊗ (var 2 ⊕ minus (num (pos 1))))) ⊕ num (pos 2) ⊗ (var 0 ⊕ minus (var 2 ⊗ var 1))) (num (pos 2) ⊗ ((var 2 ⊕ num (pos 1)) ⊗ var 0) ⊕ minus (var 1 ⊗ ((var 2 ⊕ num (pos 1)) ⊗ ((var 2 ⊕ num (pos 1)) ⊕ minus (num (pos 1)))))) tt in
    ap (λ (z : ℤ). pos 2 *ℤ (ways k v a +ℤ z)) part ∙ sum ∙ ap (λ (z : ℤ). z +ℤ pos 2 *ℤ (v -ℤ pos k *ℤ a)) ih ∙ on ∙ ap (λ (z : ℤ). pos 2 *ℤ (z *ℤ v) -ℤ a *ℤ (z *ℤ (z -ℤ pos 1))) (sym o)

-- parts past the k-th add nothing, where k times accel is at least v
ways_past : (k j : ℕ) (v a : ℤ) → pos 0 ≤ℤ a → v ≤ℤ (pos k *ℤ a) → ways (j + k) v a ≡ ways k v a
ways_past k zero v a p h = let e : 0 + k ≡ k = omega arith in ap (λ (m : ℕ). ways m v a) e
ways_past k (suc j) v a p h =
    let ih = ways_past k j v a p h in
    let m = mul_nonneg (pos j) a (omega (arith, ints)) p in
    let e : pos (j + k) *ℤ a ≡ pos j *ℤ a +ℤ pos k *ℤ a = ring (pos j ∷ (pos k ∷ (a ∷ []))) ((var 0 ⊕ var 1) ⊗ var 2) (var 0 ⊗ var 2 ⊕ var 1 ⊗ var 2) tt in
    let o : suc j + k ≡ suc (j + k) = omega arith in
    let f : ways (suc (j + k)) v a ≡ ways k v a = omega (arith, ints, clamps) in
    ap (λ (m : ℕ). ways m v a) o ∙ f

-- with k the ceiling of v / accel
pub stopping_closed : (v a : ℤ) (k : ℕ) → pos 1 ≤ℤ a → pos 0 ≤ℤ v → v ≤ℤ (pos k *ℤ a) → (pos k *ℤ a) <ℤ (v +ℤ a) → pos 2 *ℤ stopping_way v a ≡ pos 2 *ℤ (pos k *ℤ v) -ℤ a *ℤ (pos k *ℤ (pos k -ℤ pos 1))
stopping_closed (pos n) a k p l h g =
    let e = stopping_is (pos n) a (n + k) p l (omega (arith, ints)) in
    let f = ways_past k n (pos n) a (omega (arith, ints)) h in
    ap (λ (z : ℤ). pos 2 *ℤ z) (e ∙ f) ∙ ways_closed k (pos n) a (omega (arith, ints)) (omega (arith, ints))
stopping_closed (negsuc n) a k p l h g = absurd (omega (arith, ints))

-- the ceiling of v / accel is at most v
pub few_parts : (v a k : ℤ) → pos 1 ≤ℤ a → pos 0 ≤ℤ v → (k *ℤ a) <ℤ (v +ℤ a) → v ≤ℤ (k *ℤ a) → (pos 0 ≤ℤ k) × (k ≤ℤ v)
few_parts v a k p l h g = (from_zero k g, by_lt_z v k (λ more. past more) (λ few. few))
  where
    from_zero : (k : ℤ) → v ≤ℤ (k *ℤ a) → pos 0 ≤ℤ k
    from_zero k g = by_lt_z k (pos 0)
        (λ below.
        let m = mul_le a k (negsuc 0) (omega (arith, ints)) (omega (arith, ints)) in
        let e : a *ℤ k ≡ k *ℤ a = ring (a ∷ (k ∷ [])) (var 0 ⊗ var 1) (var 1 ⊗ var 0) tt in
        absurd (omega (arith, ints)))
        (λ up. up)

    past : v <ℤ k → k ≤ℤ v
    past more =
        let m = mul_le (k -ℤ pos 1) (pos 1) a (omega (arith, ints)) p in
        let e : (k -ℤ pos 1) *ℤ a ≡ k *ℤ a -ℤ a = ring (k ∷ (a ∷ [])) ((var 0 ⊕ minus (num (pos 1))) ⊗ var 1) (var 0 ⊗ var 1 ⊕ minus (var 1)) tt in
        absurd (omega (arith, ints))

pub stopping_closed_at : (v a k : ℤ) → pos 1 ≤ℤ a → pos 0 ≤ℤ v → v ≤ℤ (k *ℤ a) → (k *ℤ a) <ℤ (v +ℤ a) → pos 2 *ℤ stopping_way v a ≡ pos 2 *ℤ (k *ℤ v) -ℤ a *ℤ (k *ℤ (k -ℤ pos 1))
stopping_closed_at v a (pos k) p l h g = stopping_closed v a k p l h g
stopping_closed_at v a (negsuc k) p l h g = let few = few_parts v a (negsuc k) p l g h in absurd (omega (arith, ints, few.0))
