-- Drift keeps its sign, does not fall, and grows with what is lacking.
use Rattle.std.proofs.Common.{◌≡◌, ◌≤◌, ◌<◌, ◌⊎◌, ⊎_elim, ℕ, ◌+◌, ◌*◌, zero, suc, subst, ap, [], ◌∷◌, arith, ℤ, pos, neg_ℤ, ◌+ℤ◌, ◌-ℤ◌, ◌*ℤ◌, ◌≤ℤ◌, ◌<ℤ◌, unsigned_abs}
use Rattle.std.specs.Int.{int_max}
use Rattle.std.proofs.lemmas.Int.{ints, clamps, by_lt_z}
use Rattle.dp_form.proofs.Ring.{var, num, ◌⊕◌, ◌⊗◌, minus, ring}
use Rattle.dp_form.proofs.Order.{mul_le}
use Rattle.dp_fixed.specs.{full_scale}
use Rattle.dp_fixed.specs.{floor_of}
use Rattle.dp_fixed.proofs.Divisions.{floor_monotone}
use Rattle.dp_drift.specs.Drift.{lacking, reach_after, velocity_next, velocity_after, way_after}
use Rattle.dp_drift.specs.Laws.{IsFirstPast}

pub next_monotone : (damp u w v x : ℤ) → damp ≤ℤ full_scale → u ≤ℤ w → v ≤ℤ x → velocity_next damp u v ≤ℤ velocity_next damp w x
next_monotone damp u w v x d h k =
    let a = mul_le (full_scale -ℤ damp) v x (omega (arith, ints)) k in
    let b = mul_le full_scale u w (omega (arith, ints)) h in
    floor_monotone _ _ full_scale (omega (arith, ints)) (omega (arith, ints))

next_zero : (damp : ℤ) → velocity_next damp (pos 0) (pos 0) ≡ pos 0
next_zero damp =
    let e : (full_scale -ℤ damp) *ℤ pos 0 +ℤ full_scale *ℤ pos 0 ≡ pos 0 = ring (damp ∷ []) ((num full_scale ⊕ minus (var 0)) ⊗ num (pos 0) ⊕ num full_scale ⊗ num (pos 0)) (num (pos 0)) tt in
    ap (λ (z : ℤ). floor_of z full_scale) e

pub velocity_up : (damp u : ℤ) (n : ℕ) → damp ≤ℤ full_scale → pos 0 ≤ℤ u → pos 0 ≤ℤ velocity_after damp u n
velocity_up damp u zero d h = omega (arith, ints)
velocity_up damp u (suc n) d h =
    let m = next_monotone damp (pos 0) u (pos 0) (velocity_after damp u n) d h (velocity_up damp u n d h) in
    subst (λ (z : ℤ). z ≤ℤ velocity_after damp u (suc n)) (next_zero damp) m

pub velocity_down : (damp u : ℤ) (n : ℕ) → damp ≤ℤ full_scale → u ≤ℤ pos 0 → velocity_after damp u n ≤ℤ pos 0
velocity_down damp u zero d h = omega (arith, ints)
velocity_down damp u (suc n) d h =
    let m = next_monotone damp u (pos 0) (velocity_after damp u n) (pos 0) d h (velocity_down damp u n d h) in
    subst (λ (z : ℤ). velocity_after damp u (suc n) ≤ℤ z) (next_zero damp) m

pub velocity_monotone : (damp u w : ℤ) (n : ℕ) → damp ≤ℤ full_scale → u ≤ℤ w → velocity_after damp u n ≤ℤ velocity_after damp w n
velocity_monotone damp u w zero d h = omega (arith, ints)
velocity_monotone damp u w (suc n) d h = next_monotone damp u w (velocity_after damp u n) (velocity_after damp w n) d h (velocity_monotone damp u w n d h)

pub way_up : (damp u : ℤ) (n : ℕ) → damp ≤ℤ full_scale → pos 0 ≤ℤ u → pos 0 ≤ℤ way_after damp u n
way_up damp u zero d h = omega (arith, ints)
way_up damp u (suc n) d h = let i = way_up damp u n d h in let v = velocity_up damp u (suc n) d h in omega (arith, ints, i, v)

pub way_down : (damp u : ℤ) (n : ℕ) → damp ≤ℤ full_scale → u ≤ℤ pos 0 → way_after damp u n ≤ℤ pos 0
way_down damp u zero d h = omega (arith, ints)
way_down damp u (suc n) d h = let i = way_down damp u n d h in let v = velocity_down damp u (suc n) d h in omega (arith, ints, i, v)

pub way_monotone : (damp u w : ℤ) (n : ℕ) → damp ≤ℤ full_scale → u ≤ℤ w → way_after damp u n ≤ℤ way_after damp w n
way_monotone damp u w zero d h = omega (arith, ints)
way_monotone damp u w (suc n) d h = let i = way_monotone damp u w n d h in let v = velocity_monotone damp u w (suc n) d h in omega (arith, ints, i, v)

pub never_falls : (damp u : ℤ) (n : ℕ) → pos 0 ≤ℤ damp → damp ≤ℤ full_scale → unsigned_abs (way_after damp u n) ≤ unsigned_abs (way_after damp u (suc n))
never_falls damp u n low d = by_lt_z u (pos 0)
    (λ below. let w = way_down damp u n d (omega (arith, ints)) in let v = velocity_down damp u (suc n) d (omega (arith, ints)) in farther_down (way_after damp u n) (velocity_after damp u (suc n)) w v)
    (λ up. let w = way_up damp u n d up in let v = velocity_up damp u (suc n) d up in farther_up (way_after damp u n) (velocity_after damp u (suc n)) w v)
  where
    farther_down : (x v : ℤ) → x ≤ℤ pos 0 → v ≤ℤ pos 0 → unsigned_abs x ≤ unsigned_abs (x +ℤ v)
    farther_down x v h k = omega (arith, ints)

    farther_up : (x v : ℤ) → pos 0 ≤ℤ x → pos 0 ≤ℤ v → unsigned_abs x ≤ unsigned_abs (x +ℤ v)
    farther_up x v h k = omega (arith, ints)

smaller_up : (x y : ℤ) → pos 0 ≤ℤ x → x ≤ℤ y → unsigned_abs x ≤ unsigned_abs y
smaller_up x y h k = omega (arith, ints)

smaller_down : (x y : ℤ) → x ≤ℤ pos 0 → y ≤ℤ x → unsigned_abs x ≤ unsigned_abs y
smaller_down x y h k = omega (arith, ints)

pub larger_box : (damp mean lo hi wide_lo wide_hi : ℤ) (n : ℕ) → pos 0 ≤ℤ damp → damp ≤ℤ full_scale → lo ≤ℤ hi → wide_lo ≤ℤ lo → hi ≤ℤ wide_hi
    → unsigned_abs (way_after damp (lacking mean wide_lo wide_hi) n) ≤ unsigned_abs (way_after damp (lacking mean lo hi) n)
larger_box damp mean lo hi wide_lo wide_hi n low d h k l = by_lt_z (lacking mean lo hi) (pos 0)
    (λ below. smaller_down _ _ (way_down damp (lacking mean wide_lo wide_hi) n d (omega (arith, ints, clamps))) (way_monotone damp (lacking mean lo hi) (lacking mean wide_lo wide_hi) n d (omega (arith, ints, clamps))))
    (λ up. smaller_up _ _ (way_up damp (lacking mean wide_lo wide_hi) n d (omega (arith, ints, clamps))) (way_monotone damp (lacking mean wide_lo wide_hi) (lacking mean lo hi) n d (omega (arith, ints, clamps))))

pub past_later : (damp limit surge sway lo0 hi0 lo1 hi1 wide_lo0 wide_hi0 wide_lo1 wide_hi1 : ℤ) (n m : ℕ) → pos 0 ≤ℤ damp → damp ≤ℤ full_scale
    → lo0 ≤ℤ hi0 → wide_lo0 ≤ℤ lo0 → hi0 ≤ℤ wide_hi0 → lo1 ≤ℤ hi1 → wide_lo1 ≤ℤ lo1 → hi1 ≤ℤ wide_hi1
    → IsFirstPast damp limit (lacking surge lo0 hi0) (lacking sway lo1 hi1) n
    → IsFirstPast damp limit (lacking surge wide_lo0 wide_hi0) (lacking sway wide_lo1 wide_hi1) m
    → n ≤ m
past_later damp limit surge sway lo0 hi0 lo1 hi1 wide_lo0 wide_hi0 wide_lo1 wide_hi1 n m z d h0 k0 l0 h1 k1 l1 f g = ⊎_elim (λ a. a)
    (λ b.
    let kept = f.first m b in
    let x = larger_box damp surge lo0 hi0 wide_lo0 wide_hi0 m z d h0 k0 l0 in
    let y = larger_box damp sway lo1 hi1 wide_lo1 wide_hi1 m z d h1 k1 l1 in
    absurd (over (way_after damp (lacking surge wide_lo0 wide_hi0) m) (way_after damp (lacking surge lo0 hi0) m) (way_after damp (lacking sway wide_lo1 wide_hi1) m) (way_after damp (lacking sway lo1 hi1) m) limit x y kept g.past))
    (either n m)
  where
    either : (a b : ℕ) → (a ≤ b) ⊎ (b < a)
    either a b = grind arith

    over : (a b c d limit : ℤ) → unsigned_abs a ≤ unsigned_abs b → unsigned_abs c ≤ unsigned_abs d → int_max (pos (unsigned_abs b)) (pos (unsigned_abs d)) ≤ℤ limit → limit <ℤ int_max (pos (unsigned_abs a)) (pos (unsigned_abs c)) → ⊥
    over a b c d limit h k l m = omega (arith, ints, clamps)
