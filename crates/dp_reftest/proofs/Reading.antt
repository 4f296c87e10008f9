-- The verdict that is read off the sums of a window is the verdict on the window.
use Rattle.std.proofs.Common.{◌≡◌, ℕ, suc, ◌+◌, ◌-◌, ◌≤◌, Bool, true, false, List, [], ◌∷◌, length, refl, sym, ap, ◌∙◌, arith, ℤ, pos, ◌*ℤ◌}
use Rattle.std.proofs.lemmas.Bool.{lt-ltb, eq-eqb, ne_eqb, eqb-true, eqb-false}
use Rattle.std.specs.Prelude.{◌==◌, ◌&&◌, ◌||◌, ◌^◌, not, nat_lt, int_lt, cond, if◌then◌else◌}
use Rattle.dp_fixed.specs.Division.{floor_of}
use Rattle.dp_plant.specs.declared.place.Place.{Place}
use Rattle.dp_plant.specs.declared.references.RefLimits.{RefLimits}
use Rattle.dp_plant.specs.declared.references.Verdict.{Verdict}
use Rattle.dp_plant.specs.declared.references.Verdict.TheVariants.{Silent, Stale, Frozen, Jumped, Noisy, Usable}
use Rattle.dp_reftest.proofs.Spreads.{spread_is}
use Rattle.dp_reftest.specs.Running.{is_frozen_by, variance_by, verdict_by, verdict_by_samples, verdict_by_variance}
use Rattle.dp_reftest.specs.Totals.{EndsIn, is_same, neighbours_from, sums_of}
use Rattle.dp_reftest.specs.Verdict.{is_frozen, is_jump, jumps, jumps_from, newest_from, variance_of, verdict_of, weight_of}
use Rattle.dp_reftest.specs.Window.{kept_by}

-- ---- whether any neighbours jump, by how many do
one-or-more : (t : Bool) (r : Bool) (k : ℕ) → r ≡ nat_lt 0 k → (t || r) ≡ nat_lt 0 ((if t then 1 else 0) + k)
one-or-more true r k e = sym (lt-ltb 0 (1 + k) (omega arith))
one-or-more false r k e = let z : k ≡ 0 + k = omega arith in e ∙ ap (nat_lt 0) z

jumps_counted : (limit : ℤ) (a : Place) (xs : List Place) → jumps_from limit a xs ≡ nat_lt 0 (neighbours_from (is_jump limit) a xs)
jumps_counted limit a [] = refl
jumps_counted limit a (b ∷ xs) = one-or-more (is_jump limit a b) (jumps_from limit b xs) (neighbours_from (is_jump limit) b xs) (jumps_counted limit b xs)

-- ---- whether no neighbours differ, by how many are equal
same-few : (a : Place) (xs : List Place) → neighbours_from is_same a xs ≤ length xs
same-few a [] = omega arith
same-few a (b ∷ xs) = omega (arith, same-few b xs, one (is_same a b))
  where
    one : (t : Bool) → (if t then 1 else 0) ≤ 1
    one true = omega arith
    one false = omega arith

eqb-next : (m n : ℕ) (v : Bool) → (m == n) ≡ v → ((1 + m) == suc n) ≡ v
eqb-next m n true e = eq-eqb (1 + m) (suc n) (omega (arith, eqb-true m n e))
eqb-next m n false e = ne_eqb (1 + m) (suc n) (λ h. eqb-false m n e (omega arith))

all-or-fewer : (t r : Bool) (k n : ℕ) → k ≤ n → not r ≡ (k + 1 == suc n) → not (t || r) ≡ ((if not t then 1 else 0) + k + 1 == suc (suc n))
all-or-fewer true r k n h e = sym (ne_eqb (0 + k + 1) (suc (suc n)) (λ f. omega arith))
all-or-fewer false r k n h e = let z : 1 + (k + 1) ≡ 1 + k + 1 = omega arith in sym (eqb-next (k + 1) (suc n) (not r) (sym e)) ∙ ap (λ m. m == suc (suc n)) z

same_counted : (a : Place) (xs : List Place) → not (jumps_from (pos 0) a xs) ≡ (neighbours_from is_same a xs + 1 == length (a ∷ xs))
same_counted a [] = refl
same_counted a (b ∷ xs) = all-or-fewer (is_jump (pos 0) a b) (jumps_from (pos 0) b xs) (neighbours_from is_same b xs) (length xs) (same-few b xs) (same_counted b xs)

-- ---- the tests in their order
abbrev by_tests : ℕ → ℤ → Bool → Bool → Bool → ℤ → Place → Verdict
by_tests age noise stale frozen jumped variance at =
    cond stale (Stale age) (cond frozen Frozen (cond jumped Jumped (cond (int_lt noise variance) (Noisy variance) (Usable at (weight_of variance)))))

same_tests : (age : ℕ) (noise : ℤ) (stale f g j k : Bool) (v w : ℤ) (p q : Place) → f ≡ g → j ≡ k → v ≡ w → p ≡ q → by_tests age noise stale f j v p ≡ by_tests age noise stale g k w q
same_tests age noise stale f g j k v w p q a b c d =
    ap (λ z. by_tests age noise stale z j v p) a ∙ ap (λ z. by_tests age noise stale g z v p) b ∙ ap (λ z. by_tests age noise stale g k z p) c ∙ ap (λ z. by_tests age noise stale g k w z) d

variance_is : (limit : ℤ) (ps : List Place) → variance_by (sums_of limit ps) ≡ variance_of ps
unfolding variance_by sums_of
variance_is limit ps = ap (λ k. floor_of k (pos (length ps) *ℤ pos (length ps) *ℤ pos (10 ^ 12))) (sym (spread_is limit ps))

pub verdict_by_sums : (limits : RefLimits) (newest : Place) (xs : List Place) (last now : ℕ) → EndsIn newest xs →
    verdict_by limits (sums_of limits.jump xs) newest (now - last) ≡ verdict_of limits (kept_by last xs) now
unfolding sums_of verdict_of is_frozen_by verdict_by_samples verdict_by_variance
verdict_by_sums limits newest [] last now e = refl
verdict_by_sums limits newest (a ∷ xs) last now e =
    let age = now - last in let window = a ∷ xs in
    ap (λ z. cond z Silent (by_tests age limits.noise (nat_lt limits.age age) (length window == limits.window && neighbours_from is_same a xs + 1 == length window) (nat_lt 0 (neighbours_from (is_jump limits.jump) a xs)) (variance_by (sums_of limits.jump window)) newest)) (ne_eqb (length window) 0 (λ h. omega arith))
    ∙ same_tests age limits.noise (nat_lt limits.age age)
    (length window == limits.window && neighbours_from is_same a xs + 1 == length window) (is_frozen limits.window window)
    (nat_lt 0 (neighbours_from (is_jump limits.jump) a xs)) (jumps limits.jump window)
    (variance_by (sums_of limits.jump window)) (variance_of window) newest (newest_from a xs)
    (ap (λ z. length window == limits.window && z) (sym (same_counted a xs))) (sym (jumps_counted limits.jump a xs)) (variance_is limits.jump window) (sym e)
