-- One cycle more of a drift, and the first cycle past the limit.
use Rattle.std.proofs.Common.{◌≡◌, refl, sym, ◌≤◌, ◌<◌, ◌^◌, ◌⊎◌, ⊎_elim, ℕ, ◌+◌, ◌-◌, zero, suc, subst, ap, ◌∙◌, arith, ℤ, pos, ◌+ℤ◌, ◌≤ℤ◌, ◌<ℤ◌, unsigned_abs, Bool, true, false, int_lt, Option, Some, None, find, List, [], ◌∷◌, if◌then◌else◌}
use Rattle.std.specs.Int.{int_max}
use Rattle.std.proofs.lemmas.Int.{ints, clamps, by_lt_z}
use Rattle.dp_drift.specs.declared.drift.Drift.{Drift}
use Rattle.dp_drift.specs.declared.drift.Drift.TheVariants.{Held, Past, Within}
use Rattle.dp_drift.specs.Drift.{drift_by, first_past, is_held, is_past, past_or_within, reach_after, velocity_next, velocity_after, way_after}
use Rattle.dp_drift.specs.Laws.{IsKept, IsFirstPast}
use Rattle.dp_drift.proofs.Firsts.{found, found_first, lost}

pub velocity_more : (damp u v z : ℤ) (i : ℕ) → v ≡ velocity_after damp u i → z ≡ velocity_next damp u v → z ≡ velocity_after damp u (i + 1)
velocity_more damp u v z i e f =
    let s : suc i ≡ i + 1 = omega arith in
    f ∙ ap (velocity_next damp u) e ∙ ap (velocity_after damp u) s

pub way_more : (damp u x z y : ℤ) (i : ℕ) → x ≡ way_after damp u i → z ≡ velocity_after damp u (i + 1) → y ≡ x +ℤ z → y ≡ way_after damp u (i + 1)
way_more damp u x z y i e f g =
    let s : suc i ≡ i + 1 = omega arith in
    let h : x +ℤ z ≡ way_after damp u i +ℤ velocity_after damp u (suc i) = let q = ap (velocity_after damp u) s in omega (arith, ints, e, f, q) in
    g ∙ h ∙ ap (way_after damp u) s

pub reach_more : (damp u w x y far : ℤ) (i : ℕ) → x ≡ way_after damp u i → y ≡ way_after damp w i → far ≡ int_max (pos (unsigned_abs x)) (pos (unsigned_abs y)) → far ≡ reach_after damp u w i
reach_more damp u w x y far i e f g = g ∙ ap (λ (z : ℤ). int_max (pos (unsigned_abs z)) (pos (unsigned_abs y))) e ∙ ap (λ (z : ℤ). int_max (pos (unsigned_abs (way_after damp u i))) (pos (unsigned_abs z))) f

pub kept_none : (damp limit u w : ℤ) → pos 0 ≤ℤ limit → IsKept damp limit u w 0
kept_none damp limit u w l zero h = omega (arith, ints, clamps, l)
kept_none damp limit u w l (suc k) h = absurd (omega arith)

pub kept_more : (damp limit u w far : ℤ) (i : ℕ) → IsKept damp limit u w i → far ≡ reach_after damp u w (i + 1) → far ≤ℤ limit → IsKept damp limit u w (i + 1)
kept_more damp limit u w far i kept e l k h = ⊎_elim
    (λ below. kept k below)
    (λ last. let o : i + 1 ≡ k = omega (arith, last) in
    subst (λ (m : ℕ). reach_after damp u w m ≤ℤ limit) o (subst (λ (z : ℤ). z ≤ℤ limit) e l))
    (either k i h)
  where
    either : (k i : ℕ) → k ≤ i + 1 → (k ≤ i) ⊎ (i + 1 ≤ k)
    either k i h = grind arith

pub first_of : (damp limit u w far : ℤ) (i : ℕ) → IsKept damp limit u w i → far ≡ reach_after damp u w (i + 1) → limit <ℤ far → IsFirstPast damp limit u w (i + 1)
first_of damp limit u w far i kept e l = record {
  past = subst (λ (z : ℤ). limit <ℤ z) e l;
  first = λ k h. kept k (omega (arith, h));
}

-- the velocity is the way's step
pub step_small : (x v y : ℤ) → y ≡ x +ℤ v → unsigned_abs x ≤ 2 ^ 63 → unsigned_abs y ≤ 2 ^ 63 → unsigned_abs v ≤ 2 ^ 65
step_small x v y e h k = omega (arith, ints)

pub both_small : (limit x y far : ℤ) → far ≡ int_max (pos (unsigned_abs x)) (pos (unsigned_abs y)) → far ≤ℤ limit → limit <ℤ pos (2 ^ 63) → (unsigned_abs x ≤ 2 ^ 63) × (unsigned_abs y ≤ 2 ^ 63)
both_small limit x y far e h k = (omega (arith, ints, clamps), omega (arith, ints, clamps))

not_past : (limit a : ℤ) → a ≤ℤ limit → int_lt limit a ≡ false
not_past limit a h = grind (arith, ints)

past : (limit a : ℤ) → limit <ℤ a → int_lt limit a ≡ true
past limit a h = grind (arith, ints)

past_is : (limit a : ℤ) → int_lt limit a ≡ true → limit <ℤ a
past_is limit a h = grind (arith, ints)

not_past_is : (limit a : ℤ) → int_lt limit a ≡ false → a ≤ℤ limit
not_past_is limit a h = grind (arith, ints)

pub first_found : (damp limit u w : ℤ) (cycles n : ℕ) → 1 ≤ n → n ≤ cycles → IsFirstPast damp limit u w n → first_past damp limit u w cycles ≡ Some n
first_found damp limit u w cycles n one most first =
    found (is_past damp limit u w) cycles 1 n one (omega (arith, most)) (past limit (reach_after damp u w n) first.past) (λ k a b. not_past limit (reach_after damp u w k) (first.first k b))

pub none_found : (damp limit u w : ℤ) (cycles : ℕ) → IsKept damp limit u w cycles → first_past damp limit u w cycles ≡ None
none_found damp limit u w cycles kept =
    lost (is_past damp limit u w) cycles 1 (λ k a b. not_past limit (reach_after damp u w k) (kept k (omega (arith, b))))

-- ---- what the drift tells

from_rest : (damp limit u w : ℤ) → pos 0 ≤ℤ limit → reach_after damp u w 0 ≤ℤ limit
from_rest damp limit u w l = kept_none damp limit u w l 0 (omega arith)

earlier : (damp limit u w : ℤ) (n : ℕ) → pos 0 ≤ℤ limit → ((k : ℕ) → 1 ≤ k → k < n → is_past damp limit u w k ≡ false) → (k : ℕ) → k < n → reach_after damp u w k ≤ℤ limit
earlier damp limit u w n l before zero h = from_rest damp limit u w l
earlier damp limit u w n l before (suc k) h = not_past_is limit (reach_after damp u w (suc k)) (before (suc k) (omega arith) h)

told : (damp limit u w : ℤ) (cycles n : ℕ) (at : List ℤ) (r : Option ℕ) → pos 0 ≤ℤ limit → first_past damp limit u w cycles ≡ r → past_or_within r at ≡ Past n → (n ≤ cycles) × IsFirstPast damp limit u w n
told damp limit u w cycles n at None l e d = absurd (apart at n d)
  where
    apart : (at : List ℤ) (n : ℕ) → Within at ≡ Past n → ⊥
    apart at n d = cc
told damp limit u w cycles n at (Some m) l e d =
    let same : m ≡ n = cycle_is m n d in
    let f = found_first (is_past damp limit u w) cycles 1 n (e ∙ ap Some same) in
    let high = f.high in
    (omega (arith, high), record { past = past_is limit (reach_after damp u w n) f.passes; first = earlier damp limit u w n l f.before })
  where
    cycle_is : (m n : ℕ) → Past m ≡ Past n → m ≡ n
    cycle_is m n d = cc

pub past_is_first : (damp limit u w : ℤ) (cycles n : ℕ) → pos 0 ≤ℤ limit → drift_by damp limit u w cycles ≡ Past n → (n ≤ cycles) × IsFirstPast damp limit u w n
unfolding drift_by
past_is_first damp limit u w cycles n l d = by_held (is_held u w) d
  where
    apart : (n : ℕ) → Held ≡ Past n → ⊥
    apart n d = cc

    by_held : (b : Bool) → (if b then Held else past_or_within (first_past damp limit u w cycles) (way_after damp u cycles ∷ way_after damp w cycles ∷ [])) ≡ Past n → (n ≤ cycles) × IsFirstPast damp limit u w n
    by_held true d = absurd (apart n d)
    by_held false d = told damp limit u w cycles n (way_after damp u cycles ∷ way_after damp w cycles ∷ []) (first_past damp limit u w cycles) l refl d

pub past_drift : (damp limit u w : ℤ) (cycles n : ℕ) → is_held u w ≡ false → 1 ≤ n → n ≤ cycles → IsFirstPast damp limit u w n → Past n ≡ drift_by damp limit u w cycles
unfolding drift_by
past_drift damp limit u w cycles n free one most first =
    rw free (sym (ap (λ r. past_or_within r (way_after damp u cycles ∷ way_after damp w cycles ∷ [])) (first_found damp limit u w cycles n one most first)))

pub within_drift : (damp limit u w : ℤ) (cycles : ℕ) → is_held u w ≡ false → IsKept damp limit u w cycles → Within (way_after damp u cycles ∷ way_after damp w cycles ∷ []) ≡ drift_by damp limit u w cycles
unfolding drift_by
within_drift damp limit u w cycles free kept =
    rw free (sym (ap (λ r. past_or_within r (way_after damp u cycles ∷ way_after damp w cycles ∷ [])) (none_found damp limit u w cycles kept)))
