-- A usable reference counts at least 1.
use Rattle.std.proofs.Common.{◌≡◌, ℕ, ◌≤◌, ◌-◌, List, [], ◌∷◌, Some, Bool, true, false, subst, arith, ℤ, pos, ◌≤ℤ◌}
use Rattle.std.proofs.lemmas.Int.{ints}
use Rattle.std.specs.Prelude.{cond, nat_lt, int_lt, IfSome}
use Rattle.dp_plant.specs.declared.place.Place.{Place}
use Rattle.dp_plant.specs.declared.references.RefLimits.{RefLimits}
use Rattle.dp_plant.specs.declared.references.Verdict.{Verdict}
use Rattle.dp_plant.specs.declared.references.Verdict.TheVariants.{Silent, Stale, Frozen, Jumped, Noisy, Usable}
use Rattle.dp_reftest.specs.declared.kept.Kept.{Kept}
use Rattle.dp_reftest.specs.Verdict.{is_frozen, jumps, newest_from, variance_of, verdict_of, verdict_on, weight_of}
use Rattle.dp_reftest.specs.Window.{kept_by}
use Rattle.dp_fuse.specs.declared.places.WeightedPlace.{WeightedPlace}
use Rattle.dp_fuse.specs.Places.{origin_by}

-- the weight of a verdict, if it is usable, is at least 1
IsWeighty : Verdict → Type 0
IsWeighty Silent = Unit {0}
IsWeighty (Stale age) = Unit {0}
IsWeighty Frozen = Unit {0}
IsWeighty Jumped = Unit {0}
IsWeighty (Noisy variance) = Unit {0}
IsWeighty (Usable at weight) = 1 ≤ weight

tests-weighty : (stale frozen jumped noisy : Bool) (age : ℕ) (variance : ℤ) (at : Place) (weight : ℕ) → 1 ≤ weight
    → IsWeighty (cond stale (Stale age) (cond frozen Frozen (cond jumped Jumped (cond noisy (Noisy variance) (Usable at weight)))))
unfolding IsWeighty
tests-weighty true frozen jumped noisy age variance at weight h = tt
tests-weighty false true jumped noisy age variance at weight h = tt
tests-weighty false false true noisy age variance at weight h = tt
tests-weighty false false false true age variance at weight h = tt
tests-weighty false false false false age variance at weight h = h

weight_low : (variance : ℤ) → 1 ≤ weight_of variance
weight_low variance = omega arith

verdict_on-weighty : (limits : RefLimits) (age : ℕ) (a : Place) (xs : List Place) → IsWeighty (verdict_on limits age a xs)
verdict_on-weighty limits age a xs =
    tests-weighty (nat_lt limits.age age) (is_frozen limits.window (a ∷ xs)) (jumps limits.jump (a ∷ xs)) (int_lt limits.noise (variance_of (a ∷ xs)))
    age (variance_of (a ∷ xs)) (newest_from a xs) (weight_of (variance_of (a ∷ xs))) (weight_low (variance_of (a ∷ xs)))

verdict-weighty : (limits : RefLimits) (kept : List Place) (last now : ℕ) → IsWeighty (verdict_of limits (kept_by last kept) now)
unfolding verdict_of IsWeighty
verdict-weighty limits [] last now = tt
verdict-weighty limits (a ∷ xs) last now = verdict_on-weighty limits (now - last) a xs

-- so is that of a place by it
origin-weighty : (pair lever : ℤ × ℤ) (v : Verdict) → IsWeighty v → IfSome (origin_by pair lever v) (λ p. pos 1 ≤ℤ p.weight)
unfolding IsWeighty
origin-weighty pair lever Silent h = tt
origin-weighty pair lever (Stale age) h = tt
origin-weighty pair lever Frozen h = tt
origin-weighty pair lever Jumped h = tt
origin-weighty pair lever (Noisy variance) h = tt
origin-weighty pair lever (Usable at weight) h = omega (arith, ints)

pub weight_of_origin : (pair lever : ℤ × ℤ) (limits : RefLimits) (kept : Kept) (now : ℕ) (a : WeightedPlace)
    → origin_by pair lever (verdict_of limits kept now) ≡ Some a → pos 1 ≤ℤ a.weight
weight_of_origin pair lever limits kept now a e =
    subst (λ o. IfSome o (λ p. pos 1 ≤ℤ p.weight)) e
    (origin-weighty pair lever (verdict_of limits kept now) (verdict-weighty limits kept.list.items kept.last now))
