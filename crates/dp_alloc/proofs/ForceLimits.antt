-- Each force that meets a demand in the box is within its thruster's limits.
use Rattle.std.proofs.Common.{◌≡◌, ◌<◌, ◌==◌, ℕ, zero, suc, List, [], ◌∷◌, length, get_or, map, All, Bool, true, false, Option, Some, None, IfSome, refl, sym, ◌∙◌, ap, subst, arith, ℤ, pos, if◌then◌else◌, slice_get}
use Rattle.std.proofs.lemmas.Bool.{eqb-true}
use Rattle.std.proofs.lemmas.Int.{ints}
use Rattle.std.proofs.lemmas.List.{length-map}
use Rattle.std.proofs.lemmas.Option.{get_or_from_slice_get, slice_get-get_or, slice_get_within}
use Rattle.dp_plant.specs.Cases.{IsInBox, box_of, case_of, is_lost}
use Rattle.dp_plant.specs.PlantRanges.{IsCaseWithin, IsThrusterWithin}
use Rattle.dp_plant.specs.declared.plant.Plant.{Plant}
use Rattle.dp_plant.specs.declared.thrusters.RawCase.{RawCase}
use Rattle.dp_plant.specs.declared.thrusters.Thruster.{Thruster}
use Rattle.dp_plant.proofs.PlantFacts.{plant_thrusters, some_case_within}
use Rattle.dp_alloc.specs.Conditions.{case_fault, limits_of}
use Rattle.dp_alloc.specs.Laws.{ForcesAreWithinLimits, IsForceWithin}
use Rattle.dp_alloc.specs.Ranges.{IsWithinLimits}
use Rattle.dp_alloc.specs.Thrust.{forces_of, thrust_of}
use Rattle.dp_alloc.proofs.Accepting.{allowed_of, at_place}
use Rattle.dp_alloc.proofs.Effects.{blank}
use Rattle.dp_alloc.proofs.Forces.{forces_within}
use Rattle.dp_alloc.proofs.KeptCases.{found, none_faulty, tested}

inside_by : (t : Thruster) (f : ℤ) (b : Bool) → IsThrusterWithin t → IsWithinLimits (if b then (pos 0, pos 0) else (t.min, t.max)) f → IsWithinLimits (t.min, t.max) f
inside_by t f true within is = record { low = omega (arith, ints, within.below, is.low, is.high); high = omega (arith, ints, within.above, is.low, is.high) }
inside_by t f false within is = is

-- the limits while groups are lost lie within a thruster's own, and hold zero
inside : (lost : ℕ) (t : Thruster) (f : ℤ) → IsThrusterWithin t → IsWithinLimits (limits_of lost t) f → IsWithinLimits (t.min, t.max) f
inside lost t f within is = inside_by t f (is_lost lost t.group) within is

zero_by : (t : Thruster) (b : Bool) → IsThrusterWithin t → IsWithinLimits (if b then (pos 0, pos 0) else (t.min, t.max)) (pos 0)
zero_by t true within = record { low = omega (arith, ints); high = omega (arith, ints) }
zero_by t false within = record { low = within.below; high = within.above }

-- ---- the thruster of a number
thruster_at : (ts : List Thruster) (k : ℕ) → k < length ts → slice_get ts k ≡ Some (get_or ts k blank)
thruster_at ts k l = slice_get-get_or ts k blank l

force_by : (p : Plant) (lost k : ℕ) (f : ℤ) (t : Thruster) → All IsThrusterWithin p.thrusters.items → slice_get p.thrusters.items k ≡ Some t
    → IsWithinLimits (limits_of lost t) f → (case_of p lost ≡ None → f ≡ pos 0) → IsForceWithin p lost k f
force_by p lost k f t all is within idle = record {
  thruster = t;
  is = is;
  limits = within;
  within = inside lost t f (at_place IsThrusterWithin p.thrusters.items k t all is) within;
  idle = idle;
}

-- ---- without a case
all_zero : (ts : List Thruster) → All (λ (g : ℤ). g ≡ pos 0) (map (λ t. pos 0) ts)
all_zero [] k d l = absurd (omega (arith, l))
all_zero (t ∷ ts) zero d l = refl
all_zero (t ∷ ts) (suc k) d l = all_zero ts k d (omega (arith, l))

in_map : {X : Type 0} (v : X → ℤ) (xs : List X) (k : ℕ) (f : ℤ) → slice_get (map v xs) k ≡ Some f → k < length xs
in_map v xs k f h = subst (λ (n : ℕ). k < n) (length-map xs v) (slice_get_within (map v xs) k f h)

idle_force : (p : Plant) (lost k : ℕ) (f : ℤ) → All IsThrusterWithin p.thrusters.items → slice_get (map (λ t. pos 0) p.thrusters.items) k ≡ Some f → IsForceWithin p lost k f
idle_force p lost k f all h =
    let t = get_or p.thrusters.items k blank in
    let is = thruster_at p.thrusters.items k (in_map (λ t. pos 0) p.thrusters.items k f h) in
    let none : f ≡ pos 0 = at_place (λ (g : ℤ). g ≡ pos 0) (map (λ t. pos 0) p.thrusters.items) k f (all_zero p.thrusters.items) h in
    force_by p lost k f t all is (subst (IsWithinLimits (limits_of lost t)) (sym none) (zero_by t (is_lost lost t.group) (at_place IsThrusterWithin p.thrusters.items k t all is))) (λ c. none)

-- ---- with one
limits_at : (lost : ℕ) (ts : List Thruster) (k : ℕ) → k < length ts → get_or (map (limits_of lost) ts) k (pos 0, pos 0) ≡ limits_of lost (get_or ts k blank)
limits_at lost [] k l = absurd (omega (arith, l))
limits_at lost (t ∷ ts) zero l = refl
limits_at lost (t ∷ ts) (suc k) l = limits_at lost ts k (omega (arith, l))

not_idle : (o : Option RawCase) (c : RawCase) (f : ℤ) → o ≡ Some c → o ≡ None → f ≡ pos 0
not_idle o c f is none = absurd (cc)

case_force : (p : Plant) (lost : ℕ) (c : RawCase) (demand : List ℤ) (k : ℕ) (f : ℤ) → All IsThrusterWithin p.thrusters.items → case_of p lost ≡ Some c
    → IsCaseWithin (length p.thrusters.items) c → case_fault p c ≡ None → c.lost ≡ lost → IsInBox c.bounds demand
    → slice_get (map (thrust_of demand) c.b.items) k ≡ Some f → IsForceWithin p lost k f
case_force p lost c demand k f all is ranges none same box h =
    let ts = p.thrusters.items in
    let row_in = in_map (thrust_of demand) c.b.items k f h in
    let t_in : k < length ts = subst (λ (n : ℕ). k < n) ranges.rows row_in in
    let long = length-map ts (limits_of c.lost) ∙ sym ranges.rows in
    let within = forces_within c.bounds (map (limits_of c.lost) ts) c.b.items demand long (allowed_of p c none) box k row_in in
    let force = get_or_from_slice_get (map (thrust_of demand) c.b.items) k f (pos 0) h in
    let limits = limits_at c.lost ts k t_in ∙ ap (λ (m : ℕ). limits_of m (get_or ts k blank)) same in
    force_by p lost k f (get_or ts k blank) all (thruster_at ts k t_in)
    (subst (λ (l : ℤ × ℤ). IsWithinLimits l f) limits (subst (IsWithinLimits (get_or (map (limits_of c.lost) ts) k (pos 0, pos 0))) force within))
    (not_idle (case_of p lost) c f is)

-- ---- by whether there is one
by_case : (p : Plant) (lost : ℕ) (o : Option RawCase) (demand : List ℤ) (k : ℕ) (f : ℤ) → All IsThrusterWithin p.thrusters.items → case_of p lost ≡ o
    → IfSome o (IsCaseWithin (length p.thrusters.items)) → IfSome o (λ c. case_fault p c ≡ None) → IfSome o (λ c. (c.lost == lost) ≡ true) → IsInBox (box_of o) demand
    → slice_get (forces_of p.thrusters.items o demand) k ≡ Some f → IsForceWithin p lost k f
by_case p lost None demand k f all is ranges none same box h = idle_force p lost k f all h
by_case p lost (Some c) demand k f all is ranges none same box h = case_force p lost c demand k f all is ranges none (eqb-true c.lost lost same) box h

pub forces_are_within : ForcesAreWithinLimits
forces_are_within p accepted lost demand box k f h =
    let cases = p.cases.items in
    by_case p lost (case_of p lost) demand k f (plant_thrusters p) refl
    (some_case_within p lost)
    (found (λ c. case_fault p c ≡ None) (λ c. c.lost == lost) cases (none_faulty p accepted))
    (tested (λ c. c.lost == lost) cases) box h
