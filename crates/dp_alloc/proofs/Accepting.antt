-- What is known of a plant's case, and of one that is accepted.
use Rattle.std.proofs.Common.{◌≡◌, ℕ, List, length, map, All, Some, None, subst, sym, ap, ◌∙◌, ℤ}
use Rattle.std.specs.Prelude.{slice_get}
use Rattle.std.proofs.lemmas.List.{length-map}
use Rattle.std.proofs.lemmas.Option.{get_or_from_slice_get, slice_get_within}
use Rattle.dp_plant.specs.declared.plant.Plant.{Plant}
use Rattle.dp_plant.specs.declared.thrusters.RawCase.{RawCase}
use Rattle.dp_plant.specs.PlantRanges.{IsCaseWithin}
use Rattle.dp_plant.proofs.PlantFacts.{plant_cases}
use Rattle.dp_alloc.specs.Conditions.{case_fault, first_off, first_over, limits_of}
use Rattle.dp_alloc.specs.Refusals.{IsCaseOf}
use Rattle.dp_alloc.proofs.Forces.{option_or-none}

-- what holds of all holds of the one at a place
pub at_place : {X : Type 0} (P : X → Type 0) (xs : List X) (k : ℕ) (x : X) → All P xs → slice_get xs k ≡ Some x → P x
at_place P xs k x all is = subst P (get_or_from_slice_get xs k x x is) (all k x (slice_get_within xs k x is))

pub case_ranges : (p : Plant) (c : RawCase) → IsCaseOf p c → IsCaseWithin (length p.thrusters.items) c
case_ranges p c of = at_place (IsCaseWithin (length p.thrusters.items)) p.cases.items of.number c (plant_cases p) of.is

pub allowed_of : (p : Plant) (c : RawCase) → case_fault p c ≡ None → first_over 0 c.bounds (map (limits_of c.lost) p.thrusters.items) c.b.items ≡ None
unfolding case_fault
allowed_of p c h = (option_or-none (first_over 0 c.bounds (map (limits_of c.lost) p.thrusters.items) c.b.items) (first_off p.mass p.tol p.thrusters.items c.b.items) h).0

-- a case that is kept with its limits
pub record IsKept (c : RawCase) (limits : List (ℤ × ℤ)) : Type 0 where
  pub ranges : IsCaseWithin (length limits) c
  pub allowed : first_over 0 c.bounds limits c.b.items ≡ None

pub kept : (p : Plant) (c raw : RawCase) (limits : List (ℤ × ℤ)) → IsCaseOf p c → case_fault p c ≡ None → raw ≡ c → limits ≡ map (limits_of c.lost) p.thrusters.items → IsKept raw limits
kept p c raw limits of none is at =
    let all = map (limits_of c.lost) p.thrusters.items in
    let long = ap length at ∙ length-map p.thrusters.items (limits_of c.lost) in
    subst (λ (r : RawCase). IsKept r limits) (sym is) (record {
      ranges = subst (λ (n : ℕ). IsCaseWithin n c) (sym long) (case_ranges p c of);
      allowed = subst (λ (l : List (ℤ × ℤ)). first_over 0 c.bounds l c.b.items ≡ None) (sym at) (allowed_of p c none);
    })
