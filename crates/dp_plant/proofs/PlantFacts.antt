-- What every plant keeps: its numbers are within the ranges of a plant file.
use Rattle.std.proofs.Common.{◌≡◌, ◌<◌, ◌≤◌, ℕ, suc, ◌==◌, Bool, true, false, cond, List, [], ◌∷◌, length, All, Some, IfSome, find, unsigned_abs, arith}
use Rattle.dp_plant.specs.Cases.{case_of}
use Rattle.dp_plant.specs.PlantRanges.{AreRefLimits, AreWindShares, IsCaseWithin, IsLever, IsSetpointWithin, IsThrusterWithin, IsWithinFile}
use Rattle.dp_plant.specs.SoundPlant.{IsPlantWithin}
use Rattle.dp_plant.specs.Vectors.{entry}
use Rattle.dp_plant.specs.declared.plant.Plant.{Plant}
use Rattle.dp_plant.specs.declared.thrusters.RawCase.{RawCase}

pub plant_within : (p : Plant) → IsPlantWithin p
unfolding IsWithinFile
plant_within p =
    let w = p.within in
    record {
      version = w.of_version;
      cycle_low = w.cycle_low;
      cycle_high = w.cycle_high;
      origin = w.origin_within;
      start = w.start_within;
      setpoint = w.setpoint_within;
      groups_low = w.groups_low;
      groups_high = w.groups_high;
      mass = w.masses;
      tol = w.tolerances;
      references = w.references;
      levers = w.arms;
      wind = w.pushes;
      thrusters = w.each_thruster;
      some_thrusters = w.some_thrusters;
      few_thrusters = w.few_thrusters;
      cases = w.each_case;
      grouped = w.grouped;
    }

-- its parts, as callers ask for them
pub plant_cycle : (p : Plant) → 0 < p.cycle_ms
plant_cycle p = let w = plant_within p in omega (arith, w.cycle_low)

pub plant_latitude : (p : Plant) → unsigned_abs (entry p.origin 0) ≤ 53400000000
plant_latitude p = (plant_within p).origin.latitude

pub plant_longitude : (p : Plant) → unsigned_abs (entry p.origin 1) ≤ 108000000000
plant_longitude p = (plant_within p).origin.longitude

pub plant_groups : (p : Plant) → p.groups ≤ 8
plant_groups p = (plant_within p).groups_high

pub plant_start : (p : Plant) → IsSetpointWithin p.start
plant_start p = (plant_within p).start

pub plant_setpoint : (p : Plant) → IsSetpointWithin p.setpoint
plant_setpoint p = (plant_within p).setpoint

pub plant_references : (p : Plant) → All AreRefLimits p.refs
plant_references p = (plant_within p).references

pub plant_levers : (p : Plant) → All IsLever p.levers
plant_levers p = (plant_within p).levers

pub plant_wind : (p : Plant) → All AreWindShares p.wind.push
plant_wind p = (plant_within p).wind

pub plant_thrusters : (p : Plant) → All IsThrusterWithin p.thrusters.items
plant_thrusters p = (plant_within p).thrusters

pub plant_cases : (p : Plant) → All (IsCaseWithin (length p.thrusters.items)) p.cases.items
plant_cases p = (plant_within p).cases

pub ruleset plant_facts = (plant_within, plant_cycle, plant_latitude, plant_longitude, plant_groups, plant_start, plant_setpoint, plant_references, plant_levers, plant_wind, plant_thrusters, plant_cases)

-- ---- the case that is found

found_by : {X : Type 0} (P : X → Type 0) (test : X → Bool) (x : X) (xs : List X) (b : Bool) → P x → IfSome (find test xs) P → IfSome (cond b (Some x) (find test xs)) P
found_by P test x xs true p rest = p
found_by P test x xs false p rest = rest

-- what holds of all holds of the one that is found
found : {X : Type 0} (P : X → Type 0) (test : X → Bool) (xs : List X) → All P xs → IfSome (find test xs) P
found P test [] all = tt
found P test (x ∷ xs) all = found_by P test x xs (test x) (all 0 x (omega arith)) (found P test xs (λ k d l. all (suc k) d (omega arith)))

pub some_case_within : (p : Plant) (lost : ℕ) → IfSome (case_of p lost) (IsCaseWithin (length p.thrusters.items))
some_case_within p lost = found (IsCaseWithin (length p.thrusters.items)) (λ c. c.lost == lost) p.cases.items (plant_cases p)

pub case_within : (p : Plant) (lost : ℕ) (c : RawCase) → case_of p lost ≡ Some c → IsCaseWithin (length p.thrusters.items) c
case_within p lost c e = rw e at (some_case_within p lost)
