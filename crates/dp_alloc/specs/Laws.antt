-- The laws of forces.
use Rattle.std.specs.Prelude.{◌≡◌, ℕ, List, [], ◌∷◌, ℤ, pos, ◌+ℤ◌, ◌-ℤ◌, ◌*ℤ◌, Some, None, slice_get}
use Rattle.dp_plant.specs.Cases.{IsInBox, box_of, case_of}
use Rattle.dp_plant.specs.Vectors.{entry}
use Rattle.dp_plant.specs.declared.plant.Plant.{Plant}
use Rattle.dp_plant.specs.declared.thrusters.Thruster.{Thruster}
use Rattle.dp_alloc.specs.Balance.{effect_at}
use Rattle.dp_alloc.specs.Conditions.{limits_of}
use Rattle.dp_alloc.specs.Ranges.{IsWithinLimits}
use Rattle.dp_alloc.specs.Refusals.{AreAccepted}
use Rattle.dp_alloc.specs.Thrust.{forces_of}

-- thruster k is there, and a force is one that it can give: within its limits while these groups
-- are lost, so none if its own is lost, and so within its least and its greatest force; and none
-- where there is no case
pub record IsForceWithin (p : Plant) (lost k : ℕ) (f : ℤ) : Type 0 where
  pub thruster : Thruster
  pub is : slice_get p.thrusters.items k ≡ Some thruster
  pub limits : IsWithinLimits (limits_of lost thruster) f
  pub within : IsWithinLimits (thruster.min, thruster.max) f
  pub idle : case_of p lost ≡ None → f ≡ pos 0

-- where all cases of a plant were accepted, whatever groups are lost, each force that meets a
-- demand in the box is one that its thruster can give
abbrev pub ForcesAreWithinLimits : Type 0
ForcesAreWithinLimits = (p : Plant) → AreAccepted p → (lost : ℕ) (demand : List ℤ)
    → IsInBox (box_of (case_of p lost)) demand → (k : ℕ) (f : ℤ)
    → slice_get (forces_of p.thrusters.items (case_of p lost) demand) k ≡ Some f
    → IsForceWithin p lost k f

-- two coordinates turned by a pair, which is the cosine and the sine of an angle times a length
abbrev pub turned : ℤ × ℤ → ℤ → ℤ → ℤ × ℤ
turned turn x y = (turn.0 *ℤ x -ℤ turn.1 *ℤ y, turn.0 *ℤ y +ℤ turn.1 *ℤ x)

-- a thruster's turning moment at an arm so far ahead and so far to starboard
abbrev pub moment_at : ℤ × ℤ → ℤ × ℤ → ℤ
moment_at direction arm = entry (effect_at direction (arm.0 ∷ arm.1 ∷ [])) 2

-- turning arm and direction alike leaves the moment as it is, but for the square of the length
abbrev pub MomentsTurnAlong : Type 0
MomentsTurnAlong = (turn direction : ℤ × ℤ) (ahead starboard : ℤ)
    → moment_at (turned turn direction.0 direction.1) (turned turn ahead starboard)
    ≡ (turn.0 *ℤ turn.0 +ℤ turn.1 *ℤ turn.1) *ℤ moment_at direction (ahead, starboard)
