-- What holds of each cycle.
use Rattle.std.specs.Prelude.{◌≡◌, ◌+◌, ℕ, ℤ, length, Some, slice_get}
use Rattle.dp_plant.specs.declared.frames.Frame.{Frame}
use Rattle.dp_plant.specs.declared.limits.Setpoint.{Setpoint}
use Rattle.dp_plant.specs.declared.plant.Plant.{Plant}
use Rattle.dp_alloc.specs.Laws.{IsForceWithin}
use Rattle.dp_alloc.specs.Refusals.{AreAccepted}
use Rattle.dp_machine.specs.declared.state.State.{State}
use Rattle.dp_machine.specs.Step.{step_at}

-- an issue has a force for each thruster
abbrev pub IssuesHaveAForceForEachThruster : Type 0
IssuesHaveAForceForEachThruster = (p : Plant) (at : Setpoint) (s : State) (f : Frame)
    → length (step_at p at s f).issue.forces.items ≡ length p.thrusters.items

-- an issue is that of the cycle which the state comes to, and after it one more cycle is counted
abbrev pub IssuesAreOfTheirCycle : Type 0
IssuesAreOfTheirCycle = (p : Plant) (at : Setpoint) (s : State) (f : Frame)
    → ((step_at p at s f).issue.cycle ≡ s.count)
    × ((step_at p at s f).next.count ≡ s.count + 1)

-- where no case of the plant is refused, each force of an issue is one that its thruster can give
-- while those groups are lost that are lost after the frame
abbrev pub IssuesAreWithinLimits : Type 0
IssuesAreWithinLimits = (p : Plant) (at : Setpoint) (s : State) (f : Frame) → AreAccepted p
    → (k : ℕ) (force : ℤ) → slice_get (step_at p at s f).issue.forces.items k ≡ Some force
    → IsForceWithin p (step_at p at s f).next.lost k force
