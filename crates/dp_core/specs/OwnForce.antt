-- Where a force that a voter takes comes from.
use Rattle.std.specs.Prelude.{◌≡◌, ℕ, suc, Bool, false, ◌&&◌, ◌||◌, ◌==◌, if◌then◌else◌, List, [], ◌∷◌, ◌++◌, ℤ, Some, slice_get}
use Rattle.dp_plant.specs.declared.frames.Frame.{Frame}
use Rattle.dp_plant.specs.declared.plant.Plant.{Plant}
use Rattle.dp_plant.specs.declared.voting.Mode.TheVariants.{Live}
use Rattle.dp_machine.specs.declared.issue.Issue.{Issue}
use Rattle.dp_machine.specs.Step.{step_of}
use Rattle.dp_core.specs.declared.event.Event.{Event}
use Rattle.dp_core.specs.declared.event.Event.TheVariants.{Run, Say}
use Rattle.dp_core.specs.History.{history}
use Rattle.dp_core.specs.Mode.{cycles_begun, frames, mode}
use Rattle.dp_core.specs.Moment.{Moment, is_wire}
use Rattle.dp_core.specs.Trajectory.{frames_done, trajectory}

-- f is the force of thruster k that computer a issued for the last cycle, by a Run at which its own
-- trajectory went on
pub record IsOwnForce (p : Plant) (k a : ℕ) (es : List Event) (f : ℤ) : Type 0 where
  pub later : List Event
  pub earlier : List Event
  pub parts : es ≡ later ++ Run a ∷ earlier
  pub live : mode a (history p earlier) ≡ Live
  pub frame : Frame
  pub waited : slice_get (frames (history p earlier)) (frames_done p a (history p earlier))
      ≡ Some frame
  pub issue : Issue
  pub issued : (step_of p (trajectory p a (history p earlier)) frame).issue ≡ issue
  pub of_cycle : cycles_begun (history p es) ≡ suc issue.cycle
  pub is : slice_get issue.forces.items k ≡ Some f

-- a force said in computer a's name to voter k
unfoldable pub is_say : ℕ → ℕ → Event → Bool
is_say a k (Say b j cycle force) = (b == a) && (j == k)
is_say a k _ = false

-- one was said in this cycle
unfoldable pub is_said : ℕ → ℕ → List Moment → Bool
is_said k a [] = false
is_said k a (m ∷ h) = if is_wire m.event then false else (is_say a k m.event || is_said k a h)
