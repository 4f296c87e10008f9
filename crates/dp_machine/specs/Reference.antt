-- The reference run: one computer alone over all the frames, with no voter and no fault.
use Rattle.std.specs.Prelude.{ℕ, List, slice_get, Option, Some, None, ℤ}
use Rattle.dp_plant.specs.declared.frames.Frame.{Frame}
use Rattle.dp_plant.specs.declared.plant.Plant.{Plant}
use Rattle.dp_machine.specs.declared.issue.Issue.{Issue}
use Rattle.dp_machine.specs.declared.state.State.{State}
use Rattle.dp_machine.specs.Step.{first_state}
use Rattle.dp_machine.specs.Run.{Setpoints, issue_after, run_over}

-- its state after some frames
unfoldable pub reference_state : Plant → Setpoints → List Frame → State
reference_state p sets fs = run_over p sets (first_state p) fs

-- its issue of cycle n, if frame n came
unfoldable pub reference_issue : Plant → Setpoints → List Frame → ℕ → Option Issue
reference_issue p sets fs n = issue_after p sets (first_state p) fs n

unfoldable pub force_in : Option Issue → ℕ → Option ℤ
force_in None k = None
force_in (Some i) k = slice_get i.forces.items k

-- the force of thruster k in cycle n
unfoldable pub force_of : Plant → Setpoints → List Frame → ℕ → ℕ → Option ℤ
force_of p sets fs n k = force_in (reference_issue p sets fs n) k
