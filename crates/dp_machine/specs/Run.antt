-- Cycles one after another: the step folded over frames, with a setpoint for each cycle.
use Rattle.std.specs.Prelude.{ℕ, zero, suc, List, [], ◌∷◌, take, drop, Option, Some, None}
use Rattle.dp_plant.specs.declared.frames.Frame.{Frame}
use Rattle.dp_plant.specs.declared.limits.Setpoint.{Setpoint}
use Rattle.dp_plant.specs.declared.plant.Plant.{Plant}
use Rattle.dp_machine.specs.declared.issue.Issue.{Issue}
use Rattle.dp_machine.specs.declared.state.State.{State}
use Rattle.dp_machine.specs.Step.{Step, step_at}

-- a setpoint for each cycle
abbrev pub Setpoints : Type 0
Setpoints = ℕ → Setpoint

-- the plant's own in each
abbrev pub own_setpoints : Plant → Setpoints
own_setpoints p = λ n. p.setpoint

-- the step of the cycle that a state comes to
abbrev pub cycle_at : Plant → Setpoints → State → Frame → Step
cycle_at p sets s f = step_at p (sets s.count) s f

-- the state after a list of frames
unfoldable pub run_over : Plant → Setpoints → State → List Frame → State
run_over p sets s [] = s
run_over p sets s (f ∷ fs) = run_over p sets (cycle_at p sets s f).next fs

-- from a state on, over the next n of all the frames that came
unfoldable pub run_on : Plant → Setpoints → List Frame → State → ℕ → State
run_on p sets fs s n = run_over p sets s (take n (drop s.count fs))

-- the issue of the nth frame from a state on, if it came
unfoldable pub issue_after : Plant → Setpoints → State → List Frame → ℕ → Option Issue
issue_after p sets s [] n = None
issue_after p sets s (f ∷ fs) zero = Some (cycle_at p sets s f).issue
issue_after p sets s (f ∷ fs) (suc n) = issue_after p sets (cycle_at p sets s f).next fs n
