-- A computer's trajectory: the cycles of control that it went through since it was last broken,
-- over the frames that came.
use Rattle.std.specs.Prelude.{ℕ, ◌+◌, ◌||◌, List, [], ◌∷◌, Option, None, is_some, if◌then◌else◌, unwrap_or}
use Rattle.std.specs.Option.{option_or}
use Rattle.dp_plant.specs.declared.plant.Plant.{Plant}
use Rattle.dp_plant.specs.Vectors.{zero_place}
use Rattle.dp_machine.specs.declared.issue.Issue.{Issue}
use Rattle.dp_machine.specs.declared.state.State.{State}
use Rattle.dp_machine.specs.Run.{own_setpoints, run_on}
use Rattle.dp_machine.specs.Step.{first_state, rest_in}
use Rattle.dp_core.specs.Moment.{Moment, is_adoption, is_base, is_break, issue_at, place_of_skew, sender}
use Rattle.dp_core.specs.Mode.{frames}
use Rattle.dp_core.specs.Offered.{offer_by, state_in}

-- the Runs of c that gave an issue, after its last break or base
unfoldable pub runs : ℕ → List Moment → ℕ
runs c [] = 0
runs c (m ∷ h) =
    if is_break c m || is_base c m then 0
    else (if is_some (issue_at c m) then runs c h + 1 else runs c h)

-- what a trajectory goes on from at its base: an adopted state, or the one that it had come to, at
-- rest at the skew's place
unfoldable pub state_at_base : ℕ → Moment → Option State → State → State
state_at_base c m adopted s =
    if is_adoption c m then unwrap_or adopted s
    else rest_in s (unwrap_or (place_of_skew c m.event) zero_place)

-- the state that the trajectory of c starts from: the first one, or that of its last base; what is
-- offered goes by the sender's own trajectory
unfoldable pub base : Plant → ℕ → List Moment → State
base p c [] = first_state p
base p c (m ∷ h) =
    if is_base c m
    then state_at_base c m
    (state_in (offer_by p h m.event (run_on p (own_setpoints p) (frames h)
    (base p (sender m.event) h) (runs (sender m.event) h))))
    (run_on p (own_setpoints p) (frames h) (base p c h) (runs c h))
    else base p c h

-- the state that the trajectory of c has come to
unfoldable pub trajectory : Plant → ℕ → List Moment → State
trajectory p c h = run_on p (own_setpoints p) (frames h) (base p c h) (runs c h)

-- how many frames c has done
unfoldable pub frames_done : Plant → ℕ → List Moment → ℕ
frames_done p c h = (base p c h).count + runs c h

-- the last issue of c after its last break
unfoldable pub last_issue : ℕ → List Moment → Option Issue
last_issue c [] = None
last_issue c (m ∷ h) = if is_break c m then None else option_or (issue_at c m) (last_issue c h)

-- all the Runs of c that gave an issue
unfoldable pub steps : ℕ → List Moment → ℕ
steps c [] = 0
steps c (m ∷ h) = if is_some (issue_at c m) then steps c h + 1 else steps c h
