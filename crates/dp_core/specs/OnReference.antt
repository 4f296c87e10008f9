-- A computer that runs as the reference run does.
use Rattle.std.specs.Prelude.{◌≡◌, ℕ, Bool, true, not, ◌&&◌, ◌||◌, List, [], ◌∷◌, ◌++◌, take, Some}
use Rattle.dp_plant.specs.declared.plant.Plant.{Plant}
use Rattle.dp_plant.specs.declared.voting.Mode.TheVariants.{Live}
use Rattle.dp_machine.specs.declared.issue.Issue.{Issue}
use Rattle.dp_machine.specs.Reference.{reference_issue, reference_state}
use Rattle.dp_machine.specs.Run.{own_setpoints}
use Rattle.dp_core.specs.declared.event.Event.{Event}
use Rattle.dp_core.specs.Moment.{Moment, is_break, is_skew}
use Rattle.dp_core.specs.History.{history, seen_of}
use Rattle.dp_core.specs.Mode.{frames, mode}
use Rattle.dp_core.specs.Trajectory.{frames_done, last_issue, trajectory}

-- computer c is live, has the reference run's state after the frames that it has done, and its last
-- issue is the reference run's of that cycle
pub record IsOnReference (p : Plant) (c : ℕ) (h : List Moment) : Type 0 where
  pub live : mode c h ≡ Live
  pub state : trajectory p c h
      ≡ reference_state p (own_setpoints p) (take (frames_done p c h) (frames h))
  pub issue : (x : Issue) → last_issue c h ≡ Some x
      → reference_issue p (own_setpoints p) (frames h) x.cycle ≡ Some x

-- c is broken or skewed
unfoldable pub is_disturbed : ℕ → Moment → Bool
is_disturbed c m = is_break c m || is_skew c m

-- c isn't broken and isn't skewed by these later events
unfoldable pub goes_on : Plant → ℕ → List Event → List Event → Bool
goes_on p c [] earlier = true
goes_on p c (e ∷ later) earlier =
    not (is_disturbed c (record { event = e; seen = seen_of p (history p (later ++ earlier)) e }))
    && goes_on p c later earlier
