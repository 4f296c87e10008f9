-- A cycle's events and its block, from their parts.
use Rattle.std.proofs.Common.{◌≡◌, ℕ, List, [], ◌∷◌, Option, ℤ, map, refl, ap, ◌∙◌}
use Rattle.std.specs.List.{range_with_len}
use Rattle.dp_plant.specs.declared.frames.Frame.{Frame}
use Rattle.dp_plant.specs.declared.alarms.Alarms.{Alarms}
use Rattle.dp_plant.specs.declared.plant.Plant.{Plant}
use Rattle.dp_plant.specs.declared.voting.Ballot.{Ballot}
use Rattle.dp_plant.specs.declared.voting.Mode.{Mode}
use Rattle.dp_core.specs.declared.event.Event.{Event}
use Rattle.dp_core.specs.declared.event.Event.TheVariants.{Wire}
use Rattle.dp_core.specs.CycleAlarms.{cycle_alarms}
use Rattle.dp_core.specs.Mode.{mode}
use Rattle.dp_core.specs.Moment.{Moment}
use Rattle.dp_core.specs.Voting.{ballot, taken_forces}
use Rattle.dp_report.specs.Agreement.{agreed}
use Rattle.dp_report.specs.declared.block.Block.{Block}
use Rattle.dp_script.specs.declared.timed_act.TimedAct.{TimedAct}
use Rattle.dp_script.specs.TimedActs.{acts_at}
use Rattle.dp_app.specs.Acting.{cycle_events, events_of_acts, vote_events, voters}
use Rattle.dp_app.specs.Blocks.{block_at}

pub cycled_is : (p : Plant) (script : List TimedAct) (f : Frame) (es : List Event) → vote_events (voters p) (events_of_acts p f.cycle (acts_at f.cycle script) (Wire f ∷ es)) ≡ cycle_events p script f es
unfolding cycle_events
cycled_is p script f es = refl

pub block_is : (n cycle : ℕ) (h : List Moment) (modes : List Mode) (ballots : List Ballot) (held : List (List (Option ℤ))) (alarms : Option Alarms)
    → modes ≡ mode 0 h ∷ mode 1 h ∷ mode 2 h ∷ []
    → ballots ≡ map (λ k. ballot k h) (range_with_len 0 n)
    → held ≡ map (λ k. taken_forces k h) (range_with_len 0 n)
    → alarms ≡ agreed (cycle_alarms 0 h ∷ cycle_alarms 1 h ∷ cycle_alarms 2 h ∷ [])
    → record { cycle = cycle; modes = modes; ballots = record { items = ballots }; held = record { items = held }; alarms = alarms } ≡ block_at n cycle h
unfolding block_at
block_is n cycle h modes ballots held alarms m b o a =
    let of : List Mode → List Ballot → List (List (Option ℤ)) → Option Alarms → Block =
    λ x y z w. record { cycle = cycle; modes = x; ballots = record { items = y }; held = record { items = z }; alarms = w } in
    let first : List Mode = mode 0 h ∷ mode 1 h ∷ mode 2 h ∷ [] in
    let second : List Ballot = map (λ k. ballot k h) (range_with_len 0 n) in
    let third : List (List (Option ℤ)) = map (λ k. taken_forces k h) (range_with_len 0 n) in
    ap (λ (x : List Mode). of x ballots held alarms) m
    ∙ ap (λ (y : List Ballot). of first y held alarms) b
    ∙ ap (λ (z : List (List (Option ℤ))). of first second z alarms) o
    ∙ ap (λ (w : Option Alarms). of first second third w) a
