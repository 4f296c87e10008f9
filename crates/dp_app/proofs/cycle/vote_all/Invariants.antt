use Rattle.std.proofs.Common.{◌≡◌, List, length, map}
use Rattle.std.specs.List.{range_with_len}
use Rattle.dp_core.specs.declared.event.Event.{Event}
use Rattle.dp_core.specs.History.{history}
use Rattle.dp_core.specs.Represents.{Represents}
use Rattle.dp_core.specs.Voting.{ballot}
use Rattle.dp_app.specs.Acting.{vote_events}
use Rattle.dp_app.proofs.cycle.vote_all.Given as goal

-- the first voters gave their ballots
abbrev pub invariant-loop-k : goal.invariant-loop-k
invariant-loop-k l = record {
  represents : (es : List Event) → Represents es l.fn.world → Represents (vote_events l.k es) l.world;
  ballots : (es : List Event) → Represents es l.fn.world → l.ballots.items ≡ map (λ k. ballot k (history l.plant es)) (range_with_len 0 l.k);
  count : length l.ballots.items ≡ l.k;
  plant : l.world.plant ≡ l.plant;
}
