use Rattle.std.proofs.Common.{◌≡◌, List, length, map}
use Rattle.std.specs.List.{range_with_len}
use Rattle.dp_core.specs.declared.event.Event.{Event}
use Rattle.dp_core.specs.History.{history}
use Rattle.dp_core.specs.Represents.{Represents}
use Rattle.dp_core.specs.Voting.{taken_forces}
use Rattle.dp_app.proofs.cycle.hold_all.Given as goal

-- the orders of the first voters
abbrev pub invariant-loop-k : goal.invariant-loop-k
invariant-loop-k l = record {
  held : (es : List Event) → Represents es l.world → l.orders.items
      ≡ map (λ k. taken_forces k (history l.plant es)) (range_with_len 0 l.k);
  count : length l.orders.items ≡ l.k;
}
