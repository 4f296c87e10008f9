use Rattle.std.proofs.Common.{ap, subst, sym, refl, ◌∙◌, []}
use Rattle.circular_buffer.specs.Buffer.{buffer}
use Rattle.std.specs.List.{AllByRecursion}
use Rattle.dp_exchange.specs.Inside.{IsOfferText}
use Rattle.dp_exchange.specs.ComputerState.{after_stop}
use Rattle.dp_exchange.proofs.Confirmations.{no_texts-spell, none_offered}
use Rattle.dp_exchange.proofs.Waits.{IsWaiting-clear}
use Rattle.dp_exchange.proofs.computer.Computer.stop.Goals as goal

pub invariant_of-self : goal.invariant_of-self
invariant_of-self c = record {
  waiting = IsWaiting-clear c.self.inside.machine.plant.groups c.clear.new.self c.self.inside.next (c.clear.ensures ∙ ap (buffer []) c.self.invariant.waiting.capacity);
  live = λ is. absurd cc;
  bounded = c.self.invariant.bounded;
  offers = subst (AllByRecursion (IsOfferText c.self.inside.machine.plant)) (sym c.forget.ensures) (no_texts-spell c.self.inside.machine.plant);
  software = c.self.invariant.software;
}

pub returns : goal.returns
unfolding after_stop
returns c =
    rw (c.forget.ensures, none_offered c.self.inside.machine.plant, c.clear.ensures, ← c.self.view_is) refl
