use Rattle.std.proofs.Common.{◌≡◌, length, ap, inl, refl, subst, sym, ◌∙◌, arith}
use Rattle.circular_buffer.specs.Buffer.{Buffer}
use Rattle.dp_plant.specs.declared.frames.Frame.{Frame}
use Rattle.dp_machine.specs.Machine.{MachineValue}
use Rattle.std.specs.List.{AllByRecursion}
use Rattle.dp_exchange.specs.Inside.{IsOfferText}
use Rattle.dp_exchange.proofs.Confirmations.{no_texts-spell, none_offered}
use Rattle.dp_exchange.specs.ComputerState.{first_computer}
use Rattle.dp_exchange.proofs.Counts.{first-count}
use Rattle.dp_exchange.proofs.Waits.{IsWaiting-clear}
use Rattle.dp_exchange.proofs.computer.Computer.new.Goals as goal

pub invariant_of-result : goal.invariant_of-result
invariant_of-result c =
    let none : length c.in-Ok.waits.items ≡ 0 = ap (λ (b : Buffer Frame). length b.items) c.in-Ok.ensures ∙ omega arith in
    let count : c.in_ok-machine.machine.state.count ≡ 0 = ap (λ (m : MachineValue). m.state.count) c.in_ok-machine.ensures ∙ first-count c.args.plant.now in
    record {
      waiting = IsWaiting-clear c.in_ok-machine.machine.plant.groups c.in-Ok.waits 0 c.in-Ok.ensures;
      live = λ is. omega (arith, none, count);
      bounded = omega arith;
      offers = subst (AllByRecursion (IsOfferText c.in_ok-machine.machine.plant)) (sym c.new-2.ensures) (no_texts-spell c.in_ok-machine.machine.plant);
      software = inl refl;
    }

pub returns : goal.returns
unfolding first_computer
returns c =
    rw (c.new-2.ensures, none_offered c.in_ok-machine.machine.plant, c.in-Ok.ensures, c.in_ok-machine.ensures) refl
