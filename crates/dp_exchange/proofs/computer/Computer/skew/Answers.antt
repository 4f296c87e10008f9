use Rattle.std.proofs.Common.{◌≡◌, ap, subst, sym, ◌∙◌, arith}
use Rattle.dp_machine.specs.Machine.{MachineValue}
use Rattle.std.specs.List.{AllByRecursion}
use Rattle.dp_exchange.specs.Inside.{IsOfferText}
use Rattle.dp_plant.specs.declared.plant.Plant.{Plant}
use Rattle.dp_exchange.proofs.Counts.{rest-count}
use Rattle.dp_exchange.proofs.Waits.{IsWaiting-same}
use Rattle.dp_exchange.proofs.computer.Computer.skew.Goals as goal

pub invariant_of-self : goal.invariant_of-self
invariant_of-self c =
    let count : c.skew.new.self.state.count ≡ c.self.inside.machine.state.count = ap (λ (m : MachineValue). m.state.count) c.skew.ensures ∙ rest-count c.self.inside.machine.state c.args.at in
    record {
      waiting = IsWaiting-same c.self.inside.machine.plant c.skew.new.self.plant c.self.inside.waits c.self.inside.next (ap (λ (m : MachineValue). m.plant) c.skew.ensures) c.self.invariant.waiting;
      live = λ is. omega (arith, c.self.invariant.live is, count);
      bounded = c.self.invariant.bounded;
      offers = subst (λ (p : Plant). AllByRecursion (IsOfferText p) c.self.inside.offers) (sym (ap (λ (m : MachineValue). m.plant) c.skew.ensures)) c.self.invariant.offers;
      software = c.self.invariant.software;
    }
