use Rattle.std.proofs.Common.{◌≡◌, ◌+◌, ◌∙◌, ap, length, subst, sym, arith}
use Rattle.dp_machine.specs.Step.{Step}
use Rattle.std.specs.List.{AllByRecursion}
use Rattle.dp_exchange.specs.Inside.{IsOfferText}
use Rattle.dp_plant.specs.declared.plant.Plant.{Plant}
use Rattle.dp_exchange.proofs.Counts.{step-count}
use Rattle.dp_exchange.proofs.Waits.{IsWaiting-pop, IsWaiting-same, length-pop, prefix_cycle, some_wait}
use Rattle.dp_exchange.proofs.computer.Computer.run.Goals as goal

pub invariant_of-self : goal.invariant_of-self
invariant_of-self c =
    let prefix = sym c.in-Some.ensures in
    let popped : length c.leave.new.waits.items + 1 ≡ length c.self.inside.waits.items = length-pop c.self.inside.waits c.leave.new.waits c.in-Some.f.now prefix c.leave.ensures in
    let m = c.self.inside.machine in
    let count = ap (λ (t : Step). t.next.count) (sym c.step-issue.ensures.issued) ∙ step-count m.plant m.plant.setpoint m.state c.in-Some.f.now in
    record {
      waiting = IsWaiting-same m.plant c.step-issue.new.self.plant c.leave.new.waits c.self.inside.next c.step-issue.ensures.plant
          (IsWaiting-pop m.plant.groups c.self.inside.waits c.leave.new.waits c.self.inside.next c.self.invariant.waiting (some_wait c.self.inside.waits c.in-Some.f.now prefix) c.leave.ensures);
      live = λ is. omega (arith, c.self.invariant.live is, count, popped);
      bounded = c.self.invariant.bounded;
      offers = subst (λ (p : Plant). AllByRecursion (IsOfferText p) c.self.inside.offers) (sym c.step-issue.ensures.plant) c.self.invariant.offers;
      software = c.self.invariant.software;
    }

pub step-issue-requires-clause-next : goal.step-issue-requires-clause-next
step-issue-requires-clause-next c =
    let i = c.self.inside in
    prefix_cycle i.machine.plant.groups i.waits i.next i.machine.state.count c.in-Some.f.now c.self.invariant.waiting (sym c.in-Some.ensures) (c.self.invariant.live c.in-Live.is)
