use Rattle.std.proofs.Common.{◌≡◌, ◌∙◌, ◌+◌, ap, length, subst, sym, arith}
use Rattle.std.specs.List.{AllByRecursion}
use Rattle.dp_machine.specs.Step.{Step}
use Rattle.dp_plant.specs.declared.voting.Mode.TheVariants.{Live}
use Rattle.dp_exchange.specs.Inside.{IsOfferText}
use Rattle.dp_exchange.specs.ComputerState.{after_run, after_wire}
use Rattle.dp_exchange.proofs.Confirmations.{no_texts-spell}
use Rattle.dp_exchange.proofs.Counts.{live-mode, mode_of-control, step-count}
use Rattle.dp_exchange.proofs.Hearing.{stepped_over}
use Rattle.dp_exchange.proofs.Waits.{IsWaiting-none, IsWaiting-same}
use Rattle.dp_exchange.proofs.computer.Computer.step_over.Goals as goal

pub invariant_of-self : goal.invariant_of-self
invariant_of-self c =
    let i = c.self.inside in
    let m = i.machine in
    let live = rw (← c.self.view_is) at c.requires.live in
    let mode : i.mode ≡ Live = live-mode i.mode m.state live in
    let none : length i.waits.items ≡ 0 = rw (← c.self.view_is) at c.requires.none in
    let next = rw (← c.self.view_is) at c.requires.next in
    let cycle : c.args.f.now.cycle ≡ i.next = next (λ e. (let off = sym (mode_of-control i.mode m.state) ∙ e in cc)) in
    let done = c.self.invariant.live mode in
    let count = ap (λ (t : Step). t.next.count) (sym c.step.ensures.issued) ∙ step-count m.plant m.plant.setpoint m.state c.args.f.now in
    record {
      waiting = IsWaiting-same m.plant c.step.new.self.plant i.waits (i.next + 1) c.step.ensures.plant (IsWaiting-none m.plant.groups i.waits i.next (i.next + 1) c.self.invariant.waiting none);
      live = λ is. omega (arith, done, count, none);
      bounded = omega (arith, cycle, c.requires.within.within.cycle);
      offers = subst (AllByRecursion (IsOfferText c.step.new.self.plant)) (sym c.forget.ensures) (no_texts-spell c.step.new.self.plant);
      software = c.self.invariant.software;
    }

pub returns : goal.returns
returns c =
    let i = c.self.inside in
    let live = rw (← c.self.view_is) at c.requires.live in
    let mode : i.mode ≡ Live = live-mode i.mode i.machine.state live in
    let none : length i.waits.items ≡ 0 = rw (← c.self.view_is) at c.requires.none in
    stepped_over i c.args.f.now c.step.new.self c.step.result c.forget.new.self mode none c.forget.ensures c.step.ensures.issued c.step.ensures.plant c.step.ensures.steps
    ∙ ap (λ x. after_run (after_wire x c.args.f.now)) c.self.view_is
