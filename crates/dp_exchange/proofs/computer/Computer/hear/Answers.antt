use Rattle.std.proofs.Common.{◌≡◌, ◌<◌, ◌∙◌, ap, length, subst, sym, arith}
use Rattle.std.specs.List.{AllByRecursion}
use Rattle.dp_exchange.specs.Inside.{IsOfferText}
use Rattle.dp_exchange.specs.ComputerState.{after_wire}
use Rattle.dp_exchange.proofs.Confirmations.{no_texts-spell}
use Rattle.dp_exchange.proofs.Counts.{mode_of-control}
use Rattle.dp_exchange.proofs.Hearing.{heard-aligning, heard-live, heard-off, heard-overrun}
use Rattle.dp_exchange.proofs.Waits.{IsWaiting-push, length-push, not_full}
use Rattle.dp_exchange.proofs.computer.Computer.hear.Goals as goal

pub invariant_of-self-in-Aligning : goal.invariant_of-self-in-Aligning
invariant_of-self-in-Aligning c =
    let next = rw (← c.self.view_is) at c.requires.next in
    let cycle : c.args.f.now.cycle ≡ c.self.inside.next = next (λ e. (let off = sym (mode_of-control c.self.inside.mode c.self.inside.machine.state) ∙ e in cc)) in
    let range = rw (← c.self.view_is) at c.requires.within in
    record {
      waiting = IsWaiting-push c.self.inside.machine.plant.groups c.self.inside.waits c.enter.new.waits c.self.inside.next c.args.f.now c.self.invariant.waiting cycle range c.enter.ensures;
      live = λ is. absurd cc;
      bounded = omega (arith, cycle, c.requires.within.within.cycle);
      offers = subst (AllByRecursion (IsOfferText c.self.inside.machine.plant)) (sym c.forget.ensures) (no_texts-spell c.self.inside.machine.plant);
      software = c.self.invariant.software;
    }

pub invariant_of-self-then-is_full : goal.invariant_of-self-then-is_full
invariant_of-self-then-is_full c =
    let next = rw (← c.self.view_is) at c.requires.next in
    let cycle : c.args.f.now.cycle ≡ c.self.inside.next = next (λ e. (let off = sym (mode_of-control c.self.inside.mode c.self.inside.machine.state) ∙ e in cc)) in
    let range = rw (← c.self.view_is) at c.requires.within in
    record {
      waiting = IsWaiting-push c.self.inside.machine.plant.groups c.self.inside.waits c.enter-in-Live.new.waits c.self.inside.next c.args.f.now c.self.invariant.waiting cycle range c.enter-in-Live.ensures;
      live = λ is. absurd cc;
      bounded = omega (arith, cycle, c.requires.within.within.cycle);
      offers = subst (AllByRecursion (IsOfferText c.self.inside.machine.plant)) (sym c.forget.ensures) (no_texts-spell c.self.inside.machine.plant);
      software = c.self.invariant.software;
    }

pub invariant_of-self-else-is_full : goal.invariant_of-self-else-is_full
invariant_of-self-else-is_full c =
    let next = rw (← c.self.view_is) at c.requires.next in
    let cycle : c.args.f.now.cycle ≡ c.self.inside.next = next (λ e. (let off = sym (mode_of-control c.self.inside.mode c.self.inside.machine.state) ∙ e in cc)) in
    let room : length c.self.inside.waits.items < 16 = not_full c.self.inside.machine.plant.groups c.self.inside.waits c.self.inside.next c.self.invariant.waiting c.if-is_full.ensures in
    let range = rw (← c.self.view_is) at c.requires.within in
    record {
      waiting = IsWaiting-push c.self.inside.machine.plant.groups c.self.inside.waits c.enter-in-Live.new.waits c.self.inside.next c.args.f.now c.self.invariant.waiting cycle range c.enter-in-Live.ensures;
      live = λ is. omega (arith, c.self.invariant.live is, length-push c.self.inside.machine.plant.groups c.self.inside.waits c.enter-in-Live.new.waits c.self.inside.next c.args.f.now c.self.invariant.waiting room c.enter-in-Live.ensures);
      bounded = omega (arith, cycle, c.requires.within.within.cycle);
      offers = subst (AllByRecursion (IsOfferText c.self.inside.machine.plant)) (sym c.forget.ensures) (no_texts-spell c.self.inside.machine.plant);
      software = c.self.invariant.software;
    }

pub invariant_of-self : goal.invariant_of-self
invariant_of-self c = record {
  waiting = c.self.invariant.waiting;
  live = c.self.invariant.live;
  bounded = c.self.invariant.bounded;
  offers = subst (AllByRecursion (IsOfferText c.self.inside.machine.plant)) (sym c.forget.ensures) (no_texts-spell c.self.inside.machine.plant);
  software = c.self.invariant.software;
}

pub returns-in-Off-clause-new : goal.returns-in-Off-clause-new
returns-in-Off-clause-new c =
    heard-off c.self.inside c.args.f.now c.forget.new.self c.in-Off.is c.forget.ensures ∙ ap (λ x. after_wire x c.args.f.now) c.self.view_is

pub returns-in-Aligning-clause-new : goal.returns-in-Aligning-clause-new
returns-in-Aligning-clause-new c =
    heard-aligning c.self.inside c.args.f.now c.forget.new.self c.enter.new.waits c.in-Aligning.is c.forget.ensures c.self.invariant.waiting.capacity c.enter.ensures
    ∙ ap (λ x. after_wire x c.args.f.now) c.self.view_is

pub returns-then-is_full-clause-new : goal.returns-then-is_full-clause-new
returns-then-is_full-clause-new c =
    heard-overrun c.self.inside c.args.f.now c.forget.new.self c.enter-in-Live.new.waits c.in-Live.is c.forget.ensures c.self.invariant.waiting.capacity c.if-is_full.ensures c.enter-in-Live.ensures
    ∙ ap (λ x. after_wire x c.args.f.now) c.self.view_is

pub returns-else-is_full-clause-new : goal.returns-else-is_full-clause-new
returns-else-is_full-clause-new c =
    let room : length c.self.inside.waits.items < 16 = not_full c.self.inside.machine.plant.groups c.self.inside.waits c.self.inside.next c.self.invariant.waiting c.if-is_full.ensures in
    heard-live c.self.inside c.args.f.now c.forget.new.self c.enter-in-Live.new.waits c.in-Live.is c.forget.ensures c.self.invariant.waiting.capacity room c.if-is_full.ensures c.enter-in-Live.ensures
    ∙ ap (λ x. after_wire x c.args.f.now) c.self.view_is
