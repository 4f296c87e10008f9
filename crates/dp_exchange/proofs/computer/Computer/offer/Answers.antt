use Rattle.std.proofs.Common.{◌≡◌, ◌-◌, ◌≤◌, true, false, length, ap, arith, rules}
use Rattle.circular_buffer.specs.Buffer.{Buffer, buffer, keep_last}
use Rattle.dp_plant.specs.declared.frames.Frame.{Frame}
use Rattle.dp_exchange.proofs.Offering.{adopted-both, kept-both, plant-same, taken, texts-spell}
use Rattle.dp_exchange.proofs.Waits.{IsWaiting-keep, IsWaiting-same, length-keep}
use Rattle.dp_exchange.proofs.computer.Computer.offer.Goals as goal

pub returns-then-not-is_repeated-clause-new : goal.returns-then-not-is_repeated-clause-new
returns-then-not-is_repeated-clause-new c =
    let i = c.self.inside in
    let m = c.read_state.new.m in
    let t = taken i c.args.from c.args.bytes.now m c.keep.new.self false c.written_is_read.ensures c.spellings_keep_apart.ensures c.self.invariant c.requires (search rules) c.in_default.ensures.found c.in_default.ensures.ok
    (omega (arith, c.count-state_cycle.ensures, c.if-self-state_cycle.false)) (omega (arith, c.count-state_cycle.ensures, c.len.ensures.len, c.if-state_cycle-oldest.false))
    c.keep.ensures.state c.keep.ensures.three c.keep.ensures.text (search rules) in
    (kept-both i c.args.self.now c.args.from c.args.bytes.now m c.keep.new.self c.self.view_is t).new

pub returns-then-not-is_repeated-clause-answer : goal.returns-then-not-is_repeated-clause-answer
returns-then-not-is_repeated-clause-answer c =
    let i = c.self.inside in
    let m = c.read_state.new.m in
    let t = taken i c.args.from c.args.bytes.now m c.keep.new.self false c.written_is_read.ensures c.spellings_keep_apart.ensures c.self.invariant c.requires (search rules) c.in_default.ensures.found c.in_default.ensures.ok
    (omega (arith, c.count-state_cycle.ensures, c.if-self-state_cycle.false)) (omega (arith, c.count-state_cycle.ensures, c.len.ensures.len, c.if-state_cycle-oldest.false))
    c.keep.ensures.state c.keep.ensures.three c.keep.ensures.text (search rules) in
    (kept-both i c.args.self.now c.args.from c.args.bytes.now m c.keep.new.self c.self.view_is t).answer

pub returns-clause-new : goal.returns-clause-new
returns-clause-new c =
    let i = c.self.inside in
    let m = c.read_state.new.m in
    let t = taken i c.args.from c.args.bytes.now m c.keep.new.self true c.written_is_read.ensures c.spellings_keep_apart.ensures c.self.invariant c.requires (search rules) c.in_default.ensures.found c.in_default.ensures.ok
    (omega (arith, c.count-state_cycle.ensures, c.if-self-state_cycle.false)) (omega (arith, c.count-state_cycle.ensures, c.len.ensures.len, c.if-state_cycle-oldest.false))
    c.keep.ensures.state c.keep.ensures.three c.keep.ensures.text (search rules) in
    let newest : c.truncate_front.new.self ≡ buffer (keep_last (i.next - m.state.count) i.waits.items) i.waits.capacity = rw c.count-state_cycle.ensures at c.truncate_front.ensures in
    (adopted-both i c.args.self.now c.args.from c.args.bytes.now m c.keep.new.self c.truncate_front.new.self c.self.view_is t (ap (λ (b : Buffer Frame). b.items) newest)).new

pub returns-clause-answer : goal.returns-clause-answer
returns-clause-answer c =
    let i = c.self.inside in
    let m = c.read_state.new.m in
    let t = taken i c.args.from c.args.bytes.now m c.keep.new.self true c.written_is_read.ensures c.spellings_keep_apart.ensures c.self.invariant c.requires (search rules) c.in_default.ensures.found c.in_default.ensures.ok
    (omega (arith, c.count-state_cycle.ensures, c.if-self-state_cycle.false)) (omega (arith, c.count-state_cycle.ensures, c.len.ensures.len, c.if-state_cycle-oldest.false))
    c.keep.ensures.state c.keep.ensures.three c.keep.ensures.text (search rules) in
    let newest : c.truncate_front.new.self ≡ buffer (keep_last (i.next - m.state.count) i.waits.items) i.waits.capacity = rw c.count-state_cycle.ensures at c.truncate_front.ensures in
    (adopted-both i c.args.self.now c.args.from c.args.bytes.now m c.keep.new.self c.truncate_front.new.self c.self.view_is t (ap (λ (b : Buffer Frame). b.items) newest)).answer

pub invariant_of-self-2 : goal.invariant_of-self-2
invariant_of-self-2 c =
    let i = c.self.inside in
    let m = c.read_state.new.m in
    let plant = plant-same i.machine m m.state c.in_default.ensures.ok in
    let kept = i.next - m.state.count in
    let newest : c.truncate_front.new.self ≡ buffer (keep_last kept i.waits.items) i.waits.capacity = rw c.count-state_cycle.ensures at c.truncate_front.ensures in
    let few : kept ≤ length i.waits.items = omega (arith, c.count-state_cycle.ensures, c.len.ensures.len, c.if-state_cycle-oldest.false, c.self.invariant.waiting.enough) in
    record {
      waiting = IsWaiting-same i.machine.plant m.plant c.truncate_front.new.self i.next plant (IsWaiting-keep i.machine.plant.groups kept i.waits c.truncate_front.new.self i.next c.self.invariant.waiting few newest);
      live = λ is. omega (arith, length-keep kept i.waits c.truncate_front.new.self few newest, c.count-state_cycle.ensures, c.if-self-state_cycle.false);
      bounded = c.self.invariant.bounded;
      offers = texts-spell i c.args.from m c.keep.new.self c.written_is_read.ensures c.self.invariant.offers c.in_default.ensures.ok c.keep.ensures.state c.keep.ensures.text;
      software = c.self.invariant.software;
    }
