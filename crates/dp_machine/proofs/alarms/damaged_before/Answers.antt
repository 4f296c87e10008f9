use Rattle.std.proofs.Common.{◌-◌, length, arith, cond, ap, ◌∙◌}
use Rattle.dp_machine.specs.Alarms.{is_damaged}
use Rattle.dp_machine.proofs.Wires.{one_higher, wire_before, room}
use Rattle.dp_machine.proofs.alarms.damaged_before.Goals as goal

pub overflow_mul-bits : goal.overflow_mul-bits
overflow_mul-bits g c =
    let low = room c.loop-k.bits (length c.args.slots.now - c.loop-k.k) (c.loop-k.invariant.low 14 c.requires.after) (omega (arith, c.requires.few)) in
    omega (arith, low)

pub loop-k-preserved : goal.loop-k-preserved
loop-k-preserved g c =
    let i = c.loop-k.invariant in
    record {
      few = omega (arith, i.few);
      is = λ bs e. wire_before c.loop-k.k c.loop-k.bits c.damage_bit.result c.args.slots.now bs c.index-slots-k.result c.loop-k-test.true i.few (i.is bs e)
          (c.damage_bit.ensures.value ∙ ap (λ s. cond (is_damaged s) 1 0) c.index-slots-k.is);
      low = λ n a. one_higher n c.loop-k.k (length c.args.slots.now) c.loop-k.bits c.damage_bit.result c.loop-k-test.true i.few c.damage_bit.ensures.bound (i.low n a);
    }

pub overflow_add-bits : goal.overflow_add-bits
overflow_add-bits g c =
    let low = room c.loop-k.bits (length c.args.slots.now - c.loop-k.k) (c.loop-k.invariant.low 14 c.requires.after) (omega (arith, c.requires.few)) in
    omega (arith, low, c.damage_bit.ensures.bound)
