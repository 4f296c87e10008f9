use Rattle.std.proofs.Common.{◌+◌, arith}
use Rattle.dp_plant.proofs.PlantFacts.{plant_groups}
use Rattle.dp_consequence.specs.{is_unsurvived}
use Rattle.dp_fixed.proofs.BitLemmas.{bits_next, bits_within}
use Rattle.dp_consequence.proofs.groups.check_bits.Goals as goal

pub overflow_add-bits : goal.overflow_add-bits
overflow_add-bits c =
    let passes = is_unsurvived c.args.plant.now c.args.lost c.args.mean in
    omega (arith, bits_next passes c.loop-group.group _ _ _ c.loop-group.invariant c.is_unsurvived.ensures c.bit_if-bits.ensures, bits_within passes (c.loop-group.group + 1) 8 (omega (arith, plant_groups c.args.plant.now)))

pub loop-group-preserved : goal.loop-group-preserved
loop-group-preserved c =
    bits_next _ _ _ _ _ c.loop-group.invariant c.is_unsurvived.ensures c.bit_if-bits.ensures

pub is_unsurvived-requires : goal.is_unsurvived-requires
is_unsurvived-requires c = omega (arith, plant_groups c.args.plant.now)

pub bit_if-bits-requires : goal.bit_if-bits-requires
bit_if-bits-requires c = omega (arith, plant_groups c.args.plant.now)
