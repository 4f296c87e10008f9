use Rattle.std.proofs.Common.{arith, sym, subst}
use Rattle.std.proofs.lemmas.Int.{to_z-of_z}
use Rattle.dp_trig.specs.Rotation.{PartsWithin}
use Rattle.dp_trig.proofs.Fits.{pair_fits}
use Rattle.dp_trig.proofs.SinePairs.{pair_of-quarters, pair_of-parts}
use Rattle.dp_trig.proofs.trig.Trig.pair.Goals as goal

pub returns-in-0-clause-value : goal.returns-in-0-clause-value
returns-in-0-clause-value c =
    let f = pair_fits c.quadrant-cosine.result c.quadrant-cosine.ensures.short in
    let cosine = f.cosine in
    let sine = f.sine in
    simp to_z-of_z (pair_of-quarters c.args.hundredths 0 c.quadrant-cosine.result c.in-0.is c.quadrant-cosine.ensures.value)

pub returns-in-1-clause-value : goal.returns-in-1-clause-value
returns-in-1-clause-value c =
    let f = pair_fits c.quadrant-cosine.result c.quadrant-cosine.ensures.short in
    let cosine = f.cosine in
    let sine = f.sine in
    let minus_sine = f.minus_sine in
    simp to_z-of_z (pair_of-quarters c.args.hundredths 1 c.quadrant-cosine.result c.in-1.is c.quadrant-cosine.ensures.value)

pub returns-in-2-clause-value : goal.returns-in-2-clause-value
returns-in-2-clause-value c =
    let f = pair_fits c.quadrant-cosine.result c.quadrant-cosine.ensures.short in
    let cosine = f.cosine in
    let sine = f.sine in
    let minus_cosine = f.minus_cosine in
    let minus_sine = f.minus_sine in
    simp to_z-of_z (pair_of-quarters c.args.hundredths 2 c.quadrant-cosine.result c.in-2.is c.quadrant-cosine.ensures.value)

pub returns-in_default-clause-value : goal.returns-in_default-clause-value
returns-in_default-clause-value c =
    let f = pair_fits c.quadrant-cosine.result c.quadrant-cosine.ensures.short in
    let cosine = f.cosine in
    let sine = f.sine in
    let minus_cosine = f.minus_cosine in
    simp to_z-of_z (pair_of-quarters c.args.hundredths 3 c.quadrant-cosine.result (omega arith) c.quadrant-cosine.ensures.value)

pub returns-in-0-clause-parts : goal.returns-in-0-clause-parts
returns-in-0-clause-parts c = subst PartsWithin (sym (returns-in-0-clause-value c)) (pair_of-parts c.args.hundredths)

pub returns-in-1-clause-parts : goal.returns-in-1-clause-parts
returns-in-1-clause-parts c = subst PartsWithin (sym (returns-in-1-clause-value c)) (pair_of-parts c.args.hundredths)

pub returns-in-2-clause-parts : goal.returns-in-2-clause-parts
returns-in-2-clause-parts c = subst PartsWithin (sym (returns-in-2-clause-value c)) (pair_of-parts c.args.hundredths)

pub returns-in_default-clause-parts : goal.returns-in_default-clause-parts
returns-in_default-clause-parts c = subst PartsWithin (sym (returns-in_default-clause-value c)) (pair_of-parts c.args.hundredths)
