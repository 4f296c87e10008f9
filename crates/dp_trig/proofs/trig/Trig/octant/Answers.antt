use Rattle.std.proofs.Common.{◌/◌, ◌%◌, arith, ap, ◌∙◌, sym, subst, slice_index_or, pos}
use Rattle.std.proofs.lemmas.Option.{get_or_from_slice_get}
use Rattle.dp_trig.specs.Rotation.{Pair, IsShort, turned}
use Rattle.dp_trig.specs.SinePair.{octant_pair, degrees, hundredths}
use Rattle.dp_trig.proofs.SinePairs.{degrees-short, hundredths-short}
use Rattle.dp_trig.proofs.trig.Trig.octant.Goals as goal

pub turn-requires-clause-first_short : goal.turn-requires-clause-first_short
turn-requires-clause-first_short c =
    let e = get_or_from_slice_get c.self.inside.degrees (c.args.hundredths / 100) (degrees (c.args.hundredths / 100)) (pos 0, pos 0) (c.self.invariant.whole_degrees (c.args.hundredths / 100) (omega arith)) in
    subst IsShort (sym e) (degrees-short (c.args.hundredths / 100))

pub turn-requires-clause-second_short : goal.turn-requires-clause-second_short
turn-requires-clause-second_short c =
    let e = get_or_from_slice_get c.self.inside.hundredths (c.args.hundredths % 100) (hundredths (c.args.hundredths % 100)) (pos 0, pos 0) (c.self.invariant.rest_of_degree (c.args.hundredths % 100) (omega arith)) in
    subst IsShort (sym e) (hundredths-short (c.args.hundredths % 100))

pub returns-clause-value : goal.returns-clause-value
unfolding octant_pair
returns-clause-value c =
    let e = get_or_from_slice_get c.self.inside.degrees (c.args.hundredths / 100) (degrees (c.args.hundredths / 100)) (pos 0, pos 0) (c.self.invariant.whole_degrees (c.args.hundredths / 100) (omega arith)) in
    let f = get_or_from_slice_get c.self.inside.hundredths (c.args.hundredths % 100) (hundredths (c.args.hundredths % 100)) (pos 0, pos 0) (c.self.invariant.rest_of_degree (c.args.hundredths % 100) (omega arith)) in
    c.turn.ensures.value ∙ ap (λ (p : Pair). turned p (slice_index_or c.self.inside.hundredths (c.args.hundredths % 100) (pos 0, pos 0))) e ∙ ap (λ (p : Pair). turned (degrees (c.args.hundredths / 100)) p) f
