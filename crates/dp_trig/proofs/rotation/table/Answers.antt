use Rattle.std.proofs.Common.{◌<◌, length, refl, sym, subst, ap, ◌∙◌, add-one, arith}
use Rattle.std.proofs.lemmas.List.{length-set, length-replicate}
use Rattle.dp_trig.specs.Rotation.{Pair, IsShort, turned, repeated}
use Rattle.dp_trig.proofs.Lengths.{repeated-short}
use Rattle.dp_trig.proofs.Tables.{filled_more}
use Rattle.dp_trig.proofs.rotation.table.Goals as goal

pub loop-rotation-init : goal.loop-rotation-init
unfolding repeated
loop-rotation-init g c = record { reached_is = refl; whole = length-replicate _ _; filled = λ k h. absurd (omega arith) }

pub turn-reached-requires-clause-first_short : goal.turn-reached-requires-clause-first_short
turn-reached-requires-clause-first_short g c = subst IsShort (sym c.loop-rotation.invariant.reached_is) (repeated-short c.args.step c.loop-rotation.rotation-index c.requires.short)

pub loop-rotation-preserved : goal.loop-rotation-preserved
unfolding repeated
loop-rotation-preserved g c =
    let kept = c.loop-rotation.invariant in
    let here : c.loop-rotation.rotation-index < length c.loop-rotation.rotation-items = omega arith in
    record {
      reached_is = rw add-one (c.turn-reached.ensures.value ∙ ap (λ (p : Pair). turned p c.args.step) kept.reached_is);
      whole = length-set _ _ _ ∙ kept.whole;
      filled = filled_more (repeated c.args.step) c.loop-rotation.rotation-items c.loop-rotation.rotation-index _ here kept.reached_is kept.filled;
    }
