use Rattle.std.proofs.Common.{ap, arith, length, refl, ◌+◌}
use Rattle.dp_sentence.proofs.Cuts.{kept-all, kept-more, room-for}
use Rattle.dp_sentence.proofs.fields.keep.Goals as goal

pub loop-commas-preserved : goal.loop-commas-preserved
loop-commas-preserved g c = record {
  all = rw c.push.ensures.items (kept-more _ c.loop-commas.into.items c.cut.result.0 _ _ c.loop-commas.invariant.all c.cut.ensures);
  count = omega (arith, c.loop-commas.invariant.count, ap length c.cut.ensures, c.loop-commas-test.true);
  few = room-for _ g.row.N _ c.if-is_full.ensures.value c.loop-commas.invariant.few c.push.ensures.len;
}

pub returns : goal.returns
returns g c =
    rw c.push-2.ensures.items
    (kept-all g.row.N _ c.loop-commas.into.items c.loop-commas.rest c.loop-commas.invariant.all
    (omega (arith, c.loop-commas.invariant.count, c.loop-commas-test.false))
    (room-for (length c.loop-commas.into.items) g.row.N (length c.loop-commas.into.items + 1) c.if-is_full-2.ensures.value c.loop-commas.invariant.few refl))
