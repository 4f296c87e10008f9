use Rattle.std.proofs.Common.{arith}
use Rattle.std.proofs.lemmas.Bool.Decides.{nat_tests}
use Rattle.dp_text.proofs.FirstPart.{cut_some, cut_none, part_done, too_many, all_done}
use Rattle.dp_text.proofs.parts.split_parts.Goals as goal

pub loop-part-preserved : goal.loop-part-preserved
loop-part-preserved g c =
    part_done c.loop-part.parts.items _ c.in-Some.part _ _ _ c.push.ensures.items (cut_some c.loop-part.rest.now _ _ c.in-Some.ensures) c.loop-part.invariant

pub returns-then-is_full-2 : goal.returns-then-is_full-2
returns-then-is_full-2 g c =
    too_many g.row.N c.loop-part.parts.items c.loop-part.rest.now _ _ (cut_none c.loop-part.rest.now c.in_default.ensures) c.loop-part.invariant (grind (arith, nat_tests))

pub returns : goal.returns
returns g c =
    all_done c.loop-part.parts.items _ c.loop-part.rest _ _ c.push-2.ensures.items (cut_none c.loop-part.rest.now c.in_default.ensures) c.loop-part.invariant
