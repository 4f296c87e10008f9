use Rattle.std.proofs.Common.{ℤ, List, [], All, arith, append_assoc, subst}
use Rattle.std.proofs.lemmas.Grind.{common_steps}
use Rattle.std.proofs.lemmas.List.Elements.{All-from_get_or}
use Rattle.dp_codec.specs.Spelling.{IsThree}
use Rattle.dp_codec.proofs.Lengths.{three_more}
use Rattle.dp_codec.proofs.writing.put_demands.Goals as goal

pub loop-demand-preserved : goal.loop-demand-preserved
loop-demand-preserved c = record {
  items = grind (arith, common_steps, append_assoc);
  three = three_more c.as_slice-list.result.now c.loop-demand.demand-index _ (omega (arith, c.loop-demand-test.true)) c.loop-demand.invariant.three c.put_demand.ensures.three;
  len = omega (arith, c.put_demand.ensures.len, c.loop-demand.invariant.len);
}

pub returns-clause-three : goal.returns-clause-three
returns-clause-three c =
    subst (λ (xs : List (List ℤ)). All IsThree xs) c.as_slice-list.ensures.value
    (All-from_get_or IsThree c.as_slice-list.result.now [] (λ i h. c.loop-demand.invariant.three i (omega (arith, h, c.loop-demand-test.false))))
