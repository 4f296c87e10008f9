use Rattle.std.proofs.Common.{◌≡◌, ◌∙◌, ap, map, arith, rules, ℤ, ◌+ℤ◌, to_z, of_z, w64, unsigned_abs}
use Rattle.std.proofs.lemmas.Int.{ints}
use Rattle.dp_consequence.specs.Demands.{sum_of}
use Rattle.dp_plant.specs.{entry}
use Rattle.dp_app.proofs.DriftTables.{sum_more}
use Rattle.dp_app.proofs.drift_table.sum_on.Goals as goal

pub loop-i-preserved : goal.loop-i-preserved
loop-i-preserved c =
    let inv = c.loop-i.invariant in
    let same : to_z w64 (of_z w64 c.plus-total.result) ≡ c.plus-total.result = search rules in
    let more : to_z w64 (of_z w64 c.on_axis.result) ≡ c.on_axis.result = search rules in
    record {
      sum = sum_more c.args.axis c.loop-i.i c.args.demands.now _ (to_z w64 c.loop-i.total-bits) _ _ c.loop-i-test.true inv.sum
          (same ∙ c.plus-total.ensures ∙ ap (λ (x : ℤ). to_z w64 c.loop-i.total-bits +ℤ x) (more ∙ c.on_axis.ensures.value));
      bound = rw same (omega (arith, ints, c.plus-total.ensures, more, c.on_axis.ensures.bound, inv.bound));
    }
