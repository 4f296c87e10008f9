use Rattle.std.proofs.Common.{◌≡◌, ◌∙◌, ap, ◌+◌, refl, arith, ℤ, ℕ, ◌≤ℤ◌, FitsSigned, to_z, [], ◌∷◌, subst}
use Rattle.std.proofs.lemmas.Int.{ints, to_z-of_z}
use mir.Syntax.{w128}
use Rattle.dp_drift.specs.declared.drift.Drift.TheVariants.{Within}
use Rattle.dp_drift.specs.Drift.{way_after}
use Rattle.dp_drift.specs.Laws.{IsKept}
use Rattle.dp_drift.proofs.Cycles.{velocity_more, way_more, reach_more, kept_none, kept_more, first_of, past_drift, within_drift, step_small, both_small}
use Rattle.dp_drift.proofs.drift.moved_by.Goals as goal

pub loop-i-init : goal.loop-i-init
loop-i-init c =
    let fd = c.ranges.damp in
    let fl = c.ranges.limit in
    let fu = c.ranges.u in
    let fw = c.ranges.w in
    let k = kept_none c.args.damp c.args.limit c.args.u c.args.w c.requires.limit in
    simp to_z-of_z (record {
      surge = refl;
      surge_way = refl;
      surge_small = omega arith;
      surge_near = omega arith;
      sway = refl;
      sway_way = refl;
      sway_small = omega arith;
      sway_near = omega arith;
      kept = k;
    })

pub returns-then-far-limit : goal.returns-then-far-limit
returns-then-far-limit c =
    let fd = c.ranges.damp in
    let fl = c.ranges.limit in
    let fu = c.ranges.u in
    let fw = c.ranges.w in
    let gl : FitsSigned w128 c.args.limit = omega (arith, ints) in
    let f1 : FitsSigned w128 c.velocity_next-v.result = record { sfits = c.velocity_next-v.type_inv } in
    let f2 : FitsSigned w128 c.sum-x.result = record { sfits = c.sum-x.type_inv } in
    let f3 : FitsSigned w128 c.velocity_next-t.result = record { sfits = c.velocity_next-t.type_inv } in
    let f4 : FitsSigned w128 c.sum-y.result = record { sfits = c.sum-y.type_inv } in
    let f5 : FitsSigned w128 c.farther-far.result = record { sfits = c.farther-far.type_inv } in
    let inv = simp to_z-of_z at c.loop-i.invariant in
    let v = simp to_z-of_z at c.velocity_next-v.ensures.value in
    let x = simp to_z-of_z at c.sum-x.ensures.value in
    let t = simp to_z-of_z at c.velocity_next-t.ensures.value in
    let y = simp to_z-of_z at c.sum-y.ensures.value in
    let far = simp to_z-of_z at c.farther-far.ensures in
    let over = simp to_z-of_z at c.if-far-limit.true in
    let vm = velocity_more c.args.damp c.args.u _ c.velocity_next-v.result c.loop-i.i inv.surge v in
    let xm = way_more c.args.damp c.args.u _ c.velocity_next-v.result c.sum-x.result c.loop-i.i inv.surge_way vm x in
    let tm = velocity_more c.args.damp c.args.w _ c.velocity_next-t.result c.loop-i.i inv.sway t in
    let ym = way_more c.args.damp c.args.w _ c.velocity_next-t.result c.sum-y.result c.loop-i.i inv.sway_way tm y in
    let reach = reach_more c.args.damp c.args.u c.args.w c.sum-x.result c.sum-y.result c.farther-far.result (c.loop-i.i + 1) xm ym far in
    let first = first_of c.args.damp c.args.limit c.args.u c.args.w c.farther-far.result c.loop-i.i inv.kept reach (omega (arith, ints, over)) in
    let more = c.loop-i-test.true in
    past_drift c.args.damp c.args.limit c.args.u c.args.w c.args.cycles (c.loop-i.i + 1) c.requires.moves (omega arith) (omega (arith, more)) first

pub loop-i-preserved : goal.loop-i-preserved
loop-i-preserved c =
    let fd = c.ranges.damp in
    let fl = c.ranges.limit in
    let fu = c.ranges.u in
    let fw = c.ranges.w in
    let gl : FitsSigned w128 c.args.limit = omega (arith, ints) in
    let f1 : FitsSigned w128 c.velocity_next-v.result = record { sfits = c.velocity_next-v.type_inv } in
    let f2 : FitsSigned w128 c.sum-x.result = record { sfits = c.sum-x.type_inv } in
    let f3 : FitsSigned w128 c.velocity_next-t.result = record { sfits = c.velocity_next-t.type_inv } in
    let f4 : FitsSigned w128 c.sum-y.result = record { sfits = c.sum-y.type_inv } in
    let f5 : FitsSigned w128 c.farther-far.result = record { sfits = c.farther-far.type_inv } in
    let inv = simp to_z-of_z at c.loop-i.invariant in
    let v = simp to_z-of_z at c.velocity_next-v.ensures.value in
    let x = simp to_z-of_z at c.sum-x.ensures.value in
    let t = simp to_z-of_z at c.velocity_next-t.ensures.value in
    let y = simp to_z-of_z at c.sum-y.ensures.value in
    let far = simp to_z-of_z at c.farther-far.ensures in
    let under = simp to_z-of_z at c.if-far-limit.false in
    let vm = velocity_more c.args.damp c.args.u _ c.velocity_next-v.result c.loop-i.i inv.surge v in
    let xm = way_more c.args.damp c.args.u _ c.velocity_next-v.result c.sum-x.result c.loop-i.i inv.surge_way vm x in
    let tm = velocity_more c.args.damp c.args.w _ c.velocity_next-t.result c.loop-i.i inv.sway t in
    let ym = way_more c.args.damp c.args.w _ c.velocity_next-t.result c.sum-y.result c.loop-i.i inv.sway_way tm y in
    let at_most : c.farther-far.result ≤ℤ c.args.limit = omega (arith, ints, under) in
    let reach = reach_more c.args.damp c.args.u c.args.w c.sum-x.result c.sum-y.result c.farther-far.result (c.loop-i.i + 1) xm ym far in
    let kept = kept_more c.args.damp c.args.limit c.args.u c.args.w c.farther-far.result c.loop-i.i inv.kept reach at_most in
    let near = both_small c.args.limit c.sum-x.result c.sum-y.result c.farther-far.result far at_most (omega (arith, ints, fl)) in
    let vs = step_small _ c.velocity_next-v.result c.sum-x.result x inv.surge_near near.0 in
    let ts = step_small _ c.velocity_next-t.result c.sum-y.result y inv.sway_near near.1 in
    simp to_z-of_z (record {
      surge = vm;
      surge_way = xm;
      surge_small = vs;
      surge_near = near.0;
      sway = tm;
      sway_way = ym;
      sway_small = ts;
      sway_near = near.1;
      kept = kept;
    })

pub returns : goal.returns
returns c =
    let fd = c.ranges.damp in
    let fl = c.ranges.limit in
    let fu = c.ranges.u in
    let fw = c.ranges.w in
    let inv = simp to_z-of_z at c.loop-i.invariant in
    let over = c.loop-i-test.false in
    let end = c.loop-i.auto.i-end in
    let e : c.loop-i.i ≡ c.args.cycles = omega (arith, over, end) in
    let kept = subst (λ (n : ℕ). IsKept c.args.damp c.args.limit c.args.u c.args.w n) e inv.kept in
    let at = subst (λ (n : ℕ). to_z w128 c.loop-i.x-bits ∷ (to_z w128 c.loop-i.y-bits ∷ []) ≡ way_after c.args.damp c.args.u n ∷ (way_after c.args.damp c.args.w n ∷ [])) e (pair inv.surge_way inv.sway_way) in
    ap Within at ∙ within_drift c.args.damp c.args.limit c.args.u c.args.w c.args.cycles c.requires.moves kept
  where
    pair : {a b p q : ℤ} → a ≡ p → b ≡ q → a ∷ (b ∷ []) ≡ p ∷ (q ∷ [])
    pair e f = cc
