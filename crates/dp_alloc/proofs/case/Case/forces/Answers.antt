use Rattle.std.proofs.Common.{List, ℤ, pos, get_or, sym, subst}
use Rattle.dp_alloc.specs.Ranges.{IsWithinLimits}
use Rattle.dp_alloc.proofs.Forces.{forces_within}
use Rattle.dp_alloc.proofs.case.Case.forces.Goals as goal

pub returns-clause-within : goal.returns-clause-within
returns-clause-within c =
    let s = c.args.self.now in
    λ k h. subst (λ (fs : List ℤ). IsWithinLimits (get_or s.limits.items k (pos 0, pos 0)) (get_or fs k (pos 0))) (sym c.add_thrusts.ensures)
    (forces_within s.raw.bounds s.limits.items s.raw.b.items c.args.a (sym s.ranges.rows) s.allowed c.requires k h)
