use Rattle.std.proofs.Common.{unsigned_abs, arith, ap, ◌∙◌, rules}
use Rattle.std.proofs.Math.Nat.{mul-le-mul_right}
use Rattle.std.proofs.lemmas.Int.{unsigned_abs-mul}
use Rattle.dp_fixed.proofs.steps.product.Goals as goal

pub returns-clause-value : goal.returns-clause-value
returns-clause-value c = search rules

pub returns-clause-bound : goal.returns-clause-bound
returns-clause-bound c =
    let size = ap unsigned_abs (returns-clause-value c) ∙ unsigned_abs-mul c.args.share c.args.x in
    omega (arith, size, mul-le-mul_right (unsigned_abs c.args.x) c.requires.share)
