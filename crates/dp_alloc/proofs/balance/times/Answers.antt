use Rattle.std.proofs.Common.{unsigned_abs, arith, ap, ◌∙◌, rules}
use Rattle.std.proofs.Math.Nat.{mul-le-mul_left}
use Rattle.std.proofs.lemmas.Int.{unsigned_abs-mul}
use Rattle.dp_alloc.proofs.balance.times.Goals as goal

pub returns-clause-value : goal.returns-clause-value
returns-clause-value c = search rules

pub returns-clause-bound : goal.returns-clause-bound
returns-clause-bound c =
    let size = ap unsigned_abs (returns-clause-value c) ∙ unsigned_abs-mul c.args.a c.args.b in
    omega (arith, size, mul-le-mul_left (unsigned_abs c.args.a) c.requires.b)
