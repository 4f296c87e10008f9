use Rattle.std.proofs.Common.{arith}
use Rattle.dp_text.proofs.Digits.{small_power}
use Rattle.dp_nav.proofs.decimals.wide.Goals as goal

pub overflow_mul-number : goal.overflow_mul-number
overflow_mul-number c = omega (arith, small_power _ 19 _ c.loop-byte.invariant.bound (omega arith))

pub overflow_add-number : goal.overflow_add-number
overflow_add-number c = omega (arith, small_power _ 19 _ c.loop-byte.invariant.bound (omega arith))

pub returns-clause-bound : goal.returns-clause-bound
returns-clause-bound c = small_power _ 20 _ c.loop-byte.invariant.bound (omega arith)
