use Rattle.std.proofs.Common.{arith}
use Rattle.dp_text.proofs.Digits.{small_power}
use Rattle.dp_text.proofs.numbers.decimal.Goals as goal

pub overflow_mul-value : goal.overflow_mul-value
overflow_mul-value c = omega (arith, small_power _ 17 _ c.loop-byte.invariant.bound (omega arith))

pub overflow_add-value : goal.overflow_add-value
overflow_add-value c = omega (arith, small_power _ 17 _ c.loop-byte.invariant.bound (omega arith))

pub returns-clause-bound : goal.returns-clause-bound
returns-clause-bound c = small_power _ 18 _ c.loop-byte.invariant.bound (omega arith)
