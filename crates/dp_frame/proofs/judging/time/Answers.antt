use Rattle.std.proofs.Common.{arith, rules, get_or}
use Rattle.dp_frame.proofs.LeadingDigits.{bound_more, digits_end, digits_least, digits_more, few_fit, value_more}
use Rattle.dp_frame.proofs.judging.time.Goals as goal

pub returns-then-not-is_ascii_digit-clause-few : goal.returns-then-not-is_ascii_digit-clause-few
returns-then-not-is_ascii_digit-clause-few c = λ le.
    digits_end c.args.line.now c.loop-count.count c.loop-count.invariant.within c.loop-count.invariant.digits (λ lt. search rules)

pub overflow_mul-value : goal.overflow_mul-value
overflow_mul-value c =
    let less = few_fit c.loop-count.count c.loop-count.value c.loop-count.invariant.bound (omega (arith, c.loop-count-test.true, c.min-most.ensures)) in
    omega (arith, less)

pub overflow_add-value : goal.overflow_add-value
overflow_add-value c =
    let less = few_fit c.loop-count.count c.loop-count.value c.loop-count.invariant.bound (omega (arith, c.loop-count-test.true, c.min-most.ensures)) in
    omega (arith, less, c.from.ensures)

pub loop-count-preserved : goal.loop-count-preserved
loop-count-preserved c =
    let i = c.loop-count.count in
    let line = c.args.line.now in
    let inv = c.loop-count.invariant in
    record {
      within = omega (arith, c.loop-count-test.true, c.min-most.ensures);
      digits = digits_more line i inv.digits (search rules);
      value = value_more line i c.loop-count.value c.from.result (omega (arith, c.loop-count-test.true, c.min-most.ensures)) (search rules) (search rules) inv.value;
      bound = bound_more i c.loop-count.value c.from.result (get_or line i 0) inv.bound (search rules) (search rules);
    }

pub returns-clause-few : goal.returns-clause-few
returns-clause-few c = λ le.
    digits_end c.args.line.now c.loop-count.count c.loop-count.invariant.within c.loop-count.invariant.digits
    (λ lt. absurd (omega (arith, lt, le, c.loop-count-test.false, c.min-most.ensures)))

pub returns-clause-many : goal.returns-clause-many
returns-clause-many c = λ lt.
    omega (arith, lt, digits_least c.args.line.now c.loop-count.count c.loop-count.invariant.within c.loop-count.invariant.digits)
