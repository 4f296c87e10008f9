use Rattle.std.proofs.Common.{arith, rules}
use Rattle.dp_sentence.proofs.Cuts.{comma-here, comma-later, some-comma}
use Rattle.dp_sentence.proofs.fields.comma_place.Goals as goal

pub bounds-text-at : goal.bounds-text-at
bounds-text-at c = omega (arith, c.loop-at.invariant, some-comma c.args.text.now c.requires)

pub overflow_add-at : goal.overflow_add-at
overflow_add-at c = search (rules, some-comma)

pub loop-at-smaller : goal.loop-at-smaller
loop-at-smaller c = omega (arith, c.loop-at.invariant, some-comma c.args.text.now c.requires)

pub loop-at-preserved : goal.loop-at-preserved
loop-at-preserved c = comma-later c.args.text.now c.loop-at.at c.requires c.loop-at.invariant c.loop-at-test.true

pub returns-clause-place : goal.returns-clause-place
returns-clause-place c = comma-here c.args.text.now c.loop-at.at c.loop-at.invariant c.loop-at-test.false
