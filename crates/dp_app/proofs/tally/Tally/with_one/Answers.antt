use Rattle.std.proofs.Common.{rules}
use Rattle.dp_app.proofs.Tallies.{fresh_more, held_more, zero_more}
use Rattle.dp_app.proofs.tally.Tally.with_one.Goals as goal

pub returns-in-Fresh-clause-value : goal.returns-in-Fresh-clause-value
returns-in-Fresh-clause-value c = λ bs is. search (rules, fresh_more c.args.self bs is c.in-Fresh.force)

pub returns-in-Held-clause-value : goal.returns-in-Held-clause-value
returns-in-Held-clause-value c = λ bs is. search (rules, held_more c.args.self bs is c.in-Held.force)

pub returns-in-Zero-clause-value : goal.returns-in-Zero-clause-value
returns-in-Zero-clause-value c = λ bs is. search (rules, zero_more c.args.self bs is)
