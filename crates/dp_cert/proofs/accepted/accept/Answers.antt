use Rattle.std.proofs.Common.{◌≤◌, sym, subst, List, ℕ, length, Option}
use Rattle.std.specs.Prelude.{IfSome}
use Rattle.dp_cert.proofs.RangeFacts.{first_out-short, in_range}
use Rattle.dp_cert.proofs.accepted.accept.Goals as goal

pub named-requires : goal.named-requires
named-requires c = subst (λ (o : Option (List ℕ)). IfSome o (λ n. length n ≤ 48)) (sym c.in-Some.ensures) (first_out-short c.args.g.now c.args.y.now c.args.c.now)

pub first_fault-requires : goal.first_fault-requires
first_fault-requires c =
    let facts = in_range c.args.g.now c.args.y.now c.args.c.now (sym c.in-None.ensures) in
    record { observer = facts.gains.observer; law = facts.gains.law; numbers = facts.numbers; parts = facts.parts }

pub returns-in-None-first_fault-clause-within : goal.returns-in-None-first_fault-clause-within
returns-in-None-first_fault-clause-within c = (in_range c.args.g.now c.args.y.now c.args.c.now (sym c.in-None.ensures)).gains
