use Rattle.std.proofs.Common.{◌∙◌, ap, rules, sym}
use Rattle.std.specs.Prelude.{slice_get}
use Rattle.dp_core.proofs.Lists.{get-past, read-at}
use Rattle.dp_core.proofs.Worlds.{sent-nothing, sent-one}
use Rattle.dp_core.proofs.world.deliver_at.Goals as goal

pub returns-in_default : goal.returns-in_default
returns-in_default c =
    let forces = c.as_slice.result.now in
    let none = ap (λ fs. slice_get fs c.args.k) (sym c.as_slice.ensures.value) ∙ get-past forces c.args.k c.in_default.ensures.lookup.3 in
    sent-nothing c.args.from c.args.issue.now c.args.k c.args.voters.now none

pub returns-in-Some : goal.returns-in-Some
returns-in-Some c =
    let forces = c.as_slice.result.now in
    let there = ap (λ fs. slice_get fs c.args.k) (sym c.as_slice.ensures.value) ∙ read-at forces c.args.k c.in-Some.force.now c.in-Some.ensures.lookup.3.0 c.in-Some.ensures.lookup.1 in
    sent-one c.args.from c.args.issue.now c.args.k c.args.voters.now _ c.index-voters-k.result c.order-took.new.self _ c.in-Some.force.now c.order-took.result there c.requires.voter c.index-voters-k.is (search rules) c.order-took.ensures.taken c.order-took.ensures.answer (search rules)
