use Rattle.std.proofs.Common.{◌≡◌, ◌∙◌, None, Some, ap, arith, length, refl, rules, sym}
use Rattle.std.specs.Prelude.{slice_get}
use Rattle.dp_exchange.specs.ComputerState.{ComputerState}
use Rattle.dp_core.specs.Several.{sent_by}
use Rattle.dp_core.specs.WorldState.{last_of}
use Rattle.dp_core.proofs.Lists.{read-at}
use Rattle.dp_core.proofs.Worlds.{sent-back}
use Rattle.dp_core.proofs.world.order_between.Goals as goal

pub returns-in_default : goal.returns-in_default
returns-in_default c =
    let three : length c.args.computers.now ≡ 3 = search rules in
    let at = read-at c.args.computers.now c.args.from c.index-computers-from.result (omega (arith, three, c.requires)) c.index-computers-from.is in
    let last : None ≡ last_of (slice_get c.args.computers.now c.args.from) = c.in_default.ensures ∙ (ap (λ (y : ComputerState). y.last) (sym c.index-computers-from.is) ∙ sym (ap last_of at)) in
    ap (λ o. sent_by c.args.from o c.args.voters.now.items) last

pub returns-in-Some : goal.returns-in-Some
returns-in-Some c =
    let three : length c.args.computers.now ≡ 3 = search rules in
    let at = read-at c.args.computers.now c.args.from c.index-computers-from.result (omega (arith, three, c.requires)) c.index-computers-from.is in
    let last : Some c.in-Some.issue.now ≡ last_of (slice_get c.args.computers.now c.args.from) = c.in-Some.ensures ∙ (ap (λ (y : ComputerState). y.last) (sym c.index-computers-from.is) ∙ sym (ap last_of at)) in
    sent-back c.args.from c.in-Some.issue.now c.args.voters.now.items c.deliver_all.new.voters _ (search rules) refl
    ∙ ap (λ o. sent_by c.args.from o c.args.voters.now.items) last
