use Rattle.std.proofs.Common.{◌≡◌, ◌∙◌, Some, ap, arith, refl, rules, sym}
use Rattle.std.specs.Prelude.{slice_get}
use Rattle.dp_exchange.specs.ComputerState.{ComputerState, offer_answer, offered_by}
use Rattle.dp_core.specs.WorldState.{with_text}
use Rattle.dp_core.proofs.Lists.{changed-read, get-below, read-at}
use Rattle.dp_core.proofs.Tells.{text-answered, text-read, text-sent, text-unanswered, text-unsent}
use Rattle.dp_core.proofs.world.tell_between.Goals as goal

pub returns-then-not-tell-clause-new : goal.returns-then-not-tell-clause-new
returns-then-not-tell-clause-new c =
    let xs = c.args.computers.now in
    let three = c.told-computers in
    let y = c.index-computers-from.result in
    let at : slice_get xs c.args.from ≡ Some y = read-at xs c.args.from y (omega (arith, three, c.requires.from)) c.index-computers-from.is in
    let x = get-below xs c.args.to (omega (arith, three, c.requires.to)) in
    text-unsent xs c.args.from y at c.tell.result c.args.to x.0 x.1 (search rules) (search rules)

pub returns-then-not-tell-clause-answer : goal.returns-then-not-tell-clause-answer
returns-then-not-tell-clause-answer c =
    let xs = c.args.computers.now in
    let three = c.told-computers in
    let y = c.index-computers-from.result in
    let at : slice_get xs c.args.from ≡ Some y = read-at xs c.args.from y (omega (arith, three, c.requires.from)) c.index-computers-from.is in
    let x = get-below xs c.args.to (omega (arith, three, c.requires.to)) in
    text-unanswered xs c.args.from y at c.tell.result c.args.to x.0 x.1 (search rules) (search rules)

pub returns-then-not-tell-clause-read : goal.returns-then-not-tell-clause-read
returns-then-not-tell-clause-read c =
    let xs = c.args.computers.now in
    let three = c.told-computers in
    let y = c.index-computers-from.result in
    let at : slice_get xs c.args.from ≡ Some y = read-at xs c.args.from y (omega (arith, three, c.requires.from)) c.index-computers-from.is in
    text-read xs c.args.from y at c.tell.new.into.items (search rules) (search rules)

pub returns-clause-new : goal.returns-clause-new
returns-clause-new c =
    let xs = c.args.computers.now in
    let a = c.args.from in
    let three = c.told-computers in
    let y = c.index-computers-from.result in
    let at : slice_get xs a ≡ Some y = read-at xs a y (omega (arith, three, c.requires.from)) c.index-computers-from.is in
    changed-read xs xs _ c.args.to c.index-computers-to.result c.offer.new.self (with_text a (slice_get xs a)) refl (omega (arith, three, c.requires.to)) c.index-computers-to.is
    (text-sent xs a y at c.tell.result _ c.offer.new.self c.tell.new.into.items c.as_slice.result.now (search rules) (search rules) (search rules) c.as_slice.ensures.value c.offer.ensures.new) refl

pub returns-clause-answer : goal.returns-clause-answer
returns-clause-answer c =
    let xs = c.args.computers.now in
    let a = c.args.from in
    let three = c.told-computers in
    let y = c.index-computers-from.result in
    let x = c.index-computers-to.result in
    let at : slice_get xs a ≡ Some y = read-at xs a y (omega (arith, three, c.requires.from)) c.index-computers-from.is in
    let there : slice_get xs c.args.to ≡ Some x = read-at xs c.args.to x (omega (arith, three, c.requires.to)) c.index-computers-to.is in
    let answer : c.offer.result ≡ offer_answer x a (offered_by x c.as_slice.result.now) = c.offer.ensures.answer ∙ ap (λ (z : ComputerState). offer_answer z a (offered_by z c.as_slice.result.now)) (sym c.index-computers-to.is) in
    text-answered xs a y at c.tell.result c.args.to x c.offer.result c.tell.new.into.items c.as_slice.result.now there (search rules) (search rules) (search rules) c.as_slice.ensures.value answer

pub returns-clause-read : goal.returns-clause-read
returns-clause-read c =
    let xs = c.args.computers.now in
    let three = c.told-computers in
    let y = c.index-computers-from.result in
    let at : slice_get xs c.args.from ≡ Some y = read-at xs c.args.from y (omega (arith, three, c.requires.from)) c.index-computers-from.is in
    text-read xs c.args.from y at c.tell.new.into.items (search rules) (search rules)
