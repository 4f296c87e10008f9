use Rattle.std.proofs.Common.{sym, ◌∙◌}
use Rattle.std.proofs.lemmas.List.{take_rest}
use Rattle.dp_nav.proofs.DigitCuts.{all-whole, other-after, point-after}
use Rattle.dp_nav.proofs.decimals.Decimal.cut.Goals as goal

pub returns-then-at-text : goal.returns-then-at-text
returns-then-at-text c =
    let w = all-whole c.args.text.now c.digits_len-at.result c.digits_len-at.ensures c.if-at-text.true in (w.2, sym w.0, sym w.1)

pub returns-then-text-at-ne46 : goal.returns-then-text-at-ne46
returns-then-text-at-ne46 c =
    other-after c.args.text.now c.digits_len-at.result c.digits_len-at.ensures c.if-text-at-ne46.true c.if-at-text.false

pub returns : goal.returns
returns c =
    let w = point-after c.args.text.now c.digits_len-at.result c.digits_len-at.ensures c.if-text-at-ne46.false c.if-at-text.false in
    (w.2, sym w.0, take_rest c.args.text.now _ ∙ sym w.1)
