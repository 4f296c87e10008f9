use Rattle.std.proofs.Common.{◌+◌, sym, ◌∙◌, arith}
use Rattle.std.proofs.lemmas.List.{take_rest}
use Rattle.dp_nav.proofs.AngleCuts.{ends-there, point-there}
use Rattle.dp_nav.proofs.angles.decimals_behind.Goals as goal

pub returns-then-text-count-2 : goal.returns-then-text-count-2
returns-then-text-count-2 c = ends-there c.args.text.now c.args.count c.if-text-count-2.true

pub returns-then-text-count-eq46 : goal.returns-then-text-count-eq46
returns-then-text-count-eq46 c =
    let h = point-there c.args.text.now c.args.count (omega (arith, c.if-text-count.false)) c.if-text-count-eq46.true in
    (h.0, λ e. ((h.1 e).0, (h.1 e).1 ∙ sym (take_rest c.args.text.now (c.args.count + 1))), h.2)
