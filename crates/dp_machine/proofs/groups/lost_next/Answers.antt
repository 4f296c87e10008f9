use Rattle.std.proofs.Common.{◌≡◌, rules, length, ◌<◌, ◌^◌, arith, subst, sym}
use Rattle.dp_machine.proofs.Masks.{silent_keeps}
use Rattle.dp_machine.proofs.groups.lost_next.Goals as goal

pub returns-then-is_silent : goal.returns-then-is_silent
returns-then-is_silent c =
    let eight : length c.args.group.now ≡ 8 = search rules in
    silent_keeps c.args.mask c.args.group.now (search rules) (subst (λ n. c.args.mask < 2 ^ n) (sym eight) (omega (arith, c.ranges.mask)))
