use Rattle.std.proofs.Common.{rules, sym, subst}
use Rattle.dp_fixed.specs.Turns.{IsWrapped}
use Rattle.dp_fixed.proofs.Wraps.{wrap_is}
use Rattle.dp_fixed.proofs.turns.wrap.Goals as goal

pub returns-clause-value : goal.returns-clause-value
returns-clause-value c = search rules

pub returns-clause-wrapped : goal.returns-clause-wrapped
returns-clause-wrapped c =
    subst (IsWrapped c.args.x c.args.turn) (sym (returns-clause-value c)) (wrap_is c.args.x c.args.turn c.requires.positive c.requires.even)
