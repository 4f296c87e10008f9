use Rattle.std.proofs.Common.{rules, sym, subst}
use Rattle.dp_fixed.specs.Division.{IsCeil}
use Rattle.dp_fixed.proofs.Divisions.{ceil_is}
use Rattle.dp_fixed.proofs.division.ceil_div.Goals as goal

pub returns-then-n-gt0-clause-value : goal.returns-then-n-gt0-clause-value
returns-then-n-gt0-clause-value c = search rules

pub returns-then-n-gt0-clause-ceil : goal.returns-then-n-gt0-clause-ceil
returns-then-n-gt0-clause-ceil c =
    subst (IsCeil c.args.n c.args.d) (sym (returns-then-n-gt0-clause-value c)) (ceil_is c.args.n c.args.d c.requires)
