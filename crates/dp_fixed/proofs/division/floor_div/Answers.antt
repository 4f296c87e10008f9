use Rattle.std.proofs.Common.{rules, sym, subst}
use Rattle.dp_fixed.specs.Division.{IsFloor}
use Rattle.dp_fixed.proofs.Divisions.{floor_is}
use Rattle.dp_fixed.proofs.division.floor_div.Goals as goal

pub returns-clause-value : goal.returns-clause-value
returns-clause-value c = search rules

pub returns-clause-floor : goal.returns-clause-floor
returns-clause-floor c =
    subst (IsFloor c.args.n c.args.d) (sym (returns-clause-value c)) (floor_is c.args.n c.args.d c.requires)
