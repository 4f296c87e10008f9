use Rattle.std.proofs.Common.{rules}
use Rattle.dp_report.proofs.Common.{same_line}
use Rattle.dp_report.proofs.forces.append_common.Goals as goal

pub returns-clause-text : goal.returns-clause-text
returns-clause-text c =
    same_line c.args.into.now.items c.push.new.self.items c.append_decimal.new.into.items
    c.append_fresh.new.into.items c.append_four_times.new.into.items c.push-2.new.self.items
    c.args.k c.args.force c.push.ensures.items c.append_decimal.ensures.text c.append_fresh.ensures.text
    (search rules) c.push-2.ensures.items
