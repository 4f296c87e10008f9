use Rattle.std.proofs.Common.{rules}
use Rattle.dp_plant.proofs.Names.{is_section, is_long_section}
use Rattle.dp_plant.proofs.keys.section_of.Goals as goal

pub returns-then-index-lt10-clause-name : goal.returns-then-index-lt10-clause-name
returns-then-index-lt10-clause-name c =
    is_section _ c.push_str.new.self.bytes c.push.new.self.bytes _ c.args.index c.if-index-lt10.true (search rules) (search rules) (search rules)

pub returns-clause-name : goal.returns-clause-name
returns-clause-name c =
    is_long_section _ c.push_str.new.self.bytes c.push.new.self.bytes c.push-2.new.self.bytes _ c.args.index c.if-index-lt10.false c.requires.index (search rules) (search rules) (search rules) (search rules)
