use Rattle.std.proofs.Common.{◌∙◌, ap}
use Rattle.dp_script.specs.Left.{lines_left}
use Rattle.dp_script.proofs.MadeLines.{all_left}
use Rattle.dp_script.proofs.maker.Maker.new.Goals as goal

pub returns : goal.returns
returns c = ap (lines_left 0) c.from.ensures ∙ all_left c.args.number
