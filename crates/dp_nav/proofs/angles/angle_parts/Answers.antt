use Rattle.std.proofs.Common.{arith}
use Rattle.dp_nav.proofs.AngleCuts.{parted, parts-is}
use Rattle.dp_nav.proofs.angles.angle_parts.Goals as goal

pub returns-clause-value : goal.returns-clause-value
returns-clause-value c =
    parts-is c.args.text.now c.args.digits _ _ _ (parted c.args.text.now c.args.digits _ c.in_ok-decimals.decimals.now (omega arith) c.in_ok-decimals.ensures) c.parts_of.result c.parts_of.ensures.value
