use Rattle.std.proofs.Common.{◌∙◌}
use Rattle.dp_cert.specs.Ranges.{first_out}
use Rattle.dp_squares.proofs.RangeRefusals.{refusal_names}
use Rattle.dp_squares.proofs.ranges.first_out.Goals as goal

pub returns-in-Err : goal.returns-in-Err
returns-in-Err c =
    let e = refusal_names c.args.g.now c.args.c.now (first_out c.args.g.now c.args.y.now c.args.c.now) c.in-Err.fault c.in-Err.ensures.refused in
    c.key_of.ensures ∙ e
