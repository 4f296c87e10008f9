use Rattle.std.proofs.Common.{◌^◌}
use Rattle.std.specs.Prelude.{All}
use Rattle.dp_form.specs.Range.{IsWithin}
use Rattle.dp_cert.proofs.Tables.{all_five}
use Rattle.dp_cert.proofs.five_states.rows.Goals as goal

pub returns-clause-small : goal.returns-clause-small
returns-clause-small c =
    all_five (All (IsWithin (2 ^ 35))) _ _ _ _ _ c.place_row.ensures.small c.bias_row.ensures.small c.requires.velocity c.p_row.ensures.small c.q_row.ensures.small
