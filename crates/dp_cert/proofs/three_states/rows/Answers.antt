use Rattle.std.proofs.Common.{◌^◌}
use Rattle.std.specs.Prelude.{All}
use Rattle.dp_form.specs.Range.{IsWithin}
use Rattle.dp_cert.proofs.Tables.{all_three}
use Rattle.dp_cert.proofs.three_states.rows.Goals as goal

pub returns-clause-small : goal.returns-clause-small
returns-clause-small c = all_three (All (IsWithin (2 ^ 35))) _ _ _ c.place_row.ensures.small c.bias_row.ensures.small c.requires.velocity
