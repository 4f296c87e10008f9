use Rattle.dp_form.proofs.Clamp.{share_of}
use Rattle.dp_form.proofs.laws.clamp_share.Goals as goal

pub returns : goal.returns
returns c = share_of
