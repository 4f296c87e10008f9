use Rattle.dp_codec.proofs.Whole.{keep_apart}
use Rattle.dp_codec.proofs.laws.spellings_keep_apart.Goals as goal

pub returns : goal.returns
returns c = keep_apart c.args.m.now.plant c.inside_is_within.ensures
