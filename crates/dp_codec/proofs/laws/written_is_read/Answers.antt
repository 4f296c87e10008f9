use Rattle.dp_codec.proofs.Whole.{written_is_read}
use Rattle.dp_codec.proofs.laws.written_is_read.Goals as goal

pub returns : goal.returns
returns c = written_is_read c.args.m.now.plant c.inside_is_within.ensures
