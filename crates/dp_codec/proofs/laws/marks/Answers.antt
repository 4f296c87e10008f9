use Rattle.std.proofs.Common.{refl}
use Rattle.dp_codec.specs.Numbers.{unsigned_text}
use Rattle.dp_codec.proofs.laws.marks.Goals as goal

pub returns : goal.returns
unfolding unsigned_text
returns c = record { first = refl; second = refl }
