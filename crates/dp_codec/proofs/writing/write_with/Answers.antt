use Rattle.std.proofs.Common.{append_assoc, arith}
use Rattle.dp_codec.specs.Spelling.{spelling_of}
use Rattle.dp_codec.proofs.writing.write_with.Goals as goal

pub returns-clause-items : goal.returns-clause-items
unfolding spelling_of
returns-clause-items c =
    let whole = c.put_length.ensures.items c.args.m.now.plant c.args.x.now in
    grind (arith, append_assoc)
