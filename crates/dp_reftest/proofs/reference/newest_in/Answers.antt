use Rattle.std.proofs.Common.{pos, ◌∙◌}
use Rattle.dp_reftest.proofs.Testing.{newest_ends, newest_near, origin_near}
use Rattle.dp_reftest.proofs.reference.newest_in.Goals as goal

pub returns-clause-newest : goal.returns-clause-newest
returns-clause-newest c =
    newest_ends c.copied.result (record { north = pos 0; east = pos 0 }) c.unwrap_or.result c.args.ring.now.items c.unwrap_or.ensures (c.copied.ensures ∙ c.back.ensures)

pub returns-clause-near : goal.returns-clause-near
returns-clause-near c =
    newest_near c.copied.result (record { north = pos 0; east = pos 0 }) c.unwrap_or.result c.args.ring.now.items c.unwrap_or.ensures (c.copied.ensures ∙ c.back.ensures) c.requires.near origin_near
