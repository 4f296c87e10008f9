use Rattle.std.proofs.Common.{◌≤◌, length, rules}
use Rattle.dp_shell.proofs.Prefixes.{bytes_more}
use Rattle.dp_shell.proofs.pieces.next_piece.Goals as goal

pub returns-clause-part : goal.returns-clause-part
returns-clause-part g c = λ before is prefix.
    let fits : c.in_ok-count.count ≤ length c.read.new.into = search rules in
    bytes_more (g.F.Shelf.files c.args.shelf.now) c.args.name.now before c.read.new.into _
    c.args.from _ fits c.in_ok-count.ensures.part is prefix
