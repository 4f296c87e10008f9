use Rattle.std.proofs.Common.{◌≡◌, rules}
use Rattle.dp_shell.specs.MemoryFiles.{names_of}
use Rattle.dp_shell.specs.Names.{place_of}
use Rattle.dp_shell.proofs.Places.{counted-set-files}
use Rattle.dp_shell.proofs.memory_shelf.MemoryShelfShelf.read.Goals as goal

pub returns-then-contains-clause-others : goal.returns-then-contains-clause-others
returns-then-contains-clause-others c = λ other there ne.
    let at : c.place-at.result ≡ place_of (names_of c.args.self.now.files.items) c.args.name.now = search rules in
    counted-set-files _ c.args.self.now.files.items c.args.name.now other _ _ at there ne

pub returns-clause-others : goal.returns-clause-others
returns-clause-others c = λ other there ne.
    let at : c.place-at.result ≡ place_of (names_of c.args.self.now.files.items) c.args.name.now = search rules in
    counted-set-files _ c.args.self.now.files.items c.args.name.now other _ _ at there ne
