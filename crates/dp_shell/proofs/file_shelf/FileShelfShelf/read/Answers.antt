use Rattle.dp_shell.proofs.Places.{counted-set}
use Rattle.dp_shell.proofs.file_shelf.FileShelfShelf.read.Goals as goal

pub returns-in-None-clause-others : goal.returns-in-None-clause-others
returns-in-None-clause-others g c = λ other among ne. counted-set _ _ _ other _ _ c.place-at.ensures.value among ne
