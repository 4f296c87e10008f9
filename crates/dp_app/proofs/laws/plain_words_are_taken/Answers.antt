use Rattle.dp_app.proofs.PlainWords.{takes_command}
use Rattle.dp_app.proofs.laws.plain_words_are_taken.Goals as goal

pub returns : goal.returns
returns c = takes_command
