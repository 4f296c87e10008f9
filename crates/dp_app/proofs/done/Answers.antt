use Rattle.dp_app.proofs.done.Goals as goal

pub returns : goal.returns
returns c = (c.run.result, c.exit_code.ensures, c.run.ensures.usage, c.run.ensures.no_command)
