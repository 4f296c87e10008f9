use Rattle.std.proofs.Common.{◌≡◌, Ok, Err}
use Rattle.dp_accept.proofs.PlantsRead.{read_fault, read_plant}
use Rattle.dp_accept.proofs.plant_file.plant_in.Goals as goal

pub returns-in-Ok-clause-ok : goal.returns-in-Ok-clause-ok
returns-in-Ok-clause-ok c = read_plant c.args.text.now c.in-Ok.plant c.in-Ok.ensures.document c.in-Ok.ensures.no_document

pub returns-in-Err-clause-err : goal.returns-in-Err-clause-err
returns-in-Err-clause-err c = read_fault c.args.text.now c.in-Err.fault c.file_trouble.result c.file_trouble.ensures.value c.in-Err.ensures.document c.in-Err.ensures.no_document
