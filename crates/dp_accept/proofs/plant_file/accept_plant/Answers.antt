use Rattle.dp_accept.specs.PlantFiles.{by_own_certificate}
use Rattle.dp_accept.proofs.Judging.{file_bad, file_good}
use Rattle.dp_accept.proofs.plant_file.accept_plant.Goals as goal

pub returns-in-Ok-clause-ok : goal.returns-in-Ok-clause-ok
returns-in-Ok-clause-ok g c =
    file_good by_own_certificate c.args.name.now c.in_ok-plant.plant c.in_ok-plant.ensures.accepted (g.F.Shelf.files c.args.shelf.now) c.in-Ok.accepted.plant c.in-Ok.ensures.plant
    c.in_ok-plant.ensures.ok c.in-Ok.ensures.ok

pub returns-in-Err-clause-err : goal.returns-in-Err-clause-err
returns-in-Err-clause-err g c = λ of.
    file_bad by_own_certificate c.args.name.now c.in_ok-plant.plant c.in_ok-plant.ensures.accepted (g.F.Shelf.files c.args.shelf.now) c.in-Err.why c.in_ok-plant.ensures.ok
    c.in-Err.ensures.err
