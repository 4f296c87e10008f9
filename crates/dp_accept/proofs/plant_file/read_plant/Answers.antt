use Rattle.dp_accept.specs.Prefixes.{prefix_read}
use Rattle.dp_accept.proofs.Judging.{case_refused}
use Rattle.dp_accept.proofs.plant_file.read_plant.Goals as goal

pub returns-clause-err : goal.returns-clause-err
returns-clause-err g c =
    case_refused c.judge_cases.result (g.F.Shelf.files c.args.shelf.now) c.args.name.now (prefix_read c.in_ok-part.part) c.in_ok-plant.plant c.in_ok-part.ensures.ok
    c.in_ok-plant.ensures.ok c.judge_cases.ensures.err
