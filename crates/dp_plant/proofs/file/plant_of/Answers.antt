use Rattle.std.proofs.lemmas.Result.{err_from_is_err_and}
use Rattle.toml.specs.Data.{table}
use Rattle.dp_plant.specs.PlantFile.{plant_at}
use Rattle.dp_plant.proofs.Tables.{only_memory}
use Rattle.dp_plant.proofs.file.plant_of.Goals as goal

pub returns-in_err-document-clause-document : goal.returns-in_err-document-clause-document
returns-in_err-document-clause-document c = λ ms text parsed.
    let p = err_from_is_err_and c.from_residual.result c.from_residual.ensures.1 in
    rw (p.1, p.2) (only_memory c.in_err-document.field-0.0 (table ms) (plant_at _) (c.in_err-document.ensures.document ms text parsed))
