use Rattle.std.proofs.Common.{◌++◌, ◌∙◌, ap, List, ℕ}
use Rattle.std.specs.Prelude.{codes}
use Rattle.dp_plant.specs.PlantFile.{square_row}
use Rattle.dp_squares.specs.Text.{array_text, numbers_text}
use Rattle.dp_squares.proofs.RowLines.{array-mapped, lined}
use Rattle.dp_squares.proofs.lines.squares_line.Goals as goal

pub returns : goal.returns
returns g c =
    let key = c.args.key.now in
    let items = c.args.squares.now.list.items in
    let e = array-mapped numbers_text (square_row {n = g.row.N}) items in
    lined key (codes " = ") (array_text (λ q. numbers_text (square_row {n = g.row.N} q)) items) (codes "\n") _ _ _ c.begun-line.ensures.text c.append_squares.ensures.text c.append.ensures.text
    ∙ ap (λ (t : List ℕ). key ++ (codes " = " ++ (t ++ codes "\n"))) e
