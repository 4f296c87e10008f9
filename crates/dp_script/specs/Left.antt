-- What a maker still gives.
use Rattle.std.specs.Prelude.{ℕ, ◌-◌, ◌*◌, List}
use Rattle.dp_script.specs.Made.{lines_from, record_seconds}

-- the lines of the record after so many, the generator being in a state
unfoldable pub lines_left : ℕ → ℕ → List (List ℕ)
lines_left given x = lines_from (9 * record_seconds - given) given x
