-- The table of drifts as text.
use Rattle.std.specs.Prelude.{ℕ, List, [], ◌++◌, length, ℤ, Option, Some, None, codes}
use Rattle.std.specs.List.{flat_map}
use Rattle.std.specs.Fmt.{decimal, signed_decimal}
use Rattle.dp_plant.specs.declared.plant.Plant.{Plant}
use Rattle.dp_plant.specs.{entry}
use Rattle.dp_drift.specs.declared.drift.Drift.{Drift}
use Rattle.dp_drift.specs.declared.drift.Drift.TheVariants.{Held, Past, Within}
use Rattle.dp_drift.specs.Loss.{drift_without, ready_groups}

-- two places
unfoldable pub places_text : List ℤ → List ℕ
places_text at = signed_decimal (entry at 0) ++ (codes " " ++ signed_decimal (entry at 1))

-- the word for a drift, and its numbers
unfoldable pub drift_words : Option Drift → List ℕ
drift_words None = codes " nocase"
drift_words (Some Held) = codes " held"
drift_words (Some (Past cycle)) = codes " past " ++ decimal cycle
drift_words (Some (Within at)) = codes " within " ++ places_text at

-- the line of a group
unfoldable pub drift_line : ℕ → Option Drift → List ℕ
drift_line group drift =
    codes "group " ++ (decimal group ++ (drift_words drift ++ codes "\n"))

-- the lines of the ready groups
unfoldable pub drift_lines : Plant → ℕ → List ℤ → ℤ → ℕ → List ℕ
drift_lines p lost mean limit cycles =
    flat_map (λ group. drift_line group (drift_without p lost group mean limit cycles))
    (ready_groups p lost)

-- the last line, with the number of those before it
unfoldable pub end_line : ℕ → List ℕ
end_line count = codes "end " ++ (decimal count ++ codes "\n")

-- the whole table
unfoldable pub drift_table : Plant → ℕ → List ℤ → ℤ → ℕ → List ℕ
drift_table p lost mean limit cycles =
    drift_lines p lost mean limit cycles ++ end_line (length (ready_groups p lost))
