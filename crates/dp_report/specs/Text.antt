-- The lines of a cycle's text.
use Rattle.std.specs.Prelude.{ℕ, List, ◌++◌, map, ℤ, Option, Some, None, codes}
use Rattle.std.specs.List.{enumerate_from, flat_map, zip}
use Rattle.std.specs.Fmt.{decimal, signed_decimal}
use Rattle.dp_plant.specs.declared.voting.Ballot.{Ballot}
use Rattle.dp_plant.specs.declared.voting.Ballot.TheVariants.{Fresh, Held, Zero}
use Rattle.dp_plant.specs.declared.voting.Mode.{Mode}
use Rattle.dp_plant.specs.declared.voting.Mode.TheVariants.{Live, Aligning, Off}

-- the letter of a mode, as its code: L live, A aligning, O off
abbrev pub mode_letter : Mode → ℕ
mode_letter Live = 76
mode_letter Aligning = 65
mode_letter Off = 79

-- the line of a cycle: its number, and how each computer takes part
unfoldable pub cycle_line : ℕ → List Mode → List ℕ
cycle_line cycle modes =
    codes "cycle " ++ (decimal cycle ++ (codes " " ++ (map mode_letter modes ++ codes "\n")))

-- a ballot: F, H or Z for fresh, held or zero, and the voted force
unfoldable pub ballot_text : Ballot → List ℕ
ballot_text (Fresh force) = codes " F " ++ signed_decimal force
ballot_text (Held force) = codes " H " ++ signed_decimal force
ballot_text Zero = codes " Z 0"

-- the order held from a computer, or a dash
unfoldable pub order_text : Option ℤ → List ℕ
order_text (Some force) = codes " " ++ signed_decimal force
order_text None = codes " -"

-- the line of thruster k: its ballot, and the orders that its voter holds
unfoldable pub thruster_line : ℕ → Ballot → List (Option ℤ) → List ℕ
thruster_line k ballot orders =
    codes "t" ++ (decimal k ++ (ballot_text ballot ++ (flat_map order_text orders ++ codes "\n")))

-- the lines of thrusters 0, 1, 2 and so on
unfoldable pub thruster_lines : List Ballot → List (List (Option ℤ)) → List ℕ
thruster_lines ballots held =
    flat_map (λ row. thruster_line row.0 row.1.0 row.1.1) (enumerate_from 0 (zip ballots held))
