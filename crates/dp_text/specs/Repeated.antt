-- A text that stands several times.
use Rattle.std.specs.Prelude.{ℕ, List, ◌++◌, codes}

-- a text four times, single spaces between
abbrev pub four_times : List ℕ → List ℕ
four_times s = s ++ (codes " " ++ (s ++ (codes " " ++ (s ++ (codes " " ++ s)))))
