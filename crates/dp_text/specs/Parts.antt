-- The parts of a line.
use Rattle.std.specs.Prelude.{ℕ, ◌+◌, Bool, ◌==◌, not, List, Option, take, drop, map}
use Rattle.std.specs.List.{list_all, position, slice_split}
use Rattle.std.specs.Option.{option_map}
use Rattle.std.specs.Borrow.{Bor}

abbrev pub is_space : ℕ → Bool
is_space b = b == 32

abbrev pub lacks_space : List ℕ → Bool
lacks_space text = list_all (λ b. not (is_space b)) text

-- what stands before the first space, and what stands after it
abbrev pub cut_of : List ℕ → Option (List ℕ × List ℕ)
cut_of text = option_map (λ at. (take at text, drop (at + 1) text)) (position is_space text)

-- the parts between single spaces
abbrev pub parts_of : List ℕ → List (List ℕ)
parts_of text = slice_split is_space text

-- the texts behind slices
abbrev pub texts_of : List (Bor (List ℕ)) → List (List ℕ)
texts_of slices = map (λ slice. slice.now) slices
