-- A number as a row of answers, one a bit.
use Rattle.std.specs.Prelude.{ℕ, ◌+◌, ◌*◌, ◌/◌, ◌%◌, ◌^◌, ◌==◌, Bool, if◌then◌else◌, List, [], ◌∷◌}

-- bit i of a number is set
abbrev pub is_set : ℕ → ℕ → Bool
is_set n i = (n / 2 ^ i) % 2 == 1

-- the number of which each yes is a bit, the first the lowest
abbrev pub bits_of : List Bool → ℕ
bits_of [] = 0
bits_of (b ∷ bs) = (if b then 1 else 0) + 2 * bits_of bs
