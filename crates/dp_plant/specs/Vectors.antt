-- Vectors in north and east, and along the vessel's axes.
use Rattle.std.specs.Prelude.{ℕ, List, [], ◌∷◌, slice_index_or, ℤ, pos, ◌+ℤ◌, ◌-ℤ◌, ◌*ℤ◌}
use Rattle.dp_plant.specs.declared.place.Place.{Place}

-- an entry of an array of numbers
abbrev pub entry : List ℤ → ℕ → ℤ
entry xs i = slice_index_or xs i (pos 0)

abbrev pub three_zeros : List ℤ
three_zeros = pos 0 ∷ pos 0 ∷ pos 0 ∷ []

abbrev pub zero_place : Place
zero_place = record { north = pos 0; east = pos 0 }

-- what is between two places
abbrev pub offset : Place → Place → Place
offset from to = record { north = to.north -ℤ from.north; east = to.east -ℤ from.east }

-- a vector's part along surge, times the scale, by the sine pair (cosine first) of the heading
abbrev pub along_surge : ℤ × ℤ → Place → ℤ
along_surge pair v = (pair.0 *ℤ v.north) +ℤ (pair.1 *ℤ v.east)

-- its part along sway
abbrev pub along_sway : ℤ × ℤ → Place → ℤ
along_sway pair v = (pair.0 *ℤ v.east) -ℤ (pair.1 *ℤ v.north)

-- the north part of a vector in surge and sway, times the scale
abbrev pub along_north : ℤ × ℤ → List ℤ → ℤ
along_north pair u = (pair.0 *ℤ entry u 0) -ℤ (pair.1 *ℤ entry u 1)

-- its east part
abbrev pub along_east : ℤ × ℤ → List ℤ → ℤ
along_east pair u = (pair.1 *ℤ entry u 0) +ℤ (pair.0 *ℤ entry u 1)
