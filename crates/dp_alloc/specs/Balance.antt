-- What the thrusters together make of a demand: where they share it out well, the demand itself.
use Rattle.std.specs.Prelude.{ℕ, ℤ, pos, ◌+ℤ◌, ◌-ℤ◌, ◌*ℤ◌, List, [], ◌∷◌, ◌==◌, if◌then◌else◌, unsigned_abs}
use Rattle.dp_fixed.specs.Scale.{full_scale}
use Rattle.dp_plant.specs.Vectors.{entry}
use Rattle.dp_plant.specs.declared.thrusters.Thruster.{Thruster}
use Rattle.dp_trig.specs.SinePair.{pair_of}

-- what one newton in a direction, by its sine pair (cosine first), gives at a lever arm: surge,
-- sway, and the turning moment
abbrev pub effect_at : ℤ × ℤ → List ℤ → List ℤ
effect_at pair arm =
    pair.0 ∷ pair.1 ∷ ((entry arm 0 *ℤ pair.1) -ℤ (entry arm 1 *ℤ pair.0)) ∷ []

abbrev pub effect_of : Thruster → List ℤ
effect_of t = effect_at (pair_of t.azimuth) t.at

-- what all thrusters give on an axis for a unit of demand on a column's axis: the sum of the
-- effects of their shares, times 2^50
abbrev pub given : ℕ → ℕ → List Thruster → List (List ℤ) → ℤ
given axis column [] rows = pos 0
given axis column (t ∷ ts) [] = pos 0
given axis column (t ∷ ts) (row ∷ rows) =
    entry (effect_of t) axis *ℤ entry row column +ℤ given axis column ts rows

-- what they are to give: the mass number of the axis on its own column, and nothing on another
abbrev pub wanted : List ℤ → ℕ → ℕ → ℤ
wanted mass axis column = if axis == column then full_scale *ℤ entry mass axis else pos 0

-- by how much they miss it
unfoldable pub error_of : List ℤ → List Thruster → List (List ℤ) → ℕ → ℕ → ℤ
error_of mass ts rows axis column =
    pos (unsigned_abs (given axis column ts rows -ℤ wanted mass axis column))
