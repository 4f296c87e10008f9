-- How far a thruster's force can move, times 2^20: by the gain for each nanometre between the two
-- other references, and by the offset besides.
use Rattle.std.specs.Prelude.{◌≡◌, ◌≤◌, ℕ, ◌^◌, ℤ, pos, ◌+ℤ◌, ◌-ℤ◌, ◌*ℤ◌, ◌≤ℤ◌, ◌<ℤ◌, List, unsigned_abs}
use Rattle.dp_fixed.specs.Scale.{full_scale}
use Rattle.dp_fixed.specs.Division.{ceil_of}
use Rattle.dp_plant.specs.Vectors.{entry}
use Rattle.dp_plant.specs.declared.cert.Cert.{Cert}

-- the size of a row's share of an axis
abbrev pub share_size : List ℤ → ℕ → ℤ
share_size row axis = pos (unsigned_abs (entry row axis))

-- the row's shares of surge and sway, each times the greatest demand
abbrev pub weight : List ℤ → List ℤ → ℤ
weight g row = share_size row 0 *ℤ entry g 0 +ℤ share_size row 1 *ℤ entry g 1

-- one less the rate
abbrev pub margin : Cert → ℤ
margin c = full_scale -ℤ c.rho

-- what the force moves with each nanometre
abbrev pub gain : Cert → List ℤ → ℤ
gain c row = ceil_of (weight c.g row *ℤ c.b) (full_scale *ℤ margin c)

-- what it moves besides
abbrev pub offset : Cert → List ℤ → ℤ
offset c row =
    ((share_size row 0 +ℤ share_size row 1) +ℤ pos (2 ^ 20))
    +ℤ ceil_of (weight c.g row *ℤ (full_scale *ℤ c.r +ℤ margin c)) (full_scale *ℤ margin c)

unfoldable pub bound : Cert → List ℤ → ℤ × ℤ
bound c row = (gain c row, offset c row)

-- ---- for the sums in parts
-- q is the whole part of n / d, and r the remainder
pub record IsSplit (n d q r : ℤ) : Type 0 where
  pub is : n ≡ q *ℤ d +ℤ r
  pub whole : pos 0 ≤ℤ q
  pub low : pos 0 ≤ℤ r
  pub high : r <ℤ d

-- the shares of a row lie within 2^31 of zero
abbrev pub IsShareRow : List ℤ → Type 0
IsShareRow row = (axis : ℕ) → unsigned_abs (entry row axis) ≤ 2 ^ 31
