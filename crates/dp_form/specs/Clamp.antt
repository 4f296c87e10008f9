-- A clamp passes on a share, from 0 to 1, of how far its argument moves.
use Rattle.std.specs.Prelude.{◌≡◌, ℤ, pos, ◌-ℤ◌, ◌*ℤ◌, ◌≤ℤ◌, ◌<ℤ◌}
use Rattle.std.specs.Int.{int_min, int_max}

-- z, held between low and high
abbrev pub clamp : ℤ → ℤ → ℤ → ℤ
clamp low high z = int_max low (int_min z high)

-- g is the share part / whole of f, from 0 to 1
pub record Share (f g : ℤ) : Type 0 where
  pub part : ℤ
  pub whole : ℤ
  pub from_zero : pos 0 ≤ℤ part
  pub to_one : part ≤ℤ whole
  pub whole_positive : pos 0 <ℤ whole
  pub is_share : whole *ℤ g ≡ part *ℤ f

abbrev pub ClampShares : Type 0
ClampShares =
    (low high z y : ℤ) → low ≤ℤ high → Share (z -ℤ y) (clamp low high z -ℤ clamp low high y)
