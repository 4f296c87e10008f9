-- Clamps, and the middle of three.
use Rattle.std.specs.Prelude.{ℤ, ◌≤ℤ◌}
use Rattle.std.specs.Int.{int_min, int_max}

-- x, or the nearer end of the range where it lies outside
abbrev pub clamp_of : ℤ → ℤ → ℤ → ℤ
clamp_of x lo hi = int_max lo (int_min x hi)

-- the middle one of three
abbrev pub mid3_of : ℤ → ℤ → ℤ → ℤ
mid3_of a b c = int_max (int_min a b) (int_min (int_max a b) c)

-- x lies between two numbers, whichever of them is the smaller
pub record IsBetween (a b x : ℤ) : Type 0 where
  pub low : int_min a b ≤ℤ x
  pub high : x ≤ℤ int_max a b

-- m lies between any two of three numbers
pub record IsMiddle (a b c m : ℤ) : Type 0 where
  pub first_two : IsBetween a b m
  pub last_two : IsBetween b c m
  pub outer_two : IsBetween a c m
