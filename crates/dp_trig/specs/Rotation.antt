-- Rotations of the plane in whole numbers, each a cosine and a sine, counted in 1 / full_scale.
use Rattle.std.specs.Prelude.{ℕ, zero, suc, ℤ, pos, neg_ℤ, ◌+ℤ◌, ◌-ℤ◌, ◌*ℤ◌, ◌≤ℤ◌, int_div}
use Rattle.dp_fixed.specs.{full_scale}

-- a cosine and a sine
abbrev pub Pair : Type 0
Pair = ℤ × ℤ

-- the rotation by no angle
abbrev pub unturned : Pair
unturned = (full_scale, pos 0)

-- one rotation and then another: the cosine and the sine of the sum of two angles, divided by the
-- scale, cut toward zero
unfoldable pub turned : Pair → Pair → Pair
turned (c, s) (c', s') =
    (int_div (c *ℤ c' -ℤ s *ℤ s') full_scale, int_div (s *ℤ c' +ℤ c *ℤ s') full_scale)

-- n equal steps one after another
unfoldable pub repeated : Pair → ℕ → Pair
repeated step zero = unturned
repeated step (suc n) = turned (repeated step n) step

-- the pair is at most as long as the scale
pub record IsShort (p : Pair) : Type 0 where
  pub within : (p.0 *ℤ p.0 +ℤ p.1 *ℤ p.1) ≤ℤ (full_scale *ℤ full_scale)

-- each part lies from -scale to scale
pub record PartsWithin (p : Pair) : Type 0 where
  pub cosine_low : neg_ℤ full_scale ≤ℤ p.0
  pub cosine_high : p.0 ≤ℤ full_scale
  pub sine_low : neg_ℤ full_scale ≤ℤ p.1
  pub sine_high : p.1 ≤ℤ full_scale
