-- The sine pair of a heading: its cosine and its sine.
use Rattle.std.specs.Prelude.{ℕ, zero, suc, pos, neg_ℤ, ◌-◌, ◌/◌, ◌%◌, nat_le, if◌then◌else◌}
use Rattle.dp_trig.specs.Rotation.{Pair, turned, repeated}

-- one degree, each part cut to a whole number
abbrev pub degree : Pair
degree = (pos 1073578287, pos 18739378)

-- a hundredth of a degree, likewise
abbrev pub hundredth : Pair
hundredth = (pos 1073741807, pos 187403)

-- n degrees, as n steps of one
unfoldable pub degrees : ℕ → Pair
degrees n = repeated degree n

-- n hundredths of a degree, as n steps of one
unfoldable pub hundredths : ℕ → Pair
hundredths n = repeated hundredth n

-- from 0 to 45 degrees: the whole degrees and then the rest
unfoldable pub octant_pair : ℕ → Pair
octant_pair a = turned (degrees (a / 100)) (hundredths (a % 100))

-- the cosine and the sine of what is left to 90 degrees
abbrev pub exchanged : Pair → Pair
exchanged (c, s) = (s, c)

-- from 0 up to, but not including, 90 degrees: above 45 by what is left to 90
unfoldable pub quadrant_pair : ℕ → Pair
quadrant_pair r = if nat_le r 4500 then octant_pair r else exchanged (octant_pair (9000 - r))

-- the pair after so many quarter turns
abbrev pub after_quarters : ℕ → Pair → Pair
after_quarters zero (c, s) = (c, s)
after_quarters (suc zero) (c, s) = (neg_ℤ s, c)
after_quarters (suc (suc zero)) (c, s) = (neg_ℤ c, neg_ℤ s)
after_quarters (suc (suc (suc n))) (c, s) = (s, neg_ℤ c)

-- a heading in hundredths of a degree, below 36000: its whole quarters, and the pair within the
-- last one
unfoldable pub pair_of : ℕ → Pair
pair_of a = after_quarters (a / 9000) (quadrant_pair (a % 9000))
