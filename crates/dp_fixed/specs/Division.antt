-- Division of whole numbers by a number above 0, rounded down and up.
use Rattle.std.specs.Prelude.{ℤ, neg_ℤ, ◌+ℤ◌, ◌*ℤ◌, ◌≤ℤ◌, ◌<ℤ◌}
use Rattle.std.specs.Int.{int_div_euclid}

-- n / d for a d above 0, rounded toward minus infinity
abbrev pub floor_of : ℤ → ℤ → ℤ
floor_of n d = int_div_euclid n d

-- n / d for a d above 0, rounded toward plus infinity
abbrev pub ceil_of : ℤ → ℤ → ℤ
ceil_of n d = neg_ℤ (floor_of (neg_ℤ n) d)

-- q is the floor of n / d: q * d is at most n, and the next multiple of d is not
pub record IsFloor (n d q : ℤ) : Type 0 where
  pub below : (q *ℤ d) ≤ℤ n
  pub above : n <ℤ (q *ℤ d +ℤ d)

-- q is the ceiling of n / d: q * d is at least n, and the multiple of d before it is not
pub record IsCeil (n d q : ℤ) : Type 0 where
  pub above : n ≤ℤ (q *ℤ d)
  pub below : (q *ℤ d) <ℤ (n +ℤ d)
