-- The laws of whole-number arithmetic that the crates above use.
use Rattle.std.specs.Prelude.{◌≡◌, ◌≤◌, ℤ, pos, ◌+ℤ◌, ◌-ℤ◌, ◌*ℤ◌, ◌≤ℤ◌, ◌<ℤ◌, unsigned_abs}
use Rattle.std.specs.Int.{int_rem_euclid}
use Rattle.dp_fixed.specs.Division.{IsCeil, IsFloor, ceil_of, floor_of}
use Rattle.dp_fixed.specs.Order.{IsMiddle, clamp_of, mid3_of}
use Rattle.dp_fixed.specs.Turns.{IsWrapped, wrap_of}

abbrev pub FloorIsExact : Type 0
FloorIsExact = (n d : ℤ) → pos 0 <ℤ d → IsFloor n d (floor_of n d)

abbrev pub FloorIsOnly : Type 0
FloorIsOnly = (n d q : ℤ) → pos 0 <ℤ d → IsFloor n d q → q ≡ floor_of n d

abbrev pub FloorIsMonotone : Type 0
FloorIsMonotone = (n m d : ℤ) → pos 0 <ℤ d → n ≤ℤ m → floor_of n d ≤ℤ floor_of m d

abbrev pub FloorOfShifted : Type 0
FloorOfShifted = (n k d : ℤ) → pos 0 <ℤ d → floor_of (n +ℤ k *ℤ d) d ≡ floor_of n d +ℤ k

abbrev pub CeilIsLeastAbove : Type 0
CeilIsLeastAbove = (n d : ℤ) → pos 0 <ℤ d → IsCeil n d (ceil_of n d)

abbrev pub ClampIsWithin : Type 0
ClampIsWithin = (x lo hi : ℤ) → lo ≤ℤ hi → (lo ≤ℤ clamp_of x lo hi) × (clamp_of x lo hi ≤ℤ hi)

abbrev pub ClampKeepsInside : Type 0
ClampKeepsInside = (x lo hi : ℤ) → lo ≤ℤ x → x ≤ℤ hi → clamp_of x lo hi ≡ x

abbrev pub ClampIsMonotone : Type 0
ClampIsMonotone = (x y lo hi : ℤ) → x ≤ℤ y → clamp_of x lo hi ≤ℤ clamp_of y lo hi

abbrev pub ClampMovesNoFarther : Type 0
ClampMovesNoFarther =
    (x y lo hi : ℤ) → unsigned_abs (clamp_of x lo hi -ℤ clamp_of y lo hi) ≤ unsigned_abs (x -ℤ y)

abbrev pub MiddleIsBetween : Type 0
MiddleIsBetween = (a b c : ℤ) → IsMiddle a b c (mid3_of a b c)

abbrev pub WrapIsNearest : Type 0
WrapIsNearest =
    (x turn : ℤ) → pos 0 <ℤ turn → int_rem_euclid turn (pos 2) ≡ pos 0
    → IsWrapped x turn (wrap_of x turn)
