-- The certified set: the plane states whose form V is at most the square of the reach. No cycle
-- leaves it, whatever is measured.
use Rattle.std.specs.Prelude.{◌<◌, ◌^◌, ℕ, ℤ, pos, ◌*ℤ◌, ◌≤ℤ◌, int_lt, Bool, List, Option, IfSome, is_some, unsigned_abs}
use Rattle.dp_plant.specs.declared.cert.Cert.{Cert}
use Rattle.dp_plant.specs.declared.cert.Parts.{Parts}
use Rattle.dp_plant.specs.declared.cert.Parts.TheVariants.{Three, Five}
use Rattle.dp_plant.specs.declared.gains.Gains.{Gains}
use Rattle.dp_plant.specs.declared.place.Place.{Place}
use Rattle.dp_plant.specs.declared.plane.PlaneState.{PlaneState}
use Rattle.dp_plant.specs.Observer.{north_of, east_of, plane_next, rest_at}
use Rattle.dp_plant.specs.Ranges.{IsMeasuredPlace, IsPair, IsPlaneWithin, IsPush, IsVectorWithin}
use Rattle.dp_plant.specs.Vectors.{entry}
use Rattle.dp_cert.specs.First.{first_below}
use Rattle.dp_cert.specs.States.{IsStateOf, state_count, state_form, states_of}
use Rattle.dp_cert.specs.Width.{reach_of, width}

-- the reach N, and how far coordinate i can grow within it
abbrev pub reach_by : Cert → Parts → ℤ
reach_by c (Three l) = reach_of c l
reach_by c (Five l) = reach_of c l

abbrev pub width_by : Cert → Parts → ℕ → ℤ
width_by c (Three l) i = width (reach_of c l) (entry l.span i)
width_by c (Five l) i = width (reach_of c l) (entry l.span i)

-- a coordinate past a width, and whether one of n is
abbrev pub is_past : ℤ → ℤ → Bool
is_past z w = int_lt w (pos (unsigned_abs z))

unfoldable pub has_past : ℕ → List ℤ → List ℤ → Bool
has_past n x widths = is_some (first_below n (λ i. is_past (entry x i) (entry widths i)))

-- V is at most N²
abbrev pub IsInside : Cert → PlaneState → Type 0
IsInside c x = state_form c.parts x ≤ℤ (reach_by c c.parts *ℤ reach_by c c.parts)

pub record IsInCertifiedSet (c : Cert) (x : PlaneState) : Type 0 where
  pub of_parts : IsStateOf c.parts x
  pub inside : IsInside c x

-- ---- the laws
-- a cycle stays inside, whatever is measured and pushes in its range
abbrev pub CycleStaysInside : Gains → Cert → Type 0
CycleStaysInside g c =
    (x : PlaneState) (y : Option Place) (push : List ℤ) (pair : ℤ × ℤ)
    → IfSome y IsMeasuredPlace → IsPush push → IsPair pair
    → IsInCertifiedSet c x → IsInCertifiedSet c (plane_next g x y push pair)

-- at rest, at a place within 2^43 of zero, a state is inside
abbrev pub RestIsInside : Cert → Type 0
RestIsInside c = (at : Place) → IsVectorWithin (2 ^ 43) at → IsInCertifiedSet c (rest_at at)

-- inside, each coordinate is within its width
pub record IsNarrow (c : Cert) (x : PlaneState) (i : ℕ) : Type 0 where
  pub north : pos (unsigned_abs (entry (states_of c.parts (north_of x)) i)) ≤ℤ width_by c c.parts i
  pub east : pos (unsigned_abs (entry (states_of c.parts (east_of x)) i)) ≤ℤ width_by c c.parts i

abbrev pub InsideIsNarrow : Cert → Type 0
InsideIsNarrow c =
    (x : PlaneState) → IsInside c x → (i : ℕ) → i < state_count c.parts → IsNarrow c x i

-- so each is within 2^56
abbrev pub InsideIsWithin : Cert → Type 0
InsideIsWithin c = (x : PlaneState) → IsInCertifiedSet c x → IsPlaneWithin x
