-- A vector of places, with north parts x and east parts y, split along the two axes of a pair (c,
-- s).
use Rattle.std.specs.Prelude.{◌≡◌, ℤ, pos, ◌+ℤ◌, ◌-ℤ◌, ◌*ℤ◌, ◌≤ℤ◌, List}
use Rattle.dp_form.specs.Vectors.{add, scale}
use Rattle.dp_form.specs.Form.{form, plane_form, IsNonNegative}

-- c x + s y
abbrev pub along : ℤ → ℤ → List ℤ → List ℤ → List ℤ
along c s x y = add (scale c x) (scale s y)

-- c y - s x
abbrev pub across : ℤ → ℤ → List ℤ → List ℤ → List ℤ
across c s x y = add (scale c y) (scale (pos 0 -ℤ s) x)

-- the forms along and across are together the plane form, times the square of the pair's length
abbrev pub AxesSplit : Type 0
AxesSplit =
    (p : List (List ℤ)) (c s : ℤ) (x y : List ℤ)
    → (c *ℤ c +ℤ s *ℤ s) *ℤ plane_form p x y ≡ form p (along c s x y) +ℤ form p (across c s x y)

-- so for a pair no longer than q they are together at most q² times the plane form
abbrev pub ShortPairBound : Type 0
ShortPairBound =
    (p : List (List ℤ)) → IsNonNegative p → (q c s : ℤ) (x y : List ℤ)
    → (c *ℤ c +ℤ s *ℤ s) ≤ℤ (q *ℤ q) →
    (form p (along c s x y) +ℤ form p (across c s x y)) ≤ℤ (q *ℤ q *ℤ plane_form p x y)
