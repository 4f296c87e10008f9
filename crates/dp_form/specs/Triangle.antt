-- The triangle inequality of a form that is at least 0: where two vectors' forms are at most m² and
-- n², their sum's is at most (m + n)². m or n may be 0.
use Rattle.std.specs.Prelude.{ℤ, pos, ◌+ℤ◌, ◌*ℤ◌, ◌≤ℤ◌, List}
use Rattle.dp_form.specs.Vectors.{add}
use Rattle.dp_form.specs.Form.{form, plane_form, IsNonNegative}

abbrev pub Triangle : Type 0
Triangle =
    (p : List (List ℤ)) → IsNonNegative p → (x y : List ℤ) (m n : ℤ) → pos 0 ≤ℤ m → pos 0 ≤ℤ n →
    form p x ≤ℤ (m *ℤ m) → form p y ≤ℤ (n *ℤ n) → form p (add x y) ≤ℤ ((m +ℤ n) *ℤ (m +ℤ n))

-- the same of two vectors of places, (x, y) and (u, v)
abbrev pub PlaneTriangle : Type 0
PlaneTriangle =
    (p : List (List ℤ)) → IsNonNegative p → (x y u v : List ℤ) (m n : ℤ) → pos 0 ≤ℤ m → pos 0 ≤ℤ n →
    plane_form p x y ≤ℤ (m *ℤ m) → plane_form p u v ≤ℤ (n *ℤ n)
    → plane_form p (add x u) (add y v) ≤ℤ ((m +ℤ n) *ℤ (m +ℤ n))
