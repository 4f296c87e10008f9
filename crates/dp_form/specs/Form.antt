-- The quadratic form of a matrix.
use Rattle.std.specs.Prelude.{◌≡◌, ◌<◌, ℕ, ℤ, pos, ◌+ℤ◌, ◌≤ℤ◌, List, length, All}
use Rattle.dp_form.specs.Vectors.{dot, apply, entry}

-- the sum of p_ij x_i y_j
abbrev pub bilinear : List (List ℤ) → List ℤ → List ℤ → ℤ
bilinear p x y = dot x (apply p y)

-- the sum of p_ij x_i x_j
abbrev pub form : List (List ℤ) → List ℤ → ℤ
form p x = bilinear p x x

-- the form of a vector of places: that of its north parts x and that of its east parts y
abbrev pub plane_form : List (List ℤ) → List ℤ → List ℤ → ℤ
plane_form p x y = form p x +ℤ form p y

-- the form is at least 0 for every vector of whole numbers
abbrev pub IsNonNegative : List (List ℤ) → Type 0
IsNonNegative p = (x : List ℤ) → pos 0 ≤ℤ form p x

-- n rows of n entries each
pub record HasSize (n : ℕ) (p : List (List ℤ)) : Type 0 where
  pub rows : length p ≡ n
  pub columns : All (λ r. length r ≡ n) p

-- p_ij is p_ji
abbrev pub IsSymmetric : ℕ → List (List ℤ) → Type 0
IsSymmetric n p = (i j : ℕ) → i < n → j < n → entry p i j ≡ entry p j i
