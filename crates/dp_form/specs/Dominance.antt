-- Diagonal dominance, and what squares show.
use Rattle.std.specs.Prelude.{◌≡◌, ◌<◌, ℕ, ℤ, pos, ◌≤ℤ◌, List, length, All}
use Rattle.dp_form.specs.Form.{HasSize, IsSymmetric, IsNonNegative}
use Rattle.dp_form.specs.Shown.{shortfall, IsShown}
use Rattle.dp_form.specs.declared.Square.{Square}

-- in each row the diagonal entry is at least the sum of the absolute values of the others
abbrev pub IsDiagonallyDominant : ℕ → List (List ℤ) → Type 0
IsDiagonallyDominant n p = (i : ℕ) → i < n → shortfall p i ≤ℤ pos 0

-- a symmetric matrix that is diagonally dominant has a form of at least 0
abbrev pub DominantIsNonNegative : Type 0
DominantIsNonNegative =
    (n : ℕ) (p : List (List ℤ)) → HasSize n p → IsSymmetric n p → IsDiagonallyDominant n p
    → IsNonNegative p

-- a symmetric matrix that squares with weights from 0 up show has a form of at least 0
abbrev pub ShownIsNonNegative : Type 0
ShownIsNonNegative =
    (n : ℕ) (p : List (List ℤ)) (qs : List (Square n)) → HasSize n p → All (λ q. length q.l ≡ n) qs
    → All (λ q. pos 0 ≤ℤ q.d) qs →
    IsSymmetric n p → IsShown p qs → IsNonNegative p
