-- When squares show that a matrix' form is at least 0: in each row of what they leave, the diagonal
-- entry outweighs the rest.
use Rattle.std.specs.Prelude.{◌≡◌, ◌<◌, ℕ, ℤ, pos, ◌-ℤ◌, ◌≤ℤ◌, ◌<ℤ◌, List, sum_by}
use Rattle.std.specs.List.{remove}
use Rattle.std.specs.Int.RustNames.{unsigned_abs}
use Rattle.dp_form.specs.Vectors.{row, entry}
use Rattle.dp_form.specs.Residual.{residual}
use Rattle.dp_form.specs.declared.Square.{Square}

-- by how much the diagonal entry of row i is less than the sum of the absolute values of the rest
-- of the row
abbrev pub shortfall : List (List ℤ) → ℕ → ℤ
shortfall p i = pos (sum_by unsigned_abs (remove (row p i) i)) -ℤ entry p i i

-- no row of what the squares leave is short
abbrev pub IsShown : {n : ℕ} → List (List ℤ) → List (Square n) → Type 0
IsShown {n} p qs = (i : ℕ) → i < n → shortfall (residual p qs) i ≤ℤ pos 0

-- row i is the first that is short, and short by this much
pub record IsFirstShort {n : ℕ} (p : List (List ℤ)) (qs : List (Square n)) (i : ℕ)
    (short : ℤ) : Type 0 where
  pub in_range : i < n
  pub above_zero : pos 0 <ℤ short
  pub amount : short ≡ shortfall (residual p qs) i
  pub first : (k : ℕ) → k < i → shortfall (residual p qs) k ≤ℤ pos 0
