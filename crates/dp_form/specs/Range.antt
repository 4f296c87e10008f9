-- The ranges that the checked numbers are in.
use Rattle.std.specs.Prelude.{ℕ, ℤ, pos, neg_ℤ, ◌≤ℤ◌, ◌^◌, All}
use Rattle.dp_form.specs.declared.Square.{Square}

-- from -n to n
pub record IsWithin (n : ℕ) (z : ℤ) : Type 0 where
  pub low : neg_ℤ (pos n) ≤ℤ z
  pub high : z ≤ℤ pos n

-- d from 0 to 2^40, and each entry of l within 2^40
pub record IsSmallSquare {n : ℕ} (q : Square n) : Type 0 where
  pub weight_low : pos 0 ≤ℤ q.d
  pub weight_high : q.d ≤ℤ pos (2 ^ 40)
  pub vector : All (IsWithin (2 ^ 40)) q.l
