-- That a made root is the least.
use Rattle.std.specs.Prelude.{◌^◌, ℤ, pos, ◌*ℤ◌, ◌≤ℤ◌}
use Rattle.dp_squares.specs.Made.{made_root}

-- of a number up to 2^100: the root is at least 0, its square is at least the number, and no lesser
-- number from 0 on has such a square
pub record IsLeastRoot (n root : ℤ) : Type 0 where
  pub from_zero : pos 0 ≤ℤ root
  pub enough : n ≤ℤ (root *ℤ root)
  pub least : (k : ℤ) → pos 0 ≤ℤ k → n ≤ℤ (k *ℤ k) → root ≤ℤ k

abbrev pub MadeRootIsLeast : Type 0
MadeRootIsLeast = (n kept : ℤ) → n ≤ℤ pos (2 ^ 100) → IsLeastRoot n (made_root n kept)
