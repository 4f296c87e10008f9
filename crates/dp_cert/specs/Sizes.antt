-- The sizes of a loop's numbers, and of a form's parts.
use Rattle.std.specs.Prelude.{◌≡◌, ◌<◌, ◌*◌, ◌^◌, ℕ, ◌*ℤ◌, ℤ, List, All, length}
use Rattle.dp_form.specs.Range.{IsWithin}
use Rattle.dp_form.specs.Vectors.{dot, row}
use Rattle.dp_plant.specs.Vectors.{entry}
use Rattle.dp_cert.specs.declared.loops.AxisLoop.{AxisLoop}
use Rattle.dp_cert.specs.declared.loops.Loop.{Loop}

pub record IsSmallAxis {n : ℕ} (a : AxisLoop n) : Type 0 where
  pub saturated : All (All (IsWithin (2 ^ 35))) a.saturated
  pub clamped : All (All (IsWithin (2 ^ 35))) a.clamped
  pub free : All (All (IsWithin (2 ^ 35))) a.free
  pub output : All (IsWithin (2 ^ 35)) a.output
  pub clamped_output : All (IsWithin (2 ^ 35)) a.clamped_output

pub record IsSmallLoop {n : ℕ} (m : Loop n) : Type 0 where
  pub surge : IsSmallAxis m.surge
  pub sway : IsSmallAxis m.sway
  pub correction : All (IsWithin (2 ^ 35)) m.correction
  pub rounding : All (IsWithin (2 ^ 35)) m.rounding

-- a vector whose form's parts, row by row, fit 128 bits
pub record IsLight (n : ℕ) (p : List (List ℤ)) (x : List ℤ) : Type 0 where
  pub vector : All (IsWithin (2 ^ 56)) x
  pub parts : (i : ℕ) → i < n → length (row p i) ≡ n
      → IsWithin (5 * 2 ^ 120) (entry x i *ℤ dot (row p i) x)
