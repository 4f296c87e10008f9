-- The list of squares at a place of an array.
use Rattle.std.proofs.Common.{◌≡◌, ◌<◌, ℕ, zero, suc, List, [], ◌∷◌, length, get_or, refl, arith}
use Rattle.dp_form.specs.declared.Squares.{Squares}
use Rattle.dp_cert.specs.Ranges.{squares_of}

pub place_of : {n : ℕ} (ws : List (Squares n)) (i : ℕ) (w : Squares n) → i < length ws → (get_or ws i w).list.items ≡ squares_of ws i
place_of [] i w h = absurd (omega arith)
place_of (x ∷ ws) zero w h = refl
place_of (x ∷ ws) (suc i) w h = place_of ws i w (omega (arith, h))
