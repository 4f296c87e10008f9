-- Faulty computers.
use Rattle.std.specs.Prelude.{◌≡◌, ℕ, Bool, true, false, ◌||◌, List, [], ◌∷◌, if◌then◌else◌}
use Rattle.std.specs.List.{list_any}
use Rattle.dp_core.specs.Moment.{Moment, is_fault, is_skew, is_wire}
use Rattle.dp_core.specs.Mode.{since_break}

-- c was skewed, said a force or told a lie, with no break of it since
unfoldable pub is_faulty : ℕ → List Moment → Bool
is_faulty c h = list_any (λ m. is_fault c m.event) (since_break c h)

-- c was skewed while live, with no break of it since
unfoldable pub is_skewed : ℕ → List Moment → Bool
is_skewed c h = list_any (is_skew c) (since_break c h)

-- c is faulty at some moment of this cycle
unfoldable pub is_faulty_in_cycle : ℕ → List Moment → Bool
is_faulty_in_cycle c [] = false
is_faulty_in_cycle c (m ∷ h) =
    is_faulty c (m ∷ h) || (if is_wire m.event then false else is_faulty_in_cycle c h)

-- in each cycle at most one computer is faulty at some moment of it
unfoldable pub AtMostOneFaulty : List Moment → Type 0
AtMostOneFaulty [] = Unit {0}
AtMostOneFaulty (m ∷ h) = AtMostOneFaulty h
    × ((c d : ℕ) → is_faulty_in_cycle c (m ∷ h) ≡ true → is_faulty_in_cycle d (m ∷ h) ≡ true
    → c ≡ d)
