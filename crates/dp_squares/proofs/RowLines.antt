-- The lines of rows that are joined, and the text of rows of squares.
use Rattle.std.proofs.Common.{◌≡◌, ◌<◌, ◌≤◌, ◌-◌, ℕ, zero, suc, List, [], ◌∷◌, ◌++◌, length, map, refl, ap, ◌∙◌, append_assoc, arith}
use Rattle.std.specs.List.{flat_map}
use Rattle.std.proofs.lemmas.List.Concat.{flat_map-cons}
use Rattle.dp_squares.specs.Text.{Row, array_text, later, line_at}

-- a line of the first rows, and of those behind them
pub line-left : (xs ys : List Row) (i : ℕ) → i < length xs → line_at (xs ++ ys) i ≡ line_at xs i
line-left [] ys i h = absurd (omega arith)
line-left (x ∷ xs) ys zero h = refl
line-left (x ∷ xs) ys (suc i) h = line-left xs ys i (omega (arith, h))

pub line-right : (xs ys : List Row) (i : ℕ) → length xs ≤ i → line_at (xs ++ ys) i ≡ line_at ys (i - length xs)
line-right [] ys i h = ap (λ (k : ℕ). line_at ys k) (omega arith)
line-right (x ∷ xs) ys zero h = absurd (omega arith)
line-right (x ∷ xs) ys (suc i) h = line-right xs ys i (omega (arith, h)) ∙ ap (λ (k : ℕ). line_at ys k) (omega arith)

-- an array of what is made of each part
flat_map-mapped : {X Y : Type 0} (f : Y → List ℕ) (g : X → Y) (xs : List X) → flat_map f (map g xs) ≡ flat_map (λ x. f (g x)) xs
flat_map-mapped f g [] = refl
flat_map-mapped f g (x ∷ xs) = flat_map-cons f (g x) (map g xs) ∙ ap (λ t. f (g x) ++ t) (flat_map-mapped f g xs)

pub array-mapped : {X Y : Type 0} (text : Y → List ℕ) (g : X → Y) (xs : List X) → array_text (λ x. text (g x)) xs ≡ array_text text (map g xs)
array-mapped text g [] = refl
array-mapped text g (x ∷ xs) = let e = flat_map-mapped (later text) g xs in rw e refl

-- a line that is written piece by piece
pub lined : (key sign text end first second third : List ℕ) → first ≡ key ++ sign → second ≡ first ++ text → third ≡ second ++ end → third ≡ key ++ (sign ++ (text ++ end))
lined key sign text end first second third a b c =
    c ∙ ap (λ (l : List ℕ). l ++ end) (b ∙ ap (λ (l : List ℕ). l ++ text) a) ∙ append_assoc (key ++ sign) text end ∙ append_assoc key sign (text ++ end)
