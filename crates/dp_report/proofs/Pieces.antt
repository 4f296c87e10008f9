-- A text that is written piece by piece.
use Rattle.std.proofs.Common.{◌≡◌, ℕ, List, ◌++◌, ap, ◌∙◌, append_assoc}

-- two pieces after one another are one
pub two_pieces : (old first second x y : List ℕ) → first ≡ old ++ x → second ≡ first ++ y → second ≡ old ++ (x ++ y)
two_pieces old first second x y a b = b ∙ ap (λ l. l ++ y) a ∙ append_assoc old x y

pub three_pieces : (old first second third x y z : List ℕ) → first ≡ old ++ x → second ≡ first ++ y → third ≡ second ++ z
    → third ≡ old ++ (x ++ (y ++ z))
three_pieces old first second third x y z a b c = two_pieces old first third x (y ++ z) a (two_pieces first second third y z b c)
