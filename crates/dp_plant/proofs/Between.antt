-- Numbers within the bounds at their places.
use Rattle.std.proofs.Common.{◌≡◌, List, [], ◌∷◌, length, true, ◌&&◌, arith, ℤ, ◌≤ℤ◌}
use Rattle.std.specs.Prelude.{int_le}
use Rattle.std.proofs.lemmas.Int.{ints}
use Rattle.std.proofs.lemmas.Bool.{and_parts}
use Rattle.dp_plant.specs.Keys.{AreBetween, are_within, is_within}
use Rattle.dp_plant.specs.Vectors.{entry}

le_from : (a b : ℤ) → int_le a b ≡ true → a ≤ℤ b
le_from a b h = grind (arith, ints)

pub both_from : (low high z : ℤ) → (int_le low z && int_le z high) ≡ true → (low ≤ℤ z) × (z ≤ℤ high)
both_from low high z h = let p = and_parts (int_le low z) (int_le z high) h in (le_from low z p.0, le_from z high p.1)

pub between : (bs : List (ℤ × ℤ)) (zs : List ℤ) → length zs ≡ length bs → are_within bs zs ≡ true → AreBetween bs (entry zs)
between [] zs long h = tt
between (b ∷ bs) [] long h = absurd (omega arith)
between (b ∷ bs) (z ∷ zs) long h =
    let p = and_parts (is_within b z) (are_within bs zs) h in
    (both_from b.0 b.1 z p.0, between bs zs (omega arith) p.1)

pub ruleset all_between = between
