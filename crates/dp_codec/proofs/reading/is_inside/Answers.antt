use Rattle.std.proofs.Common.{◌≡◌, ◌↔◌, Bool, true, false, IsTrue, ℤ, ◌≤ℤ◌, refl, sym, arith}
use Rattle.std.specs.Prelude.{int_le}
use Rattle.std.proofs.lemmas.Int.{ints}
use Rattle.dp_codec.specs.Parts.{is_inside}
use Rattle.dp_codec.proofs.reading.is_inside.Goals as goal

test_is : (b : Bool) (f m : ℤ) → IsTrue b ↔ (f ≤ℤ m) → b ≡ int_le f m
test_is true f m h = let k = h.0 refl in grind (arith, ints)
test_is false f m h = by_test (int_le f m) refl
  where
    le_is : (a b : ℤ) → int_le a b ≡ true → a ≤ℤ b
    le_is a b e = grind (arith, ints)

    by_test : (t : Bool) → int_le f m ≡ t → false ≡ int_le f m
    by_test true e = absurd (let k = h.1 (le_is f m e) in cc)
    by_test false e = sym e

pub returns : goal.returns
unfolding is_inside
returns c = test_is _ _ _ c.inside.ensures
