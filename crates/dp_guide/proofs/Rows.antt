-- The worked row, by computing.
use Rattle.std.proofs.Common.{◌≡◌, refl, arith, ℤ, pos, neg_ℤ, ◌+ℤ◌, ◌-ℤ◌, ◌≤ℤ◌, ◌<ℤ◌}
use Rattle.std.specs.Int.{int_min, int_max}
use Rattle.std.proofs.lemmas.Int.{ints}
use Rattle.dp_guide.specs.Course.{stopping_way, IsNext}
use Rattle.dp_guide.specs.Laws.{IsWorkedRow}
use Rattle.dp_guide.proofs.Courses.{fastest_found}

at_three : (v d w s t : ℤ) → pos 0 ≤ℤ d → int_max (v -ℤ pos 3) (neg_ℤ (pos 5)) ≤ℤ w → w ≤ℤ int_min (v +ℤ pos 3) (pos 5) → stopping_way w (pos 3) ≡ s → s ≤ℤ d
    → stopping_way (w +ℤ pos 1) (pos 3) ≡ t → (w <ℤ int_min (v +ℤ pos 3) (pos 5) → d <ℤ t) → IsNext (pos 5) (pos 3) v d w
at_three v d w s t far low high e stops f over = record {
  ahead = λ h. fastest_found (pos 5) (pos 3) v d w (omega (arith, ints)) low high (omega (arith, ints, e, stops)) (λ l. let o = over l in omega (arith, ints, o, f));
  behind = λ h. absurd (omega (arith, ints));
}

pub row : IsWorkedRow
row = record {
  first = at_three (pos 0) (pos 20) (pos 3) (pos 3) (pos 5) (omega (arith, ints)) (omega (arith, ints)) (omega (arith, ints)) refl (omega (arith, ints)) refl (λ l. absurd (omega (arith, ints, l)));
  second = at_three (pos 3) (pos 17) (pos 5) (pos 7) (pos 9) (omega (arith, ints)) (omega (arith, ints)) (omega (arith, ints)) refl (omega (arith, ints)) refl (λ l. absurd (omega (arith, ints, l)));
  third = at_three (pos 5) (pos 12) (pos 5) (pos 7) (pos 9) (omega (arith, ints)) (omega (arith, ints)) (omega (arith, ints)) refl (omega (arith, ints)) refl (λ l. absurd (omega (arith, ints, l)));
  fourth = at_three (pos 5) (pos 7) (pos 5) (pos 7) (pos 9) (omega (arith, ints)) (omega (arith, ints)) (omega (arith, ints)) refl (omega (arith, ints)) refl (λ l. absurd (omega (arith, ints, l)));
  fifth = at_three (pos 5) (pos 2) (pos 2) (pos 2) (pos 3) (omega (arith, ints)) (omega (arith, ints)) (omega (arith, ints)) refl (omega (arith, ints)) refl (λ l. omega (arith, ints));
  sixth = at_three (pos 2) (pos 0) (pos 0) (pos 0) (pos 1) (omega (arith, ints)) (omega (arith, ints)) (omega (arith, ints)) refl (omega (arith, ints)) refl (λ l. omega (arith, ints));
  behind = record {
    ahead = λ h. absurd (omega (arith, ints, h));
    behind = λ h. (at_three (pos 5) (pos 2) (pos 2) (pos 2) (pos 3) (omega (arith, ints)) (omega (arith, ints)) (omega (arith, ints)) refl (omega (arith, ints)) refl (λ l. omega (arith, ints))).ahead (omega (arith, ints));
  };
  five = refl;
  back = refl;
}
