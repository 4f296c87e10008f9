-- The fused place lies within the hull of any two of the places that it is made of.
use Rattle.std.proofs.Common.{refl, [], ◌∷◌, Option, Some, None, sym, subst, pos, ◌≤ℤ◌}
use Rattle.std.specs.List.{cons_option}
use Rattle.dp_fixed.proofs.Clamps.{middle_is}
use Rattle.dp_fuse.specs.declared.places.WeightedPlace.{WeightedPlace}
use Rattle.dp_fuse.specs.Laws.{FusedPlaceIsInHullOfTwo, IsInHull, fused_by_three}
use Rattle.dp_fuse.specs.Places.{fused_place}
use Rattle.dp_fuse.proofs.Means.{mean_between}

mean_in_hull : (a b : WeightedPlace) → pos 1 ≤ℤ a.weight → pos 1 ≤ℤ b.weight → IsInHull a.at b.at (fused_place (a ∷ b ∷ []))
mean_in_hull a b h k = record {
  at = _;
  is = refl;
  north = mean_between a.weight b.weight a.at.north b.at.north h k;
  east = mean_between a.weight b.weight a.at.east b.at.east h k;
}

-- beside a third that is first, second or last, or not there
after_first : (a b : WeightedPlace) → pos 1 ≤ℤ a.weight → pos 1 ≤ℤ b.weight → (o : Option WeightedPlace) → IsInHull a.at b.at (fused_place (cons_option o (a ∷ b ∷ [])))
after_first a b h k None = mean_in_hull a b h k
after_first a b h k (Some c) = record {
  at = _;
  is = refl;
  north = (middle_is c.at.north a.at.north b.at.north).last_two;
  east = (middle_is c.at.east a.at.east b.at.east).last_two;
}

beside_second : (a b : WeightedPlace) → pos 1 ≤ℤ a.weight → pos 1 ≤ℤ b.weight → (o : Option WeightedPlace) → IsInHull a.at b.at (fused_place (a ∷ cons_option o (b ∷ [])))
beside_second a b h k None = mean_in_hull a b h k
beside_second a b h k (Some c) = record {
  at = _;
  is = refl;
  north = (middle_is a.at.north c.at.north b.at.north).outer_two;
  east = (middle_is a.at.east c.at.east b.at.east).outer_two;
}

before_last : (a b : WeightedPlace) → pos 1 ≤ℤ a.weight → pos 1 ≤ℤ b.weight → (o : Option WeightedPlace) → IsInHull a.at b.at (fused_place (a ∷ b ∷ cons_option o []))
before_last a b h k None = mean_in_hull a b h k
before_last a b h k (Some c) = record {
  at = _;
  is = refl;
  north = (middle_is a.at.north b.at.north c.at.north).first_two;
  east = (middle_is a.at.east b.at.east c.at.east).first_two;
}

-- the same, where the two come by equations
pub in_hull_of_two : FusedPlaceIsInHullOfTwo
in_hull_of_two a b h k o p q = record {
  first_two = λ e e'.
      subst (λ z. IsInHull a.at b.at (fused_by_three z p q)) (sym e)
      (subst (λ z. IsInHull a.at b.at (fused_by_three (Some a) z q)) (sym e') (before_last a b h k q));
  last_two = λ e e'.
      subst (λ z. IsInHull a.at b.at (fused_by_three o z q)) (sym e)
      (subst (λ z. IsInHull a.at b.at (fused_by_three o (Some a) z)) (sym e') (after_first a b h k o));
  outer_two = λ e e'.
      subst (λ z. IsInHull a.at b.at (fused_by_three z p q)) (sym e)
      (subst (λ z. IsInHull a.at b.at (fused_by_three (Some a) p z)) (sym e') (beside_second a b h k p));
}
