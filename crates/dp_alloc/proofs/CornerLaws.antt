-- The corners of a box bound every demand in it.
use Rattle.std.proofs.Common.{◌≡◌, ◌^◌, List, ap, ◌∙◌, arith, ℤ, pos, neg_ℤ, ◌+ℤ◌, ◌*ℤ◌, ◌≤ℤ◌}
use Rattle.std.proofs.lemmas.Int.{ints, clamps, by_lt_z}
use Rattle.std.specs.Int.{int_max, int_min}
use Rattle.dp_plant.specs.Vectors.{entry}
use Rattle.dp_plant.specs.declared.limits.Box3.{Box3}
use Rattle.dp_fixed.proofs.Divisions.{floor_monotone}
use Rattle.dp_fixed.proofs.Multiples.{mul_le, negated_product}
use Rattle.dp_plant.specs.Cases.{IsInBox, IsInRange}
use Rattle.dp_alloc.specs.Corners.{at_corners, greatest, greatest_thrust, least, least_thrust}
use Rattle.dp_alloc.specs.Thrust.{shared, thrust_of}

-- an axis apart
max_pair : (x y w : ℤ) (z0 z1 : ℤ) → int_max (x +ℤ y +ℤ z0) (int_max (x +ℤ y +ℤ z1) w) ≡ int_max (x +ℤ y +ℤ int_max z0 z1) w
max_pair x y w z0 z1 = omega (arith, ints, clamps)

max_last : (x y : ℤ) (z0 z1 : ℤ) → int_max (x +ℤ y +ℤ z0) (x +ℤ y +ℤ z1) ≡ x +ℤ y +ℤ int_max z0 z1
max_last x y z0 z1 = omega (arith, ints, clamps)

max_two : (x y0 y1 w z : ℤ) → int_max (x +ℤ y0 +ℤ z) (int_max (x +ℤ y1 +ℤ z) w) ≡ int_max (x +ℤ int_max y0 y1 +ℤ z) w
max_two x y0 y1 w z = omega (arith, ints, clamps)

max_four : (x0 x1 y0 y1 z : ℤ) → int_max (x0 +ℤ int_max y0 y1 +ℤ z) (int_max (x1 +ℤ y0 +ℤ z) (x1 +ℤ y1 +ℤ z)) ≡ int_max x0 x1 +ℤ int_max y0 y1 +ℤ z
max_four x0 x1 y0 y1 z = omega (arith, ints, clamps)

pub greatest_is : (x0 x1 y0 y1 z0 z1 : ℤ) →
    int_max (x0 +ℤ y0 +ℤ z0) (int_max (x0 +ℤ y0 +ℤ z1) (int_max (x0 +ℤ y1 +ℤ z0) (int_max (x0 +ℤ y1 +ℤ z1)
    (int_max (x1 +ℤ y0 +ℤ z0) (int_max (x1 +ℤ y0 +ℤ z1) (int_max (x1 +ℤ y1 +ℤ z0) (x1 +ℤ y1 +ℤ z1)))))))
    ≡ int_max x0 x1 +ℤ int_max y0 y1 +ℤ int_max z0 z1
greatest_is x0 x1 y0 y1 z0 z1 =
    max_pair x0 y0 _ z0 z1
    ∙ ap (λ (w : ℤ). int_max (x0 +ℤ y0 +ℤ int_max z0 z1) w)
    (max_pair x0 y1 _ z0 z1 ∙ ap (λ (w : ℤ). int_max (x0 +ℤ y1 +ℤ int_max z0 z1) w)
    (max_pair x1 y0 _ z0 z1 ∙ ap (λ (w : ℤ). int_max (x1 +ℤ y0 +ℤ int_max z0 z1) w) (max_last x1 y1 z0 z1)))
    ∙ max_two x0 y0 y1 _ (int_max z0 z1)
    ∙ max_four x0 x1 y0 y1 (int_max z0 z1)

min_pair : (x y w : ℤ) (z0 z1 : ℤ) → int_min (x +ℤ y +ℤ z0) (int_min (x +ℤ y +ℤ z1) w) ≡ int_min (x +ℤ y +ℤ int_min z0 z1) w
min_pair x y w z0 z1 = omega (arith, ints, clamps)

min_last : (x y : ℤ) (z0 z1 : ℤ) → int_min (x +ℤ y +ℤ z0) (x +ℤ y +ℤ z1) ≡ x +ℤ y +ℤ int_min z0 z1
min_last x y z0 z1 = omega (arith, ints, clamps)

min_two : (x y0 y1 w z : ℤ) → int_min (x +ℤ y0 +ℤ z) (int_min (x +ℤ y1 +ℤ z) w) ≡ int_min (x +ℤ int_min y0 y1 +ℤ z) w
min_two x y0 y1 w z = omega (arith, ints, clamps)

min_four : (x0 x1 y0 y1 z : ℤ) → int_min (x0 +ℤ int_min y0 y1 +ℤ z) (int_min (x1 +ℤ y0 +ℤ z) (x1 +ℤ y1 +ℤ z)) ≡ int_min x0 x1 +ℤ int_min y0 y1 +ℤ z
min_four x0 x1 y0 y1 z = omega (arith, ints, clamps)

pub least_is : (x0 x1 y0 y1 z0 z1 : ℤ) →
    int_min (x0 +ℤ y0 +ℤ z0) (int_min (x0 +ℤ y0 +ℤ z1) (int_min (x0 +ℤ y1 +ℤ z0) (int_min (x0 +ℤ y1 +ℤ z1)
    (int_min (x1 +ℤ y0 +ℤ z0) (int_min (x1 +ℤ y0 +ℤ z1) (int_min (x1 +ℤ y1 +ℤ z0) (x1 +ℤ y1 +ℤ z1)))))))
    ≡ int_min x0 x1 +ℤ int_min y0 y1 +ℤ int_min z0 z1
least_is x0 x1 y0 y1 z0 z1 =
    min_pair x0 y0 _ z0 z1
    ∙ ap (λ (w : ℤ). int_min (x0 +ℤ y0 +ℤ int_min z0 z1) w)
    (min_pair x0 y1 _ z0 z1 ∙ ap (λ (w : ℤ). int_min (x0 +ℤ y1 +ℤ int_min z0 z1) w)
    (min_pair x1 y0 _ z0 z1 ∙ ap (λ (w : ℤ). int_min (x1 +ℤ y0 +ℤ int_min z0 z1) w) (min_last x1 y1 z0 z1)))
    ∙ min_two x0 y0 y1 _ (int_min z0 z1)
    ∙ min_four x0 x1 y0 y1 (int_min z0 z1)

-- one axis: a share of a demand lies between those of the ends
axis_between : (b lo a hi : ℤ) → lo ≤ℤ a → a ≤ℤ hi → (int_min (b *ℤ lo) (b *ℤ hi) ≤ℤ (b *ℤ a)) × ((b *ℤ a) ≤ℤ int_max (b *ℤ lo) (b *ℤ hi))
axis_between b lo a hi low high = by_lt_z b (pos 0)
    (λ l.
    let p = mul_le (neg_ℤ b) lo a (omega (arith, ints)) low in
    let q = mul_le (neg_ℤ b) a hi (omega (arith, ints)) high in
    let e = negated_product b lo in let f = negated_product b a in let g = negated_product b hi in
    (omega (arith, ints, clamps), omega (arith, ints, clamps)))
    (λ g.
    let p = mul_le b lo a g low in
    let q = mul_le b a hi g high in
    (omega (arith, ints, clamps), omega (arith, ints, clamps)))

sums_between : (x0 x1 y0 y1 z0 z1 x y z : ℤ) → (int_min x0 x1 ≤ℤ x) × (x ≤ℤ int_max x0 x1) → (int_min y0 y1 ≤ℤ y) × (y ≤ℤ int_max y0 y1) → (int_min z0 z1 ≤ℤ z) × (z ≤ℤ int_max z0 z1) →
    ((int_min x0 x1 +ℤ int_min y0 y1 +ℤ int_min z0 z1) ≤ℤ (x +ℤ y +ℤ z)) × ((x +ℤ y +ℤ z) ≤ℤ (int_max x0 x1 +ℤ int_max y0 y1 +ℤ int_max z0 z1))
sums_between x0 x1 y0 y1 z0 z1 x y z a b c = (omega (arith, ints), omega (arith, ints))

range_between : (b lo a hi : ℤ) → IsInRange lo hi a → (int_min (b *ℤ lo) (b *ℤ hi) ≤ℤ (b *ℤ a)) × ((b *ℤ a) ≤ℤ int_max (b *ℤ lo) (b *ℤ hi))
range_between b lo a hi h = axis_between b lo a hi h.low h.high

shared_between : (row : List ℤ) (box : Box3) (a : List ℤ) → IsInBox box a →
    (least (at_corners row box) ≤ℤ shared a row) × (shared a row ≤ℤ greatest (at_corners row box))
shared_between row box a h =
    let x = entry row 0 in
    let y = entry row 1 in
    let z = entry row 2 in
    let all = sums_between (x *ℤ entry box.lo 0) (x *ℤ entry box.hi 0) (y *ℤ entry box.lo 1) (y *ℤ entry box.hi 1) (z *ℤ entry box.lo 2) (z *ℤ entry box.hi 2)
    (x *ℤ entry a 0) (y *ℤ entry a 1) (z *ℤ entry a 2) (range_between x (entry box.lo 0) (entry a 0) (entry box.hi 0) h.surge)
    (range_between y (entry box.lo 1) (entry a 1) (entry box.hi 1) h.sway) (range_between z (entry box.lo 2) (entry a 2) (entry box.hi 2) h.yaw) in
    (rw least_is all.0, rw greatest_is all.1)

-- every demand in a box asks a thruster for no more and no less than its corners do
pub between : (row : List ℤ) (box : Box3) (a : List ℤ) → IsInBox box a → (least_thrust row box ≤ℤ thrust_of a row) × (thrust_of a row ≤ℤ greatest_thrust row box)
unfolding greatest_thrust least_thrust
between row box a h =
    let p = shared_between row box a h in (
      floor_monotone (least (at_corners row box)) (shared a row) (pos (2 ^ 20)) (omega (arith, ints)) p.0,
      floor_monotone (shared a row) (greatest (at_corners row box)) (pos (2 ^ 20)) (omega (arith, ints)) p.1,
    )
