-- The test of a box.
use Rattle.std.proofs.Common.{◌≡◌, ℕ, Bool, true, List, arith, ℤ, ◌≤ℤ◌}
use Rattle.std.specs.Prelude.{int_le}
use Rattle.std.proofs.lemmas.Bool.{and_from, and_parts}
use Rattle.std.proofs.lemmas.Int.{ints}
use Rattle.dp_plant.specs.declared.limits.Box3.{Box3}
use Rattle.dp_plant.specs.{IsInBox, IsInRange, entry}
use Rattle.dp_consequence.specs.{is_in_box, is_in_plane, is_in_range}

int_le-true : (a b : ℤ) → int_le a b ≡ true → a ≤ℤ b
int_le-true a b h = grind (arith, ints)

le-int_le : (a b : ℤ) → a ≤ℤ b → int_le a b ≡ true
le-int_le a b h = grind (arith, ints)

range_from : (lo hi a : ℤ) → is_in_range lo hi a ≡ true → IsInRange lo hi a
range_from lo hi a h =
    let p = and_parts (int_le lo a) (int_le a hi) h in
    record { low = int_le-true lo a p.0; high = int_le-true a hi p.1 }

range_to : (lo hi a : ℤ) → IsInRange lo hi a → is_in_range lo hi a ≡ true
range_to lo hi a h = and_from (int_le lo a) (int_le a hi) (le-int_le lo a h.low) (le-int_le a hi h.high)

pub box_from : (box : Box3) (a : List ℤ) → is_in_box box a ≡ true → IsInBox box a
box_from box a h =
    let on : ℕ → Bool = λ axis. is_in_range (entry box.lo axis) (entry box.hi axis) (entry a axis) in
    let p = and_parts (is_in_plane box a) (on 2) h in
    let q = and_parts (on 0) (on 1) p.0 in
    record { surge = range_from _ _ _ q.0; sway = range_from _ _ _ q.1; yaw = range_from _ _ _ p.1 }

pub box_to : (box : Box3) (a : List ℤ) → IsInBox box a → is_in_box box a ≡ true
box_to box a h =
    let on : ℕ → Bool = λ axis. is_in_range (entry box.lo axis) (entry box.hi axis) (entry a axis) in
    and_from (is_in_plane box a) (on 2) (and_from (on 0) (on 1) (range_to _ _ _ h.surge) (range_to _ _ _ h.sway)) (range_to _ _ _ h.yaw)
