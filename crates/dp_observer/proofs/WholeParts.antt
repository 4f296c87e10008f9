-- Whole numbers taken out of a floor by the scale, as the observer moves place, bias and velocity.
use Rattle.std.proofs.Common.{◌≡◌, ℤ, ◌+ℤ◌, ◌-ℤ◌, ◌*ℤ◌, arith}
use Rattle.std.proofs.lemmas.Int.{ints}
use Rattle.dp_fixed.specs.Scale.{full_scale}
use Rattle.dp_fixed.specs.Division.{IsFloor, floor_of}
use Rattle.dp_fixed.proofs.Divisions.{floor_is, floor_only}

whole_out : (z w m : ℤ) → z ≡ (full_scale *ℤ m) +ℤ w → m +ℤ floor_of w full_scale ≡ floor_of z full_scale
whole_out z w m is =
    let f = floor_is w full_scale (omega (arith, ints)) in
    let g : IsFloor z full_scale (m +ℤ floor_of w full_scale) = record {
      below = omega (arith, ints, is, f.below);
      above = omega (arith, ints, is, f.above);
    } in
    floor_only z full_scale (m +ℤ floor_of w full_scale) (omega (arith, ints)) g

pub place_out : (moved w d r : ℤ) → d ≡ floor_of w full_scale → r ≡ moved +ℤ d → r ≡ floor_of ((full_scale *ℤ moved) +ℤ w) full_scale
place_out moved w d r is_down is =
    let e = whole_out ((full_scale *ℤ moved) +ℤ w) w moved (omega (arith, ints)) in
    omega (arith, ints, e, is_down, is)

pub bias_out : (beta leaked taken change d r : ℤ) → change ≡ taken -ℤ leaked → d ≡ floor_of change full_scale → r ≡ beta +ℤ d
    → r ≡ floor_of (((full_scale *ℤ beta) -ℤ leaked) +ℤ taken) full_scale
bias_out beta leaked taken change d r is_change is_down is =
    let e = whole_out (((full_scale *ℤ beta) -ℤ leaked) +ℤ taken) change beta (omega (arith, ints, is_change)) in
    omega (arith, ints, e, is_down, is)

pub velocity_out : (vel beta damped push taken change d r : ℤ) → change ≡ (push +ℤ taken) -ℤ damped → d ≡ floor_of change full_scale → r ≡ (vel +ℤ beta) +ℤ d
    → r ≡ floor_of (((((full_scale *ℤ vel) -ℤ damped) +ℤ (full_scale *ℤ beta)) +ℤ push) +ℤ taken) full_scale
velocity_out vel beta damped push taken change d r is_change is_down is =
    let e = whole_out (((((full_scale *ℤ vel) -ℤ damped) +ℤ (full_scale *ℤ beta)) +ℤ push) +ℤ taken) change (vel +ℤ beta) (omega (arith, ints, is_change)) in
    omega (arith, ints, e, is_down, is)
