-- The turn that is nearest to zero.
use Rattle.std.proofs.Common.{◌≡◌, arith, ℤ, pos, negsuc, ◌+ℤ◌, ◌*ℤ◌, ◌≤ℤ◌, ◌<ℤ◌}
use Rattle.std.proofs.lemmas.Int.{ints}
use Rattle.std.specs.Int.{int_div_euclid, int_rem_euclid}
use Rattle.dp_fixed.specs.Division.{floor_of}
use Rattle.dp_fixed.specs.Turns.{IsWrapped, wrap_of}

pub rest_is : (n d : ℤ) → pos 0 <ℤ d → n ≡ int_rem_euclid n d +ℤ int_div_euclid n d *ℤ d
rest_is (pos a) (pos b) h = omega (arith, ints)
rest_is (negsuc a) (pos b) h = omega (arith, ints)
rest_is n (negsuc b) h = absurd (omega (arith, ints))

rest_low : (n d : ℤ) → pos 0 <ℤ d → pos 0 ≤ℤ int_rem_euclid n d
rest_low (pos a) (pos b) h = omega (arith, ints)
rest_low (negsuc a) (pos b) h = omega (arith, ints)
rest_low n (negsuc b) h = absurd (omega (arith, ints))

rest_high : (n d : ℤ) → pos 0 <ℤ d → int_rem_euclid n d <ℤ d
rest_high (pos a) (pos b) h = omega (arith, ints)
rest_high (negsuc a) (pos b) h = omega (arith, ints)
rest_high n (negsuc b) h = absurd (omega (arith, ints))

pub wrap_is : (x turn : ℤ) → pos 0 <ℤ turn → int_rem_euclid turn (pos 2) ≡ pos 0 → IsWrapped x turn (wrap_of x turn)
wrap_is x turn h even =
    let half = floor_of turn (pos 2) in
    let two = rest_is turn (pos 2) (omega (arith, ints)) in
    let whole = rest_is (x +ℤ half) turn h in
    let low = rest_low (x +ℤ half) turn h in
    let high = rest_high (x +ℤ half) turn h in
    record {
      turns = int_div_euclid (x +ℤ half) turn;
      same_angle = omega (arith, ints, whole);
      low = omega (arith, ints, two, even, low);
      high = omega (arith, ints, two, even, high);
    }
