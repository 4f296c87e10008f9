-- A number from 0 up to a turn lies in that turn, and one within half a turn of zero is its own nearer way round.
use Rattle.std.proofs.Common.{◌≡◌, ◌≤ℤ◌, ◌<ℤ◌, ◌<◌, ℤ, ◌≤◌, ◌^◌, unsigned_abs, pos, negsuc, neg_ℤ, ◌+ℤ◌, ◌-ℤ◌, ◌*ℤ◌, ap, sym, subst, ◌∙◌, arith}
use Rattle.std.proofs.Math.Nat.{mod-eq_of_lt}
use Rattle.std.specs.Int.{int_rem_euclid}
use Rattle.std.proofs.lemmas.Int.{ints}
use Rattle.dp_fixed.specs.{IsWrapped, floor_of, wrap_of}
use Rattle.dp_fixed.proofs.Wraps.{rest_is, wrap_is}

rem_inside : (m turn : ℤ) → pos 0 ≤ℤ m → m <ℤ turn → int_rem_euclid m turn ≡ m
rem_inside (pos a) (pos t) low high =
    let below : a < t = omega (arith, ints, high) in
    ap pos (mod-eq_of_lt below)
rem_inside (pos a) (negsuc t) low high = absurd (omega (arith, ints, high))
rem_inside (negsuc a) turn low high = absurd (omega (arith, ints, low))

pub rem_small : (m turn : ℤ) → pos 0 ≤ℤ m → m <ℤ turn → m ≡ int_rem_euclid m turn
rem_small m turn low high = sym (rem_inside m turn low high)

pub wrap_near : (x turn half : ℤ) → pos 0 <ℤ turn → int_rem_euclid turn (pos 2) ≡ pos 0 → half ≡ floor_of turn (pos 2) → neg_ℤ half ≤ℤ x → x <ℤ half
    → x ≡ wrap_of x turn
wrap_near x turn half positive even middle low high =
    let two = rest_is turn (pos 2) (omega (arith, ints)) in
    let whole : turn ≡ half *ℤ pos 2 = omega (arith, ints, two, even, middle) in
    let inside : int_rem_euclid (x +ℤ half) turn ≡ x +ℤ half = rem_inside (x +ℤ half) turn (omega (arith, ints)) (omega (arith, ints, whole)) in
    let back : (x +ℤ half) -ℤ half ≡ x = omega (arith, ints) in
    rw (sym middle) (sym (ap (λ (r : ℤ). r -ℤ half) inside ∙ back))

-- so it is wrapped as it stands
pub wrapped_near : (x turn half : ℤ) → pos 0 <ℤ turn → int_rem_euclid turn (pos 2) ≡ pos 0 → half ≡ floor_of turn (pos 2) → neg_ℤ half ≤ℤ x → x <ℤ half
    → IsWrapped x turn x
wrapped_near x turn half positive even middle low high =
    subst (IsWrapped x turn) (sym (wrap_near x turn half positive even middle low high)) (wrap_is x turn positive even)

-- what is wrapped is no larger than the turn
pub wrapped_small : (x turn w : ℤ) → IsWrapped x turn w → turn ≤ℤ pos (2 ^ 61) → unsigned_abs w ≤ 2 ^ 62
wrapped_small x turn w wrapped small = omega (arith, ints, wrapped.low, wrapped.high, small)
