-- Each part of a short pair is at most one.
use Rattle.std.proofs.Common.{◌≡◌, ℕ, ◌*◌, ◌^◌, ◌≤◌, ℤ, pos, negsuc, ◌*ℤ◌, unsigned_abs, inl, inr, arith}
use Rattle.std.proofs.Math.Nat.{mul-le-mul}
use Rattle.std.proofs.lemmas.Int.{ints}
use Rattle.std.proofs.lemmas.Bool.{cases_lt}
use Rattle.dp_plant.specs.Ranges.{IsPair}

root_below : (a : ℕ) → a * a ≤ 2 ^ 60 → a ≤ 2 ^ 30
root_below a square = elim (cases_lt (2 ^ 30) a) [
  | inl more ↦ absurd (omega (arith, square, mul-le-mul more more))
  | inr le ↦ le
]

square_is : (c : ℤ) → (c *ℤ c) ≡ pos (unsigned_abs c * unsigned_abs c)
square_is (pos a) = omega (arith, ints)
square_is (negsuc a) = omega (arith, ints)

pub cosine_short : (pair : ℤ × ℤ) → IsPair pair → unsigned_abs pair.0 ≤ 2 ^ 30
cosine_short pair short =
    let c = square_is pair.0 in
    let s = square_is pair.1 in
    root_below (unsigned_abs pair.0) (omega (arith, ints, c, s, short.short))

pub sine_short : (pair : ℤ × ℤ) → IsPair pair → unsigned_abs pair.1 ≤ 2 ^ 30
sine_short pair short =
    let c = square_is pair.0 in
    let s = square_is pair.1 in
    root_below (unsigned_abs pair.1) (omega (arith, ints, c, s, short.short))

pub ruleset shorts = (cosine_short, sine_short)
