-- What one rotation after another computes fits 64 bits.
use Rattle.std.proofs.Common.{◌≤◌, ◌^◌, arith, ℤ, pos, neg_ℤ, ◌+ℤ◌, ◌-ℤ◌, ◌*ℤ◌, ◌≤ℤ◌, FitsSigned}
use Rattle.std.proofs.lemmas.Int.{ints, unsigned_abs-mul, quot_fits}
use Rattle.std.specs.Int.RustNames.{unsigned_abs, int_div}
use Rattle.std.proofs.lemmas.Nat.{mul-le}
use mir.Syntax.{w64}
use Rattle.dp_fixed.specs.{full_scale}
use Rattle.dp_trig.specs.Rotation.{Pair, IsShort}
use Rattle.dp_trig.proofs.Lengths.{parts_within}

-- the four products, their two sums, and the quotients of these
pub record TurnFits (p p' : Pair) : Type 0 where
  pub cosine : FitsSigned w64 p.0
  pub sine : FitsSigned w64 p.1
  pub next_cosine : FitsSigned w64 p'.0
  pub next_sine : FitsSigned w64 p'.1
  pub cosines : FitsSigned w64 (p.0 *ℤ p'.0)
  pub sines : FitsSigned w64 (p.1 *ℤ p'.1)
  pub sine_cosine : FitsSigned w64 (p.1 *ℤ p'.0)
  pub cosine_sine : FitsSigned w64 (p.0 *ℤ p'.1)
  pub difference : FitsSigned w64 (p.0 *ℤ p'.0 -ℤ p.1 *ℤ p'.1)
  pub sum : FitsSigned w64 (p.1 *ℤ p'.0 +ℤ p.0 *ℤ p'.1)
  pub new_cosine : FitsSigned w64 (int_div (p.0 *ℤ p'.0 -ℤ p.1 *ℤ p'.1) full_scale)
  pub new_sine : FitsSigned w64 (int_div (p.1 *ℤ p'.0 +ℤ p.0 *ℤ p'.1) full_scale)

-- a number within the scale, by its size
size_within : (a : ℤ) → neg_ℤ full_scale ≤ℤ a → a ≤ℤ full_scale → unsigned_abs a ≤ 2 ^ 30
size_within a low high = omega (arith, ints)

-- the size of a product of two such numbers
product_within : (a b : ℤ) → unsigned_abs a ≤ 2 ^ 30 → unsigned_abs b ≤ 2 ^ 30 → unsigned_abs (a *ℤ b) ≤ 2 ^ 60
product_within a b h k = rw unsigned_abs-mul (mul-le (unsigned_abs a) (unsigned_abs b) (2 ^ 30) (2 ^ 30) h k)

-- a product fits, and so do a sum and a difference of two products, and a part
product_fits : (z : ℤ) → unsigned_abs z ≤ 2 ^ 60 → FitsSigned w64 z
product_fits z h = omega (arith, ints)

sum_fits : (y z : ℤ) → unsigned_abs y ≤ 2 ^ 60 → unsigned_abs z ≤ 2 ^ 60 → FitsSigned w64 (y +ℤ z)
sum_fits y z h k = omega (arith, ints)

difference_fits : (y z : ℤ) → unsigned_abs y ≤ 2 ^ 60 → unsigned_abs z ≤ 2 ^ 60 → FitsSigned w64 (y -ℤ z)
difference_fits y z h k = omega (arith, ints)

part_fits : (z : ℤ) → unsigned_abs z ≤ 2 ^ 30 → FitsSigned w64 z
part_fits z h = omega (arith, ints)

-- all that the code computes from two short pairs
pub turn_fits : (p p' : Pair) → IsShort p → IsShort p' → TurnFits p p'
turn_fits (a, b) (c, d) h k =
    let g = parts_within (a, b) h in
    let g' = parts_within (c, d) k in
    let na = size_within a g.cosine_low g.cosine_high in
    let nb = size_within b g.sine_low g.sine_high in
    let nc = size_within c g'.cosine_low g'.cosine_high in
    let nd = size_within d g'.sine_low g'.sine_high in
    let ac = product_within a c na nc in
    let bd = product_within b d nb nd in
    let bc = product_within b c nb nc in
    let ad = product_within a d na nd in
    record {
      cosine = part_fits a na;
      sine = part_fits b nb;
      next_cosine = part_fits c nc;
      next_sine = part_fits d nd;
      cosines = product_fits (a *ℤ c) ac;
      sines = product_fits (b *ℤ d) bd;
      sine_cosine = product_fits (b *ℤ c) bc;
      cosine_sine = product_fits (a *ℤ d) ad;
      difference = difference_fits (a *ℤ c) (b *ℤ d) ac bd;
      sum = sum_fits (b *ℤ c) (a *ℤ d) bc ad;
      new_cosine = quot_fits w64 (a *ℤ c -ℤ b *ℤ d) full_scale (difference_fits (a *ℤ c) (b *ℤ d) ac bd) (omega (arith, ints));
      new_sine = quot_fits w64 (b *ℤ c +ℤ a *ℤ d) full_scale (sum_fits (b *ℤ c) (a *ℤ d) bc ad) (omega (arith, ints));
    }

-- a short pair's parts and their negatives
pub record PairFits (p : Pair) : Type 0 where
  pub cosine : FitsSigned w64 p.0
  pub sine : FitsSigned w64 p.1
  pub minus_cosine : FitsSigned w64 (pos 0 -ℤ p.0)
  pub minus_sine : FitsSigned w64 (pos 0 -ℤ p.1)

-- all that the code computes from a quarter's pair
pub pair_fits : (p : Pair) → IsShort p → PairFits p
pair_fits p h = let g = parts_within p h in record { cosine = omega (arith, ints); sine = omega (arith, ints); minus_cosine = omega (arith, ints); minus_sine = omega (arith, ints) }
