-- How the pairs of two headings are related.
use Rattle.std.proofs.Common.{◌≡◌, ℕ, zero, suc, ◌+◌, ◌-◌, ◌/◌, ◌%◌, ◌<◌, ◌≤◌, arith, refl, ap, sym, ◌∙◌, ℤ, neg_ℤ}
use Rattle.std.proofs.lemmas.Int.{ints}
use Rattle.std.proofs.lemmas.Bool.Decides.{nat_tests}
use Rattle.dp_trig.specs.Rotation.{Pair, unturned, turned, repeated}
use Rattle.dp_trig.specs.SinePair.{degrees, hundredths, octant_pair, exchanged, quadrant_pair, after_quarters, pair_of}

-- 0 degrees, by computing
pub north : pair_of 0 ≡ unturned
unfolding pair_of quadrant_pair octant_pair degrees hundredths turned repeated
north = refl

-- one quarter turn more
quarter_after : (q : ℕ) (p : Pair) → q < 3 → after_quarters (q + 1) p ≡ (neg_ℤ (after_quarters q p).1, (after_quarters q p).0)
quarter_after zero p h = refl
quarter_after (suc zero) p h = refl
quarter_after (suc (suc zero)) p h = ap (λ (z : ℤ). (z, neg_ℤ p.0)) (twice p.1)
  where
    twice : (z : ℤ) → z ≡ neg_ℤ (neg_ℤ z)
    twice z = omega (arith, ints)
quarter_after (suc (suc (suc q))) p h = absurd (omega arith)

-- 90 degrees more are one quarter turn more
pub quarter_more : (a : ℕ) → a < 27000 → pair_of (a + 9000) ≡ (neg_ℤ (pair_of a).1, (pair_of a).0)
unfolding pair_of
quarter_more a h =
    let q : (a + 9000) / 9000 ≡ a / 9000 + 1 = omega arith in
    let r : (a + 9000) % 9000 ≡ a % 9000 = omega arith in
    ap (λ (n : ℕ). after_quarters n (quadrant_pair ((a + 9000) % 9000))) q ∙ ap (λ (n : ℕ). after_quarters (a / 9000 + 1) (quadrant_pair n)) r ∙ quarter_after (a / 9000) (quadrant_pair (a % 9000)) (omega arith)

-- below 90 degrees there is no quarter turn
pair_of-quadrant : (a : ℕ) → a < 9000 → pair_of a ≡ quadrant_pair a
unfolding pair_of
pair_of-quadrant a h =
    let q : a / 9000 ≡ 0 = omega arith in
    let r : a % 9000 ≡ a = omega arith in
    ap (λ (n : ℕ). after_quarters n (quadrant_pair (a % 9000))) q ∙ ap quadrant_pair r

-- up to 45 degrees
quadrant_pair-low : (a : ℕ) → a ≤ 4500 → quadrant_pair a ≡ octant_pair a
unfolding quadrant_pair
quadrant_pair-low a h = grind (arith, nat_tests)

-- above 45 degrees
quadrant_pair-high : (b : ℕ) → 4500 < b → quadrant_pair b ≡ exchanged (octant_pair (9000 - b))
unfolding quadrant_pair
quadrant_pair-high b h = grind (arith, nat_tests)

-- 90 degrees, by computing
east : pair_of 9000 ≡ exchanged (pair_of 0)
unfolding pair_of quadrant_pair octant_pair degrees hundredths turned repeated
east = refl

-- two headings that add up to 90 degrees, the lower one below 45
pub other_half : (a b : ℕ) → a < 4500 → a + b ≡ 9000 → pair_of b ≡ exchanged (pair_of a)
other_half zero b h e = let whole : b ≡ 9000 = omega arith in ap pair_of whole ∙ east
other_half (suc a) b h e =
    let rest : 9000 - b ≡ suc a = omega arith in
    pair_of-quadrant b (omega arith) ∙ quadrant_pair-high b (omega arith) ∙ ap (λ (n : ℕ). exchanged (octant_pair n)) rest
    ∙ sym (ap exchanged (pair_of-quadrant (suc a) (omega arith) ∙ quadrant_pair-low (suc a) (omega arith)))
