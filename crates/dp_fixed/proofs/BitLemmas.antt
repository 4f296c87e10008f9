-- The bits of a number that is made of a row of answers, and a bit added to a number.
use Rattle.std.proofs.Common.{◌≡◌, ℕ, suc, zero, ◌+◌, ◌*◌, ◌/◌, ◌%◌, ◌^◌, ◌<◌, ◌≤◌, Bool, true, false, ◌==◌, cond, List, [], ◌∷◌, ◌++◌, length, get_or, map, sym, ◌∙◌, ap, refl, arith}
use Rattle.std.proofs.Math.Nat.{div-one, pow-le-pow_right, two-pow-succ}
use Rattle.std.proofs.lemmas.Bool.{eqb-false, eq-eqb, ne_eqb}
use Rattle.std.proofs.lemmas.Nat.Bits.{bit_at-suc, bit_at-zero}
use Rattle.std.proofs.lemmas.List.FromFn.{length-map-range_with_len, map-range_with_len_more}
use Rattle.std.specs.List.{range_with_len}
use Rattle.dp_fixed.specs.Bits.{bits_of, is_set}

-- bit k + 1 of a number is bit k of its half
pub is_set-suc : (mask k : ℕ) → is_set mask (suc k) ≡ is_set (mask / 2) k
is_set-suc mask k = ap (λ n. n == 1) (bit_at-suc mask k)

-- an even number below an even one
even_below : (mask n : ℕ) → mask < n + n → (mask % 2 ≡ 1 → ⊥) → mask + 1 < n + n
even_below mask n below even = omega arith

half_below : (mask n : ℕ) → mask < n + n → mask / 2 < n
half_below mask n below = omega arith

twice_below : (mask m n : ℕ) → mask / 2 + m < n → mask + (m + m) < n + n
twice_below mask m n below = omega arith

-- a number without bit k still fits its width with that bit added
pub added_fits : (k width mask : ℕ) → k < width → mask < 2 ^ width → is_set mask k ≡ false
    → mask + 2 ^ k < 2 ^ width
added_fits k zero mask below fits ready = absurd (omega arith)
added_fits zero (suc w) mask below fits ready =
    let even : mask % 2 ≡ 1 → ⊥ = rw div-one at (eqb-false (mask / 1 % 2) 1 ready) in
    rw two-pow-succ (even_below mask (2 ^ w) (rw two-pow-succ at fits) even)
added_fits (suc k) (suc w) mask below fits ready =
    let fits' : mask < 2 ^ w + 2 ^ w = rw two-pow-succ at fits in
    let half = added_fits k w (mask / 2) (omega arith) (half_below mask (2 ^ w) fits') (sym (is_set-suc mask k) ∙ ready) in
    rw (two-pow-succ k, two-pow-succ w) (twice_below mask (2 ^ k) (2 ^ w) half)

pub bits_of-lt : (bs : List Bool) → bits_of bs < 2 ^ length bs
bits_of-lt [] = omega arith
bits_of-lt (true ∷ bs) = omega (arith, bits_of-lt bs, two-pow-succ (length bs))
bits_of-lt (false ∷ bs) = omega (arith, bits_of-lt bs, two-pow-succ (length bs))

-- one answer more is one bit more
pub bits_of-append : (bs : List Bool) (b : Bool)
    → bits_of (bs ++ b ∷ []) ≡ bits_of bs + cond b (2 ^ length bs) 0
bits_of-append [] true = refl
bits_of-append [] false = refl
bits_of-append (a ∷ bs) true = omega (arith, bits_of-append bs true, two-pow-succ (length bs))
bits_of-append (a ∷ bs) false = omega (arith, bits_of-append bs false)

lowest_set : (n : ℕ) → is_set (1 + 2 * n) 0 ≡ true
lowest_set n = eq-eqb _ 1 (rw div-one (omega arith))

lowest_clear : (n : ℕ) → is_set (0 + 2 * n) 0 ≡ false
lowest_clear n = ne_eqb _ 1 (rw div-one (λ e. omega arith))

-- each answer is its bit
pub is_set-bits_of : (bs : List Bool) (k : ℕ) → is_set (bits_of bs) k ≡ get_or bs k false
is_set-bits_of [] k = ap (λ n. n == 1) (bit_at-zero k)
is_set-bits_of (true ∷ bs) zero = lowest_set (bits_of bs)
is_set-bits_of (false ∷ bs) zero = lowest_clear (bits_of bs)
is_set-bits_of (true ∷ bs) (suc k) =
    let half : (1 + 2 * bits_of bs) / 2 ≡ bits_of bs = omega arith in
    is_set-suc (1 + 2 * bits_of bs) k ∙ ap (λ n. is_set n k) half ∙ is_set-bits_of bs k
is_set-bits_of (false ∷ bs) (suc k) =
    let half : (0 + 2 * bits_of bs) / 2 ≡ bits_of bs = omega arith in
    is_set-suc (0 + 2 * bits_of bs) k ∙ ap (λ n. is_set n k) half ∙ is_set-bits_of bs k

-- the bits of one number more
pub bits_more : (p : ℕ → Bool) (n : ℕ)
    → bits_of (map p (range_with_len 0 (n + 1))) ≡ bits_of (map p (range_with_len 0 n)) + cond (p n) (2 ^ n) 0
bits_more p n =
    ap bits_of (map-range_with_len_more p 0 n n (omega arith)) ∙ bits_of-append (map p (range_with_len 0 n)) (p n)
    ∙ ap (λ k. bits_of (map p (range_with_len 0 n)) + cond (p n) (2 ^ k) 0) (length-map-range_with_len p 0 n)

pub bits_below : (p : ℕ → Bool) (n : ℕ) → bits_of (map p (range_with_len 0 n)) < 2 ^ n
bits_below p n = rw length-map-range_with_len at (bits_of-lt (map p (range_with_len 0 n)))

-- one bit more, as a loop over the numbers adds it
pub bits_next : (p : ℕ → Bool) (n bits bit : ℕ) (b : Bool) → bits ≡ bits_of (map p (range_with_len 0 n)) → b ≡ p n
    → bit ≡ cond b (2 ^ n) 0 → bits + bit ≡ bits_of (map p (range_with_len 0 (n + 1)))
bits_next p n bits bit b before test added = ap (λ k. k + bit) before ∙ ap (λ k. bits_of (map p (range_with_len 0 n)) + k) (added ∙ ap (λ c. cond c (2 ^ n) 0) test) ∙ sym (bits_more p n)

two_above : 0 < 2
two_above = omega arith

-- the bits of at most m answers
pub bits_within : (p : ℕ → Bool) (n m : ℕ) → n ≤ m → bits_of (map p (range_with_len 0 n)) < 2 ^ m
bits_within p n m few = omega (arith, bits_below p n, pow-le-pow_right {n = 2} two_above {i = n} {j = m} few)
