-- The bits that at least two of three masks have.
use Rattle.std.proofs.Common.{◌≡◌, ℕ, zero, suc, ◌<◌, ◌^◌, max, min, Bool, false, ◌==◌, cond, [], ◌∷◌, map, sym, ap, ◌∙◌, refl, arith, bit_and, bit_or}
use Rattle.std.specs.Int.{bit_at}
use Rattle.std.specs.Int.Bits.{and_lt}
use Rattle.std.specs.List.{range_with_len}
use Rattle.std.proofs.lemmas.Nat.{or_lt}
use Rattle.std.proofs.lemmas.Nat.Bits.{bit_at-lt, bit_at_and, bit_at_or, same_from_bits_below}
use Rattle.std.proofs.lemmas.List.FromFn.{get_or-map-range_with_len}
use Rattle.dp_fixed.specs.{bits_of, is_set}
use Rattle.dp_fixed.proofs.BitLemmas.{bits_below, is_set-bits_of}
use Rattle.dp_report.specs.Agreement.{agreed_bits, are_two}

-- two of three bits are set
two_bits : (x y z : ℕ) → x < 2 → y < 2 → z < 2
    → max (max (min x y) (min x z)) (min y z) ≡ cond (are_two (λ n. n == 1) (x ∷ y ∷ z ∷ [])) 1 0
two_bits zero zero zero p q r = refl
two_bits zero zero (suc zero) p q r = refl
two_bits zero (suc zero) zero p q r = refl
two_bits zero (suc zero) (suc zero) p q r = refl
two_bits (suc zero) zero zero p q r = refl
two_bits (suc zero) zero (suc zero) p q r = refl
two_bits (suc zero) (suc zero) zero p q r = refl
two_bits (suc zero) (suc zero) (suc zero) p q r = refl
two_bits (suc (suc x)) y z p q r = absurd (omega arith)
two_bits x (suc (suc y)) z p q r = absurd (omega arith)
two_bits x y (suc (suc z)) p q r = absurd (omega arith)

-- a bit by its test
bit_from : (x : ℕ) (b : Bool) → x < 2 → (x == 1) ≡ b → x ≡ cond b 1 0
bit_from zero b h e = ap (λ t. cond t 1 0) e
bit_from (suc zero) b h e = ap (λ t. cond t 1 0) e
bit_from (suc (suc x)) b h e = absurd (omega arith)

-- what of three masks the code gives
abbrev pairs : ℕ → ℕ → ℕ → ℕ
pairs a b c = bit_or (bit_or (bit_and a b) (bit_and a c)) (bit_and b c)

bit_of_pairs : (a b c i : ℕ) → bit_at (pairs a b c) i
    ≡ max (max (min (bit_at a i) (bit_at b i)) (min (bit_at a i) (bit_at c i))) (min (bit_at b i) (bit_at c i))
bit_of_pairs a b c i = rw (bit_at_or, bit_at_or, bit_at_and a b, bit_at_and a c, bit_at_and b c) refl

pairs_below : (w a b c : ℕ) → a < 2 ^ w → b < 2 ^ w → c < 2 ^ w → pairs a b c < 2 ^ w
pairs_below w a b c x y z = or_lt w _ _ (or_lt w _ _ (and_lt w a b x y) (and_lt w a c x z)) (and_lt w b c y z)

pub voted_bits : (w a b c : ℕ) → a < 2 ^ w → b < 2 ^ w → c < 2 ^ w
    → bit_or (bit_or (bit_and a b) (bit_and a c)) (bit_and b c) ≡ agreed_bits w (a ∷ b ∷ c ∷ [])
unfolding agreed_bits
voted_bits w a b c x y z =
    let passes : ℕ → Bool = λ i. are_two (λ mask. is_set mask i) (a ∷ b ∷ c ∷ []) in
    let row = map passes (range_with_len 0 w) in
    same_from_bits_below w (pairs a b c) (bits_of row) (pairs_below w a b c x y z) (bits_below passes w)
    (λ i below. bit_of_pairs a b c i ∙ two_bits (bit_at a i) (bit_at b i) (bit_at c i) (bit_at-lt a i) (bit_at-lt b i) (bit_at-lt c i)
    ∙ sym (bit_from (bit_at (bits_of row) i) (passes i) (bit_at-lt (bits_of row) i) (is_set-bits_of row i ∙ get_or-map-range_with_len passes 0 w i i false below (omega arith))))
