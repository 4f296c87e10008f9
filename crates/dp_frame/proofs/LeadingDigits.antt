-- The digits that a line begins with, and the number that they make, digit by digit.
use Rattle.std.proofs.Common.{◌≡◌, ℕ, suc, ◌+◌, ◌-◌, ◌*◌, ◌^◌, ◌<◌, ◌≤◌, inl, inr, Bool, true, false, List, [], ◌∷◌, ◌++◌, length, take, get_or, Some, None, ◌∙◌, sym, ap, arith}
use Rattle.std.specs.Prelude.{if◌then◌else◌}
use Rattle.std.specs.Char.{is_ascii_digit}
use Rattle.std.proofs.Math.Nat.{pow-succ', pow-le-pow_right}
use Rattle.std.proofs.lemmas.Bool.{cases_eq, cases_lt}
use Rattle.std.proofs.lemmas.Bool.Decides.{nat_tests}
use Rattle.std.proofs.lemmas.List.{take_more}
use Rattle.std.proofs.lemmas.List.Sums.{prefix_len_is, prefix_len_stops}
use Rattle.dp_text.specs.Numbers.{digits_after}
use Rattle.dp_frame.specs.Line.{time_len}

digit_within : (c : ℕ) → is_ascii_digit c ≡ true → (48 ≤ c) × (c ≤ 57)
digit_within c e = (grind (arith, nat_tests), grind (arith, nat_tests))

-- the bytes below n are digits
abbrev pub AreDigits : List ℕ → ℕ → Type 0
AreDigits line n = (k : ℕ) → k < n → is_ascii_digit (get_or line k 0) ≡ true

pub digits_more : (line : List ℕ) (n : ℕ) → AreDigits line n → is_ascii_digit (get_or line n 0) ≡ true → AreDigits line (n + 1)
digits_more line n digits here = λ k lt.
    elim (cases_eq k n) [
      | inl is ↦ rw is here
      | inr other ↦ digits k (omega (arith, lt, other))
    ]

-- they end where the line does, or at a byte that is none
pub digits_end : (line : List ℕ) (n : ℕ) → n ≤ length line → AreDigits line n → (n < length line → is_ascii_digit (get_or line n 0) ≡ false) → n ≡ time_len line
digits_end line n within digits stop = sym (prefix_len_is is_ascii_digit line n 0 within digits stop)

-- there are at least as many as were met
pub digits_least : (line : List ℕ) (n : ℕ) → n ≤ length line → AreDigits line n → n ≤ time_len line
digits_least line n within digits =
    elim (cases_lt (time_len line) n) [
      | inl lt ↦
          let yes = digits (time_len line) lt in
          let not_one = prefix_len_stops is_ascii_digit line 0 (omega (arith, lt, within)) in
          absurd cc
      | inr le ↦ le
    ]

after_more : (a v c : ℕ) (xs : List ℕ) → is_ascii_digit c ≡ true → digits_after a xs ≡ Some v → digits_after a (xs ++ c ∷ []) ≡ Some (v * 10 + (c - 48))
after_more a v c [] digit was = rw digit (ap (λ o. Some (o * 10 + (c - 48))) (some_is was))
  where
    some_is : {a b : ℕ} → Some a ≡ Some b → a ≡ b
    some_is e = cc
after_more a v c (x ∷ xs) digit was = by_test (is_ascii_digit x) was (after_more (a * 10 + (x - 48)) v c xs digit)
  where
    by_test : (b : Bool) → (if b then digits_after (a * 10 + (x - 48)) xs else None) ≡ Some v
        → (digits_after (a * 10 + (x - 48)) xs ≡ Some v → digits_after (a * 10 + (x - 48)) (xs ++ c ∷ []) ≡ Some (v * 10 + (c - 48)))
        → (if b then digits_after (a * 10 + (x - 48)) (xs ++ c ∷ []) else None) ≡ Some (v * 10 + (c - 48))
    by_test true was more = more was
    by_test false was more = absurd cc

pub value_more : (line : List ℕ) (n v d : ℕ) → n < length line → is_ascii_digit (get_or line n 0) ≡ true → d ≡ get_or line n 0 - 48
    → digits_after 0 (take n line) ≡ Some v → digits_after 0 (take (n + 1) line) ≡ Some (v * 10 + d)
value_more line n v d lt digit is was = rw (take_more line n 0 lt, is) (after_more 0 v (get_or line n 0) (take n line) digit was)

pub bound_more : (n v d c : ℕ) → v < 10 ^ n → is_ascii_digit c ≡ true → d ≡ c - 48 → v * 10 + d < 10 ^ (n + 1)
bound_more n v d c less digit is =
    let within = digit_within c digit in
    let one : n + 1 ≡ suc n = omega arith in
    let power : 10 ^ (n + 1) ≡ 10 * 10 ^ n = ap (λ m. 10 ^ m) one ∙ pow-succ' 10 n in
    omega (arith, within.1, power, less, is)

-- fifteen digits and one more fit 64 bits
pub few_fit : (n v : ℕ) → v < 10 ^ n → n ≤ 15 → v < 10 ^ 15
few_fit n v less le = omega (arith, pow-le-pow_right {n = 10} (omega arith) le)
