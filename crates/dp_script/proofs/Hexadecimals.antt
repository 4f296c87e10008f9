-- Hexadecimal text and its bytes, both ways.
use Rattle.std.proofs.Common.{◌≡◌, ℕ, ◌+◌, ◌-◌, ◌*◌, ◌/◌, ◌%◌, ◌<◌, ◌≤◌, ◌⊎◌, inl, inr, Bool, true, false, List, [], ◌∷◌, length, refl, sym, ap, ◌∙◌, subst, arith}
use Rattle.std.specs.Prelude.{if◌then◌else◌, ◌&&◌, ◌||◌, ◌==◌, nat_le, nat_lt}
use Rattle.dp_text.specs.Parts.{lacks_space}
use Rattle.std.specs.List.{All, list_all}
use Rattle.std.proofs.lemmas.Bool.Decides.{nat_tests}
use Rattle.std.proofs.lemmas.List.Elements.{All-nil, All-cons, All-head, All-tail}
use Rattle.dp_script.specs.Hexadecimal.{is_lower_digit, digit_value, paired, lower_digit, hexadecimal}

chosen : {A : Type 0} (b : Bool) (x y : A) → b ≡ true → (if b then x else y) ≡ x
chosen true x y is = refl
chosen false x y is = absurd cc

passed : {A : Type 0} (b : Bool) (x y : A) → b ≡ false → (if b then x else y) ≡ y
passed false x y is = refl
passed true x y is = absurd cc

pub both_true : (a b : Bool) → (a && b) ≡ true → (a ≡ true) × (b ≡ true)
both_true true b e = (refl, e)
both_true false b e = absurd cc

-- ---- a digit

ranges : (c : ℕ) → is_lower_digit c ≡ true → ((48 ≤ c) × (c ≤ 57)) ⊎ ((97 ≤ c) × (c ≤ 102))
ranges c e = by_tests (nat_le 48 c && nat_le c 57) refl e
  where
    by_tests : (low : Bool) → (nat_le 48 c && nat_le c 57) ≡ low → (low || (nat_le 97 c && nat_le c 102)) ≡ true → ((48 ≤ c) × (c ≤ 57)) ⊎ ((97 ≤ c) × (c ≤ 102))
    by_tests true is e =
        let t = both_true (nat_le 48 c) (nat_le c 57) is in
        let a = t.0 in
        let b = t.1 in
        let from : 48 ≤ c = grind (arith, nat_tests) in
        let to : c ≤ 57 = grind (arith, nat_tests) in inl (from, to)
    by_tests false is e =
        let t = both_true (nat_le 97 c) (nat_le c 102) e in
        let a = t.0 in
        let b = t.1 in
        let from : 97 ≤ c = grind (arith, nat_tests) in
        let to : c ≤ 102 = grind (arith, nat_tests) in inr (from, to)

-- what a digit counts, and that it is the digit of that
record IsDigit (c : ℕ) : Type 0 where
  pub small : digit_value c < 16
  pub back : lower_digit (digit_value c) ≡ c

of_value : (c v : ℕ) → digit_value c ≡ v → v < 16 → lower_digit v ≡ c → IsDigit c
of_value c v e small back = record { small = subst (λ v. v < 16) (sym e) small; back = ap lower_digit e ∙ back }

digit_known : (c : ℕ) → is_lower_digit c ≡ true → IsDigit c
digit_known c e =
    elim (ranges c e) [
      | inl r ↦
          let first : nat_le c 57 ≡ true = grind (arith, nat_tests, r.1) in
          let low : nat_lt (c - 48) 10 ≡ true = grind (arith, nat_tests, r.0, r.1) in
          let sum : 48 + (c - 48) ≡ c = omega (arith, r.0) in
          of_value c (c - 48) (chosen (nat_le c 57) (c - 48) (c - 87) first) (omega (arith, r.1))
          (chosen (nat_lt (c - 48) 10) (48 + (c - 48)) (87 + (c - 48)) low ∙ sum)
      | inr r ↦
          let second : nat_le c 57 ≡ false = grind (arith, nat_tests, r.0) in
          let high : nat_lt (c - 87) 10 ≡ false = grind (arith, nat_tests, r.0) in
          let sum : 87 + (c - 87) ≡ c = omega (arith, r.0) in
          of_value c (c - 87) (passed (nat_le c 57) (c - 48) (c - 87) second) (omega (arith, r.1))
          (passed (nat_lt (c - 87) 10) (48 + (c - 87)) (87 + (c - 87)) high ∙ sum)
    ]

-- the digit of a number below 16
record IsDigitOf (n c : ℕ) : Type 0 where
  pub digit : is_lower_digit c ≡ true
  pub value : digit_value c ≡ n

either : (a b d e : Bool) → (a && b) ≡ true → ((a && b) || (d && e)) ≡ true
either a b d e is = by_test (a && b) is
  where
    by_test : (t : Bool) → t ≡ true → (t || (d && e)) ≡ true
    by_test true is = refl
    by_test false is = absurd cc

other : (t b : Bool) → b ≡ true → (t || b) ≡ true
other true b is = refl
other false b is = is

both : (a b : Bool) → a ≡ true → b ≡ true → (a && b) ≡ true
both true b x y = y
both false b x y = absurd cc

digit_of_number : (n : ℕ) → n < 16 → IsDigitOf n (lower_digit n)
digit_of_number n small = by_test (nat_lt n 10) refl
  where
    by_test : (b : Bool) → nat_lt n 10 ≡ b → IsDigitOf n (if b then 48 + n else 87 + n)
    by_test true low =
        let few : n < 10 = grind (arith, nat_tests) in
        let from : nat_le 48 (48 + n) ≡ true = grind (arith, nat_tests) in
        let to : nat_le (48 + n) 57 ≡ true = grind (arith, nat_tests) in
        let sum : (48 + n) - 48 ≡ n = omega arith in
        record {
          digit = either (nat_le 48 (48 + n)) (nat_le (48 + n) 57) (nat_le 97 (48 + n)) (nat_le (48 + n) 102) (both _ _ from to);
          value = chosen (nat_le (48 + n) 57) ((48 + n) - 48) ((48 + n) - 87) to ∙ sum;
        }
    by_test false high =
        let many : 10 ≤ n = grind (arith, nat_tests) in
        let from : nat_le 97 (87 + n) ≡ true = grind (arith, nat_tests) in
        let to : nat_le (87 + n) 102 ≡ true = grind (arith, nat_tests) in
        let past : nat_le (87 + n) 57 ≡ false = grind (arith, nat_tests) in
        let sum : (87 + n) - 87 ≡ n = omega arith in
        record {
          digit = other (nat_le 48 (87 + n) && nat_le (87 + n) 57) (nat_le 97 (87 + n) && nat_le (87 + n) 102) (both _ _ from to);
          value = passed (nat_le (87 + n) 57) ((87 + n) - 48) ((87 + n) - 87) past ∙ sum;
        }

-- ---- text

abbrev is_byte : ℕ → Type 0
is_byte byte = byte < 256

-- a text of digits, two a byte
pub record IsPaired (digits : List ℕ) : Type 0 where
  pub text : digits ≡ hexadecimal (paired digits)
  pub small : All (λ byte. byte < 256) (paired digits)
  pub double : length digits ≡ 2 * length (paired digits)

quotient : (h l : ℕ) → l < 16 → (16 * h + l) / 16 ≡ h
quotient h l small = omega arith

remainder : (h l : ℕ) → l < 16 → (16 * h + l) % 16 ≡ l
remainder h l small = omega arith

pub pairs_known : (digits : List ℕ) → list_all is_lower_digit digits ≡ true → length digits % 2 ≡ 0 → IsPaired digits
pairs_known [] all even = record { text = refl; small = All-nil is_byte; double = refl }
pairs_known (high ∷ []) all even = absurd (omega (arith, even))
pairs_known (high ∷ low ∷ digits) all even =
    let first = both_true (is_lower_digit high) (list_all is_lower_digit (low ∷ digits)) all in
    let second = both_true (is_lower_digit low) (list_all is_lower_digit digits) first.1 in
    let h = digit_known high first.0 in
    let l = digit_known low second.0 in
    let rest = pairs_known digits second.1 (omega (arith, even)) in
    let byte : ℕ = 16 * digit_value high + digit_value low in
    let upper : lower_digit (byte / 16) ≡ high = ap lower_digit (quotient (digit_value high) (digit_value low) l.small) ∙ h.back in
    let lower : lower_digit (byte % 16) ≡ low = ap lower_digit (remainder (digit_value high) (digit_value low) l.small) ∙ l.back in
    record {
      text = ap (λ t. high ∷ low ∷ t) rest.text ∙ (ap (λ d. high ∷ d ∷ hexadecimal (paired digits)) (sym lower) ∙ ap (λ d. d ∷ lower_digit (byte % 16) ∷ hexadecimal (paired digits)) (sym upper));
      small = All-cons is_byte byte (paired digits) (omega (arith, h.small, l.small)) rest.small;
      double = omega (arith, rest.double);
    }

-- the text of bytes
pub record IsTextOf (bytes text : List ℕ) : Type 0 where
  pub digits : list_all is_lower_digit text ≡ true
  pub back : paired text ≡ bytes
  pub double : length text ≡ 2 * length bytes

halves : (n : ℕ) → 16 * (n / 16) + n % 16 ≡ n
halves n = omega arith

pub text_known : (bytes : List ℕ) → All (λ byte. byte < 256) bytes → IsTextOf bytes (hexadecimal bytes)
text_known [] small = record { digits = refl; back = refl; double = refl }
text_known (byte ∷ bytes) small =
    let one : byte < 256 = All-head is_byte byte bytes small in
    let h = digit_of_number (byte / 16) (omega (arith, one)) in
    let l = digit_of_number (byte % 16) (omega arith) in
    let rest = text_known bytes (All-tail is_byte byte bytes small) in
    let high : ℕ = lower_digit (byte / 16) in
    let low : ℕ = lower_digit (byte % 16) in
    let sum : 16 * digit_value high + digit_value low ≡ byte =
    ap (λ n. 16 * n + digit_value low) h.value ∙ (ap (λ n. 16 * (byte / 16) + n) l.value ∙ halves byte) in
    record {
      digits = both (is_lower_digit high) (list_all is_lower_digit (low ∷ hexadecimal bytes)) h.digit (both (is_lower_digit low) (list_all is_lower_digit (hexadecimal bytes)) l.digit rest.digits);
      back = ap (λ b. b ∷ paired (hexadecimal bytes)) sum ∙ ap (λ bs. byte ∷ bs) rest.back;
      double = omega (arith, rest.double);
    }

no_space : (n : ℕ) → (lower_digit n == 32) ≡ false
no_space n = by_test (nat_lt n 10)
  where
    by_test : (b : Bool) → ((if b then 48 + n else 87 + n) == 32) ≡ false
    by_test true = grind (arith, nat_tests)
    by_test false = grind (arith, nat_tests)

pub hexadecimal_lacks : (bytes : List ℕ) → lacks_space (hexadecimal bytes) ≡ true
hexadecimal_lacks [] = refl
hexadecimal_lacks (byte ∷ bytes) = rw (no_space (byte / 16), no_space (byte % 16)) (hexadecimal_lacks bytes)
