-- Few digits give a small number.
use Rattle.std.proofs.Common.{◌≡◌, ℕ, ◌+◌, ◌-◌, ◌*◌, ◌^◌, ◌<◌, ◌≤◌, Bool, true, false, List, [], ◌∷◌, length, Option, Some, None, refl, sym, ap, arith}
use Rattle.std.specs.Prelude.{if◌then◌else◌, unwrap_or, nat_lt, nat_le, ◌&&◌}
use Rattle.std.specs.Char.{is_ascii_digit}
use Rattle.std.proofs.Math.Nat.{mul-le-mul_right, mul_assoc, pow-le-pow_right, pow-succ'}
use Rattle.std.proofs.lemmas.Nat.{pow-add}
use Rattle.std.proofs.lemmas.Bool.Decides.{nat_tests}
use Rattle.dp_text.specs.Numbers.{digits_after}
use Rattle.dp_nav.specs.Decimals.{number}

-- a digit more in front of those that are left
one_more : (n d m p q : ℕ) → d ≤ 9 → q ≡ 10 * p → m < (n * 10 + d + 1) * p → m < (n + 1) * q
one_more n d m p q digit is less =
    let fewer : n * 10 + d + 1 ≤ (n + 1) * 10 = omega arith in
    let most : (n * 10 + d + 1) * p ≤ (n + 1) * 10 * p = mul-le-mul_right p fewer in
    let all : m < (n + 1) * 10 * p = omega arith in
    rw is (rw (mul_assoc (n + 1) 10 p) at all)

digit_value : (c : ℕ) → is_ascii_digit c ≡ true → c - 48 ≤ 9
digit_value c e = grind (arith, nat_tests)

digits_after-bound : (n m : ℕ) (cs : List ℕ) → digits_after n cs ≡ Some m → m < (n + 1) * 10 ^ length cs
digits_after-bound n m [] e = omega (arith, some_is e)
  where
    some_is : {a b : ℕ} → Some a ≡ Some b → a ≡ b
    some_is e = cc
digits_after-bound n m (c ∷ cs) e = by_test (is_ascii_digit c) refl e (digits_after-bound (n * 10 + (c - 48)) m cs)
  where
    by_test : (b : Bool) → is_ascii_digit c ≡ b → (if b then digits_after (n * 10 + (c - 48)) cs else None) ≡ Some m
        → (digits_after (n * 10 + (c - 48)) cs ≡ Some m → m < (n * 10 + (c - 48) + 1) * 10 ^ length cs) → m < (n + 1) * 10 ^ length (c ∷ cs)
    by_test true is e rest = one_more n (c - 48) m (10 ^ length cs) (10 ^ length (c ∷ cs)) (digit_value c is) (pow-succ' 10 (length cs)) (rest e)
    by_test false is e rest = absurd cc

-- a power of ten is at least 1
positive : (k : ℕ) → 0 < 10 ^ k
positive k =
    let from_none : 0 ≤ k = omega arith in
    omega (arith, pow-le-pow_right {n = 10} (omega arith) from_none)

pub number-bound : (digits : List ℕ) → number digits < 10 ^ length digits
number-bound digits = by_length (nat_lt 0 (length digits) && nat_le (length digits) 18) (digits_after 0 digits) refl
  where
    by_length : (b : Bool) (o : Option ℕ) → digits_after 0 digits ≡ o → unwrap_or (if b then o else None) 0 < 10 ^ length digits
    by_length true (Some m) is = omega (arith, digits_after-bound 0 m digits is)
    by_length true None is = positive (length digits)
    by_length false o is = positive (length digits)

-- j digits, followed by zeros up to k
pub scaled-bound : (n p j k : ℕ) → n < 10 ^ j → j ≤ k → p ≡ 10 ^ (k - j) → n * p < 10 ^ k
scaled-bound n p j k less few is =
    let rest : 10 ^ j * 10 ^ (k - j) ≡ 10 ^ (j + (k - j)) = sym (pow-add 10 j (k - j)) in
    let all : 10 ^ (j + (k - j)) ≡ 10 ^ k = ap (λ i. 10 ^ i) (omega arith) in
    let up : n + 1 ≤ 10 ^ j = omega (arith, less) in
    let some : (n + 1) * 10 ^ (k - j) ≤ 10 ^ j * 10 ^ (k - j) = mul-le-mul_right (10 ^ (k - j)) up in
    let more : n * 10 ^ (k - j) + 10 ^ (k - j) ≡ (n + 1) * 10 ^ (k - j) = omega arith in
    let one : 0 < 10 ^ (k - j) = positive (k - j) in
    rw is (omega arith)
