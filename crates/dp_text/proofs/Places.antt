-- A number that is read digit by digit is the value of the digits by their places.
use Rattle.std.proofs.Common.{◌≡◌, ℕ, ◌+◌, ◌-◌, ◌*◌, ◌^◌, Bool, true, false, List, [], ◌∷◌, length, Some, None, ◌∙◌, refl, sym, ap, arith}
use Rattle.std.specs.Prelude.{if◌then◌else◌, nat_lt, nat_le, ◌&&◌}
use Rattle.std.specs.List.{list_all}
use Rattle.std.specs.Char.{is_ascii_digit}
use Rattle.std.proofs.Math.Nat.{mul_assoc, pow-succ'}
use Rattle.std.proofs.lemmas.Bool.Decides.{nat_tests}
use Rattle.dp_text.specs.Numbers.{decimal_of, digits_after}
use Rattle.dp_text.specs.Laws.{NumberReadIsWritten, Writes, place_value}

some_is : {a b : ℕ} → Some a ≡ Some b → a ≡ b
some_is e = cc

-- a digit more in front of those that are left, whose value is v
one_more : (n d p q v : ℕ) → q ≡ 10 * p → (n * 10 + d) * p + v ≡ n * q + (d * p + v)
one_more n d p q v is = rw is (omega (arith, mul_assoc n 10 p))

-- the number so far, and then digits
read_on : (n : ℕ) (cs : List ℕ) → list_all is_ascii_digit cs ≡ true → digits_after n cs ≡ Some (n * 10 ^ length cs + place_value cs)
read_on n [] all = ap (λ m. Some m) (omega arith)
read_on n (c ∷ cs) all = by_test (is_ascii_digit c) refl all (read_on (n * 10 + (c - 48)) cs)
  where
    by_test : (b : Bool) → is_ascii_digit c ≡ b → (b && list_all is_ascii_digit cs) ≡ true
        → (list_all is_ascii_digit cs ≡ true → digits_after (n * 10 + (c - 48)) cs ≡ Some ((n * 10 + (c - 48)) * 10 ^ length cs + place_value cs))
        → (if b then digits_after (n * 10 + (c - 48)) cs else None) ≡ Some (n * 10 ^ length (c ∷ cs) + place_value (c ∷ cs))
    by_test true is rest read = rw (one_more n (c - 48) (10 ^ length cs) (10 ^ length (c ∷ cs)) (place_value cs) (pow-succ' 10 (length cs))) at (read rest)
    by_test false is rest read = absurd cc

-- where a number is read, all are digits
all_read : (n m : ℕ) (cs : List ℕ) → digits_after n cs ≡ Some m → list_all is_ascii_digit cs ≡ true
all_read n m [] e = refl
all_read n m (c ∷ cs) e = by_test (is_ascii_digit c) refl e (all_read (n * 10 + (c - 48)) m cs)
  where
    by_test : (b : Bool) → is_ascii_digit c ≡ b → (if b then digits_after (n * 10 + (c - 48)) cs else None) ≡ Some m
        → (digits_after (n * 10 + (c - 48)) cs ≡ Some m → list_all is_ascii_digit cs ≡ true)
        → (b && list_all is_ascii_digit cs) ≡ true
    by_test true is e rest = rest e
    by_test false is e rest = absurd cc

from_none : (cs : List ℕ) → 0 * 10 ^ length cs + place_value cs ≡ place_value cs
from_none cs = omega arith

written : (most n : ℕ) (text : List ℕ) → decimal_of most text ≡ Some n → Writes text most n
written most n text e = by_length (nat_lt 0 (length text)) (nat_le (length text) most) refl refl e
  where
    by_length : (some few : Bool) → nat_lt 0 (length text) ≡ some → nat_le (length text) most ≡ few
        → (if some && few then digits_after 0 text else None) ≡ Some n → Writes text most n
    by_length true true some few e =
        let all : list_all is_ascii_digit text ≡ true = all_read 0 n text e in
        let both : Some n ≡ Some (0 * 10 ^ length text + place_value text) = sym e ∙ read_on 0 text all in
        record {
          some = grind (arith, nat_tests);
          few = grind (arith, nat_tests);
          digits = all;
          value = some_is both ∙ from_none text;
        }
    by_length true false some few e = absurd cc
    by_length false few some is e = absurd cc

read : (most n : ℕ) (text : List ℕ) → Writes text most n → decimal_of most text ≡ Some n
read most n text w = by_length (nat_lt 0 (length text)) (nat_le (length text) most) refl refl
  where
    by_length : (some few : Bool) → nat_lt 0 (length text) ≡ some → nat_le (length text) most ≡ few
        → (if some && few then digits_after 0 text else None) ≡ Some n
    by_length true true some few = read_on 0 text w.digits ∙ ap (λ m. Some m) (from_none text ∙ sym w.value)
    by_length true false some few = absurd (grind (arith, nat_tests, w.few))
    by_length false few some is = absurd (grind (arith, nat_tests, w.some))

pub number_read_is_written : NumberReadIsWritten
number_read_is_written = record { written = written; read = read }
