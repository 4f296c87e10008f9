-- The decimals that are kept, and the number that all of them write.
use Rattle.std.proofs.Common.{◌≡◌, ℕ, ◌+◌, ◌-◌, ◌*◌, ◌^◌, ◌<◌, ◌≤◌, ◌⊎◌, inl, inr, Bool, true, false, List, [], ◌∷◌, ◌++◌, length, take, drop, Some, ◌∙◌, refl, sym, ap, subst, arith, length-append}
use Rattle.std.specs.Prelude.{◌&&◌, unwrap_or}
use Rattle.std.specs.List.{list_all}
use Rattle.std.specs.Char.{is_ascii_digit}
use Rattle.std.proofs.Math.Nat.{mul-le-mul_right, mul_assoc, mul_comm, pow-le-pow_right, pow-succ'}
use Rattle.std.proofs.lemmas.Bool.{cases_lt}
use Rattle.std.proofs.lemmas.Bool.Decides.{nat_tests}
use Rattle.std.proofs.lemmas.List.{length-drop, length-take-le, take-append-drop, take_all}
use Rattle.std.proofs.lemmas.List.Folds.{list_all-append}
use Rattle.std.proofs.lemmas.Nat.{pow-add}
use Rattle.dp_text.specs.Laws.{place_value}
use Rattle.dp_text.specs.Numbers.{decimal_of}
use Rattle.dp_text.proofs.JoinedParts.{both}
use Rattle.dp_text.proofs.Places.{number_read_is_written}
use Rattle.dp_nav.specs.Decimals.{kept, number}
use Rattle.dp_nav.specs.Named.{ComesTo}

pub positive : (k : ℕ) → 0 < 10 ^ k
positive k =
    let from_none : 0 ≤ k = omega arith in
    omega (arith, pow-le-pow_right {n = 10} (omega arith) from_none)

-- up to 18 digits are the number that they write, none write 0
pub number_is : (digits : List ℕ) → length digits ≤ 18 → list_all is_ascii_digit digits ≡ true → number digits ≡ place_value digits
number_is [] few all = refl
number_is (c ∷ cs) few all =
    ap (λ o. unwrap_or o 0) (number_read_is_written.read 18 (place_value (c ∷ cs)) (c ∷ cs) (record { some = omega arith; few = few; digits = all; value = refl }))

-- more digits behind others
front_step : (d p q r v w : ℕ) → r ≡ p * q → d * r + (v * q + w) ≡ (d * p + v) * q + w
front_step d p q r v w is = rw is (omega (arith, mul_assoc d p q))

pub value-append : (xs ys : List ℕ) → place_value (xs ++ ys) ≡ place_value xs * 10 ^ length ys + place_value ys
value-append [] ys = omega arith
value-append (c ∷ cs) ys =
    let more : 10 ^ length (cs ++ ys) ≡ 10 ^ length cs * 10 ^ length ys = ap (λ n. 10 ^ n) (length-append cs ys) ∙ pow-add 10 (length cs) (length ys) in
    ap (λ n. (c - 48) * 10 ^ length (cs ++ ys) + n) (value-append cs ys)
    ∙ front_step (c - 48) (10 ^ length cs) (10 ^ length ys) (10 ^ length (cs ++ ys)) (place_value cs) (place_value ys) more

digit_value : (c : ℕ) → is_ascii_digit c ≡ true → c - 48 ≤ 9
digit_value c e = grind (arith, nat_tests)

value_step : (d p q v : ℕ) → d ≤ 9 → q ≡ 10 * p → v < p → d * p + v < q
value_step d p q v digit is less =
    let most : d * p ≤ 9 * p = mul-le-mul_right p digit in
    rw is (omega arith)

-- digits write less than the next power of ten
pub value-bound : (digits : List ℕ) → list_all is_ascii_digit digits ≡ true → place_value digits < 10 ^ length digits
value-bound [] all = positive 0
value-bound (c ∷ cs) all =
    let b = both (is_ascii_digit c) (list_all is_ascii_digit cs) all in
    value_step (c - 48) (10 ^ length cs) (10 ^ length (c ∷ cs)) (place_value cs) (digit_value c b.0) (pow-succ' 10 (length cs)) (value-bound cs b.1)

-- what no more than seven decimals come to
few_kept : (whole value k : ℕ) → k ≤ 7 → ComesTo whole k value (whole * 10 ^ 7 + value * 10 ^ (7 - k))
few_kept whole value k few =
    let all : 7 - k + k ≡ 7 = omega (arith, few) in
    let powers : 10 ^ (7 - k) * 10 ^ k ≡ 10 ^ 7 = sym (pow-add 10 (7 - k) k) ∙ ap (λ n. 10 ^ n) all in
    let same : value * 10 ^ (7 - k) * 10 ^ k ≡ value * 10 ^ 7 = mul_assoc value (10 ^ (7 - k)) (10 ^ k) ∙ ap (λ n. value * n) powers in
    record {
      part = value * 10 ^ (7 - k);
      sum = refl;
      least = from_same (value * 10 ^ (7 - k) * 10 ^ k) (value * 10 ^ 7) same;
      most = one_up (value * 10 ^ (7 - k)) (10 ^ k) (value * 10 ^ 7) same (positive k);
    }
  where
    from_same : (a b : ℕ) → a ≡ b → a ≤ b
    from_same a b is = omega (arith, is)

    one_up : (f p x : ℕ) → f * p ≡ x → 0 < p → x < (f + 1) * p
    one_up f p x is some = omega (arith, is, some)

-- what the first seven of more decimals come to: the rest is worth less than one of the last
cut_kept : (whole k first rest r : ℕ) → 10 ^ k ≡ 10 ^ 7 * r → rest < r → ComesTo whole k (first * r + rest) (whole * 10 ^ 7 + first)
cut_kept whole k first rest r is less =
    let same : first * 10 ^ k ≡ first * r * 10 ^ 7 =
    ap (λ n. first * n) (is ∙ mul_comm (10 ^ 7) r) ∙ sym (mul_assoc first r (10 ^ 7)) in
    record {
      part = first;
      sum = refl;
      least = at_least (first * r) rest (first * 10 ^ k) same;
      most = at_most (first * r) rest r first (10 ^ k) same is less;
    }
  where
    at_least : (a rest x : ℕ) → x ≡ a * 10 ^ 7 → x ≤ (a + rest) * 10 ^ 7
    at_least a rest x is = omega (arith, is)

    at_most : (a rest r f p : ℕ) → f * p ≡ a * 10 ^ 7 → p ≡ 10 ^ 7 * r → rest < r → (a + rest) * 10 ^ 7 < (f + 1) * p
    at_most a rest r f p is power less =
        let up : rest * 10 ^ 7 + 10 ^ 7 ≤ r * 10 ^ 7 = omega (arith, less) in
        omega (arith, is, power, up)

few_is : (decimals : List ℕ) → length decimals ≤ 7 → take 7 decimals ≡ decimals
few_is decimals few = take_all 7 decimals few

one_time : (n : ℕ) → n * 1 ≡ n
one_time n = omega arith

times_one : (n : ℕ) → n * 10 ^ (7 - 7) ≡ n
times_one n = one_time n

-- the decimals that are kept are what all of them come to
pub kept_comes : (whole : ℕ) (decimals : List ℕ) → length decimals ≤ 18 → list_all is_ascii_digit decimals ≡ true
    → ComesTo whole (length decimals) (place_value decimals) (whole * 10 ^ 7 + kept 7 decimals)
unfolding kept
kept_comes whole decimals few all = elim (cases_lt 7 (length decimals)) [ inl more ↦ cut more | inr le ↦ short le ]
  where
    short : length decimals ≤ 7
        → ComesTo whole (length decimals) (place_value decimals) (whole * 10 ^ 7 + number (take 7 decimals) * 10 ^ (7 - length (take 7 decimals)))
    short le =
        let sum : whole * 10 ^ 7 + number (take 7 decimals) * 10 ^ (7 - length (take 7 decimals)) ≡ whole * 10 ^ 7 + place_value decimals * 10 ^ (7 - length decimals) =
        ap (λ t. whole * 10 ^ 7 + number t * 10 ^ (7 - length t)) (few_is decimals le)
        ∙ ap (λ n. whole * 10 ^ 7 + n * 10 ^ (7 - length decimals)) (number_is decimals few all) in
        subst (ComesTo whole (length decimals) (place_value decimals)) (sym sum) (few_kept whole (place_value decimals) (length decimals) le)

    cut : 7 < length decimals
        → ComesTo whole (length decimals) (place_value decimals) (whole * 10 ^ 7 + number (take 7 decimals) * 10 ^ (7 - length (take 7 decimals)))
    cut more =
        let first = take 7 decimals in
        let rest = drop 7 decimals in
        let seven : length first ≡ 7 = length-take-le 7 decimals (omega (arith, more)) in
        let others : length rest ≡ length decimals - 7 = length-drop 7 decimals in
        let joined : first ++ rest ≡ decimals = take-append-drop 7 decimals in
        let digits : (list_all is_ascii_digit first && list_all is_ascii_digit rest) ≡ true =
        sym (list_all-append is_ascii_digit first rest) ∙ (ap (list_all is_ascii_digit) joined ∙ all) in
        let b = both (list_all is_ascii_digit first) (list_all is_ascii_digit rest) digits in
        let value : place_value decimals ≡ place_value first * 10 ^ length rest + place_value rest =
        ap place_value (sym joined) ∙ value-append first rest in
        let count : length decimals ≡ 7 + length rest = omega (arith, others, more) in
        let power : 10 ^ length decimals ≡ 10 ^ 7 * 10 ^ length rest =
        ap (λ n. 10 ^ n) count ∙ pow-add 10 7 (length rest) in
        let is : number first * 10 ^ (7 - length first) ≡ place_value first =
        ap (λ n. number first * 10 ^ (7 - n)) seven ∙ (times_one (number first) ∙ number_is first (omega (arith, seven)) b.0) in
        let comes = cut_kept whole (length decimals) (place_value first) (place_value rest) (10 ^ length rest) power (value-bound rest b.1) in
        subst (ComesTo whole (length decimals) (place_value decimals)) (sym (ap (λ n. whole * 10 ^ 7 + n) is))
        (subst (λ v. ComesTo whole (length decimals) v (whole * 10 ^ 7 + place_value first)) (sym value) comes)

-- there is one number that they come to
one_part : (f g p x : ℕ) → f * p ≤ x → x < (g + 1) * p → f ≤ g
one_part f g p x least most =
    elim (cases_lt g f) [
      | inl more ↦
          let up : (g + 1) * p ≤ f * p = mul-le-mul_right p (omega (arith, more)) in
          absurd (omega (arith, up, least, most))
      | inr le ↦ le
    ]

pub comes_once : (whole k value n m : ℕ) → ComesTo whole k value n → ComesTo whole k value m → n ≡ m
comes_once whole k value n m a b =
    let up = one_part a.part b.part (10 ^ k) (value * 10 ^ 7) a.least b.most in
    let down = one_part b.part a.part (10 ^ k) (value * 10 ^ 7) b.least a.most in
    omega (arith, a.sum, b.sum, up, down)
