-- A number's digits, one more at the end.
use Rattle.std.proofs.Common.{◌≡◌, ◌≤◌, ◌<◌, ◌+◌, ◌/◌, ◌%◌, ℕ, List, [], ◌∷◌, ◌++◌, ap, sym, ◌∙◌, arith}
use Rattle.std.specs.Fmt.{decimal}
use Rattle.std.proofs.lemmas.Fmt.{decimal_digit, decimal_step}
use Rattle.std.proofs.lemmas.List.{append_assoc}

pub with_first : (old : List ℕ) (n : ℕ) → n < 10 → old ++ ((48 + n % 10) ∷ []) ≡ old ++ decimal n
with_first old n small =
    let same : n % 10 ≡ n = omega (arith, small) in
    ap (λ k. old ++ ((48 + k) ∷ [])) same ∙ ap (λ ds. old ++ ds) (sym (decimal_digit n small))

with_last : (old : List ℕ) (n : ℕ) → 10 ≤ n → n < 1000000 → (old ++ decimal (n / 10)) ++ ((48 + n % 10) ∷ []) ≡ old ++ decimal n
with_last old n more fits =
    append_assoc old (decimal (n / 10)) ((48 + n % 10) ∷ []) ∙ ap (λ ds. old ++ ds) (sym (decimal_step n more (omega (arith, fits))))

-- all digits but the last were appended, and then the last
pub one_more : (old all new : List ℕ) (n : ℕ) → all ≡ old ++ decimal (n / 10) → new ≡ all ++ ((48 + n % 10) ∷ []) → 10 ≤ n → n < 1000000 → new ≡ old ++ decimal n
one_more old all new n but_one last more fits =
    last ∙ ap (λ (ds : List ℕ). ds ++ ((48 + n % 10) ∷ [])) but_one ∙ with_last old n more fits

-- the digits of a number below 10, 100, 1000
pub one_digit : (n : ℕ) → n < 10 → decimal n ≡ (48 + n % 10) ∷ []
one_digit n small = sym (with_first [] n small)

pub two_digits : (n : ℕ) → 10 ≤ n → n < 100 → decimal n ≡ (48 + n / 10 % 10) ∷ (48 + n % 10) ∷ []
two_digits n more small =
    sym (with_last [] n more (omega (arith, small))) ∙ ap (λ ds. ds ++ ((48 + n % 10) ∷ [])) (one_digit (n / 10) (omega (arith, small)))

pub three_digits : (n : ℕ) → 100 ≤ n → n < 1000 → decimal n ≡ (48 + n / 100 % 10) ∷ (48 + n / 10 % 10) ∷ (48 + n % 10) ∷ []
three_digits n more small =
    let hundreds : n / 10 / 10 ≡ n / 100 = omega arith in
    sym (with_last [] n (omega (arith, more)) (omega (arith, small)))
    ∙ ap (λ ds. ds ++ ((48 + n % 10) ∷ [])) (two_digits (n / 10) (omega (arith, more)) (omega (arith, small)))
    ∙ ap (λ k. (48 + k % 10) ∷ (48 + n / 10 % 10) ∷ (48 + n % 10) ∷ []) hundreds
