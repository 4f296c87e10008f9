-- A text cut at its point, where digits come before it.
use Rattle.std.proofs.Common.{◌≡◌, ℕ, ◌+◌, ◌<◌, ◌≤◌, inl, inr, List, [], true, false, length, take, drop, get_or, ap, sym, ◌∙◌, arith}
use Rattle.std.specs.Prelude.{not}
use Rattle.std.specs.Char.{is_ascii_digit}
use Rattle.std.specs.List.{list_all, position_or_len, prefix_len}
use Rattle.std.proofs.lemmas.Bool.{cases_lt}
use Rattle.std.proofs.lemmas.Bool.Decides.{nat_tests}
use Rattle.std.proofs.lemmas.List.{drop_all, get_or-take, length-take, take_all}
use Rattle.std.proofs.lemmas.List.Elements.{All-from_get_or}
use Rattle.std.proofs.lemmas.List.Folds.{list_all_at}
use Rattle.std.proofs.lemmas.List.Sums.{list_all-from_AllPass, prefix_len-le-length, prefix_len_is, prefix_len_passes, prefix_len_stops}
use Rattle.dp_nav.specs.Decimals.{decimals, is_point, whole}

digit_point : (b : ℕ) → is_ascii_digit b ≡ true → not (is_point b) ≡ true
digit_point b is = grind (arith, nat_tests)

point_is : (b : ℕ) → not (is_point b) ≡ false → b ≡ 46
point_is b is = grind (arith, nat_tests)

module _ (text : List ℕ) (n : ℕ) (is : n ≡ prefix_len is_ascii_digit text) where
  digit-before : (k : ℕ) → k < n → is_ascii_digit (get_or text k 0) ≡ true
  digit-before k lt = prefix_len_passes is_ascii_digit text k 0 (omega (arith, is, lt))

  none-before : (k : ℕ) → k < n → not (is_point (get_or text k 0)) ≡ true
  none-before k lt = digit_point (get_or text k 0) (digit-before k lt)

  digits-before : list_all is_ascii_digit (take n text) ≡ true
  digits-before =
      list_all-from_AllPass is_ascii_digit (take n text)
      (All-from_get_or (λ b. is_ascii_digit b ≡ true) (take n text) 0
      (λ k lt. let less : k < n = omega (arith, lt, length-take n text) in ap is_ascii_digit (get_or-take n text k 0 less) ∙ digit-before k less))

  -- nothing follows the digits
  pub all-whole : length text ≤ n → (whole text ≡ text) × (decimals text ≡ []) × (list_all is_ascii_digit (whole text) ≡ true)
  all-whole most =
      let all : n ≡ length text = omega (arith, is, most, prefix_len-le-length is_ascii_digit text) in
      let at : position_or_len is_point text ≡ length text =
      prefix_len_is (λ (b : ℕ). not (is_point b)) text (length text) 0 (omega arith) (λ k lt. none-before k (omega (arith, lt, all))) (λ lt. absurd (omega (arith, lt))) in
      let same : whole text ≡ text = ap (λ (k : ℕ). take k text) at ∙ take_all (length text) text (omega arith) in
      let digits : list_all is_ascii_digit text ≡ true = ap (list_all is_ascii_digit) (sym (take_all n text (omega (arith, all)))) ∙ digits-before in (
        same,
        drop_all (position_or_len is_point text + 1) text (omega (arith, at)),
        ap (list_all is_ascii_digit) same ∙ digits,
      )

  -- a point follows them
  pub point-after : get_or text n 0 ≡ 46 → n < length text → (whole text ≡ take n text) × (decimals text ≡ drop (n + 1) text) × (list_all is_ascii_digit (whole text) ≡ true)
  point-after point lt =
      let at : position_or_len is_point text ≡ n =
      prefix_len_is (λ (b : ℕ). not (is_point b)) text n 0 (omega arith) none-before (λ _. ap (λ (b : ℕ). not (is_point b)) point) in
      let same : whole text ≡ take n text = ap (λ (k : ℕ). take k text) at in
      (same, ap (λ (k : ℕ). drop (k + 1) text) at, ap (list_all is_ascii_digit) same ∙ digits-before)

  -- another byte follows them
  pub other-after : (get_or text n 0 ≡ 46 → ⊥) → n < length text → list_all is_ascii_digit (whole text) ≡ false
  other-after other lt =
      let stops : is_ascii_digit (get_or text n 0) ≡ false = ap (λ (k : ℕ). is_ascii_digit (get_or text k 0)) is ∙ prefix_len_stops is_ascii_digit text 0 (omega (arith, is, lt)) in
      let p = position_or_len is_point text in
      let le = prefix_len-le-length (λ (b : ℕ). not (is_point b)) text in
      elim (cases_lt n p) [
        | inl less ↦ list_all_at is_ascii_digit (take p text) n 0 (omega (arith, less, le, length-take p text)) (ap is_ascii_digit (get_or-take p text n 0 less) ∙ stops)
        | inr more ↦ absurd (found (omega (arith, more)))
      ]
    where
      found : position_or_len is_point text ≤ n → ⊥
      found more =
          let point : not (is_point (get_or text (position_or_len is_point text) 0)) ≡ false = prefix_len_stops (λ (b : ℕ). not (is_point b)) text 0 (omega (arith, more, lt)) in
          elim (cases_lt (position_or_len is_point text) n) [
            | inl less ↦ let none = none-before (position_or_len is_point text) less in absurd cc
            | inr le ↦ let same : position_or_len is_point text ≡ n = omega (arith, more, le) in
                other (point_is (get_or text n 0) (ap (λ (k : ℕ). not (is_point (get_or text k 0))) (sym same) ∙ point))
          ]
