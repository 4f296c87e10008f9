-- An angle's digits and decimals, where the place of its point is known.
use Rattle.std.proofs.Common.{◌≡◌, ℕ, zero, suc, ◌+◌, ◌-◌, ◌*◌, ◌^◌, ◌<◌, ◌≤◌, inl, inr, Bool, true, false, List, [], ◌∷◌, ◌++◌, length, take, drop, get_or, Option, Some, None, ◌∙◌, refl, sym, ap, subst, arith, length-append}
use Rattle.std.specs.Prelude.{◌&&◌, ◌==◌, nat_le, nat_lt, if◌then◌else◌, unwrap_or, MatchOption, IfSome}
use Rattle.std.specs.List.{list_all}
use Rattle.std.specs.Char.{is_ascii_digit}
use Rattle.std.proofs.lemmas.Bool.Decides.{nat_tests}
use Rattle.std.proofs.lemmas.List.{drop_all, drop_at, drop_more, get_or_at, length-drop, length-take-le, take-append-drop, take_all, take_at, take_rest}
use Rattle.std.proofs.lemmas.List.Folds.{list_all-append}
use Rattle.dp_text.specs.Numbers.{decimal_of, digits_after}
use Rattle.dp_nav.specs.Decimals.{decimals, is_decimal, is_sound, kept, number, whole}
use Rattle.dp_nav.specs.declared.angles.AngleParts.{AngleParts}
use Rattle.dp_nav.proofs.DigitBounds.{number-bound}
use Rattle.dp_nav.proofs.PointedTexts.{after_point, cut_pointed, pointed}

same : (a b : ℕ) → a ≡ b → (a == b) ≡ true
same a b is = grind (arith, nat_tests)

less : (a b : ℕ) → a < b → nat_lt a b ≡ true
less a b is = grind (arith, nat_tests)

tests : (s a b n e : Bool) → s ≡ true → a ≡ true → b ≡ true → n ≡ true → e ≡ true → ((s && (a && (b && n))) && e) ≡ true
tests s a b n e is_s is_a is_b is_n is_e = rw (is_s, is_a, is_b, is_n, is_e)

pub some-length : (n : ℕ) → (n == 0) ≡ false → 0 < n
some-length n is = grind (arith, nat_tests)

other : (a b : ℕ) → (a ≡ b → ⊥) → (a == b) ≡ false
other a b is = by_test (a == b) refl
  where
    by_test : (v : Bool) → (a == b) ≡ v → (a == b) ≡ false
    by_test true e = let i : a ≡ b = grind (arith, nat_tests) in absurd (is i)
    by_test false e = e

-- ---- what stands before the point and behind it

whole-front : (text : List ℕ) (n : ℕ) → length (whole text) ≡ n → whole text ≡ take n text
whole-front text n is =
    elim (pointed text) [
      | inl s ↦ sym (ap (take n) s.0 ∙ take_all n (whole text) (omega (arith, is)))
      | inr s ↦ sym (ap (take n) s ∙ take_at (whole text) (46 ∷ decimals text) n is)
    ]

decimals-back : (text : List ℕ) (n : ℕ) → length (whole text) ≡ n → decimals text ≡ drop (n + 1) text
decimals-back text n is =
    elim (pointed text) [
      | inl s ↦ s.1 ∙ sym (drop_all (n + 1) text (omega (arith, is, ap length s.0)))
      | inr s ↦ sym (ap (drop (n + 1)) s ∙ (ap (λ k. drop (k + 1) (whole text ++ 46 ∷ decimals text)) (sym is) ∙ after_point (whole text) (decimals text)))
    ]

whole-short : (text : List ℕ) → length (whole text) ≤ length text
whole-short text =
    elim (pointed text) [
      | inl s ↦ omega (arith, ap length s.0)
      | inr s ↦ omega (arith, ap length s, length-append (whole text) (46 ∷ decimals text))
    ]

-- the text ends there
pub ends-there : (text : List ℕ) (n : ℕ) → length text ≡ n
    → (n ≤ length text) × (length (whole text) ≡ n → (whole text ≡ take n text) × (decimals text ≡ [])) × (list_all is_ascii_digit (take n text) ≡ true → length (whole text) ≡ n)
ends-there text n is = (
  omega (arith, is),
  λ e. (whole-front text n e, decimals-back text n e ∙ drop_all (n + 1) text (omega (arith, is))),
  λ all.
      let full : take n text ≡ text = take_all n text (omega (arith, is)) in
      let c = cut_pointed text text [] (ap (list_all is_ascii_digit) (sym full) ∙ all) (inl (refl, refl)) in
      ap length c.0 ∙ is,
)

-- the text ends before
pub ends-before : (text : List ℕ) (n : ℕ) → length text < n → (length (whole text) == n) ≡ false
ends-before text n lt = other (length (whole text)) n (λ e. omega (arith, e, lt, whole-short text))

-- a point stands there
pub point-there : (text : List ℕ) (n : ℕ) → n < length text → get_or text n 0 ≡ 46
    → (n ≤ length text) × (length (whole text) ≡ n → (whole text ≡ take n text) × (decimals text ≡ drop (n + 1) text)) × (list_all is_ascii_digit (take n text) ≡ true → length (whole text) ≡ n)
point-there text n lt point = (
  omega (arith, lt),
  λ e. (whole-front text n e, decimals-back text n e),
  λ all.
      let joined : text ≡ take n text ++ 46 ∷ drop (n + 1) text =
      sym (take-append-drop n text) ∙ ap (λ t. take n text ++ t) (drop_more text n 0 lt ∙ ap (λ b. b ∷ drop (n + 1) text) point) in
      let c = cut_pointed text (take n text) (drop (n + 1) text) all (inr joined) in
      ap length c.0 ∙ length-take-le n text (omega (arith, lt)),
)

-- another byte stands there
pub other-there : (text : List ℕ) (n : ℕ) → n < length text → (get_or text n 0 ≡ 46 → ⊥) → (length (whole text) == n) ≡ false
other-there text n lt not = other (length (whole text)) n (λ e. found e)
  where
    found : length (whole text) ≡ n → ⊥
    found e =
        elim (pointed text) [
          | inl s ↦ omega (arith, ap length s.0, e, lt)
          | inr s ↦ not (ap (λ t. get_or t n 0) s ∙ get_or_at (whole text) 46 (decimals text) 0 n e)
        ]

-- ---- plain numbers

all-digits : (n : ℕ) (xs : List ℕ) (m : ℕ) → digits_after n xs ≡ Some m → list_all is_ascii_digit xs ≡ true
all-digits n [] m is = refl
all-digits n (c ∷ cs) m is = by_test (is_ascii_digit c) refl is (all-digits (n * 10 + (c - 48)) cs m)
  where
    by_test : (b : Bool) → is_ascii_digit c ≡ b → (if b then digits_after (n * 10 + (c - 48)) cs else None) ≡ Some m
        → (digits_after (n * 10 + (c - 48)) cs ≡ Some m → list_all is_ascii_digit cs ≡ true) → (is_ascii_digit c && list_all is_ascii_digit cs) ≡ true
    by_test true e is more = rw (e, more is)
    by_test false e is more = absurd cc

some-other : (n : ℕ) (xs : List ℕ) → digits_after n xs ≡ None → list_all is_ascii_digit xs ≡ false
some-other n [] is = absurd cc
some-other n (c ∷ cs) is = by_test (is_ascii_digit c) refl is (some-other (n * 10 + (c - 48)) cs)
  where
    by_test : (b : Bool) → is_ascii_digit c ≡ b → (if b then digits_after (n * 10 + (c - 48)) cs else None) ≡ None
        → (digits_after (n * 10 + (c - 48)) cs ≡ None → list_all is_ascii_digit cs ≡ false) → (is_ascii_digit c && list_all is_ascii_digit cs) ≡ false
    by_test true e is more = rw (e, more is)
    by_test false e is more = rw e

some-tests : (n : ℕ) → 0 < n → n ≤ 18 → (nat_lt 0 n && nat_le n 18) ≡ true
some-tests n some few = grind (arith, nat_tests)

plain-is : (xs : List ℕ) → 0 < length xs → length xs ≤ 18 → decimal_of 18 xs ≡ digits_after 0 xs
plain-is xs some few = rw (some-tests (length xs) some few)

pub plain-value : (xs : List ℕ) (o : Option ℕ) → 0 < length xs → length xs ≤ 18 → o ≡ decimal_of 18 xs
    → MatchOption o (list_all is_ascii_digit xs ≡ false) (λ n. (list_all is_ascii_digit xs ≡ true) × (n ≡ number xs))
plain-value xs None some few is = some-other 0 xs (sym (is ∙ plain-is xs some few))
plain-value xs (Some m) some few is =
    (all-digits 0 xs m (sym (is ∙ plain-is xs some few)), ap (λ o. unwrap_or o 0) is)

pub plain-bound : (xs : List ℕ) (o : Option ℕ) → o ≡ decimal_of 18 xs → IfSome o (λ n. n < 10 ^ length xs)
plain-bound xs None is = tt
plain-bound xs (Some m) is = subst (λ n. n < 10 ^ length xs) (sym (ap (λ o. unwrap_or o 0) is)) (number-bound xs)

-- ---- decimals in two parts, the first seven and the rest

rest-of : (xs : List ℕ) → drop (length (take 7 xs)) xs ≡ drop 7 xs
rest-of xs = ap (drop (length (take 7 xs))) (sym (take-append-drop 7 xs)) ∙ drop_at (take 7 xs) (drop 7 xs) (length (take 7 xs)) refl

in-two : (xs : List ℕ) → list_all is_ascii_digit xs ≡ (list_all is_ascii_digit (take 7 xs) && list_all is_ascii_digit (drop 7 xs))
in-two xs = ap (list_all is_ascii_digit) (sym (take-append-drop 7 xs)) ∙ list_all-append is_ascii_digit (take 7 xs) (drop 7 xs)

pub first-bad : (xs f : List ℕ) → f ≡ take 7 xs → list_all is_ascii_digit f ≡ false → list_all is_ascii_digit xs ≡ false
first-bad xs f is bad = in-two xs ∙ rw (sym (ap (list_all is_ascii_digit) is) ∙ bad)

rest-same : (xs f : List ℕ) → f ≡ take 7 xs → drop (length f) xs ≡ drop 7 xs
rest-same xs f is = ap (λ t. drop (length t) xs) is ∙ rest-of xs

both-false : (a b : Bool) → b ≡ false → (a && b) ≡ false
both-false true b is = is
both-false false b is = refl

pub rest-bad : (xs f : List ℕ) → f ≡ take 7 xs → false ≡ list_all is_ascii_digit (take (length xs - length f) (drop (length f) xs)) → list_all is_ascii_digit xs ≡ false
rest-bad xs f is bad =
    let b : list_all is_ascii_digit (drop 7 xs) ≡ false =
    sym (bad ∙ ap (list_all is_ascii_digit) (take_rest xs (length f) ∙ rest-same xs f is)) in
    in-two xs ∙ both-false (list_all is_ascii_digit (take 7 xs)) (list_all is_ascii_digit (drop 7 xs)) b

pub kept-is : (xs f : List ℕ) → f ≡ take 7 xs → true ≡ list_all is_ascii_digit (take (length xs - length f) (drop (length f) xs)) → (o : Option ℕ)
    → MatchOption o (list_all is_ascii_digit f ≡ false) (λ n. (list_all is_ascii_digit f ≡ true) × (n ≡ number f * 10 ^ (7 - length f)))
    → MatchOption o (list_all is_ascii_digit xs ≡ false) (λ n. (list_all is_ascii_digit xs ≡ true) × (n ≡ kept 7 xs))
unfolding kept
kept-is xs f is good None bad = first-bad xs f is bad
kept-is xs f is good (Some n) e =
    let b : list_all is_ascii_digit (drop 7 xs) ≡ true =
    sym (good ∙ ap (list_all is_ascii_digit) (take_rest xs (length f) ∙ rest-same xs f is)) in
    let a : list_all is_ascii_digit (take 7 xs) ≡ true = sym (ap (list_all is_ascii_digit) is) ∙ e.0 in
    (in-two xs ∙ rw (a, b), e.1 ∙ ap (λ t. number t * 10 ^ (7 - length t)) is)

-- ---- an angle in three parts

pub record Parted (text : List ℕ) (d : ℕ) (degrees minutes rest : List ℕ) : Type 0 where
  pub cut : length (whole text) ≡ d + 2 → (whole text ≡ degrees ++ minutes) × (decimals text ≡ rest)
  pub digits : list_all is_ascii_digit (degrees ++ minutes) ≡ true → length (whole text) ≡ d + 2
  pub first : length degrees ≡ d
  pub second : length minutes ≡ 2

nothing : (m : ℕ) → take {A = ℕ} m [] ≡ []
nothing zero = refl
nothing (suc m) = refl

none-more : (m : ℕ) → 0 + m ≡ m
none-more m = omega arith

one-more : (d m : ℕ) → suc d + m ≡ suc (d + m)
one-more d m = omega arith

take-two : (d m : ℕ) (xs : List ℕ) → take (d + m) xs ≡ take d xs ++ take m (drop d xs)
take-two zero m xs = ap (λ k. take k xs) (none-more m)
take-two (suc d) m [] = ap (λ k. take {A = ℕ} k []) (one-more d m) ∙ sym (nothing m)
take-two (suc d) m (x ∷ xs) = ap (λ k. take k (x ∷ xs)) (one-more d m) ∙ ap (λ t. x ∷ t) (take-two d m xs)

pub parted : (text : List ℕ) (d m : ℕ) (rest : List ℕ) → m ≡ 2
    → (d + 2 ≤ length text) × (length (whole text) ≡ d + 2 → (whole text ≡ take (d + 2) text) × (decimals text ≡ rest)) × (list_all is_ascii_digit (take (d + 2) text) ≡ true → length (whole text) ≡ d + 2)
    → Parted text d (take d text) (take m (drop d text)) rest
parted text d m rest two behind =
    let joined : take (d + 2) text ≡ take d text ++ take m (drop d text) = take-two d 2 text ∙ ap (λ k. take d text ++ take k (drop d text)) (sym two) in
    record {
      cut = λ e. ((behind.1 e).0 ∙ joined, (behind.1 e).1);
      digits = λ all. behind.2 (ap (list_all is_ascii_digit) joined ∙ all);
      first = length-take-le d text (omega (arith, behind.0));
      second = length-take-le m (drop d text) (omega (arith, behind.0, two, length-drop d text)) ∙ two;
    }

pub no-form-length : (text : List ℕ) (d : ℕ) → (length (whole text) == d + 2) ≡ false → (is_decimal text && length (whole text) == d + 2) ≡ false
no-form-length text d is = by_test (is_decimal text)
  where
    by_test : (v : Bool) → (v && length (whole text) == d + 2) ≡ false
    by_test true = is
    by_test false = refl

-- where it isn't as long the form fails, and where it is as long the digits tell
by-length : (text : List ℕ) (d : ℕ) → (length (whole text) ≡ d + 2 → is_decimal text ≡ false) → (is_decimal text && length (whole text) == d + 2) ≡ false
by-length text d fails = by_test (length (whole text) == d + 2) refl
  where
    by_test : (v : Bool) → (length (whole text) == d + 2) ≡ v → (is_decimal text && length (whole text) == d + 2) ≡ false
    by_test true e =
        let i : length (whole text) ≡ d + 2 = grind (arith, nat_tests) in
        rw (fails i)
    by_test false e = no-form-length text d e

bools : (x a b n r : Bool) → (a && (b && (n && r))) ≡ false → (x && ((a && b) && (r && n))) ≡ false
bools false a b n r is = refl
bools true false b n r is = refl
bools true true false n r is = refl
bools true true true n false is = refl
bools true true true false true is = refl
bools true true true true true is = absurd cc

four : (a b n r : Bool) → (a && (b && (n && r))) ≡ true → (a ≡ true) × (b ≡ true) × (n ≡ true) × (r ≡ true)
four true true true true e = (refl, refl, refl, refl)
four true true true false e = absurd cc
four true true false r e = absurd cc
four true false n r e = absurd cc
four false b n r e = absurd cc

count-of : (n m : ℕ) → n ≡ m → nat_le n 20 ≡ nat_le m 20
count-of n m is = ap (λ k. nat_le k 20) is

-- the digits of the three parts are sound, and few
abbrev all-sound : List ℕ → List ℕ → List ℕ → Bool
all-sound degrees minutes rest =
    list_all is_ascii_digit degrees && (list_all is_ascii_digit minutes && (nat_le (length degrees + length minutes + length rest) 20 && list_all is_ascii_digit rest))

module _ (text : List ℕ) (d : ℕ) (degrees minutes rest : List ℕ) (p : Parted text d degrees minutes rest) where
  digits-count : length (whole text) ≡ d + 2 → length (whole text) + length (decimals text) ≡ length degrees + length minutes + length rest
  digits-count e = omega (arith, e, p.first, p.second, ap length (p.cut e).1)

  no-form : all-sound degrees minutes rest ≡ false → (is_decimal text && length (whole text) == d + 2) ≡ false
  unfolding is_decimal
  no-form is =
      by-length text d (λ e.
      let w : list_all is_ascii_digit (whole text) ≡ (list_all is_ascii_digit degrees && list_all is_ascii_digit minutes) =
      ap (list_all is_ascii_digit) (p.cut e).0 ∙ list_all-append is_ascii_digit degrees minutes in
      let r : list_all is_ascii_digit (decimals text) ≡ list_all is_ascii_digit rest = ap (list_all is_ascii_digit) (p.cut e).1 in
      let n = count-of (length (whole text) + length (decimals text)) (length degrees + length minutes + length rest) (digits-count e) in
      rw (w, r, n)
      (bools (nat_lt 0 (length (whole text))) (list_all is_ascii_digit degrees) (list_all is_ascii_digit minutes) (nat_le (length degrees + length minutes + length rest) 20) (list_all is_ascii_digit rest) is))

  form-is : all-sound degrees minutes rest ≡ true → ((is_decimal text && length (whole text) == d + 2) ≡ true) × (number degrees ≡ number (take d (whole text))) × (number minutes ≡ number (drop d (whole text))) × (kept 7 rest ≡ kept 7 (decimals text))
  unfolding is_decimal
  form-is is =
      let f = four (list_all is_ascii_digit degrees) (list_all is_ascii_digit minutes) (nat_le (length degrees + length minutes + length rest) 20) (list_all is_ascii_digit rest) is in
      let all : list_all is_ascii_digit (degrees ++ minutes) ≡ true = list_all-append is_ascii_digit degrees minutes ∙ rw (f.0, f.1) in
      let count : length (whole text) ≡ d + 2 = p.digits all in
      let c = p.cut count in
      let n = count-of (length (whole text) + length (decimals text)) (length degrees + length minutes + length rest) (digits-count count) ∙ f.2 in
      let some : 0 < length (whole text) = omega (arith, count) in (
        tests (nat_lt 0 (length (whole text))) (list_all is_ascii_digit (whole text)) (list_all is_ascii_digit (decimals text)) (nat_le (length (whole text) + length (decimals text)) 20) (length (whole text) == d + 2)
            (less 0 (length (whole text)) some) (ap (list_all is_ascii_digit) c.0 ∙ all) (ap (list_all is_ascii_digit) c.1 ∙ f.3) n (same (length (whole text)) (d + 2) count),
        sym (ap (λ t. number (take d t)) c.0 ∙ ap number (take_at degrees minutes d p.first)),
        sym (ap (λ t. number (drop d t)) c.0 ∙ ap number (drop_at degrees minutes d p.first)),
        sym (ap (kept 7) c.1),
      )

  pub parts-is : (o : Option AngleParts)
      → MatchOption o (all-sound degrees minutes rest ≡ false) (λ a. (all-sound degrees minutes rest ≡ true) × (a.degrees ≡ number degrees) × (a.minutes ≡ number minutes) × (a.rest ≡ kept 7 rest))
      → MatchOption o ((is_decimal text && length (whole text) == d + 2) ≡ false)
      (λ a. ((is_decimal text && length (whole text) == d + 2) ≡ true) × (a.degrees ≡ number (take d (whole text))) × (a.minutes ≡ number (drop d (whole text))) × (a.rest ≡ kept 7 (decimals text)))
  parts-is None is = no-form is
  parts-is (Some a) is =
      let f = form-is is.0 in
      (f.0, is.1 ∙ f.1, is.2 ∙ f.2, is.3 ∙ f.3)
