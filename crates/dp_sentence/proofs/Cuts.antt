-- A text cut at its first comma.
use Rattle.std.proofs.Common.{inl, inr, ◌≡◌, ℕ, ◌+◌, ◌-◌, ◌<◌, ◌≤◌, List, [], ◌∷◌, Bool, true, false, length, take, drop, refl, ap, sym, ◌∙◌, arith, get_or, ◌++◌, append_assoc, length-append}
use Rattle.std.specs.Borrow.{Bor}
use Rattle.std.specs.Prelude.{◌==◌, count_by, nat_lt, not, map, slice_index_or}
use Rattle.std.proofs.lemmas.Bool.Decides.{nat_tests}
use Rattle.std.proofs.lemmas.Bool.{cases_lt}
use Rattle.std.proofs.lemmas.List.{length-drop, map-append, length-map, take_all, take_at}
use Rattle.std.specs.List.{position_or_len}
use Rattle.std.proofs.lemmas.List.Splits.{slice_split_first, slice_split_none, length-slice_split}
use Rattle.std.proofs.lemmas.List.Sums.{fails_before_first, passes_at_first, prefix_len_passes}
use Rattle.std.proofs.lemmas.Grind.{common_steps}
use Rattle.dp_sentence.specs.Fields.{is_comma, parts}

pub parts-cut : (text : List ℕ) (n : ℕ) → n ≡ position_or_len is_comma text → n < length text → parts text ≡ take n text ∷ parts (drop (n + 1) text)
unfolding parts
parts-cut text n is lt = rw is (slice_split_first is_comma text 0 (rw (← is) lt))

not_true : (b : Bool) → not b ≡ true → b ≡ false
not_true true is = cc
not_true false is = refl

pub parts-whole : (text : List ℕ) (n : ℕ) → n ≡ position_or_len is_comma text → length text ≤ n → parts text ≡ text ∷ []
unfolding parts
parts-whole text n is le =
    slice_split_none is_comma text (λ k d lt. not_true (is_comma (get_or text k d)) (prefix_len_passes (λ x. not (is_comma x)) text k d (omega (arith, is, le, lt))))

pub take-rest : (n : ℕ) (t : List ℕ) → take (length t - n) (drop n t) ≡ drop n t
take-rest n t = grind (arith, common_steps)

pub parts-some : (t : List ℕ) → 0 < length (parts t)
unfolding parts
parts-some t = omega (arith, length-slice_split is_comma t)

-- a body has one part more than commas
pub parts-count : (text : List ℕ) (n : ℕ) → n ≡ count_by is_comma text → length (parts text) ≡ n + 1
unfolding parts
parts-count text n is = omega (arith, length-slice_split is_comma text, is)

-- ---- the first comma

-- a text of more than one part has a comma
pub some-comma : (text : List ℕ) → 1 < length (parts text) → position_or_len is_comma text < length text
some-comma text more =
    elim (cases_lt (position_or_len is_comma text) (length text)) [
      | inl lt ↦ lt
      | inr le ↦ absurd (omega (arith, more, ap length (parts-whole text (position_or_len is_comma text) refl le)))
    ]

is-44 : (b : ℕ) → is_comma b ≡ true → b ≡ 44
is-44 b is = grind (arith, nat_tests)

not-44 : (b : ℕ) → is_comma b ≡ false → b ≡ 44 → ⊥
not-44 b is e = grind (arith, nat_tests)

-- no comma stands here, so the first comes later
pub comma-later : (text : List ℕ) (at : ℕ) → 1 < length (parts text) → at ≤ position_or_len is_comma text → (get_or text at 0 ≡ 44 → ⊥)
    → at + 1 ≤ position_or_len is_comma text
comma-later text at more le other =
    elim (cases_lt at (position_or_len is_comma text)) [
      | inl lt ↦ omega (arith, lt)
      | inr ge ↦
          let same : position_or_len is_comma text ≡ at = omega (arith, le, ge) in
          absurd (other (is-44 (get_or text at 0) (ap (λ k. is_comma (get_or text k 0)) (sym same) ∙ passes_at_first is_comma text 0 (some-comma text more))))
    ]

-- a comma stands here, and none before
pub comma-here : (text : List ℕ) (at : ℕ) → at ≤ position_or_len is_comma text → get_or text at 0 ≡ 44 → at ≡ position_or_len is_comma text
comma-here text at le is =
    elim (cases_lt at (position_or_len is_comma text)) [
      | inl lt ↦ absurd (not-44 (get_or text at 0) (fails_before_first is_comma text at 0 lt) is)
      | inr ge ↦ omega (arith, le, ge)
    ]

-- ---- parts that are kept

-- a text of one part is that part
one-part : (text : List ℕ) → length (parts text) ≡ 1 → parts text ≡ text ∷ []
one-part text one =
    elim (cases_lt (position_or_len is_comma text) (length text)) [
      | inl lt ↦
          absurd (omega (arith, one, ap length (parts-cut text (position_or_len is_comma text) refl lt), parts-some (drop (position_or_len is_comma text + 1) text)))
      | inr le ↦ parts-whole text (position_or_len is_comma text) refl le
    ]

-- one more field
pub kept-more : (b : List (List ℕ)) (xs : List (Bor (List ℕ))) (x : Bor (List ℕ)) (more : List ℕ) (tail : List (List ℕ))
    → b ≡ map (λ f. f.now) xs ++ tail → tail ≡ x.now ∷ parts more
    → b ≡ map (λ f. f.now) (xs ++ x ∷ []) ++ parts more
kept-more b xs x more tail was cut =
    was ∙ rw (cut, map-append (λ (f : Bor (List ℕ)). f.now) xs, append_assoc (map (λ (f : Bor (List ℕ)). f.now) xs))

-- there is no room for more
pub kept-full : (n : ℕ) (b : List (List ℕ)) (xs : List (Bor (List ℕ))) (tail : List (List ℕ))
    → b ≡ map (λ f. f.now) xs ++ tail → length xs ≡ n → map (λ f. f.now) xs ≡ take n b
kept-full n b xs tail was full =
    sym (ap (take n) was ∙ take_at (map (λ (f : Bor (List ℕ)). f.now) xs) tail n (omega (arith, length-map xs (λ (f : Bor (List ℕ)). f.now), full)))

-- the last field
pub kept-all : (n : ℕ) (b : List (List ℕ)) (xs : List (Bor (List ℕ))) (x : Bor (List ℕ))
    → b ≡ map (λ f. f.now) xs ++ parts x.now → length (parts x.now) ≡ 1 → length xs + 1 ≤ n
    → map (λ f. f.now) (xs ++ x ∷ []) ≡ take n b
kept-all n b xs x was one few =
    let all : b ≡ map (λ (f : Bor (List ℕ)). f.now) (xs ++ x ∷ []) =
    was ∙ rw (one-part x.now one, map-append (λ (f : Bor (List ℕ)). f.now) xs) in
    sym (ap (take n) all ∙ take_all n (map (λ (f : Bor (List ℕ)). f.now) (xs ++ x ∷ [])) (omega (arith, length-map (xs ++ x ∷ []) (λ (f : Bor (List ℕ)). f.now), length-append xs (x ∷ []), few)))

-- a body has as many data fields as commas
-- the first of all
pub first-part : (text : List ℕ) → length (parts text) ≡ 1 → text ≡ slice_index_or (parts text) 0 []
first-part text one = rw (one-part text one)

pub fields-many : (b : List (List ℕ)) (n : ℕ) → length b ≡ n + 1 → 24 < n → nat_lt 24 (length (drop 1 b)) ≡ true
fields-many b n is lt =
    let few : 24 < length (drop 1 b) = omega (arith, is, lt, length-drop 1 b) in
    grind (arith, nat_tests)

pub fields-few : (b : List (List ℕ)) (n : ℕ) → length b ≡ n + 1 → n ≤ 24 → nat_lt 24 (length (drop 1 b)) ≡ false
fields-few b n is le =
    let few : length (drop 1 b) ≤ 24 = omega (arith, is, le, length-drop 1 b) in
    grind (arith, nat_tests)

pub full-is : (n m : ℕ) → true ≡ (n == m) → n ≡ m
full-is n m is = grind (arith, nat_tests)

-- where a list isn't full, there is room for one more
pub room-for : (n m k : ℕ) → false ≡ (n == m) → n ≤ m → k ≡ n + 1 → k ≤ m
room-for n m k other le is = let lt : n < m = grind (arith, nat_tests) in omega arith
