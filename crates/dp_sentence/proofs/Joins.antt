-- A line by its parts, one after another.
use Rattle.std.proofs.Common.{◌≡◌, ℕ, ◌+◌, ◌-◌, ◌*◌, ◌/◌, ◌%◌, ◌<◌, ◌≤◌, List, [], ◌∷◌, ◌++◌, Bool, true, false, length, take, drop, refl, sym, ◌∙◌, arith, get_or, append-nil, append_assoc, length-append, subst}
use Rattle.std.specs.Char.{is_ascii_hexdigit, digit_value, to_ascii_uppercase}
use Rattle.std.proofs.lemmas.Bool.Decides.{nat_tests}
use Rattle.std.proofs.lemmas.List.{drop_more, drop_all, take-append-drop, take_at, drop_at}
use Rattle.std.proofs.lemmas.Str.Ascii.{uppercase-uppercase}
use Rattle.std.proofs.lemmas.List.Edits.{split_between}
use Rattle.std.proofs.lemmas.List.Splits.{join_with_byte-slice_split}
use Rattle.dp_sentence.specs.Address.{is_standard, talker_of, formatter_of, talker, formatter}
use Rattle.dp_sentence.specs.Checksum.{checksum, has_checksum_field, said}
use Rattle.dp_sentence.specs.Fields.{body, parts, address, fields}
use Rattle.dp_sentence.specs.Sentence.{Starts, HasChecksumField, IsSentence}
use Rattle.dp_sentence.specs.Written.{body_of, StandsInOrder, digit_of, closed, written, IsSameButForCase}
use Rattle.dp_sentence.proofs.Cuts.{parts-some}

-- an address is its talker and its formatter
address-whole : (a : List ℕ) → talker_of a ++ formatter_of a ≡ a
address-whole a = by_test (is_standard a) refl
  where
    by_test : (v : Bool) → is_standard a ≡ v → talker_of a ++ formatter_of a ≡ a
    by_test true is = rw is (take-append-drop 2 a)
    by_test false is = rw is (append-nil a)

first-rest : (xs : List (List ℕ)) → 0 < length xs → get_or xs 0 [] ∷ drop 1 xs ≡ xs
first-rest [] some = absurd (omega arith)
first-rest (x ∷ xs) some = refl

-- a body is its parts, joined by commas
pub body-whole : (line : List ℕ) → body_of (talker line) (formatter line) (fields line) ≡ body line
unfolding talker formatter fields address parts
body-whole line =
    rw (address-whole (get_or (parts (body line)) 0 []), first-rest (parts (body line)) (parts-some (body line))) (join_with_byte-slice_split 44 (body line))

one-first : (line : List ℕ) → Starts line → take 1 line ≡ 36 ∷ []
one-first [] is = cc
one-first (x ∷ xs) is = let e : x ≡ 36 = cc in rw e

-- a line that starts right is `$`, its body and its last three bytes
pub line-whole : (line : List ℕ) → Starts line → 4 ≤ length line → line ≡ 36 ∷ (body line ++ drop (length line - 3) line)
unfolding body
line-whole line starts long =
    split_between line 1 (length line - 3) (omega arith) ∙ rw (one-first line starts)

pub in-order : (line : List ℕ) → Starts line → 4 ≤ length line → StandsInOrder line (talker line) (formatter line) (fields line)
in-order line starts long = rw (body-whole line) (line-whole line starts long)

-- the last three bytes
pub record EndsRight (line : List ℕ) : Type 0 where
  pub long : 4 ≤ length line
  pub star : get_or line (length line - 3) 0 ≡ 42
  pub high : is_ascii_hexdigit (get_or line (length line - 2) 0) ≡ true
  pub low : is_ascii_hexdigit (get_or line (length line - 1) 0) ≡ true

pub ends-right : (line : List ℕ) → HasChecksumField line → EndsRight line
unfolding has_checksum_field
ends-right line is = record {
  long = grind (arith, nat_tests);
  star = grind (arith, nat_tests);
  high = grind (arith, nat_tests);
  low = grind (arith, nat_tests);
}

pub last-three : (line : List ℕ) → 4 ≤ length line
    → drop (length line - 3) line ≡ get_or line (length line - 3) 0 ∷ get_or line (length line - 2) 0 ∷ get_or line (length line - 1) 0 ∷ []
last-three line long =
    let two : length line - 3 + 1 ≡ length line - 2 = omega arith in
    let one : length line - 2 + 1 ≡ length line - 1 = omega arith in
    let third = drop_more line (length line - 3) 0 (omega arith) in
    let second = drop_more line (length line - 2) 0 (omega arith) in
    let last = drop_more line (length line - 1) 0 (omega arith) in
    third ∙ rw (two, second, one, last, drop_all (length line - 1 + 1) line (omega arith))

-- a digit in upper case
digit-upper : (c : ℕ) → is_ascii_hexdigit c ≡ true → digit_of (digit_value c) ≡ to_ascii_uppercase c
digit-upper c is = grind (arith, nat_tests)

digit-small : (c : ℕ) → is_ascii_hexdigit c ≡ true → digit_value c < 16
digit-small c is = grind (arith, nat_tests)

prefix-of : (p : List ℕ) (x y : ℕ) → take (length (p ++ x ∷ y ∷ []) - 2) (p ++ x ∷ y ∷ []) ≡ p
prefix-of p x y = take_at p (x ∷ y ∷ []) (length (p ++ x ∷ y ∷ []) - 2) (omega (arith, length-append p (x ∷ y ∷ [])))

last-of : (p : List ℕ) (x y : ℕ) → drop (length (p ++ x ∷ y ∷ []) - 2) (p ++ x ∷ y ∷ []) ≡ x ∷ y ∷ []
last-of p x y = drop_at p (x ∷ y ∷ []) (length (p ++ x ∷ y ∷ []) - 2) (omega (arith, length-append p (x ∷ y ∷ [])))

same-case : (p : List ℕ) (x y h l : ℕ) → to_ascii_uppercase x ≡ to_ascii_uppercase h → to_ascii_uppercase y ≡ to_ascii_uppercase l
    → IsSameButForCase (p ++ x ∷ y ∷ []) (p ++ h ∷ l ∷ [])
same-case p x y h l high low = record {
  prefix = prefix-of p x y ∙ sym (prefix-of p h l);
  digits = rw (last-of p x y, last-of p h l, high, low);
}

-- a line that ends right, in front of its digits and with them
line-digits : (line : List ℕ) → Starts line → EndsRight line
    → line ≡ (36 ∷ (body line ++ 42 ∷ [])) ++ get_or line (length line - 2) 0 ∷ get_or line (length line - 1) 0 ∷ []
line-digits line starts ends =
    line-whole line starts ends.long ∙ rw (last-three line ends.long, ends.star, append_assoc (body line) (42 ∷ []) (get_or line (length line - 2) 0 ∷ get_or line (length line - 1) 0 ∷ []))

-- the digit that stands for a half of the sum
digit-back : (n c : ℕ) → is_ascii_hexdigit c ≡ true → n ≡ digit_value c → to_ascii_uppercase (digit_of n) ≡ to_ascii_uppercase c
digit-back n c is e = rw (e, digit-upper c is) (uppercase-uppercase c)

written-line : (line : List ℕ) → Starts line → EndsRight line → said line ≡ checksum (body line) → IsSameButForCase (closed (body line)) line
unfolding closed said
written-line line starts ends sum =
    let h = get_or line (length line - 2) 0 in
    let l = get_or line (length line - 1) 0 in
    let is : digit_value h * 16 + digit_value l ≡ checksum (body line) = sum in
    let small : digit_value l < 16 = digit-small l ends.low in
    let p = 36 ∷ (body line ++ 42 ∷ []) in
    let x = digit_of (checksum (body line) / 16) in
    let y = digit_of (checksum (body line) % 16) in
    let same = same-case p x y h l (digit-back (checksum (body line) / 16) h ends.high (omega arith)) (digit-back (checksum (body line) % 16) l ends.low (omega arith)) in
    let joined : p ++ x ∷ y ∷ [] ≡ 36 ∷ (body line ++ 42 ∷ x ∷ y ∷ []) = rw (append_assoc (body line) (42 ∷ []) (x ∷ y ∷ [])) in
    subst (λ text. IsSameButForCase text line) joined (subst (λ whole. IsSameButForCase (p ++ x ∷ y ∷ []) whole) (sym (line-digits line starts ends)) same)

pub written-back : (line : List ℕ) → IsSentence line → IsSameButForCase (written (talker line) (formatter line) (fields line)) line
unfolding written
written-back line s = rw (body-whole line) (written-line line s.start (ends-right line s.checksum_field) s.sum)

-- the parts of a sentence stand in order in its line
pub parts-in-order : (line t f : List ℕ) (g : List (List ℕ)) → t ≡ talker line → f ≡ formatter line → g ≡ fields line → IsSentence line
    → StandsInOrder line t f g
parts-in-order line t f g t_is f_is g_is sentence =
    let whole : StandsInOrder line (talker line) (formatter line) (fields line) =
    in-order line sentence.start (ends-right line sentence.checksum_field).long in
    subst (λ x. StandsInOrder line x f g) (sym t_is)
    (subst (λ y. StandsInOrder line (talker line) y g) (sym f_is)
    (subst (λ z. StandsInOrder line (talker line) (formatter line) z) (sym g_is) whole))
