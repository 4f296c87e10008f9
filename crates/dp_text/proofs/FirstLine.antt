-- The first line of a text.
use Rattle.std.proofs.Common.{◌≡◌, ℕ, ◌+◌, ◌-◌, ◌<◌, ◌≤◌, ◌==◌, ◌||◌, Bool, true, false, not, cond, ltb, List, [], ◌∷◌, length, take, drop, Some, None, refl, sym, ◌∙◌, ap, arith}
use Rattle.std.specs.List.{slice_split, position, position_or_len, onto_first}
use Rattle.std.proofs.lemmas.List.Splits.{slice_split_first, length-slice_split}
use Rattle.std.proofs.lemmas.List.Sums.{prefix_len-le-length}
use Rattle.std.proofs.lemmas.List.{take_all, length-drop}
use Rattle.std.proofs.lemmas.Bool.Decides.{nat_tests}
use Rattle.dp_text.specs.Lines.{is_newline, stripped, lines_of_pieces, lines_of}

-- a part that isn't the last is a line
more_parts : (goes_on : Bool) (x : List ℕ) (parts : List (List ℕ)) → 0 < length parts → lines_of_pieces goes_on (x ∷ parts) ≡ stripped x ∷ lines_of_pieces goes_on parts
more_parts goes_on x [] some = absurd (omega arith)
more_parts goes_on x (y ∷ more) some = refl

found : (b : Bool) (pol at : ℕ) → cond b (Some pol) None ≡ Some at → (b ≡ true) × (pol ≡ at)
found true pol at e = (refl, cc)
found false pol at e = absurd cc

missing : (b : Bool) (pol : ℕ) → cond b (Some pol) None ≡ None → b ≡ false
missing true pol e = absurd cc
missing false pol e = refl

pub line_at : (goes_on : Bool) (text : List ℕ) (at : ℕ) → position is_newline text ≡ Some at → lines_of goes_on text ≡ stripped (take at text) ∷ lines_of goes_on (drop (at + 1) text)
line_at goes_on text at e =
    let f = found (ltb (position_or_len is_newline text) (length text)) (position_or_len is_newline text) at e in
    let lt : position_or_len is_newline text < length text = grind (arith, nat_tests) in
    ap (lines_of_pieces goes_on) (slice_split_first is_newline text 0 lt)
    ∙ more_parts goes_on (take (position_or_len is_newline text) text) (slice_split is_newline (drop (position_or_len is_newline text + 1) text)) (omega (arith, length-slice_split is_newline (drop (position_or_len is_newline text + 1) text)))
    ∙ ap (λ (n : ℕ). stripped (take n text) ∷ lines_of goes_on (drop (n + 1) text)) f.1

one_more : (b : Bool) (n m : ℕ) (parts : List (List ℕ)) (c : ℕ) (cs : List ℕ) → cond (not b) (1 + n) 0 ≡ m + 1 → (n ≡ m → parts ≡ cs ∷ []) → cond b ([] ∷ parts) (onto_first c parts) ≡ (c ∷ cs) ∷ []
one_more true n m parts c cs e h = absurd (omega arith)
one_more false n m parts c cs e h = ap (onto_first c) (h (omega arith))

one_part : (text : List ℕ) → position_or_len is_newline text ≡ length text → slice_split is_newline text ≡ text ∷ []
one_part [] e = refl
one_part (c ∷ cs) e = one_more (is_newline c) (position_or_len is_newline cs) (length cs) (slice_split is_newline cs) c cs (omega (arith, e)) (one_part cs)

pol_le : (text : List ℕ) → position_or_len is_newline text ≤ length text
pol_le text = prefix_len-le-length (λ b. not (is_newline b)) text

-- without a newline the text is one line, or none
pub line_last : (goes_on : Bool) (text : List ℕ) → position is_newline text ≡ None → lines_of goes_on text ≡ cond (goes_on || (length text == 0)) [] (text ∷ [])
line_last goes_on text e =
    let f : ltb (position_or_len is_newline text) (length text) ≡ false = missing (ltb (position_or_len is_newline text) (length text)) (position_or_len is_newline text) e in
    let le = pol_le text in
    let all : position_or_len is_newline text ≡ length text = grind (arith, nat_tests) in
    ap (lines_of_pieces goes_on) (one_part text all)

pub next_found : (goes_on : Bool) (text line : List ℕ) (at : ℕ) → Some at ≡ position is_newline text → line ≡ stripped (take at text)
    → lines_of goes_on text ≡ line ∷ lines_of goes_on (take (length text - (at + 1)) (drop (at + 1) text))
next_found goes_on text line at e is =
    let rest : take (length text - (at + 1)) (drop (at + 1) text) ≡ drop (at + 1) text = take_all _ _ (omega (arith, length-drop (at + 1) text)) in
    rw (rest, is) (line_at goes_on text at (sym e))

pub next_last : (goes_on : Bool) (text : List ℕ) → None ≡ position is_newline text → goes_on ≡ false → (length text == 0) ≡ false
    → lines_of goes_on text ≡ text ∷ cond (goes_on || true) [] ([] ∷ [])
next_last true text e cut some = absurd cc
next_last false text e cut some = line_last false text (sym e) ∙ ap (λ (b : Bool). cond b [] (text ∷ [])) some

pub next_none : (goes_on : Bool) (text : List ℕ) → None ≡ position is_newline text → (goes_on || (length text == 0)) ≡ true → lines_of goes_on text ≡ []
next_none goes_on text e none = line_last goes_on text (sym e) ∙ ap (λ (b : Bool). cond b [] (text ∷ [])) none

pub or_left : (a b : Bool) → a ≡ true → (a || b) ≡ true
or_left true b e = refl
or_left false b e = absurd cc

pub or_right : (a b : Bool) → b ≡ true → (a || b) ≡ true
or_right true b e = refl
or_right false b e = e
