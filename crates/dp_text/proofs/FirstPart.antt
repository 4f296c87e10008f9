-- The first part of a text, and the parts after it.
use Rattle.std.proofs.Common.{◌≡◌, ℕ, ◌+◌, ◌<◌, Bool, true, false, not, cond, ltb, List, [], ◌∷◌, ◌++◌, length, take, drop, Some, None, refl, ◌∙◌, ap, arith, append_assoc, length-append, Bor}
use Rattle.std.specs.List.{position_or_len, onto_first}
use Rattle.std.specs.Option.{option_map}
use Rattle.std.proofs.lemmas.List.Splits.{slice_split_first}
use Rattle.std.proofs.lemmas.List.Sums.{prefix_len-le-length}
use Rattle.std.proofs.lemmas.List.{length-drop, length-map, map-append}
use Rattle.std.proofs.lemmas.Bool.Decides.{nat_tests}
use Rattle.dp_text.specs.Parts.{cut_of, is_space, parts_of, texts_of}

-- what a cut at a place that was found, or at none, gives
found : (b : Bool) (at : ℕ) (text before after : List ℕ) → option_map {U = List ℕ × List ℕ} (λ (n : ℕ). (take n text, drop (n + 1) text)) (cond b (Some at) None) ≡ Some (before, after) → (b ≡ true) × (take at text ≡ before) × (drop (at + 1) text ≡ after)
found true at text before after e =
    let parts : List ℕ × List ℕ = (take at text, drop (at + 1) text) in
    let wanted : List ℕ × List ℕ = (before, after) in
    let same : parts ≡ wanted = cc in (refl, ap (λ (q : List ℕ × List ℕ). q.0) same, ap (λ (q : List ℕ × List ℕ). q.1) same)
found false at text before after e = absurd cc

missing : (b : Bool) (at : ℕ) (text : List ℕ) → option_map {U = List ℕ × List ℕ} (λ (n : ℕ). (take n text, drop (n + 1) text)) (cond b (Some at) None) ≡ None → b ≡ false
missing true at text e = absurd cc
missing false at text e = refl

found_in : (text before after : List ℕ) → cut_of text ≡ Some (before, after) → (ltb (position_or_len is_space text) (length text) ≡ true) × (take (position_or_len is_space text) text ≡ before) × (drop (position_or_len is_space text + 1) text ≡ after)
found_in text before after e = found (ltb (position_or_len is_space text) (length text)) (position_or_len is_space text) text before after e

pub cut_some : (text before after : List ℕ) → cut_of text ≡ Some (before, after) → parts_of text ≡ before ∷ parts_of after
cut_some text before after e =
    let f = found_in text before after e in
    let lt : position_or_len is_space text < length text = grind (arith, nat_tests) in
    slice_split_first is_space text 0 lt ∙ rw (f.1, f.2) refl

pub cut_shorter : (text before after : List ℕ) → cut_of text ≡ Some (before, after) → length after < length text
cut_shorter text before after e =
    let f = found_in text before after e in
    let lt : position_or_len is_space text < length text = grind (arith, nat_tests) in
    omega (arith, length-drop (position_or_len is_space text + 1) text, ap length f.2)

one_more : (b : Bool) (n m : ℕ) (parts : List (List ℕ)) (c : ℕ) (cs : List ℕ) → cond (not b) (1 + n) 0 ≡ m + 1 → (n ≡ m → parts ≡ cs ∷ []) → cond b ([] ∷ parts) (onto_first c parts) ≡ (c ∷ cs) ∷ []
one_more true n m parts c cs e h = absurd (omega arith)
one_more false n m parts c cs e h = ap (onto_first c) (h (omega arith))

one_part : (text : List ℕ) → position_or_len is_space text ≡ length text → parts_of text ≡ text ∷ []
one_part [] e = refl
one_part (c ∷ cs) e = one_more (is_space c) (position_or_len is_space cs) (length cs) (parts_of cs) c cs (omega (arith, e)) (one_part cs)

pub cut_none : (text : List ℕ) → cut_of text ≡ None → parts_of text ≡ text ∷ []
cut_none text e =
    let f : ltb (position_or_len is_space text) (length text) ≡ false = missing (ltb (position_or_len is_space text) (length text)) (position_or_len is_space text) text e in
    let le = prefix_len-le-length (λ b. not (is_space b)) text in
    one_part text (grind (arith, nat_tests))

-- a part goes from what is left to what is done
pub part_done : (done now : List (Bor (List ℕ))) (part : Bor (List ℕ)) (left rest all : List (List ℕ)) → now ≡ done ++ part ∷ [] → left ≡ part.now ∷ rest → texts_of done ++ left ≡ all → texts_of now ++ rest ≡ all
part_done done now part left rest all e f g = rw (e, map-append (λ (slice : Bor (List ℕ)). slice.now) done (part ∷ []), append_assoc) (rw f at g)

-- the last part, where there is no room for it
pub too_many : (n : ℕ) (done : List (Bor (List ℕ))) (text : List ℕ) (left all : List (List ℕ)) → left ≡ text ∷ [] → texts_of done ++ left ≡ all → length done ≡ n → n < length all
too_many n done text left all last e full = omega (arith, ap length e, ap length last, length-append (texts_of done) left, length-map done (λ (slice : Bor (List ℕ)). slice.now))

-- the last part, where there is room for it
pub all_done : (done now : List (Bor (List ℕ))) (part : Bor (List ℕ)) (left all : List (List ℕ)) → now ≡ done ++ part ∷ [] → left ≡ part.now ∷ [] → texts_of done ++ left ≡ all → texts_of now ≡ all
all_done done now part left all e f g = rw (e, map-append (λ (slice : Bor (List ℕ)). slice.now) done (part ∷ [])) (rw f at g)
