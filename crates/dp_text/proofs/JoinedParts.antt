-- Texts that are joined by spaces, and cut again.
use Rattle.std.proofs.Common.{◌≡◌, ℕ, Bool, true, false, List, [], ◌∷◌, ◌++◌, ◌∙◌, refl, ap, arith}
use Rattle.std.specs.Prelude.{◌&&◌, not}
use Rattle.std.specs.List.{join_with_byte, list_all, onto_first}
use Rattle.std.specs.Char.{is_ascii_digit}
use Rattle.std.proofs.lemmas.Bool.Decides.{nat_tests}
use Rattle.std.proofs.lemmas.List.Splits.{join_with_byte-slice_split, slice_split-cons_no, slice_split-cons_yes}
use Rattle.dp_text.specs.Parts.{is_space, lacks_space, parts_of}
use Rattle.dp_text.specs.Laws.{PartsAreJoined}

-- both of two tests are passed
pub both : (a b : Bool) → (a && b) ≡ true → (a ≡ true) × (b ≡ true)
both true b e = (refl, e)
both false b e = absurd cc

other : (a : Bool) → not a ≡ true → a ≡ false
other true e = absurd cc
other false e = refl

split_none : (xs : List ℕ) → lacks_space xs ≡ true → parts_of xs ≡ xs ∷ []
split_none [] lack = refl
split_none (x ∷ xs) lack =
    let b = both (not (is_space x)) (lacks_space xs) lack in
    slice_split-cons_no is_space x xs (other (is_space x) b.0) ∙ ap (onto_first x) (split_none xs b.1)

split_at : (xs ys : List ℕ) → lacks_space xs ≡ true → parts_of (xs ++ 32 ∷ ys) ≡ xs ∷ parts_of ys
split_at [] ys lack = slice_split-cons_yes is_space 32 ys refl
split_at (x ∷ xs) ys lack =
    let b = both (not (is_space x)) (lacks_space xs) lack in
    slice_split-cons_no is_space x (xs ++ 32 ∷ ys) (other (is_space x) b.0) ∙ ap (onto_first x) (split_at xs ys b.1)

parts : (first : List ℕ) (more : List (List ℕ)) → list_all lacks_space (first ∷ more) ≡ true → parts_of (join_with_byte 32 (first ∷ more)) ≡ first ∷ more
parts first [] lack = split_none first (both (lacks_space first) true lack).0
parts first (next ∷ more) lack =
    let b = both (lacks_space first) (list_all lacks_space (next ∷ more)) lack in
    split_at first (join_with_byte 32 (next ∷ more)) b.0 ∙ ap (λ rest. first ∷ rest) (parts next more b.1)

no_space : (c : ℕ) → is_ascii_digit c ≡ true → not (is_space c) ≡ true
no_space c is = grind (arith, nat_tests)

pub digits_lack : (digits : List ℕ) → list_all is_ascii_digit digits ≡ true → lacks_space digits ≡ true
digits_lack [] all = refl
digits_lack (c ∷ cs) all =
    let b = both (is_ascii_digit c) (list_all is_ascii_digit cs) all in
    rw (no_space c b.0) (digits_lack cs b.1)

pub parts_are_joined : PartsAreJoined
parts_are_joined = record { joined = join_with_byte-slice_split 32; parts = parts }
