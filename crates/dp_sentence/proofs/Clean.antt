-- A line with `$` in front and a checksum field behind has no bad byte where its body has none.
use Rattle.std.proofs.Common.{◌≡◌, ℕ, ◌-◌, ◌++◌, List, [], ◌∷◌, Bool, true, false, length, drop, get_or, refl, sym, ap, ◌∙◌, None, arith}
use Rattle.std.specs.Prelude.{◌||◌, position}
use Rattle.std.specs.Char.{is_ascii_hexdigit}
use Rattle.std.specs.List.{list_any}
use Rattle.std.proofs.lemmas.Bool.Decides.{nat_tests}
use Rattle.std.proofs.lemmas.List.Folds.{list_any-append}
use Rattle.dp_sentence.specs.Checksum.{has_checksum_field}
use Rattle.dp_sentence.specs.Damage.{is_bad, starts}
use Rattle.dp_sentence.specs.Fields.{body}
use Rattle.dp_sentence.proofs.Joins.{EndsRight, ends-right, last-three, line-whole}
use Rattle.dp_sentence.proofs.Judging.{none-bad, start-is}

digit-good : (c : ℕ) → is_ascii_hexdigit c ≡ true → is_bad c ≡ false
digit-good c is = grind (arith, nat_tests)

three-good : (a b c : ℕ) → a ≡ 42 → is_bad b ≡ false → is_bad c ≡ false → list_any is_bad (a ∷ b ∷ c ∷ []) ≡ false
three-good a b c star high low = rw (star, high, low)

end-good : (line : List ℕ) → EndsRight line → list_any is_bad (drop (length line - 3) line) ≡ false
end-good line ends =
    ap (list_any is_bad) (last-three line ends.long)
    ∙ three-good (get_or line (length line - 3) 0) (get_or line (length line - 2) 0) (get_or line (length line - 1) 0) ends.star (digit-good (get_or line (length line - 2) 0) ends.high) (digit-good (get_or line (length line - 1) 0) ends.low)

both-good : (a b : Bool) → a ≡ false → b ≡ false → (a || b) ≡ false
both-good a b first second = rw (first, second)

pub body-good : (line : List ℕ) → starts line ≡ true → has_checksum_field line ≡ true → list_any is_bad (body line) ≡ false → position is_bad line ≡ None
body-good line start field good =
    let ends = ends-right line field in
    let rest = drop (length line - 3) line in
    let whole : line ≡ 36 ∷ (body line ++ rest) = line-whole line (start-is line start) ends.long in
    let none : list_any is_bad (body line ++ rest) ≡ false =
    list_any-append is_bad (body line) rest ∙ both-good (list_any is_bad (body line)) (list_any is_bad rest) good (end-good line ends) in
    none-bad line (ap (list_any is_bad) whole ∙ none)
