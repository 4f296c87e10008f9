-- A text of digits, cut at its point, and joined again.
use Rattle.std.proofs.Common.{◌≡◌, ℕ, ◌+◌, ◌<◌, ◌≤◌, inl, inr, Bool, true, false, List, [], ◌∷◌, ◌++◌, length, take, drop, get_or, cond, ◌∙◌, refl, sym, ap, arith, append_assoc, length-append}
use Rattle.std.specs.Prelude.{◌&&◌, not}
use Rattle.std.specs.List.{list_all, position_or_len}
use Rattle.std.specs.Char.{is_ascii_digit}
use Rattle.std.proofs.lemmas.Bool.{cases_lt}
use Rattle.std.proofs.lemmas.Bool.Decides.{nat_tests}
use Rattle.std.proofs.lemmas.List.{drop_all, drop_at, take_all, take_at}
use Rattle.std.proofs.lemmas.List.Sums.{passes_at_first, split_at_first}
use Rattle.dp_text.proofs.JoinedParts.{both}
use Rattle.dp_nav.specs.Decimals.{decimals, is_point, whole}
use Rattle.dp_nav.specs.Named.{IsPointed}

no_point : (c : ℕ) → is_ascii_digit c ≡ true → not (is_point c) ≡ true
no_point c is = grind (arith, nat_tests)

one_more : (b : Bool) (n m : ℕ) → b ≡ true → n ≡ m → cond b (1 + n) 0 ≡ 1 + m
one_more true n m is e = ap (λ k. 1 + k) e
one_more false n m is e = absurd cc

-- the point stands where the digits end
point_at : (digits rest : List ℕ) → list_all is_ascii_digit digits ≡ true → position_or_len is_point rest ≡ 0 → position_or_len is_point (digits ++ rest) ≡ length digits
point_at [] rest all none = none
point_at (c ∷ cs) rest all none =
    let b = both (is_ascii_digit c) (list_all is_ascii_digit cs) all in
    one_more (not (is_point c)) (position_or_len is_point (cs ++ rest)) (length cs) (no_point c b.0) (point_at cs rest b.1 none) ∙ omega arith

pub after_point : (digits more : List ℕ) → drop (length digits + 1) (digits ++ 46 ∷ more) ≡ more
after_point digits more =
    ap (drop (length digits + 1)) (sym (append_assoc digits (46 ∷ []) more))
    ∙ drop_at (digits ++ 46 ∷ []) more (length digits + 1) (length-append digits (46 ∷ []))

with_nothing : (digits : List ℕ) → digits ++ [] ≡ digits
with_nothing [] = refl
with_nothing (c ∷ cs) = ap (λ rest. c ∷ rest) (with_nothing cs)

-- such a text is cut into its digits and its decimals
pub cut_pointed : (text digits more : List ℕ) → list_all is_ascii_digit digits ≡ true → IsPointed text digits more → (whole text ≡ digits) × (decimals text ≡ more)
cut_pointed text digits more all is =
    elim is [
      | inl s ↦
          let at : position_or_len is_point text ≡ length digits =
          ap (position_or_len is_point) (s.0 ∙ sym (with_nothing digits)) ∙ point_at digits [] all refl in (
            ap (λ n. take n text) at ∙ (ap (take (length digits)) s.0 ∙ take_all (length digits) digits (omega arith)),
            ap (λ n. drop (n + 1) text) at ∙ (ap (drop (length digits + 1)) s.0 ∙ (drop_all (length digits + 1) digits (omega arith) ∙ sym s.1)),
          )
      | inr s ↦
          let at : position_or_len is_point text ≡ length digits =
          ap (position_or_len is_point) s ∙ point_at digits (46 ∷ more) all refl in (
            ap (λ n. take n text) at ∙ (ap (take (length digits)) s ∙ take_at digits (46 ∷ more) (length digits) refl),
            ap (λ n. drop (n + 1) text) at ∙ (ap (drop (length digits + 1)) s ∙ after_point digits more),
          )
    ]

is_the_point : (c : ℕ) → is_point c ≡ true → c ≡ 46
is_the_point c is = grind (arith, nat_tests)

-- any text is what stands before its point and after it
pub pointed : (text : List ℕ) → IsPointed text (whole text) (decimals text)
pointed text =
    elim (cases_lt (position_or_len is_point text) (length text)) [
      | inl less ↦
          let point = is_the_point (get_or text (position_or_len is_point text) 0) (passes_at_first is_point text 0 less) in
          inr (split_at_first is_point text 0 less ∙ ap (λ c. whole text ++ c ∷ decimals text) point)
      | inr le ↦ inl (sym (take_all (position_or_len is_point text) text le), drop_all (position_or_len is_point text + 1) text (omega (arith, le)))
    ]
