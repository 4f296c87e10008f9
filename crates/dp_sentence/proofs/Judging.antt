-- The conditions of a sentence and the damages of a line, by the outcome of each check.
use Rattle.std.proofs.Common.{◌≡◌, ℕ, ◌<◌, ◌≤◌, List, [], ◌∷◌, Bool, true, false, length, refl, arith, eq-eqb, get_or, Option, Some, None, Result, Ok, Err, sym, ◌∙◌, subst}
use Rattle.std.specs.Prelude.{◌↔◌, ◌==◌, nat_lt, position, IsOk}
use Rattle.std.specs.List.{list_any, position_or_len}
use Rattle.std.specs.Result.{result_err}
use Rattle.std.proofs.lemmas.Bool.Decides.{nat_tests, Decides-eqb}
use Rattle.std.proofs.lemmas.List.Folds.{list_any_at}
use Rattle.std.proofs.lemmas.List.Sums.{fails_before_first, passes_at_first}
use Rattle.std.proofs.lemmas.List.Elements.{All-from_get_or, All-get_or}
use Rattle.dp_sentence.specs.Checksum.{checksum, has_checksum_field, said}
use Rattle.dp_sentence.specs.Fields.{body, fields}
use Rattle.dp_sentence.specs.Sentence.{IsPrintable, IsShort, Starts, IsAllPrintable, IsSentence}
use Rattle.dp_sentence.specs.Damage.{is_bad, starts, damage, damage_but_fields, IsDamagedBy}
use Rattle.dp_sentence.specs.declared.Damage.{Damage}
use Rattle.dp_sentence.specs.declared.Damage.TheVariants.{TooLong, NoStart, BadByte, NoSum, BadSum, TooManyFields}

pub start-is : (line : List ℕ) → starts line ≡ true → Starts line
start-is [] is = cc
start-is (x ∷ xs) is = let e : x ≡ 36 = grind (arith, nat_tests) in rw e

start-has : (line : List ℕ) → Starts line → starts line ≡ true
start-has [] is = cc
start-has (x ∷ xs) is = let e : x ≡ 36 = cc in grind (arith, nat_tests)

good-is : (b : ℕ) → is_bad b ≡ false → IsPrintable b
good-is b is = (grind (arith, nat_tests), grind (arith, nat_tests))

bad-not : (b : ℕ) → is_bad b ≡ true → IsPrintable b → ⊥
bad-not b is printable = grind (arith, nat_tests)

printable-is : (line : List ℕ) → position is_bad line ≡ None → IsAllPrintable line
printable-is line none = by_test (nat_lt (position_or_len is_bad line) (length line)) refl
  where
    by_test : (v : Bool) → nat_lt (position_or_len is_bad line) (length line) ≡ v → IsAllPrintable line
    by_test true is = let e : Some (position_or_len is_bad line) ≡ None = rw is at none in cc
    by_test false is =
        let le : length line ≤ position_or_len is_bad line = grind (arith, nat_tests) in
        All-from_get_or IsPrintable line 0 (λ k lt. good-is (get_or line k 0) (fails_before_first is_bad line k 0 (omega arith)))

printable-has : (line : List ℕ) → IsAllPrintable line → position is_bad line ≡ None
printable-has line all = by_test (nat_lt (position_or_len is_bad line) (length line)) refl
  where
    by_test : (v : Bool) → nat_lt (position_or_len is_bad line) (length line) ≡ v → position is_bad line ≡ None
    by_test true is =
        let lt : position_or_len is_bad line < length line = grind (arith, nat_tests) in
        absurd (bad-not _ (passes_at_first is_bad line 0 lt) (All-get_or IsPrintable line (position_or_len is_bad line) 0 lt all))
    by_test false is = rw is

-- where no byte is bad there is no first one
pub none-bad : (line : List ℕ) → list_any is_bad line ≡ false → position is_bad line ≡ None
none-bad line none = by_test (nat_lt (position_or_len is_bad line) (length line)) refl
  where
    by_test : (v : Bool) → nat_lt (position_or_len is_bad line) (length line) ≡ v → position is_bad line ≡ None
    by_test true is =
        let lt : position_or_len is_bad line < length line = grind (arith, nat_tests) in
        let some = list_any_at is_bad line (position_or_len is_bad line) 0 lt (passes_at_first is_bad line 0 lt) in absurd cc
    by_test false is = rw is

is-short : (line : List ℕ) → nat_lt 160 (length line) ≡ false → IsShort line
is-short line is = grind (arith, nat_tests)

short-has : (line : List ℕ) → IsShort line → nat_lt 160 (length line) ≡ false
short-has line is = grind (arith, nat_tests)

long-has : (line : List ℕ) → 160 < length line → nat_lt 160 (length line) ≡ true
long-has line is = grind (arith, nat_tests)

many-has : (n : ℕ) → 24 < n → nat_lt 24 n ≡ true
many-has n is = grind (arith, nat_tests)

few-has : (n : ℕ) → n ≤ 24 → nat_lt 24 n ≡ false
few-has n is = grind (arith, nat_tests)

differ : (b : Bool) → b ≡ false → b ≡ true → ⊥
differ b is not = cc

fails : (b : Bool) → (b ≡ true → ⊥) → b ≡ false
fails true not = absurd (not refl)
fails false not = refl

not-start : (line : List ℕ) → starts line ≡ false → Starts line → ⊥
not-start line is s = differ (starts line) is (start-has line s)

start-fails : (line : List ℕ) → (Starts line → ⊥) → starts line ≡ false
start-fails line not = fails (starts line) (λ is. not (start-is line is))

is-same : (a b : ℕ) → (a == b) ≡ true → a ≡ b
is-same a b is = (Decides-eqb a b).0 is

not-same : (a b : ℕ) → (a == b) ≡ false → a ≡ b → ⊥
not-same a b is e = differ (a == b) is ((Decides-eqb a b).1 e)

module _ {T : Type 0} where
  err-of : (r : Result T Damage) (d : Damage) → result_err r ≡ Some d → r ≡ Err d
  err-of (Ok x) d is = cc
  err-of (Err e) d is = cc

  no-err : (r : Result T Damage) → IsOk r → result_err r ≡ None
  no-err (Ok x) ok = refl
  no-err (Err e) ok = cc

  is-ok-of : (r : Result T Damage) → result_err r ≡ None → IsOk r
  is-ok-of (Ok x) is = refl
  is-ok-of (Err e) is = cc

-- the outcomes of the six checks
record Checked (line : List ℕ) (long start : Bool) (place : Option ℕ) (field same many : Bool) : Type 0 where
  pub of_length : nat_lt 160 (length line) ≡ long
  pub of_start : starts line ≡ start
  pub of_bytes : position is_bad line ≡ place
  pub of_field : has_checksum_field line ≡ field
  pub of_sum : (said line == checksum (body line)) ≡ same
  pub of_fields : nat_lt 24 (length (fields line)) ≡ many

all-checked : (line : List ℕ) → Checked line (nat_lt 160 (length line)) (starts line) (position is_bad line) (has_checksum_field line) (said line == checksum (body line)) (nat_lt 24 (length (fields line)))
all-checked line = record { of_length = refl; of_start = refl; of_bytes = refl; of_field = refl; of_sum = refl; of_fields = refl }

-- each damage has its reason
to-reason : (line : List ℕ) (long start : Bool) (place : Option ℕ) (field same many : Bool) (d : Damage)
    → Checked line long start place field same many → damage line ≡ Some d → IsDamagedBy line d
unfolding damage damage_but_fields
to-reason line true start place field same many d c is =
    let e : TooLong (length line) ≡ d = cc (rw c.of_length at is) in
    subst (IsDamagedBy line) e (grind (arith, nat_tests, c.of_length), refl)
to-reason line false false place field same many d c is =
    let e : NoStart ≡ d = cc (rw (c.of_length, c.of_start) at is) in
    subst (IsDamagedBy line) e (is-short line c.of_length, not-start line c.of_start)
to-reason line false true (Some place) field same many d c is =
    let e : BadByte place ≡ d = cc (rw (c.of_length, c.of_start, c.of_bytes) at is) in
    subst (IsDamagedBy line) e (is-short line c.of_length, start-is line c.of_start, c.of_bytes)
to-reason line false true None false same many d c is =
    let e : NoSum ≡ d = cc (rw (c.of_length, c.of_start, c.of_bytes, c.of_field) at is) in
    subst (IsDamagedBy line) e (is-short line c.of_length, start-is line c.of_start, printable-is line c.of_bytes, differ _ c.of_field)
to-reason line false true None true false many d c is =
    let e : BadSum (said line) (checksum (body line)) ≡ d = cc (rw (c.of_length, c.of_start, c.of_bytes, c.of_field, c.of_sum) at is) in
    subst (IsDamagedBy line) e (is-short line c.of_length, start-is line c.of_start, printable-is line c.of_bytes, c.of_field, refl, refl, not-same _ _ c.of_sum)
to-reason line false true None true true true d c is =
    let e : TooManyFields ≡ d = cc (rw (c.of_length, c.of_start, c.of_bytes, c.of_field, c.of_sum, c.of_fields) at is) in
    subst (IsDamagedBy line) e (is-short line c.of_length, start-is line c.of_start, printable-is line c.of_bytes, c.of_field, is-same _ _ c.of_sum, grind (arith, nat_tests, c.of_fields))
to-reason line false true None true true false d c is =
    let e : None ≡ Some d = rw (c.of_length, c.of_start, c.of_bytes, c.of_field, c.of_sum, c.of_fields) at is in cc

-- a line with no damage is a sentence
to-sentence : (line : List ℕ) (long start : Bool) (place : Option ℕ) (field same many : Bool)
    → Checked line long start place field same many → damage line ≡ None → IsSentence line
unfolding damage damage_but_fields
to-sentence line true start place field same many c is =
    let e : Some (TooLong (length line)) ≡ None = rw c.of_length at is in cc
to-sentence line false false place field same many c is =
    let e : Some NoStart ≡ None = rw (c.of_length, c.of_start) at is in cc
to-sentence line false true (Some place) field same many c is =
    let e : Some (BadByte place) ≡ None = rw (c.of_length, c.of_start, c.of_bytes) at is in cc
to-sentence line false true None false same many c is =
    let e : Some NoSum ≡ None = rw (c.of_length, c.of_start, c.of_bytes, c.of_field) at is in cc
to-sentence line false true None true false many c is =
    let e : Some (BadSum (said line) (checksum (body line))) ≡ None = rw (c.of_length, c.of_start, c.of_bytes, c.of_field, c.of_sum) at is in cc
to-sentence line false true None true true true c is =
    let e : Some TooManyFields ≡ None = rw (c.of_length, c.of_start, c.of_bytes, c.of_field, c.of_sum, c.of_fields) at is in cc
to-sentence line false true None true true false c is = record {
  short = is-short line c.of_length;
  start = start-is line c.of_start;
  printable = printable-is line c.of_bytes;
  checksum_field = c.of_field;
  sum = is-same _ _ c.of_sum;
  few = grind (arith, nat_tests, c.of_fields);
}

-- and each reason is the first damage
from-reason : (line : List ℕ) (d : Damage) → IsDamagedBy line d → damage line ≡ Some d
unfolding damage damage_but_fields
from-reason line (TooLong n) h = rw (long-has line h.0, h.1)
from-reason line NoStart h = rw (short-has line h.0, start-fails line h.1)
from-reason line (BadByte place) h = rw (short-has line h.0, start-has line h.1, h.2)
from-reason line NoSum h = rw (short-has line h.0, start-has line h.1, printable-has line h.2, fails _ h.3)
from-reason line (BadSum digits sum) h =
    rw (short-has line h.0, start-has line h.1, printable-has line h.2, h.3, ← h.4, ← h.5, fails (digits == sum) (λ e. h.6 ((Decides-eqb digits sum).0 e)))
from-reason line TooManyFields h =
    rw (short-has line h.0, start-has line h.1, printable-has line h.2, h.3, eq-eqb (said line) (checksum (body line)) h.4, many-has _ h.5)

from-sentence : (line : List ℕ) → IsSentence line → damage line ≡ None
unfolding damage damage_but_fields
from-sentence line s =
    rw (short-has line s.short, start-has line s.start, printable-has line s.printable, s.checksum_field, eq-eqb (said line) (checksum (body line)) s.sum, few-has _ s.few)

module _ {T : Type 0} where
  pub reason-is : (line : List ℕ) (r : Result T Damage) → result_err r ≡ damage line → (d : Damage) → (r ≡ Err d) ↔ IsDamagedBy line d
  reason-is line r is d = (
    (λ e. to-reason line _ _ _ _ _ _ d (all-checked line) (sym is ∙ rw e)),
    (λ h. err-of r d (is ∙ from-reason line d h)),
  )

  pub sentence-is : (line : List ℕ) (r : Result T Damage) → result_err r ≡ damage line → IsOk r ↔ IsSentence line
  sentence-is line r is = (
    (λ ok. to-sentence line _ _ _ _ _ _ (all-checked line) (sym is ∙ no-err r ok)),
    (λ s. is-ok-of r (is ∙ from-sentence line s)),
  )

-- a line without damage is a sentence
pub ok-sentence : (line : List ℕ) → None ≡ damage line → IsSentence line
ok-sentence line none = (sentence-is {T = Unit {0}} line (Ok tt) none).0 refl
