-- Lists over the numbers from 0 on.
use Rattle.std.proofs.Common.{◌≡◌, ℕ, suc, zero, ◌+◌, ◌<◌, Bool, true, false, ◌||◌, ◌&&◌, nat_eq, cond, List, [], ◌∷◌, ◌++◌, get_or, map, sym, ◌∙◌, ap, refl, arith, inl, inr}
use Rattle.std.proofs.lemmas.Bool.{eq-eqb, eqb-true, ne_eqb, or_cases, or_left, or_right}
use Rattle.std.proofs.lemmas.List.{append-nil}
use Rattle.std.proofs.lemmas.List.Elements.{filter-append}
use Rattle.std.specs.List.{Contains, filter, list_any, range_with_len}
use Rattle.dp_fixed.specs.Bits.{bits_of, is_set}
use Rattle.dp_fixed.proofs.BitLemmas.{is_set-bits_of}

range_more : (a n : ℕ) → range_with_len a (suc n) ≡ range_with_len a n ++ (a + n) ∷ []
range_more a zero = ap (λ k. k ∷ []) (omega arith)
range_more a (suc n) =
    let e : a + 1 + n ≡ a + suc n = omega arith in
    ap (λ xs. a ∷ xs) (range_more (a + 1) n ∙ ap (λ k. range_with_len (a + 1) n ++ k ∷ []) e)

-- one number more to pass a test
pub filter_more : (p : ℕ → Bool) (n : ℕ)
    → filter p (range_with_len 0 (n + 1)) ≡ filter p (range_with_len 0 n) ++ cond (p n) (n ∷ []) []
filter_more p n =
    let e : n + 1 ≡ suc n = omega arith in
    let z : 0 + n ≡ n = omega arith in
    ap (λ k. filter p (range_with_len 0 k)) e ∙ ap (filter p) (range_more 0 n ∙ ap (λ k. range_with_len 0 n ++ k ∷ []) z)
    ∙ filter-append p (range_with_len 0 n) (n ∷ [])

-- a number that passes is one more, and another isn't
pub passes_more : (p : ℕ → Bool) (n : ℕ) (xs ys : List ℕ) → xs ≡ filter p (range_with_len 0 n) → p n ≡ true → ys ≡ xs ++ n ∷ []
    → ys ≡ filter p (range_with_len 0 (n + 1))
passes_more p n xs ys before pass added = added ∙ ap (λ l. l ++ n ∷ []) before ∙ sym (filter_more p n ∙ ap (λ b. filter p (range_with_len 0 n) ++ cond b (n ∷ []) []) pass)

pub fails_more : (p : ℕ → Bool) (n : ℕ) (xs : List ℕ) → xs ≡ filter p (range_with_len 0 n) → p n ≡ false
    → xs ≡ filter p (range_with_len 0 (n + 1))
fails_more p n xs before fail = before ∙ sym (filter_more p n ∙ ap (λ b. filter p (range_with_len 0 n) ++ cond b (n ∷ []) []) fail ∙ append-nil (filter p (range_with_len 0 n)))

or_none : (b : Bool) → ((b && false) || false) ≡ false
or_none true = refl
or_none false = refl

and_all : (b : Bool) → ((b && true) || false) ≡ b
and_all true = refl
and_all false = refl

none_or : (b c : Bool) → ((b && false) || c) ≡ c
none_or true c = refl
none_or false c = refl

abbrev names : ℕ → List ℕ → Bool
names k xs = list_any (λ x. nat_eq x k) xs

-- whether a number is named, where one more is kept if it passes
kept : (b : Bool) (x k : ℕ) (xs : List ℕ) → names k (cond b (x ∷ xs) xs) ≡ ((b && nat_eq x k) || names k xs)
kept true x k xs = refl
kept false x k xs = refl

-- a number below the first isn't among them
none_below : (p : ℕ → Bool) (a n k : ℕ) → k < a → names k (filter p (range_with_len a n)) ≡ false
none_below p a zero k below = refl
none_below p a (suc n) k below =
    let other : nat_eq a k ≡ false = ne_eqb a k (λ e. omega arith) in
    let rest = none_below p (a + 1) n k (omega arith) in
    kept (p a) a k (filter p (range_with_len (a + 1) n)) ∙ rw (other, rest) (or_none (p a))

-- a number passed the test exactly where it is among those that did
pub any_filter : (p : ℕ → Bool) (a n k : ℕ)
    → names (a + k) (filter p (range_with_len a n)) ≡ get_or (map p (range_with_len a n)) k false
any_filter p a zero k = refl
any_filter p a (suc n) zero =
    let same : nat_eq a (a + 0) ≡ true = eq-eqb a (a + 0) (omega arith) in
    let rest = none_below p (a + 1) n (a + 0) (omega arith) in
    kept (p a) a (a + 0) (filter p (range_with_len (a + 1) n)) ∙ rw (same, rest) (and_all (p a))
any_filter p a (suc n) (suc k) =
    let other : nat_eq a (a + suc k) ≡ false = ne_eqb a (a + suc k) (λ e. omega arith) in
    let next : a + suc k ≡ a + 1 + k = omega arith in
    let rest = any_filter p (a + 1) n k in
    kept (p a) a (a + suc k) (filter p (range_with_len (a + 1) n)) ∙ rw other (none_or (p a) _) ∙ ap (λ j. names j (filter p (range_with_len (a + 1) n))) next ∙ rest

-- a bit of the answers is set exactly where its number is among those that pass
pub bits_name : (p : ℕ → Bool) (n k : ℕ) → is_set (bits_of (map p (range_with_len 0 n))) k ≡ names k (filter p (range_with_len 0 n))
bits_name p n k =
    let e : 0 + k ≡ k = omega arith in
    is_set-bits_of (map p (range_with_len 0 n)) k ∙ sym (any_filter p 0 n k) ∙ ap (λ j. names j (filter p (range_with_len 0 n))) e

-- a number is named where it is an element, and the other way round
pub Contains-names : (k : ℕ) (xs : List ℕ) → names k xs ≡ true → Contains xs k
Contains-names k [] h = cc
Contains-names k (x ∷ xs) h = elim (or_cases (nat_eq x k) (names k xs) h) [
  | inl e ↦ (0, omega arith, eqb-true x k e)
  | inr e ↦ let rest = Contains-names k xs e in (suc rest.0, omega arith, rest.2)
]

pub names-Contains : (k : ℕ) (xs : List ℕ) → Contains xs k → names k xs ≡ true
names-Contains k [] (i, below, e) = absurd (omega arith)
names-Contains k (x ∷ xs) (zero, below, e) = or_left (nat_eq x k) (names k xs) (eq-eqb x k e)
names-Contains k (x ∷ xs) (suc i, below, e) =
    or_right (nat_eq x k) (names k xs) (names-Contains k xs (i, omega arith, e))
