-- A field: a format in which what is read is what was written, and what was written is read again.
use Rattle.std.proofs.Common.{◌≡◌, ℕ, ◌+◌, ◌<◌, Bool, true, false, cond, List, [], ◌++◌, length, get_or, take, drop, Result, Ok, Err, refl, sym, ap, subst, ◌∙◌, append_assoc, arith, inl, inr}
use Rattle.std.proofs.lemmas.Bool.{cases_lt}
use Rattle.std.proofs.lemmas.List.{length-take, get_or-drop, get_or-take, get_or_past}
use Rattle.dp_codec.specs.Format.{◌>>=◌, Format, Read, made, part, passing}

abbrev pub IsBytes : List ℕ → Type 0
IsBytes bytes = (i : ℕ) → get_or bytes i 0 < 256

pub IsBytes-drop : (n : ℕ) (bytes : List ℕ) → IsBytes bytes → IsBytes (drop n bytes)
IsBytes-drop n bytes h i = rw get_or-drop (h (n + i))

pub IsBytes-take : (n : ℕ) (bytes : List ℕ) → IsBytes bytes → IsBytes (take n bytes)
IsBytes-take n bytes h i =
    elim (cases_lt i n) [
      | inl lt ↦ rw (get_or-take n bytes i 0 lt) (h i)
      | inr le ↦ rw (get_or_past (take n bytes) i 0 (omega (arith, length-take n bytes))) (omega arith)
    ]

-- the value of a step that did not fail
pub bind_ok : {A B : Type 0} (r : Result A ℕ) (f : A → Result B ℕ) (y : B) → (r >>= f) ≡ Ok y → (x : A) × (r ≡ Ok x) × (f x ≡ Ok y)
bind_ok (Ok x) f y e = (x, refl, e)
bind_ok (Err d) f y e = absurd cc

abbrev pub done_with : {A : Type 0} → A → Result A ℕ
done_with x = Ok x

pub ok_is : {A : Type 0} (x y : A) → done_with x ≡ done_with y → x ≡ y
ok_is x y e = cc

-- what a reader took from the front
pub record Takes (bytes text rest : List ℕ) : Type 0 where
  pub parts : bytes ≡ text ++ rest
  pub rest_fits : IsBytes rest

pub Takes-then : (a x b y c : List ℕ) → Takes a x b → Takes b y c → Takes a (x ++ y) c
Takes-then a x b y c p q = record { parts = p.parts ∙ ap (λ (t : List ℕ). x ++ t) q.parts ∙ sym (append_assoc x y c); rest_fits = q.rest_fits }

-- what is read is spelled so and in range, and what is in range and spelled so is read
pub record Field (A : Type 0) : Type 1 where
  pub format : Format A
  pub fits : A → Type 0
  pub takes : (bytes : List ℕ) (x : A) (rest : List ℕ) → IsBytes bytes → format.read bytes ≡ Ok (x, rest) → Takes bytes (format.spell x) rest × fits x
  pub again : (x : A) (rest : List ℕ) → fits x → format.read (format.spell x ++ rest) ≡ Ok (x, rest)

-- the rows of a table from one on, where those before are known, and facts hold of their values
pub record Tail (S : Type 0) (known : S → Type 0) (facts : Type 0) : Type 1 where
  pub format : Format S
  pub fits : S → Type 0
  pub takes : (bytes : List ℕ) (s : S) (rest : List ℕ) → facts → IsBytes bytes → format.read bytes ≡ Ok (s, rest) → Takes bytes (format.spell s) rest × (known s × fits s)
  pub again : (s : S) (rest : List ℕ) → known s → fits s → format.read (format.spell s ++ rest) ≡ Ok (s, rest)

module _ {A S : Type 0} {known : S → Type 0} {facts : Type 0} where
  pub row_takes : (get : S → A) (f : Field A) (more : (a : A) → Tail S (λ s. known s × (get s ≡ a)) (facts × f.fits a)) (bytes : List ℕ) (s : S) (rest : List ℕ) → facts → IsBytes bytes
      → (f.format.read bytes >>= λ x. (more x.0).format.read x.1) ≡ Ok (s, rest) → Takes bytes (f.format.spell (get s) ++ (more (get s)).format.spell s) rest × (known s × (f.fits (get s) × (more (get s)).fits s))
  row_takes get f more bytes s rest known_facts fits e =
      let a = bind_ok (f.format.read bytes) (λ x. (more x.0).format.read x.1) (s, rest) e in
      let first = f.takes bytes a.0.0 a.0.1 fits a.1 in
      let second = (more a.0.0).takes a.0.1 s rest (known_facts, first.1) first.0.rest_fits a.2 in
      let both = Takes-then bytes (f.format.spell a.0.0) a.0.1 ((more a.0.0).format.spell s) rest first.0 second.0 in
      subst (λ (v : A). Takes bytes (f.format.spell v ++ (more v).format.spell s) rest × (known s × (f.fits v × (more v).fits s))) (sym second.1.0.1) (both, (second.1.0.0, (first.1, second.1.1)))

  pub row_again : (get : S → A) (f : Field A) (more : (a : A) → Tail S (λ s. known s × (get s ≡ a)) (facts × f.fits a)) (s : S) (rest : List ℕ) → known s → f.fits (get s) × (more (get s)).fits s
      → (f.format.read ((f.format.spell (get s) ++ (more (get s)).format.spell s) ++ rest) >>= λ x. (more x.0).format.read x.1) ≡ Ok (s, rest)
  row_again get f more s rest k fits =
      ap (λ (b : List ℕ). f.format.read b >>= λ x. (more x.0).format.read x.1) (append_assoc (f.format.spell (get s)) ((more (get s)).format.spell s) rest)
      ∙ ap (λ (r : Read A). r >>= λ x. (more x.0).format.read x.1) (f.again (get s) ((more (get s)).format.spell s ++ rest) fits.0)
      ∙ (more (get s)).again s rest (k, refl) fits.1

  -- a row, and the rows after it
  abbrev pub row : (get : S → A) (f : Field A) (more : (a : A) → Tail S (λ s. known s × (get s ≡ a)) (facts × f.fits a)) → Tail S known facts
  row get f more = record {
    format = part get f.format (λ a. (more a).format);
    fits = λ s. f.fits (get s) × (more (get s)).fits s;
    takes = row_takes get f more;
    again = row_again get f more;
  }

pub end_takes : {S : Type 0} (known : S → Type 0) {facts : Type 0} (s : S) → (facts → known s) → (bytes : List ℕ) (t : S) (rest : List ℕ) → facts → IsBytes bytes → done_with {A = S × List ℕ} (s, bytes) ≡ done_with (t, rest) → Takes bytes [] rest × (known t × Unit {0})
end_takes {S = S} known s k bytes t rest h fits e =
    subst (λ (y : S × List ℕ). Takes bytes [] y.1 × (known y.0 × Unit {0})) (ok_is (s, bytes) (t, rest) e) (record { parts = refl; rest_fits = fits }, (k h, tt))

-- the value, once all its parts are known
abbrev pub end : {S : Type 0} {known : S → Type 0} {facts : Type 0} (s : S) → (facts → known s) → ((t : S) → known t → t ≡ s) → Tail S known facts
end {S = S} {known = known} s k only = record {
  format = made s;
  fits = λ _. Unit {0};
  takes = end_takes known s k;
  again = λ t rest h _. ap (λ (v : S). done_with {A = S × List ℕ} (v, rest)) (sym (only t h));
}

-- a whole table, over the values of a shape
abbrev pub table : {S : Type 0} (shape : S → Type 0) → Tail S shape (Unit {0}) → Field S
table shape t = record {
  format = t.format;
  fits = λ s. shape s × t.fits s;
  takes = λ bytes s rest ok e. t.takes bytes s rest tt ok e;
  again = λ s rest h. t.again s rest h.0 h.1;
}

abbrev pub Any : {S : Type 0} → S → Type 0
Any s = Unit {0}

-- ---- a value that stands nowhere
pub absent_takes : {A : Type 0} (x : A) (bytes : List ℕ) (y : A) (rest : List ℕ) → IsBytes bytes → done_with {A = A × List ℕ} (x, bytes) ≡ done_with (y, rest) → Takes bytes [] rest × (y ≡ x)
absent_takes {A = A} x bytes y rest ok e =
    subst (λ (p : A × List ℕ). Takes bytes [] p.1 × (p.0 ≡ x)) (ok_is (x, bytes) (y, rest) e) (record { parts = refl; rest_fits = ok }, refl)

abbrev pub absent : {A : Type 0} → A → Field A
absent {A = A} x = record {
  format = made x;
  fits = λ y. y ≡ x;
  takes = absent_takes x;
  again = λ y rest h. ap (λ (v : A). done_with {A = A × List ℕ} (v, rest)) (sym h);
}

-- ---- a value that has to pass a test
passed : {A : Type 0} (b : Bool) (x y : A) (left : ℕ) → cond b (Ok x) (Err left) ≡ Ok y → (b ≡ true) × (x ≡ y)
passed true x y left e = (refl, cc)
passed false x y left e = absurd cc

module _ {A : Type 0} (test : A → Bool) (f : Field A) where
  pub passing_takes : (bytes : List ℕ) (x : A) (rest : List ℕ) → IsBytes bytes → (passing test f.format).read bytes ≡ Ok (x, rest) → Takes bytes (f.format.spell x) rest × (f.fits x × (test x ≡ true))
  passing_takes bytes x rest ok e =
      let a = bind_ok (f.format.read bytes) (λ y. cond (test y.0) (Ok y) (Err (length bytes))) (x, rest) e in
      let p = passed (test a.0.0) a.0 (x, rest) (length bytes) a.2 in
      let t = f.takes bytes a.0.0 a.0.1 ok a.1 in
      subst (λ (y : A × List ℕ). Takes bytes (f.format.spell y.0) y.1 × (f.fits y.0 × (test y.0 ≡ true))) p.1 (t.0, (t.1, p.0))

  pub passing_again : (x : A) (rest : List ℕ) → f.fits x × (test x ≡ true) → (passing test f.format).read (f.format.spell x ++ rest) ≡ Ok (x, rest)
  passing_again x rest h = rw (f.again x rest h.0, h.1) refl

  abbrev pub passing_field : Field A
  passing_field = record {
    format = passing test f.format;
    fits = λ x. f.fits x × (test x ≡ true);
    takes = passing_takes;
    again = passing_again;
  }

-- ---- a field whose format has a word of its own
module _ {A : Type 0} (f : Field A) (g : Format A) (e : g ≡ f.format) where
  pub worded_takes : (bytes : List ℕ) (x : A) (rest : List ℕ) → IsBytes bytes → g.read bytes ≡ Ok (x, rest) → Takes bytes (g.spell x) rest × f.fits x
  worded_takes bytes x rest ok r =
      subst (λ (k : Format A). Takes bytes (k.spell x) rest × f.fits x) (sym e)
      (f.takes bytes x rest ok (subst (λ (k : Format A). k.read bytes ≡ Ok (x, rest)) e r))

  pub worded_again : (x : A) (rest : List ℕ) → f.fits x → g.read (g.spell x ++ rest) ≡ Ok (x, rest)
  worded_again x rest h = subst (λ (k : Format A). k.read (k.spell x ++ rest) ≡ Ok (x, rest)) (sym e) (f.again x rest h)

  abbrev pub worded : Field A
  worded = record { format = g; fits = f.fits; takes = worded_takes; again = worded_again }
