-- A number that may be below zero is its sign and its digits.
use Rattle.std.proofs.Common.{◌≡◌, ℕ, Bool, true, false, List, [], ◌∷◌, Option, Some, None, inl, inr, ◌∙◌, refl, sym, ap, arith}
use Rattle.std.specs.Prelude.{if◌then◌else◌, ◌&&◌, ◌==◌, ℤ, pos, neg_ℤ}
use Rattle.std.specs.List.{list_all}
use Rattle.std.specs.Option.{option_map}
use Rattle.std.specs.Char.{is_ascii_digit}
use Rattle.std.proofs.lemmas.Bool.Decides.{nat_tests}
use Rattle.dp_text.specs.Numbers.{decimal_of, number_of}
use Rattle.dp_text.specs.Laws.{SignedReadIsWritten, Writes, WritesSigned}
use Rattle.dp_text.proofs.Places.{number_read_is_written}

-- what a map gives comes of a value
mapped : {A B : Type 0} (f : A → B) (o : Option A) (b : B) → option_map f o ≡ Some b → (a : A) × (o ≡ Some a) × (b ≡ f a)
mapped f None b e = absurd cc
mapped f (Some a) b e = (a, refl, cc)

written : (n : ℤ) (text : List ℕ) → number_of text ≡ Some n → WritesSigned text n
written n [] e = absurd cc
written n (c ∷ cs) e = by_sign (c == 45) refl e
  where
    by_sign : (b : Bool) → (c == 45) ≡ b
        → (if b then option_map (λ n. neg_ℤ (pos n)) (decimal_of 18 cs) else option_map pos (decimal_of 18 (c ∷ cs))) ≡ Some n
        → WritesSigned (c ∷ cs) n
    by_sign true is e =
        let m = mapped (λ n. neg_ℤ (pos n)) (decimal_of 18 cs) n e in
        let minus : c ≡ 45 = grind (arith, nat_tests) in
        record {
          digits = cs;
          size = m.0;
          written = number_read_is_written.written 18 m.0 cs m.1;
          sign = inr (ap (λ b. b ∷ cs) minus, m.2);
        }
    by_sign false is e =
        let m = mapped pos (decimal_of 18 (c ∷ cs)) n e in
        record {
          digits = c ∷ cs;
          size = m.0;
          written = number_read_is_written.written 18 m.0 (c ∷ cs) m.1;
          sign = inl (refl, m.2);
        }

first_is : (a b : Bool) → (a && b) ≡ true → a ≡ true
first_is true b e = refl
first_is false b e = absurd cc

no_minus : (c : ℕ) → is_ascii_digit c ≡ true → (c == 45) ≡ false
no_minus c is = grind (arith, nat_tests)

plain : (m : ℕ) (digits : List ℕ) → Writes digits 18 m → number_of digits ≡ Some (pos m)
plain m [] w = absurd (omega (arith, w.some))
plain m (c ∷ cs) w =
    let digit : is_ascii_digit c ≡ true = first_is (is_ascii_digit c) (list_all is_ascii_digit cs) w.digits in
    rw (no_minus c digit) (ap (option_map pos) (number_read_is_written.read 18 m (c ∷ cs) w))

below : (m : ℕ) (digits : List ℕ) → Writes digits 18 m → number_of (45 ∷ digits) ≡ Some (neg_ℤ (pos m))
below m digits w = ap (option_map (λ n. neg_ℤ (pos n))) (number_read_is_written.read 18 m digits w)

read : (n : ℤ) (text : List ℕ) → WritesSigned text n → number_of text ≡ Some n
read n text w =
    elim w.sign [
      | inl s ↦ ap number_of s.0 ∙ (plain w.size w.digits w.written ∙ ap (λ k. Some k) (sym s.1))
      | inr s ↦ ap number_of s.0 ∙ (below w.size w.digits w.written ∙ ap (λ k. Some k) (sym s.1))
    ]

pub signed_read_is_written : SignedReadIsWritten
signed_read_is_written = record { written = written; read = read }
