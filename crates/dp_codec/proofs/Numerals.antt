-- The fields that are numbers, and fields that stand several times.
use Rattle.std.proofs.Common.{◌≡◌, ℕ, zero, suc, ◌^◌, ◌%◌, ◌<◌, ◌≤◌, Bool, true, false, cond, ltb, List, [], ◌∷◌, ◌++◌, length, get_or, take, drop, Ok, Err, refl, sym, ap, subst, ◌∙◌, append_assoc, arith}
use Rattle.std.specs.Prelude.{ℤ, ◌≤ℤ◌, nat_lt, nat_le, int_le, ◌&&◌, FitsSigned}
use Rattle.std.specs.Int.{Width, w8, w32, w64, byte_len, from_be_bytes, to_be_bytes, cast_signed, cast_unsigned}
use Rattle.std.specs.List.{flat_map, AllByRecursion}
use Rattle.std.proofs.lemmas.Bool.{ltb-false, le-ltb, and_parts}
use Rattle.std.proofs.lemmas.Int.{ints, to_z-of_z, of_z-to_z}
use Rattle.std.proofs.lemmas.List.{take_at, drop_at, take-append-drop, length-append, length-take}
use Rattle.std.proofs.lemmas.Nat.{be_bytes_4, be_bytes_8, from_be_bytes-to_be_bytes_4, from_be_bytes-to_be_bytes_8}
use Rattle.dp_codec.specs.Format.{◌>>=◌, Read, times, times_at}
use Rattle.dp_codec.specs.Numbers.{signed, signed_at, signed_text, unsigned, unsigned_at, unsigned_text}
use Rattle.dp_codec.proofs.Fields.{IsBytes, IsBytes-drop, IsBytes-take, Takes, Takes-then, bind_ok, ok_is, Field}

-- from lo to hi
abbrev pub Within : ℤ → ℤ → ℤ → Type 0
Within lo hi z = (lo ≤ℤ z) × (z ≤ℤ hi)

-- a guarded step that did not fail
guard2_ok : {A : Type 0} (short inside : Bool) (d e : ℕ) (x y : A) → cond short (Err d) (cond inside (Ok x) (Err e)) ≡ Ok y → (short ≡ false) × ((inside ≡ true) × (x ≡ y))
guard2_ok true inside d e x y h = absurd cc
guard2_ok false true d e x y h = (refl, (refl, cc))
guard2_ok false false d e x y h = absurd cc

pub record IsWide (w : Width) (limit : ℕ) : Type 0 where
  pub len : (n : ℕ) → length (to_be_bytes w n) ≡ byte_len w
  pub back : (bytes : List ℕ) → length bytes ≡ byte_len w → IsBytes bytes → to_be_bytes w (from_be_bytes w bytes) ≡ bytes
  pub again : (n : ℕ) → n < limit → from_be_bytes w (to_be_bytes w n) ≡ n
  pub below : (bytes : List ℕ) → IsBytes bytes → from_be_bytes w bytes < limit

one_byte : (bytes : List ℕ) → length bytes ≡ 1 → IsBytes bytes → get_or bytes 0 0 % 256 ∷ [] ≡ bytes
one_byte [] len fits = absurd (omega (arith, len))
one_byte (b ∷ []) len fits = let small : b < 256 = fits 0 in let same : b % 256 ≡ b = omega arith in ap (λ (n : ℕ). n ∷ []) same
one_byte (b ∷ c ∷ bytes) len fits = absurd (omega (arith, len))

pub wide8 : IsWide w8 (2 ^ 8)
wide8 = record {
  len = λ n. refl;
  back = λ bytes len fits. one_byte bytes len fits;
  again = λ n lt. omega arith;
  below = λ bytes fits. omega (arith, fits 0);
}

pub wide32 : IsWide w32 (2 ^ 32)
wide32 = record {
  len = λ n. refl;
  back = λ bytes len fits. be_bytes_4 bytes _ len fits refl;
  again = λ n lt. from_be_bytes-to_be_bytes_4 n lt;
  below = λ bytes fits. omega (arith, fits 0, fits 1, fits 2, fits 3);
}

pub wide64 : IsWide w64 (2 ^ 64)
wide64 = record {
  len = λ n. refl;
  back = λ bytes len fits. be_bytes_8 bytes _ len fits refl;
  again = λ n lt. from_be_bytes-to_be_bytes_8 n lt;
  below = λ bytes fits. omega (arith, fits 0, fits 1, fits 2, fits 3, fits 4, fits 5, fits 6, fits 7);
}

le_of : (a b : ℤ) → int_le a b ≡ true → a ≤ℤ b
le_of a b h = grind (arith, ints)

of_le : (a b : ℤ) → a ≤ℤ b → int_le a b ≡ true
of_le a b h = grind (arith, ints)

abbrev pub Between : ℕ → ℕ → ℕ → Type 0
Between lo end n = (lo ≤ n) × (n < end)

abbrev pub Fitting : ℕ → ℕ → ℕ → ℕ → Type 0
Fitting limit lo end n = Between lo end n × (n < limit)

-- what stands in front is the spelling of the number that it is read as
front_takes : (w : Width) (limit : ℕ) (wide : IsWide w limit) (bytes : List ℕ) → IsBytes bytes → byte_len w ≤ length bytes → Takes bytes (to_be_bytes w (from_be_bytes w (take (byte_len w) bytes))) (drop (byte_len w) bytes)
front_takes w limit wide bytes fits long =
    let whole : to_be_bytes w (from_be_bytes w (take (byte_len w) bytes)) ≡ take (byte_len w) bytes = wide.back (take (byte_len w) bytes) (omega (arith, length-take (byte_len w) bytes)) (IsBytes-take (byte_len w) bytes fits) in
    record { parts = rw whole (sym (take-append-drop (byte_len w) bytes)); rest_fits = IsBytes-drop (byte_len w) bytes fits }

-- a number that was written, as a reader sees it
record IsFront (w : Width) (bytes : List ℕ) (n : ℕ) (rest : List ℕ) : Type 0 where
  long : ltb (length bytes) (byte_len w) ≡ false
  number : from_be_bytes w (take (byte_len w) bytes) ≡ n
  after : drop (byte_len w) bytes ≡ rest

front_again : (w : Width) (limit : ℕ) (wide : IsWide w limit) (n : ℕ) (rest : List ℕ) → n < limit → IsFront w (to_be_bytes w n ++ rest) n rest
front_again w limit wide n rest small =
    let len = wide.len n in
    record {
      long = le-ltb _ _ (omega (arith, length-append (to_be_bytes w n) rest));
      number = ap (from_be_bytes w) (take_at (to_be_bytes w n) rest (byte_len w) len) ∙ wide.again n small;
      after = drop_at (to_be_bytes w n) rest (byte_len w) len;
    }

pub unsigned_takes : (w : Width) (limit : ℕ) (wide : IsWide w limit) (lo end : ℕ) (bytes : List ℕ) (n : ℕ) (rest : List ℕ) → IsBytes bytes → unsigned_at w lo end bytes ≡ Ok (n, rest) → Takes bytes (unsigned_text w n) rest × Fitting limit lo end n
unfolding unsigned_at unsigned_text
unsigned_takes w limit wide lo end bytes n rest fits e =
    let front = take (byte_len w) bytes in
    let g = guard2_ok (ltb (length bytes) (byte_len w)) (nat_le lo (from_be_bytes w front) && nat_lt (from_be_bytes w front) end) (length bytes) (length bytes) (from_be_bytes w front, drop (byte_len w) bytes) (n, rest) e in
    let inside : (nat_le lo (from_be_bytes w front) ≡ true) × (nat_lt (from_be_bytes w front) end ≡ true) = and_parts (nat_le lo (from_be_bytes w front)) (nat_lt (from_be_bytes w front) end) g.1.0 in
    let between : Between lo end (from_be_bytes w front) = (grind (arith, inside.0), grind (arith, inside.1)) in
    subst (λ (p : ℕ × List ℕ). Takes bytes (to_be_bytes w p.0) p.1 × Fitting limit lo end p.0) g.1.1 (front_takes w limit wide bytes fits (ltb-false _ _ g.0), (between, wide.below front (IsBytes-take (byte_len w) bytes fits)))

unsigned_on : (w : Width) (lo end : ℕ) (bytes : List ℕ) (n : ℕ) (rest : List ℕ) → IsFront w bytes n rest → nat_le lo n ≡ true → nat_lt n end ≡ true → unsigned_at w lo end bytes ≡ Ok (n, rest)
unfolding unsigned_at
unsigned_on w lo end bytes n rest front a b = rw (front.long, front.number, front.after, a, b) refl

pub unsigned_again : (w : Width) (limit : ℕ) (wide : IsWide w limit) (lo end : ℕ) (n : ℕ) (rest : List ℕ) → Fitting limit lo end n → unsigned_at w lo end (unsigned_text w n ++ rest) ≡ Ok (n, rest)
unfolding unsigned_text
unsigned_again w limit wide lo end n rest fits =
    unsigned_on w lo end (to_be_bytes w n ++ rest) n rest (front_again w limit wide n rest fits.1) (grind (arith, fits.0.0)) (grind (arith, fits.0.1))

-- a number that was written, and is past the end, is refused at its first byte
unsigned_past : (w : Width) (lo end : ℕ) (bytes : List ℕ) (n : ℕ) (rest : List ℕ) → IsFront w bytes n rest → nat_lt n end ≡ false → unsigned_at w lo end bytes ≡ Err (length bytes)
unfolding unsigned_at
unsigned_past w lo end bytes n rest front b = rw (front.long, front.number, front.after, b) (refused (nat_le lo n))
  where
    refused : (a : Bool) → cond {A = Read ℕ} (a && false) (Ok (n, rest)) (Err (length bytes)) ≡ Err (length bytes)
    refused true = refl
    refused false = refl

pub unsigned_refused : (w : Width) (limit : ℕ) (wide : IsWide w limit) (lo end : ℕ) (n : ℕ) (rest : List ℕ) → end ≤ n → n < limit → unsigned_at w lo end (unsigned_text w n ++ rest) ≡ Err (length (unsigned_text w n ++ rest))
unfolding unsigned_text
unsigned_refused w limit wide lo end n rest past small =
    unsigned_past w lo end (to_be_bytes w n ++ rest) n rest (front_again w limit wide n rest small) (grind (arith, past))

abbrev pub unsigned_field : (w : Width) (limit : ℕ) (wide : IsWide w limit) (lo end : ℕ) → Field ℕ
unsigned_field w limit wide lo end = record {
  format = unsigned w lo end;
  fits = Fitting limit lo end;
  takes = unsigned_takes w limit wide lo end;
  again = unsigned_again w limit wide lo end;
}

pub signed_takes : (lo hi : ℤ) (bytes : List ℕ) (z : ℤ) (rest : List ℕ) → IsBytes bytes → signed_at lo hi bytes ≡ Ok (z, rest) → Takes bytes (signed_text z) rest × Within lo hi z
unfolding signed_at signed_text
signed_takes lo hi bytes z rest fits e =
    let n = from_be_bytes w64 (take 8 bytes) in
    let g = guard2_ok (ltb (length bytes) 8) (int_le lo (cast_signed w64 n) && int_le (cast_signed w64 n) hi) (length bytes) (length bytes) (cast_signed w64 n, drop 8 bytes) (z, rest) e in
    let inside : (int_le lo (cast_signed w64 n) ≡ true) × (int_le (cast_signed w64 n) hi ≡ true) = and_parts (int_le lo (cast_signed w64 n)) (int_le (cast_signed w64 n) hi) g.1.0 in
    let below : n < 2 ^ 64 = wide64.below (take 8 bytes) (IsBytes-take 8 bytes fits) in
    let front = front_takes w64 (2 ^ 64) wide64 bytes fits (ltb-false _ _ g.0) in
    let spelled : Takes bytes (signed_text (cast_signed w64 n)) (drop 8 bytes) = subst (λ (m : ℕ). Takes bytes (to_be_bytes w64 m) (drop 8 bytes)) (sym (of_z-to_z w64 n below)) front in
    subst (λ (p : ℤ × List ℕ). Takes bytes (signed_text p.0) p.1 × Within lo hi p.0) g.1.1 (spelled, (le_of _ _ inside.0, le_of _ _ inside.1))

signed_on : (lo hi : ℤ) (bytes : List ℕ) (n : ℕ) (z : ℤ) (rest : List ℕ) → IsFront w64 bytes n rest → cast_signed w64 n ≡ z → int_le lo z ≡ true → int_le z hi ≡ true → signed_at lo hi bytes ≡ Ok (z, rest)
unfolding signed_at
signed_on lo hi bytes n z rest front back a b = rw (front.long, front.number, front.after, back, a, b) refl

pub signed_again : (lo hi : ℤ) (z : ℤ) (rest : List ℕ) → FitsSigned w64 z → Within lo hi z → signed_at lo hi (signed_text z ++ rest) ≡ Ok (z, rest)
unfolding signed_text
signed_again lo hi z rest small fits =
    signed_on lo hi (signed_text z ++ rest) (cast_unsigned w64 z) z rest (front_again w64 (2 ^ 64) wide64 (cast_unsigned w64 z) rest (omega (arith, ints))) (to_z-of_z w64 z small) (of_le _ _ fits.0) (of_le _ _ fits.1)

-- a bound that fits 64 bits leaves what is within it fitting
pub fits_between : (lo hi z : ℤ) → FitsSigned w64 lo → FitsSigned w64 hi → Within lo hi z → FitsSigned w64 z
fits_between lo hi z a b w = search (arith, ints, a, b, w.0, w.1)

abbrev pub signed_field : (lo hi : ℤ) → FitsSigned w64 lo → FitsSigned w64 hi → Field ℤ
signed_field lo hi a b = record {
  format = signed lo hi;
  fits = Within lo hi;
  takes = signed_takes lo hi;
  again = λ z rest w. signed_again lo hi z rest (fits_between lo hi z a b w) w;
}

module _ {A : Type 0} (f : Field A) where
  pub times_takes : (n : ℕ) (bytes : List ℕ) (xs : List A) (rest : List ℕ) → IsBytes bytes → times_at f.format.read n bytes ≡ Ok (xs, rest) → Takes bytes (flat_map f.format.spell xs) rest × ((length xs ≡ n) × AllByRecursion f.fits xs)
  times_takes zero bytes xs rest ok e =
      subst (λ (y : List A × List ℕ). Takes bytes (flat_map f.format.spell y.0) y.1 × ((length y.0 ≡ 0) × AllByRecursion f.fits y.0)) (ok_is {A = List A × List ℕ} ([], bytes) (xs, rest) e) (record { parts = refl; rest_fits = ok }, (refl, tt))
  times_takes (suc n) bytes xs rest ok e =
      let a = bind_ok (f.format.read bytes) (λ first. times_at f.format.read n first.1 >>= λ others. Ok (first.0 ∷ others.0, others.1)) (xs, rest) e in
      let b = bind_ok (times_at f.format.read n a.0.1) (λ others. Ok (a.0.0 ∷ others.0, others.1)) (xs, rest) a.2 in
      let first = f.takes bytes a.0.0 a.0.1 ok a.1 in
      let second = times_takes n a.0.1 b.0.0 b.0.1 first.0.rest_fits b.1 in
      let both = Takes-then bytes (f.format.spell a.0.0) a.0.1 (flat_map f.format.spell b.0.0) b.0.1 first.0 second.0 in
      subst (λ (y : List A × List ℕ). Takes bytes (flat_map f.format.spell y.0) y.1 × ((length y.0 ≡ suc n) × AllByRecursion f.fits y.0)) (ok_is {A = List A × List ℕ} (a.0.0 ∷ b.0.0, b.0.1) (xs, rest) b.2) (both, (ap suc second.1.0, (first.1, second.1.1)))

  pub times_again : (n : ℕ) (xs : List A) (rest : List ℕ) → (length xs ≡ n) × AllByRecursion f.fits xs → times_at f.format.read n (flat_map f.format.spell xs ++ rest) ≡ Ok (xs, rest)
  times_again zero [] rest fits = refl
  times_again (suc n) [] rest fits = absurd (omega (arith, fits.0))
  times_again zero (x ∷ xs) rest fits = absurd (omega (arith, fits.0))
  times_again (suc n) (x ∷ xs) rest fits =
      ap (times_at f.format.read (suc n)) (append_assoc (f.format.spell x) (flat_map f.format.spell xs) rest)
      ∙ rw (f.again x (flat_map f.format.spell xs ++ rest) fits.1.0, times_again n xs rest (omega (arith, fits.0), fits.1.1)) refl

  abbrev pub times_field : ℕ → Field (List A)
  times_field n = record {
    format = times f.format n;
    fits = λ xs. (length xs ≡ n) × AllByRecursion f.fits xs;
    takes = times_takes n;
    again = times_again n;
  }
