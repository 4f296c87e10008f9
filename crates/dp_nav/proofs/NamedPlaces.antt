-- The fix of a GGA sentence's fields is the place that they name.
use Rattle.std.proofs.Common.{◌≡◌, ℕ, ◌+◌, ◌-◌, ◌*◌, ◌^◌, ◌<◌, ◌≤◌, inl, inr, Bool, true, false, List, [], ◌∷◌, ◌++◌, length, take, drop, Option, Some, None, Result, Ok, Err, ◌∙◌, refl, sym, ap, subst, arith, length-append}
use Rattle.std.specs.Prelude.{if◌then◌else◌, ◌&&◌, ◌||◌, ◌==◌, nat_le, nat_lt, ℤ}
use Rattle.std.specs.List.{list_all}
use Rattle.std.specs.Char.{is_ascii_digit}
use Rattle.std.proofs.lemmas.Bool.Decides.{nat_tests}
use Rattle.std.proofs.lemmas.List.{drop_at, length-drop, length-take-le, take-append-drop, take_at}
use Rattle.std.proofs.lemmas.List.Folds.{list_all-append}
use Rattle.dp_text.specs.Laws.{place_value}
use Rattle.dp_text.proofs.JoinedParts.{both}
use Rattle.dp_nav.specs.Decimals.{decimals, is_decimal, is_sound, kept, number, whole}
use Rattle.dp_nav.specs.Fields.{◌>>=◌, or_bad, valid_of}
use Rattle.dp_nav.specs.Gga.{angle, angle_of, coordinate_of, degree_digits, fix_of, is_fix_of, is_negative_of, minutes, most_degrees, negative_letter, positive_letter, quality_of, signed}
use Rattle.dp_nav.specs.Named.{ComesTo, FixIsNamed, HasSign, IsPointed, NamesCoordinate, NamesPlace, WritesAngle}
use Rattle.dp_nav.specs.declared.gga.Coordinate.{Coordinate}
use Rattle.dp_nav.specs.declared.gga.Coordinate.TheVariants.{Latitude, Longitude}
use Rattle.dp_nav.specs.declared.reading.Reading.{Reading}
use Rattle.dp_nav.specs.declared.reading.Reading.TheVariants.{Fix}
use Rattle.dp_nav.specs.declared.reading.Skip.{Skip}
use Rattle.dp_nav.proofs.KeptDecimals.{comes_once, kept_comes, number_is}
use Rattle.dp_nav.proofs.PointedTexts.{cut_pointed, pointed}

-- what a chain gives comes of a value, and of a value comes what the chain gives
bound : {A B : Type 0} (r : Result A Skip) (f : A → Result B Skip) (b : B) → (r >>= f) ≡ Ok b → (a : A) × (r ≡ Ok a) × (f a ≡ Ok b)
bound (Ok a) f b e = (a, refl, e)
bound (Err skip) f b e = absurd cc

ok_is : {A : Type 0} {a b : A} → ◌≡◌ {A = Result A Skip} (Ok a) (Ok b) → a ≡ b
ok_is e = cc

onward : {A B : Type 0} (r : Result A Skip) (f : A → Result B Skip) (a : A) (b : Result B Skip) → r ≡ Ok a → f a ≡ b → (r >>= f) ≡ b
onward (Ok x) f a b is e = ap f (ok_is is) ∙ e
onward (Err skip) f a b is e = absurd cc

not_bad : {A : Type 0} (k : ℕ) (o : Option A) (a : A) → or_bad k o ≡ Ok a → o ≡ Some a
not_bad k None a e = absurd cc
not_bad k (Some b) a e = ap (λ x. Some x) (ok_is e)

-- tests of numbers
is_less : (n m : ℕ) → n < m → nat_lt n m ≡ true
is_less n m lt = grind (arith, nat_tests)

is_most : (n m : ℕ) → n ≤ m → nat_le n m ≡ true
is_most n m le = grind (arith, nat_tests)

is_equal : (n m : ℕ) → n ≡ m → (n == m) ≡ true
is_equal n m e = grind (arith, nat_tests)

less : (n m : ℕ) → nat_lt n m ≡ true → n < m
less n m is = grind (arith, nat_tests)

most : (n m : ℕ) → nat_le n m ≡ true → n ≤ m
most n m is = grind (arith, nat_tests)

equal : (n m : ℕ) → (n == m) ≡ true → n ≡ m
equal n m is = grind (arith, nat_tests)

four : (a b c d : Bool) → a ≡ true → b ≡ true → c ≡ true → d ≡ true → (a && (b && (c && d))) ≡ true
four true true true true e f g h = refl
four true true true false e f g h = absurd cc
four true true false d e f g h = absurd cc
four true false c d e f g h = absurd cc
four false b c d e f g h = absurd cc

all_four : (a b c d : Bool) → (a && (b && (c && d))) ≡ true → (a ≡ true) × (b ≡ true) × (c ≡ true) × (d ≡ true)
all_four true true true true e = (refl, refl, refl, refl)
all_four true true true false e = absurd cc
all_four true true false d e = absurd cc
all_four true false c d e = absurd cc
all_four false b c d e = absurd cc

given : (b : Bool) (n m : ℕ) → b ≡ true → n ≡ m → (if b then Some n else None) ≡ Some m
given true n m is e = ap (λ k. Some k) e
given false n m is e = absurd cc

taken : (b : Bool) (n m : ℕ) → (if b then Some n else None) ≡ Some m → (b ≡ true) × (n ≡ m)
taken true n m e = (refl, cc)
taken false n m e = absurd cc

-- ---- angles

same_sum : (a b c d k l : ℕ) → a ≡ b → c ≡ d → k ≡ l → (a * 60 + c) * 10 ^ 7 + k ≡ (b * 60 + d) * 10 ^ 7 + l
same_sum a b c d k l e f g = omega (arith, e, f, g)

angle_read : (kind : Coordinate) (text : List ℕ) (n : ℕ) → WritesAngle kind text n → angle_of kind text ≡ Some n
unfolding angle_of is_decimal
angle_read kind text n w =
    let c = cut_pointed text (w.degrees ++ w.minutes) w.decimals w.whole w.joined in
    let b = both (list_all is_ascii_digit w.degrees) (list_all is_ascii_digit w.minutes) (sym (list_all-append is_ascii_digit w.degrees w.minutes) ∙ w.whole) in
    let count : length (whole text) ≡ degree_digits kind + 2 = ap length c.0 ∙ omega (arith, length-append w.degrees w.minutes, w.degree_count, w.minute_count) in
    let few_degrees : length w.degrees ≤ 18 = omega (arith, w.few, w.minute_count) in
    let few_minutes : length w.minutes ≤ 18 = omega (arith, w.minute_count) in
    let few_decimals : length w.decimals ≤ 18 = omega (arith, w.few, w.minute_count) in
    let few : length (whole text) + length (decimals text) ≤ 20 =
    omega (arith, ap length c.0, ap length c.1, length-append w.degrees w.minutes, w.few) in
    let d : number (take (degree_digits kind) (whole text)) ≡ place_value w.degrees =
    ap (λ t. number (take (degree_digits kind) t)) c.0 ∙ (ap number (take_at w.degrees w.minutes (degree_digits kind) w.degree_count) ∙ number_is w.degrees few_degrees b.0) in
    let m : minutes kind text ≡ place_value w.minutes =
    ap (λ t. number (drop (degree_digits kind) t)) c.0 ∙ (ap number (drop_at w.degrees w.minutes (degree_digits kind) w.degree_count) ∙ number_is w.minutes few_minutes b.1) in
    let sum : angle kind text ≡ n =
    same_sum (number (take (degree_digits kind) (whole text))) (place_value w.degrees) (minutes kind text) (place_value w.minutes) (kept 7 (decimals text)) (kept 7 w.decimals) d m (ap (kept 7) c.1)
    ∙ comes_once (place_value w.degrees * 60 + place_value w.minutes) (length w.decimals) (place_value w.decimals) ((place_value w.degrees * 60 + place_value w.minutes) * 10 ^ 7 + kept 7 w.decimals) n
    (kept_comes (place_value w.degrees * 60 + place_value w.minutes) w.decimals few_decimals w.part) w.value in
    let sound : is_sound (whole text) (decimals text) ≡ true =
    four (nat_lt 0 (length (whole text))) (list_all is_ascii_digit (whole text)) (list_all is_ascii_digit (decimals text)) (nat_le (length (whole text) + length (decimals text)) 20)
    (is_less 0 (length (whole text)) (omega (arith, count))) (ap (list_all is_ascii_digit) c.0 ∙ w.whole) (ap (list_all is_ascii_digit) c.1 ∙ w.part) (is_most (length (whole text) + length (decimals text)) 20 few) in
    given (is_sound (whole text) (decimals text) && (length (whole text) == degree_digits kind + 2 && (nat_lt (minutes kind text) 60 && nat_le (angle kind text) (most_degrees kind * 600000000)))) (angle kind text) n
    (four (is_sound (whole text) (decimals text)) (length (whole text) == degree_digits kind + 2) (nat_lt (minutes kind text) 60) (nat_le (angle kind text) (most_degrees kind * 600000000))
    sound (is_equal (length (whole text)) (degree_digits kind + 2) count) (is_less (minutes kind text) 60 (subst (λ k. k < 60) (sym m) w.below))
    (is_most (angle kind text) (most_degrees kind * 600000000) (subst (λ k. k ≤ most_degrees kind * 600000000) (sym sum) w.within)))
    sum

angle_written : (kind : Coordinate) (text : List ℕ) (n : ℕ) → angle_of kind text ≡ Some n → WritesAngle kind text n
unfolding angle_of is_decimal
angle_written kind text n e =
    let t = taken (is_sound (whole text) (decimals text) && (length (whole text) == degree_digits kind + 2 && (nat_lt (minutes kind text) 60 && nat_le (angle kind text) (most_degrees kind * 600000000)))) (angle kind text) n e in
    let a = all_four (is_sound (whole text) (decimals text)) (length (whole text) == degree_digits kind + 2) (nat_lt (minutes kind text) 60) (nat_le (angle kind text) (most_degrees kind * 600000000)) t.0 in
    let s = all_four (nat_lt 0 (length (whole text))) (list_all is_ascii_digit (whole text)) (list_all is_ascii_digit (decimals text)) (nat_le (length (whole text) + length (decimals text)) 20) a.0 in
    let count : length (whole text) ≡ degree_digits kind + 2 = equal (length (whole text)) (degree_digits kind + 2) a.1 in
    let few : length (whole text) + length (decimals text) ≤ 20 = most (length (whole text) + length (decimals text)) 20 s.3 in
    let degrees = take (degree_digits kind) (whole text) in
    let rest = drop (degree_digits kind) (whole text) in
    let joined : degrees ++ rest ≡ whole text = take-append-drop (degree_digits kind) (whole text) in
    let digits : list_all is_ascii_digit (degrees ++ rest) ≡ true = ap (list_all is_ascii_digit) joined ∙ s.1 in
    let b = both (list_all is_ascii_digit degrees) (list_all is_ascii_digit rest) (sym (list_all-append is_ascii_digit degrees rest) ∙ digits) in
    let first_count : length degrees ≡ degree_digits kind = length-take-le (degree_digits kind) (whole text) (omega (arith, count)) in
    let rest_count : length rest ≡ 2 = length-drop (degree_digits kind) (whole text) ∙ omega (arith, count) in
    let d : number degrees ≡ place_value degrees = number_is degrees (omega (arith, first_count, count, few)) b.0 in
    let m : minutes kind text ≡ place_value rest = number_is rest (omega (arith, rest_count)) b.1 in
    let comes = kept_comes (place_value degrees * 60 + place_value rest) (decimals text) (omega (arith, count, few)) s.2 in
    let sum : (place_value degrees * 60 + place_value rest) * 10 ^ 7 + kept 7 (decimals text) ≡ n =
    sym (same_sum (number degrees) (place_value degrees) (minutes kind text) (place_value rest) (kept 7 (decimals text)) (kept 7 (decimals text)) d m refl) ∙ t.1 in
    record {
      degrees = degrees;
      minutes = rest;
      decimals = decimals text;
      joined = subst (λ w. IsPointed text w (decimals text)) (sym joined) (pointed text);
      whole = digits;
      part = s.2;
      degree_count = first_count;
      minute_count = rest_count;
      few = omega (arith, first_count, rest_count, count, few);
      below = subst (λ k. k < 60) m (less (minutes kind text) 60 a.2);
      value = subst (ComesTo (place_value degrees * 60 + place_value rest) (length (decimals text)) (place_value (decimals text))) sum comes;
      within = subst (λ k. k ≤ most_degrees kind * 600000000) t.1 (most (angle kind text) (most_degrees kind * 600000000) a.3);
    }

-- ---- letters

sign_read : (kind : Coordinate) (letter : List ℕ) (n : ℕ) (x : ℤ) → HasSign kind letter n x → (negative : Bool) × (is_negative_of kind letter ≡ Some negative) × (signed negative n ≡ x)
sign_read Latitude letter n x h =
    elim h [
      | inl s ↦ (false, ap (is_negative_of Latitude) s.0, sym s.1)
      | inr s ↦ (true, ap (is_negative_of Latitude) s.0, sym s.1)
    ]
sign_read Longitude letter n x h =
    elim h [
      | inl s ↦ (false, ap (is_negative_of Longitude) s.0, sym s.1)
      | inr s ↦ (true, ap (is_negative_of Longitude) s.0, sym s.1)
    ]

sign_written : (kind : Coordinate) (letter : List ℕ) (negative : Bool) (n : ℕ) → is_negative_of kind letter ≡ Some negative → HasSign kind letter n (signed negative n)
sign_written kind [] negative n e = absurd cc
sign_written kind (c ∷ d ∷ more) negative n e = absurd cc
sign_written kind (c ∷ []) negative n e = by_test (c == positive_letter kind) (c == negative_letter kind) refl refl e
  where
    by_test : (p q : Bool) → (c == positive_letter kind) ≡ p → (c == negative_letter kind) ≡ q
        → (if p then Some false else if q then Some true else None) ≡ Some negative → HasSign kind (c ∷ []) n (signed negative n)
    by_test true q is other e =
        let sign : false ≡ negative = cc in
        inl (ap (λ b. b ∷ []) (equal c (positive_letter kind) is), ap (λ b. signed b n) (sym sign))
    by_test false true other is e =
        let sign : true ≡ negative = cc in
        inr (ap (λ b. b ∷ []) (equal c (negative_letter kind) is), ap (λ b. signed b n) (sym sign))
    by_test false false none other e = absurd cc

-- ---- coordinates

abbrev coordinate_by : Coordinate → ℕ → List ℕ → List ℕ → Result ℤ Skip
coordinate_by kind k text letter =
    or_bad k (angle_of kind text) >>= λ angle. (or_bad (k + 1) (is_negative_of kind letter) >>= λ negative. Ok (signed negative angle))

coordinate_read : (kind : Coordinate) (k : ℕ) (text letter : List ℕ) (x : ℤ) → NamesCoordinate kind text letter x → coordinate_by kind k text letter ≡ Ok x
coordinate_read kind k text letter x s =
    let sign = sign_read kind letter s.size x s.sign in
    onward (or_bad k (angle_of kind text)) (λ angle. (or_bad (k + 1) (is_negative_of kind letter) >>= λ negative. Ok (signed negative angle))) s.size (Ok x)
    (ap (or_bad k) (angle_read kind text s.size s.angle))
    (onward (or_bad (k + 1) (is_negative_of kind letter)) (λ negative. Ok (signed negative s.size)) sign.0 (Ok x) (ap (or_bad (k + 1)) sign.1) (ap (λ y. Ok y) sign.2))

coordinate_written : (kind : Coordinate) (k : ℕ) (text letter : List ℕ) (x : ℤ) → coordinate_by kind k text letter ≡ Ok x → NamesCoordinate kind text letter x
coordinate_written kind k text letter x e =
    let n = bound (or_bad k (angle_of kind text)) (λ angle. (or_bad (k + 1) (is_negative_of kind letter) >>= λ negative. Ok (signed negative angle))) x e in
    let s = bound (or_bad (k + 1) (is_negative_of kind letter)) (λ negative. Ok (signed negative n.0)) x n.2 in
    record {
      size = n.0;
      angle = angle_written kind text n.0 (not_bad k (angle_of kind text) n.0 n.1);
      sign = subst (HasSign kind letter n.0) (ok_is s.2) (sign_written kind letter s.0 n.0 (not_bad (k + 1) (is_negative_of kind letter) s.0 s.1));
    }

-- ---- the quality

abbrev quality_by : List ℕ → Result (Unit {0}) Skip
quality_by text = or_bad 6 (is_fix_of text) >>= λ is. valid_of is

quality_read : (q : ℕ) → 49 ≤ q → q ≤ 53 → quality_by (q ∷ []) ≡ Ok tt
quality_read q low high = by_tests (nat_le 49 q) (nat_le q 53) (q == 48 || nat_le 54 q && nat_le q 56) (is_most 49 q low) (is_most q 53 high)
  where
    by_tests : (a b c : Bool) → a ≡ true → b ≡ true
        → ◌≡◌ {A = Result (Unit {0}) Skip} (or_bad 6 (if a && b then Some true else if c then Some false else None) >>= λ is. valid_of is) (Ok tt)
    by_tests true true c e f = refl
    by_tests true false c e f = absurd cc
    by_tests false b c e f = absurd cc

quality_written : (text : List ℕ) (u : Unit {0}) → quality_by text ≡ Ok u → (q : ℕ) × (text ≡ q ∷ []) × (49 ≤ q) × (q ≤ 53)
quality_written [] u e = absurd cc
quality_written (q ∷ r ∷ more) u e = absurd cc
quality_written (q ∷ []) u e =
    let t = by_test (nat_le 49 q) (nat_le q 53) (q == 48 || nat_le 54 q && nat_le q 56) e in (q, refl, most 49 q t.0, most q 53 t.1)
  where
    by_test : (low high other : Bool)
        → ◌≡◌ {A = Result (Unit {0}) Skip} (or_bad 6 (if low && high then Some true else if other then Some false else None) >>= λ is. valid_of is) (Ok u)
        → (low ≡ true) × (high ≡ true)
    by_test true true other e = (refl, refl)
    by_test true false true e = absurd cc
    by_test true false false e = absurd cc
    by_test false high true e = absurd cc
    by_test false high false e = absurd cc

-- ---- the fix

abbrev fix_by : List ℕ → List ℕ → List ℕ → List ℕ → List ℕ → Result Reading Skip
fix_by a b c d quality =
    quality_by quality >>= λ valid. (coordinate_by Latitude 2 a b >>= λ lat. (coordinate_by Longitude 4 c d >>= λ lon. Ok (Fix lat lon)))

fix_is : (time a b c d quality : List ℕ) (more : List (List ℕ)) → fix_of (time ∷ a ∷ b ∷ c ∷ d ∷ quality ∷ more) ≡ fix_by a b c d quality
unfolding fix_of coordinate_of
fix_is time a b c d quality more = refl

read : (fields : List (List ℕ)) (lat lon : ℤ) → NamesPlace fields lat lon → fix_of fields ≡ Ok (Fix lat lon)
read fields lat lon s =
    ap fix_of s.all ∙ (fix_is s.time s.lat_text s.lat_letter s.lon_text s.lon_letter (s.quality ∷ []) s.more
    ∙ onward (quality_by (s.quality ∷ [])) (λ valid. (coordinate_by Latitude 2 s.lat_text s.lat_letter >>= λ lat. (coordinate_by Longitude 4 s.lon_text s.lon_letter >>= λ lon. Ok (Fix lat lon)))) tt (Ok (Fix lat lon))
    (quality_read s.quality s.low s.high)
    (onward (coordinate_by Latitude 2 s.lat_text s.lat_letter) (λ lat. (coordinate_by Longitude 4 s.lon_text s.lon_letter >>= λ lon. Ok (Fix lat lon))) lat (Ok (Fix lat lon))
    (coordinate_read Latitude 2 s.lat_text s.lat_letter lat s.latitude)
    (onward (coordinate_by Longitude 4 s.lon_text s.lon_letter) (λ lon. Ok (Fix lat lon)) lon (Ok (Fix lat lon))
    (coordinate_read Longitude 4 s.lon_text s.lon_letter lon s.longitude) refl)))

abbrev IsNamed : List (List ℕ) → Reading → Type 0
IsNamed fields fix = (lat : ℤ) × (lon : ℤ) × (fix ≡ Fix lat lon) × NamesPlace fields lat lon

six_written : (time a b c d quality : List ℕ) (more : List (List ℕ)) (fix : Reading) → fix_by a b c d quality ≡ Ok fix → IsNamed (time ∷ a ∷ b ∷ c ∷ d ∷ quality ∷ more) fix
six_written time a b c d quality more fix e =
    let v = bound (quality_by quality) (λ valid. (coordinate_by Latitude 2 a b >>= λ lat. (coordinate_by Longitude 4 c d >>= λ lon. Ok (Fix lat lon)))) fix e in
    let lat = bound (coordinate_by Latitude 2 a b) (λ lat. (coordinate_by Longitude 4 c d >>= λ lon. Ok (Fix lat lon))) fix v.2 in
    let lon = bound (coordinate_by Longitude 4 c d) (λ lon. Ok (Fix lat.0 lon)) fix lat.2 in
    let q = quality_written quality v.0 v.1 in (
      lat.0,
      lon.0,
      sym (ok_is lon.2),
      record {
        time = time;
        lat_text = a;
        lat_letter = b;
        lon_text = c;
        lon_letter = d;
        quality = q.0;
        more = more;
        all = ap (λ t. time ∷ a ∷ b ∷ c ∷ d ∷ t ∷ more) q.1;
        latitude = coordinate_written Latitude 2 a b lat.0 lat.1;
        longitude = coordinate_written Longitude 4 c d lon.0 lon.1;
        low = q.2;
        high = q.3;
      },
    )

written : (fields : List (List ℕ)) (fix : Reading) → fix_of fields ≡ Ok fix → IsNamed fields fix
unfolding fix_of coordinate_of
written [] fix e = absurd cc
written (a ∷ []) fix e = absurd cc
written (a ∷ b ∷ []) fix e = absurd cc
written (a ∷ b ∷ c ∷ []) fix e = absurd cc
written (a ∷ b ∷ c ∷ d ∷ []) fix e = absurd cc
written (a ∷ b ∷ c ∷ d ∷ h ∷ []) fix e = absurd cc
written (time ∷ a ∷ b ∷ c ∷ d ∷ quality ∷ more) fix e = six_written time a b c d quality more fix e

pub fix_is_named : FixIsNamed
fix_is_named = record { written = written; read = read }
