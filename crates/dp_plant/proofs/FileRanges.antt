-- What the table of keys reads of vessel, references, wind and thrusters is within the ranges of the file.
use Rattle.std.proofs.Common.{◌≡◌, ℕ, zero, suc, ◌+◌, ◌-◌, ◌^◌, ◌≤◌, ◌<◌, List, [], ◌∷◌, length, Bool, true, false, ◌&&◌, nat_le, if◌then◌else◌, Option, Some, None, Result, Ok, Err, refl, sym, ap, subst, ◌∙◌, arith, ℤ, pos, neg_ℤ, ◌*ℤ◌, ◌≤ℤ◌, ◌<ℤ◌, codes}
use Rattle.std.specs.Prelude.{unsigned_abs, All, option_and_then, option_map, replicate}
use Rattle.std.specs.List.{list_all}
use Rattle.std.proofs.lemmas.Int.{ints}
use Rattle.std.proofs.lemmas.Bool.{and_parts, leb-true}
use Rattle.std.proofs.lemmas.List.{get_or_past}
use Rattle.std.proofs.lemmas.List.Elements.{All-nil, All-cons}
use Rattle.toml.specs.Data.{Data, Items, no_items, item, as_array, as_integer}
use Rattle.dp_plant.specs.Keys.{◌>>=◌, AreBetween, Fault, Section, about, all_some, are_within, between as from_to, count, count_at, down_to, each_from, found, indexed, is_within, listed, number_at, numbers_at, of_kind, plain, rows, rows_at, tables, tables_at, up_to, whole_at, wholes, wholes_at}
use Rattle.dp_plant.specs.PlantFile.{ref_at, refs_at, setpoint_of, spot, thruster_at, thrusters_at, vessel_at, wind_at}
use Rattle.dp_plant.specs.PlantRanges.{AreMasses, AreRefLimits, AreWindShares, IsLever, IsMass, IsOriginWithin, IsSetpointWithin, IsThrusterWithin}
use Rattle.dp_plant.specs.Vectors.{entry}
use Rattle.dp_plant.specs.declared.file.references.Reference.{Reference}
use Rattle.dp_plant.specs.declared.file.vessel.Vessel.{Vessel}
use Rattle.dp_plant.specs.declared.thrusters.Thruster.{Thruster}
use Rattle.dp_plant.specs.declared.wind.WindTable.{WindTable}
use Rattle.dp_plant.proofs.Between.{between, both_from}

-- what a chain that ends well went through
pub chain_ok : {A B : Type 0} (r : Result A Fault) (f : A → Result B Fault) (y : B) → (r >>= f) ≡ Ok y → (x : A) × ((r ≡ Ok x) × (f x ≡ Ok y))
chain_ok (Ok x) f y h = (x, (refl, h))
chain_ok (Err e) f y h = absurd (cc)

abbrev value_of : {A : Type 0} → A → Result A Fault → A
value_of z (Ok x) = x
value_of z (Err e) = z

abbrev pub good : {A : Type 0} → A → Result A Fault
good x = Ok x

pub ok_is : {A : Type 0} (x y : A) → good x ≡ good y → x ≡ y
ok_is x y h = ap (value_of x) h

abbrev some_or : {A : Type 0} → A → Option A → A
some_or z (Some x) = x
some_or z None = z

pub judged_ok : {A : Type 0} (b : Bool) (key : Fault) (x y : A) → (if b then good x else Err key) ≡ good y → (b ≡ true) × (x ≡ y)
judged_ok true key x y h = (refl, ok_is x y h)
judged_ok false key x y h = absurd (cc)

pub whole_within : (s : Section) (name : List ℕ) (low high z : ℤ) → whole_at s name (low, high) ≡ Ok z → (low ≤ℤ z) × (z ≤ℤ high)
unfolding whole_at
whole_within s name low high z h =
    let (n, (read, last)) = chain_ok (number_at s name) _ z h in
    let (fits, same) = judged_ok (is_within (low, high) n) _ n z last in
    subst (λ x. (low ≤ℤ x) × (x ≤ℤ high)) same (both_from low high n fits)

pub count_within : (s : Section) (name : List ℕ) (low high n : ℕ) → count_at s name (pos low, pos high) ≡ Ok n → (low ≤ n) × (n ≤ high)
unfolding count_at
count_within s name low high n h =
    let (z, (read, last)) = chain_ok (whole_at s name (pos low, pos high)) _ n h in
    let w = whole_within s name (pos low) (pos high) z read in
    let e = ok_is (unsigned_abs z) n last in
    subst (λ k. (low ≤ k) × (k ≤ high)) e (omega (arith, ints, w.0, w.1), omega (arith, ints, w.0, w.1))

-- ---- how much is read

cons_long : {A : Type 0} (o : Option A) (r : Option (List A)) (n : ℕ) (xs : List A) → ((ys : List A) → r ≡ Some ys → length ys ≡ n)
    → option_and_then (λ x. option_map (λ ys. x ∷ ys) r) o ≡ Some xs → length xs ≡ n + 1
cons_long None r n xs rest h = absurd (cc)
cons_long (Some x) None n xs rest h = absurd (cc)
cons_long (Some x) (Some ys) n xs rest h = let e = rest ys refl in ap length (sym (ap (some_or []) h)) ∙ omega (arith, e)

all_long : {A : Type 0} (one : Data → Option A) (ds : Items) (xs : List A) → all_some one ds ≡ Some xs → length xs ≡ count ds
all_long one no_items xs h = ap length (sym (ap (some_or []) h))
all_long one (item d ds) xs h = cons_long (one d) (all_some one ds) (count ds) xs (all_long one ds) h

module _ {A : Type 0} (least most : ℕ) (one : Data → Option A) where
  counted : (b : Bool) (r : Option (List A)) (xs : List A) → (if b then r else None) ≡ Some xs → (b ≡ true) × (r ≡ Some xs)
  counted true r xs h = (refl, h)
  counted false r xs h = absurd (cc)

  of_items : (o : Option Items) (xs : List A) → option_and_then (λ ds. if nat_le least (count ds) && nat_le (count ds) most then all_some one ds else None) o ≡ Some xs
      → (ds : Items) × ((all_some one ds ≡ Some xs) × ((least ≤ count ds) × (count ds ≤ most)))
  of_items None xs h = absurd (cc)
  of_items (Some ds) xs h =
      let (fits, read) = counted (nat_le least (count ds) && nat_le (count ds) most) (all_some one ds) xs h in
      let both = and_parts (nat_le least (count ds)) (nat_le (count ds) most) fits in
      (ds, (read, (leb-true least (count ds) both.0, leb-true (count ds) most both.1)))

  pub listed_ok : (d : Data) (xs : List A) → listed least most one d ≡ Some xs → (ds : Items) × ((all_some one ds ≡ Some xs) × ((least ≤ count ds) × (count ds ≤ most)))
  unfolding listed
  listed_ok d xs h = of_items (as_array d) xs h

pub wholes_long : (n : ℕ) (d : Data) (zs : List ℤ) → wholes n d ≡ Some zs → length zs ≡ n
wholes_long n d zs h =
    let (ds, (read, fits)) = listed_ok n n as_integer d zs h in
    all_long as_integer ds zs read ∙ omega (arith, fits.0, fits.1)

module _ {A : Type 0} (key : List ℕ) (shape : Data → Option A) where
  kind_ok : (o : Option A) (x : A) → of_kind key o ≡ Ok x → o ≡ Some x
  kind_ok None x h = absurd (cc)
  kind_ok (Some y) x h = ap Some (ok_is y x h)

  pub found_ok : (o : Option Data) (x : A) → found key shape o ≡ Ok x → (d : Data) × (shape d ≡ Some x)
  found_ok None x h = absurd (cc)
  found_ok (Some d) x h = (d, kind_ok (shape d) x h)

pub wholes_within : (s : Section) (name : List ℕ) (bounds : List (ℤ × ℤ)) (zs : List ℤ) → wholes_at s name bounds ≡ Ok zs → AreBetween bounds (entry zs)
unfolding wholes_at numbers_at
wholes_within s name bounds zs h =
    let (ys, (read, last)) = chain_ok (numbers_at s name (length bounds)) _ zs h in
    let (d, shaped) = found_ok _ (wholes (length bounds)) _ ys read in
    let (fits, same) = judged_ok (are_within bounds ys) _ ys zs last in
    subst (λ xs. AreBetween bounds (entry xs)) same (between bounds ys (wholes_long (length bounds) d ys shaped) fits)

pub wholes_at_long : (s : Section) (name : List ℕ) (bounds : List (ℤ × ℤ)) (zs : List ℤ) → wholes_at s name bounds ≡ Ok zs → length zs ≡ length bounds
unfolding wholes_at numbers_at
wholes_at_long s name bounds zs h =
    let (ys, (read, last)) = chain_ok (numbers_at s name (length bounds)) _ zs h in
    let (d, shaped) = found_ok _ (wholes (length bounds)) _ ys read in
    let (fits, same) = judged_ok (are_within bounds ys) _ ys zs last in
    subst (λ xs. length xs ≡ length bounds) same (wholes_long (length bounds) d ys shaped)

-- ---- lists of what is read

module _ {A : Type 0} (P : A → Type 0) where
  cons_each : (o : Option A) (r : Option (List A)) (xs : List A) → ((x : A) → o ≡ Some x → P x) → ((ys : List A) → r ≡ Some ys → All P ys)
      → option_and_then (λ x. option_map (λ ys. x ∷ ys) r) o ≡ Some xs → All P xs
  cons_each None r xs here rest h = absurd (cc)
  cons_each (Some x) None xs here rest h = absurd (cc)
  cons_each (Some x) (Some ys) xs here rest h = subst (All P) (ap (some_or []) h) (All-cons P x ys (here x refl) (rest ys refl))

  pub all_each : (one : Data → Option A) → ((d : Data) (x : A) → one d ≡ Some x → P x) → (ds : Items) (xs : List A) → all_some one ds ≡ Some xs → All P xs
  all_each one each no_items xs h = subst (All P) (ap (some_or []) h) (All-nil P)
  all_each one each (item d ds) xs h = cons_each (one d) (all_some one ds) xs (each d) (all_each one each ds) h

  fits_each : (p : A → Bool) → ((x : A) → p x ≡ true → P x) → (xs : List A) → list_all p xs ≡ true → All P xs
  fits_each p each [] h = All-nil P
  fits_each p each (x ∷ xs) h = let q = and_parts (p x) (list_all p xs) h in All-cons P x xs (each x q.0) (fits_each p each xs q.1)

  pub each_within : (one : ℕ → Data → Result A Fault) → ((i : ℕ) (d : Data) (x : A) → one i d ≡ Ok x → P x) → (i : ℕ) (ds : List Data) (xs : List A) → each_from one i ds ≡ Ok xs → All P xs
  each_within one each i [] xs h = subst (All P) (ok_is [] xs h) (All-nil P)
  each_within one each i (d ∷ ds) xs h =
      let (x, (first, more)) = chain_ok (one i d) _ xs h in
      let (ys, (rest, last)) = chain_ok (each_from one (i + 1) ds) _ xs more in
      subst (All P) (ok_is (x ∷ ys) xs last) (All-cons P x ys (each i d x first) (each_within one each (i + 1) ds ys rest))

pub each_long : {A : Type 0} (one : ℕ → Data → Result A Fault) (i : ℕ) (ds : List Data) (xs : List A) → each_from one i ds ≡ Ok xs → length xs ≡ length ds
each_long one i [] xs h = ap length (sym (ok_is [] xs h))
each_long one i (d ∷ ds) xs h =
    let (x, (first, more)) = chain_ok (one i d) _ xs h in
    let (ys, (rest, last)) = chain_ok (each_from one (i + 1) ds) _ xs more in
    let e = each_long one (i + 1) ds ys rest in
    ap length (sym (ok_is (x ∷ ys) xs last)) ∙ omega (arith, e)

pub tables_few : (document : Option Data) (name : List ℕ) (least most : ℕ) (ds : List Data) → tables_at document name least most ≡ Ok ds → (least ≤ length ds) × (length ds ≤ most)
unfolding tables_at
tables_few document name least most ds h =
    let (d, shaped) = found_ok name (tables least most) _ ds h in
    let (items, (read, fits)) = listed_ok least most _ d ds shaped in
    let long = all_long _ items ds read in
    (omega (arith, long, fits.0), omega (arith, long, fits.1))

abs_within : (m : ℕ) (z : ℤ) → neg_ℤ (pos m) ≤ℤ z → z ≤ℤ pos m → unsigned_abs z ≤ m
abs_within m z low high = omega (arith, ints, low, high)

pub three_within : (m : ℕ) (row : List ℤ) → length row ≡ 3 → AreBetween (about m ∷ about m ∷ about m ∷ []) (entry row) → (axis : ℕ) → unsigned_abs (entry row axis) ≤ m
three_within m (x ∷ y ∷ z ∷ []) long w zero = abs_within m x w.0.0 w.0.1
three_within m (x ∷ y ∷ z ∷ []) long w (suc zero) = abs_within m y w.1.0.0 w.1.0.1
three_within m (x ∷ y ∷ z ∷ []) long w (suc (suc zero)) = abs_within m z w.1.1.0.0 w.1.1.0.1
three_within m (x ∷ y ∷ z ∷ []) long w (suc (suc (suc k))) = omega arith
three_within m [] long w axis = absurd (omega arith)
three_within m (x ∷ []) long w axis = absurd (omega arith)
three_within m (x ∷ y ∷ []) long w axis = absurd (omega arith)
three_within m (x ∷ y ∷ z ∷ u ∷ row) long w axis = absurd (omega arith)

-- a row of three numbers, each within a limit of zero
abbrev IsRowWithin : ℕ → List ℤ → Type 0
IsRowWithin m row = (length row ≡ 3) × ((axis : ℕ) → unsigned_abs (entry row axis) ≤ m)

pub rows_within : (s : Section) (name : List ℕ) (n m : ℕ) (rs : List (List ℤ)) → rows_at s name n (about m ∷ about m ∷ about m ∷ []) ≡ Ok rs
    → (length rs ≡ n) × All (IsRowWithin m) rs
unfolding rows_at
rows_within s name n m rs h =
    let bounds = about m ∷ about m ∷ about m ∷ [] in
    let (ys, (read, last)) = chain_ok (found _ (rows 3 n n) _) _ rs h in
    let (d, shaped) = found_ok _ (rows 3 n n) _ ys read in
    let (items, (each, fits)) = listed_ok n n (wholes 3) d ys shaped in
    let long = all_long (wholes 3) items ys each in
    let wide = all_each (λ r. length r ≡ 3) (wholes 3) (wholes_long 3) items ys each in
    let (within, same) = judged_ok (list_all (are_within bounds) ys) _ ys rs last in
    let fit = fits_each (λ r. are_within bounds r ≡ true) (are_within bounds) (λ r e. e) ys within in
    subst (λ xs. (length xs ≡ n) × All (IsRowWithin m) xs) same
    (omega (arith, long, fits.0, fits.1), λ k e lt. (wide k e lt, three_within m _ (wide k e lt) (between bounds _ (wide k e lt) (fit k e lt))))

-- ---- the tables

place_within : (z : ℤ) → neg_ℤ (pos 8796093) ≤ℤ z → z ≤ℤ pos 8796093 → unsigned_abs (z *ℤ pos 1000000) ≤ 2 ^ 43
place_within z low high = omega (arith, ints, low, high)

heading_low : (z : ℤ) → pos 0 ≤ℤ z → pos 0 ≤ℤ (z *ℤ pos 10000000)
heading_low z low = omega (arith, ints, low)

heading_high : (z : ℤ) → z ≤ℤ pos 35999 → (z *ℤ pos 10000000) <ℤ pos 360000000000
heading_high z high = omega (arith, ints, high)

setpoint_within : (zs : List ℤ) → AreBetween spot (entry zs) → IsSetpointWithin (setpoint_of zs)
setpoint_within zs w = record {
  place = record { north = place_within _ w.0.0 w.0.1; east = place_within _ w.1.0.0 w.1.0.1 };
  heading = record { low = heading_low _ w.1.1.0.0; high = heading_high _ w.1.1.0.1 };
}

mass_within : (z : ℤ) → pos 0 ≤ℤ z → z ≤ℤ pos 1099511627776 → IsMass z
mass_within z low high = record { low = low; high = omega (arith, ints, low, high) }

no_mass : IsMass (pos 0)
no_mass = record { low = omega (arith, ints); high = omega (arith, ints) }

-- past the end of an array there are zeros
masses_within : (zs : List ℤ) → length zs ≡ 3 → AreBetween (replicate 3 (up_to 1099511627776)) (entry zs) → AreMasses zs
masses_within zs long w zero = mass_within _ w.0.0 w.0.1
masses_within zs long w (suc zero) = mass_within _ w.1.0.0 w.1.0.1
masses_within zs long w (suc (suc zero)) = mass_within _ w.1.1.0.0 w.1.1.0.1
masses_within zs long w (suc (suc (suc k))) = rw (get_or_past zs (suc (suc (suc k))) (pos 0) (omega arith)) no_mass

pub record IsVesselWithin (v : Vessel) : Type 0 where
  pub version_low : 1 ≤ v.version
  pub version_high : v.version ≤ 2
  pub cycle_low : 100 ≤ v.cycle_ms
  pub cycle_high : v.cycle_ms ≤ 10000
  pub origin : IsOriginWithin v.origin
  pub start : IsSetpointWithin v.start
  pub setpoint : IsSetpointWithin v.setpoint
  pub groups_low : 1 ≤ v.groups
  pub groups_high : v.groups ≤ 8
  pub masses : AreMasses v.mass
  pub tolerances : AreMasses v.tol

pub vessel_within : (document : Option Data) (v : Vessel) → vessel_at document ≡ Ok v → IsVesselWithin v
unfolding vessel_at
vessel_within document v h =
    let s = plain document (codes "plant") in
    let masses = replicate 3 (up_to 1099511627776) in
    let (version, (a, h1)) = chain_ok (count_at s (codes "version") (from_to 1 2)) _ v h in
    let (cycle, (c, h2)) = chain_ok (count_at s (codes "cycle_ms") (from_to 100 10000)) _ v h1 in
    let (origin, (o, h3)) = chain_ok (wholes_at s (codes "origin") (about 53400000000 ∷ about 108000000000 ∷ [])) _ v h2 in
    let (start, (b, h4)) = chain_ok (wholes_at s (codes "start") spot) _ v h3 in
    let (setpoint, (e, h5)) = chain_ok (wholes_at s (codes "setpoint") spot) _ v h4 in
    let (groups, (g, h6)) = chain_ok (count_at s (codes "groups") (from_to 1 8)) _ v h5 in
    let (mass, (m, h7)) = chain_ok (wholes_at s (codes "mass") masses) _ v h6 in
    let (tol, (t, h8)) = chain_ok (wholes_at s (codes "tol") masses) _ v h7 in
    let versions = count_within s (codes "version") 1 2 version a in
    let cycles = count_within s (codes "cycle_ms") 100 10000 cycle c in
    let counts = count_within s (codes "groups") 1 8 groups g in
    let w = wholes_within s (codes "origin") (about 53400000000 ∷ about 108000000000 ∷ []) origin o in
    subst IsVesselWithin (ok_is _ v h8) (record {
      version_low = versions.0;
      version_high = versions.1;
      cycle_low = cycles.0;
      cycle_high = cycles.1;
      origin = record { latitude = abs_within 53400000000 _ w.0.0 w.0.1; longitude = abs_within 108000000000 _ w.1.0.0 w.1.0.1 };
      start = setpoint_within start (wholes_within s (codes "start") spot start b);
      setpoint = setpoint_within setpoint (wholes_within s (codes "setpoint") spot setpoint e);
      groups_low = counts.0;
      groups_high = counts.1;
      masses = masses_within mass (wholes_at_long s (codes "mass") masses mass m) (wholes_within s (codes "mass") masses mass m);
      tolerances = masses_within tol (wholes_at_long s (codes "tol") masses tol t) (wholes_within s (codes "tol") masses tol t);
    })

jump_within : (z : ℤ) → pos 0 ≤ℤ z → z ≤ℤ pos 1000000 → (pos 0 ≤ℤ (z *ℤ pos 1000000)) × ((z *ℤ pos 1000000) ≤ℤ pos (10 ^ 12))
jump_within z low high = (omega (arith, ints, low), omega (arith, ints, high))

pub record IsReferenceWithin (r : Reference) : Type 0 where
  pub limits : AreRefLimits r.limits
  pub lever : IsLever r.lever

ref_within : (i : ℕ) (d : Data) (r : Reference) → ref_at i d ≡ Ok r → IsReferenceWithin r
unfolding ref_at
ref_within i d r h =
    let s = indexed (codes "ref") i d in
    let (window, (a, h1)) = chain_ok (count_at s (codes "window") (from_to 4 32)) _ r h in
    let (jump, (b, h2)) = chain_ok (whole_at s (codes "jump_mm") (up_to 1000000)) _ r h1 in
    let (noise, (c, h3)) = chain_ok (whole_at s (codes "noise_mm2") (up_to 1000000000000)) _ r h2 in
    let (age, (e, h4)) = chain_ok (count_at s (codes "age") (up_to 60)) _ r h3 in
    let (lever, (g, h5)) = chain_ok (wholes_at s (codes "lever") (about 500000 ∷ about 500000 ∷ [])) _ r h4 in
    let windows = count_within s (codes "window") 4 32 window a in
    let jumps = whole_within s (codes "jump_mm") (pos 0) (pos 1000000) jump b in
    let nm = jump_within jump jumps.0 jumps.1 in
    let noises = whole_within s (codes "noise_mm2") (pos 0) (pos 1000000000000) noise c in
    let ages = count_within s (codes "age") 0 60 age e in
    let w = wholes_within s (codes "lever") (about 500000 ∷ about 500000 ∷ []) lever g in
    subst IsReferenceWithin (ok_is _ r h5) (record {
      limits = record {
        window_low = windows.0;
        window_high = windows.1;
        jump_low = nm.0;
        jump_high = nm.1;
        noise_low = noises.0;
        noise_high = noises.1;
        age = ages.1;
      };
      lever = record { ahead = abs_within 500000 _ w.0.0 w.0.1; starboard = abs_within 500000 _ w.1.0.0 w.1.0.1 };
    })

pub refs_within : (document : Option Data) (rs : List Reference) → refs_at document ≡ Ok rs → All IsReferenceWithin rs
unfolding refs_at
refs_within document rs h =
    let (ds, (t, last)) = chain_ok (tables_at document (codes "ref") 3 3) _ rs h in
    each_within IsReferenceWithin ref_at ref_within 0 ds rs last

pub refs_three : (document : Option Data) (rs : List Reference) → refs_at document ≡ Ok rs → length rs ≡ 3
unfolding refs_at
refs_three document rs h =
    let (ds, (t, last)) = chain_ok (tables_at document (codes "ref") 3 3) _ rs h in
    let count = tables_few document (codes "ref") 3 3 ds t in
    let long = each_long ref_at 0 ds rs last in
    omega (arith, long, count.0, count.1)

pub wind_within : (document : Option Data) (w : WindTable) → wind_at document ≡ Ok w → All AreWindShares w.push
unfolding wind_at
wind_within document w h =
    let s = plain document (codes "wind") in
    let (push, (p, last)) = chain_ok (rows_at s (codes "push") 12 (about 16777216 ∷ about 16777216 ∷ about 16777216 ∷ [])) _ w h in
    let rows = rows_within s (codes "push") 12 16777216 push p in
    subst (λ (x : WindTable). All AreWindShares x.push) (ok_is _ w last) (λ k e lt. (rows.1 k e lt).1)

pub force_low : (z : ℤ) → neg_ℤ (pos 2147483648) ≤ℤ z → z ≤ℤ pos 0 → unsigned_abs z ≤ 2 ^ 31
force_low z low high = omega (arith, ints, low, high)

pub force_high : (z : ℤ) → pos 0 ≤ℤ z → z ≤ℤ pos 2147483648 → unsigned_abs z ≤ 2 ^ 31
force_high z low high = omega (arith, ints, low, high)

pub yaw_low : (z : ℤ) → neg_ℤ (pos 274877906944) ≤ℤ z → z ≤ℤ pos 0 → unsigned_abs z ≤ 2 ^ 38
yaw_low z low high = omega (arith, ints, low, high)

pub yaw_high : (z : ℤ) → pos 0 ≤ℤ z → z ≤ℤ pos 274877906944 → unsigned_abs z ≤ 2 ^ 38
yaw_high z low high = omega (arith, ints, low, high)

-- an arm of two numbers; past the end there are zeros
arm_within : (zs : List ℤ) → length zs ≡ 2 → AreBetween (about 500000 ∷ about 500000 ∷ []) (entry zs) → (axis : ℕ) → unsigned_abs (entry zs axis) ≤ 500000
arm_within zs long w zero = abs_within 500000 _ w.0.0 w.0.1
arm_within zs long w (suc zero) = abs_within 500000 _ w.1.0.0 w.1.0.1
arm_within zs long w (suc (suc k)) = rw (get_or_past zs (suc (suc k)) (pos 0) (omega arith)) (omega (arith, ints))

-- a thruster of one of the groups
record IsOfGroups (groups : ℕ) (t : Thruster) : Type 0 where
  within : IsThrusterWithin t
  member : t.group < groups

thruster_within : (groups : ℕ) → 1 ≤ groups → groups ≤ 8 → (i : ℕ) (d : Data) (t : Thruster) → thruster_at groups i d ≡ Ok t → IsOfGroups groups t
unfolding thruster_at
thruster_within groups some few i d t h =
    let arms = about 500000 ∷ about 500000 ∷ [] in
    let s = indexed (codes "thruster") i d in
    let (group, (a, h1)) = chain_ok (count_at s (codes "group") (up_to (groups - 1))) _ t h in
    let (place, (b, h2)) = chain_ok (wholes_at s (codes "at") arms) _ t h1 in
    let (azimuth, (c, h3)) = chain_ok (count_at s (codes "azimuth") (up_to 35999)) _ t h2 in
    let (least, (e, h4)) = chain_ok (whole_at s (codes "min") (down_to 2147483648)) _ t h3 in
    let (most, (g, h5)) = chain_ok (whole_at s (codes "max") (up_to 2147483648)) _ t h4 in
    let in_group = count_within s (codes "group") 0 (groups - 1) group a in
    let angle = count_within s (codes "azimuth") 0 35999 azimuth c in
    let lows = whole_within s (codes "min") (neg_ℤ (pos 2147483648)) (pos 0) least e in
    let highs = whole_within s (codes "max") (pos 0) (pos 2147483648) most g in
    subst (IsOfGroups groups) (ok_is _ t h5) (record {
      within = record {
        group = omega (arith, some, few, in_group.1);
        arm = arm_within place (wholes_at_long s (codes "at") arms place b) (wholes_within s (codes "at") arms place b);
        azimuth = omega (arith, angle.1);
        below = lows.1;
        above = highs.0;
        low = force_low least lows.0 lows.1;
        high = force_high most highs.0 highs.1;
      };
      member = omega (arith, some, in_group.1);
    })

pub record AreThrusters (groups : ℕ) (ts : List Thruster) : Type 0 where
  pub each : All IsThrusterWithin ts
  pub members : All (λ t. t.group < groups) ts
  pub some : 1 ≤ length ts
  pub few : length ts ≤ 12

pub thrusters_within : (document : Option Data) (groups : ℕ) (ts : List Thruster) → 1 ≤ groups → groups ≤ 8 → thrusters_at document groups ≡ Ok ts → AreThrusters groups ts
unfolding thrusters_at
thrusters_within document groups ts some few h =
    let (ds, (t, each)) = chain_ok (tables_at document (codes "thruster") 1 12) _ ts h in
    let long = each_long (thruster_at groups) 0 ds ts each in
    let count = tables_few document (codes "thruster") 1 12 ds t in
    let all = each_within (IsOfGroups groups) (thruster_at groups) (thruster_within groups some few) 0 ds ts each in
    record {
      each = λ k e lt. (all k e lt).within;
      members = λ k e lt. (all k e lt).member;
      some = omega (arith, long, count.0);
      few = omega (arith, long, count.1);
    }
