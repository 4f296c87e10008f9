-- A ring and its sums, when a place comes in and when the oldest falls out.
use Rattle.std.proofs.Common.{◌≡◌, ℕ, zero, suc, ◌+◌, ◌-◌, ◌≤◌, List, [], ◌∷◌, ◌++◌, length, drop, Option, Some, None, Bool, true, false, ◌<◌, refl, sym, ap, subst, ◌∙◌, arith}
use Rattle.std.specs.Prelude.{ℤ, pos, ◌+ℤ◌, ◌-ℤ◌, ◌^◌, slice_get, IfSome, nat_lt, if◌then◌else◌}
use Rattle.std.proofs.lemmas.Bool.{le-ltb}
use Rattle.std.proofs.lemmas.Int.{ints}
use Rattle.std.proofs.lemmas.List.{length-append}
use Rattle.circular_buffer.specs.Buffer.{Buffer, buffer, last_item, keep_last}
use Rattle.dp_plant.specs.declared.place.Place.{Place}
use Rattle.dp_plant.specs.Ranges.{IsVectorWithin}
use Rattle.dp_reftest.proofs.Adding.{first_counts, last_is_newest, same_sums, sums_of-push, sums_of-first}
use Rattle.dp_reftest.proofs.Spreads.{are_sums}
use Rattle.dp_reftest.specs.declared.sums.Sums.{Sums}
use Rattle.dp_reftest.specs.Running.{IsRunning, first_of, pair, with_more, with_less}
use Rattle.dp_reftest.specs.Totals.{AreSums, EndsIn, is_same, square_of, sums_of}
use Rattle.dp_reftest.specs.Verdict.{is_jump, newest_from}
use Rattle.dp_reftest.specs.Window.{AreNear}

newest-near : (a : Place) (xs : List Place) → AreNear (a ∷ xs) → IsVectorWithin (2 ^ 43) (newest_from a xs)
newest-near a [] near = near.0
newest-near a (b ∷ xs) near = newest-near b xs near.1

pub last_near : (ps : List Place) → AreNear ps → IfSome (last_item ps) (IsVectorWithin (2 ^ 43))
last_near [] near = tt
last_near (p ∷ ps) near = subst (λ o. IfSome o (IsVectorWithin (2 ^ 43))) (sym (last_is_newest p ps)) (newest-near p ps near)

pub near_push : (ps : List Place) (p : Place) → AreNear ps → IsVectorWithin (2 ^ 43) p → AreNear (ps ++ p ∷ [])
near_push [] p near one = (one, tt)
near_push (q ∷ ps) p near one = (near.0, near_push ps p near.1 one)

pub near_drop : (n : ℕ) (ps : List Place) → AreNear ps → AreNear (drop n ps)
near_drop zero ps near = near
near_drop (suc n) [] near = near
near_drop (suc n) (p ∷ ps) near = near_drop n ps near.1

module _ (limit : ℤ) (a : Buffer Place) (s : Sums) (run : IsRunning limit a s) where
  pub sums_are : AreSums s
  sums_are = subst AreSums (sym run.kept) (are_sums limit a.items run.near)

  pub counted : s.n ≡ length a.items
  unfolding sums_of
  counted = ap (λ (t : Sums). t.n) run.kept

  pub few : s.n ≤ 32
  few = omega (arith, counted, run.few, run.capacity)

  pub entered : (b : Buffer Place) (t : Sums) (p : Place) → IsVectorWithin (2 ^ 43) p → length a.items < a.capacity → b ≡ buffer (a.items ++ p ∷ []) a.capacity → t ≡ with_more limit (last_item a.items) p s → IsRunning limit b t
  entered b t p near room is more =
      let fresh : IsRunning limit (buffer (a.items ++ p ∷ []) a.capacity) t = record {
        kept = more ∙ ap (with_more limit (last_item a.items) p) run.kept ∙ sym (sums_of-push limit a.items p);
        near = near_push a.items p run.near near;
        few = omega (arith, length-append a.items (p ∷ []), room);
        capacity = run.capacity;
      } in
      subst (λ (v : Buffer Place). IsRunning limit v t) (sym is) fresh

pub keep_all : (n : ℕ) (ps : List Place) → length ps ≤ n → keep_last n ps ≡ ps
keep_all n ps le = let none : length ps - n ≡ 0 = omega arith in ap (λ (k : ℕ). drop k ps) none

pub opened : (ps : List Place) (p : Place) → slice_get ps 0 ≡ Some p → ps ≡ p ∷ drop 1 ps
opened [] p e = absurd cc
opened (q ∷ ps) p e = cc

pub first_is : (ps : List Place) → slice_get ps 0 ≡ first_of ps
first_is [] = refl
first_is (p ∷ ps) = refl

pub first_near : (p : Place) (ps : List Place) → AreNear (p ∷ ps) → IfSome (first_of ps) (IsVectorWithin (2 ^ 43))
first_near p [] near = tt
first_near p (q ∷ ps) near = near.1.0

-- ---- a place comes into a full ring, and the oldest falls out
last-given : (p : Place) (xs : List Place) → 0 < length xs → EndsIn p xs → last_item xs ≡ Some p
last-given p [] some e = absurd (omega (arith, some))
last-given p (a ∷ xs) some e = last_is_newest a xs ∙ ap (λ (q : Place). Some q) e

module _ (limit : ℤ) (a : Buffer Place) (s : Sums) (p newest oldest : Place) (run : IsRunning limit a s) (near : IsVectorWithin (2 ^ 43) p) (some : 0 < a.capacity) (full : length a.items ≡ a.capacity) (ends : EndsIn newest a.items) (out : slice_get (a.items ++ p ∷ []) 0 ≡ Some oldest) where
  abbrev pub all : List Place
  all = a.items ++ p ∷ []

  abbrev pub rest : List Place
  rest = drop 1 all

  abbrev pub more : Sums
  more = with_more limit (Some newest) p s

  pub all_is : all ≡ oldest ∷ rest
  all_is = opened all oldest out

  pub rest_is : keep_last a.capacity all ≡ rest
  rest_is = let one : length all - a.capacity ≡ 1 = omega (arith, length-append a.items (p ∷ []), full) in ap (λ (k : ℕ). drop k all) one

  pub near_all : AreNear (oldest ∷ rest)
  near_all = subst AreNear all_is (near_push a.items p run.near near)

  pub more_is : more ≡ sums_of limit (oldest ∷ rest)
  more_is =
      ap (λ (o : Option Place). with_more limit o p s) (sym (last-given newest a.items (omega (arith, some, full)) ends))
      ∙ ap (with_more limit (last_item a.items) p) run.kept ∙ sym (sums_of-push limit a.items p) ∙ ap (sums_of limit) all_is

  pub jumps_counted : pair (is_jump limit) (Some oldest) (first_of rest) ≤ more.jumps
  jumps_counted = subst (λ (t : Sums). pair (is_jump limit) (Some oldest) (first_of rest) ≤ t.jumps) (sym more_is) (first_counts limit oldest rest).0

  pub same_counted : pair is_same (Some oldest) (first_of rest) ≤ more.same
  same_counted = subst (λ (t : Sums). pair is_same (Some oldest) (first_of rest) ≤ t.same) (sym more_is) (first_counts limit oldest rest).1

  pub replaced : (b : Buffer Place) (t : Sums) → b ≡ buffer (keep_last a.capacity all) a.capacity → t ≡ with_less limit oldest (first_of rest) more → IsRunning limit b t
  replaced b t is fewer =
      let fresh : IsRunning limit (buffer rest a.capacity) t = record {
        kept = fewer ∙ ap (with_less limit oldest (first_of rest)) more_is ∙ sums_of-first limit oldest rest;
        near = near_all.1;
        few = omega (arith, ap length all_is, length-append a.items (p ∷ []), full);
        capacity = run.capacity;
      } in
      let same : b ≡ buffer rest a.capacity = is ∙ ap (λ (xs : List Place). buffer xs a.capacity) rest_is in
      subst (λ (v : Buffer Place). IsRunning limit v t) (sym same) fresh

  module _ (b : Buffer Place) (is : b ≡ buffer (keep_last a.capacity all) a.capacity) where
    items_are : b.items ≡ rest
    items_are = ap (λ (v : Buffer Place). v.items) is ∙ rest_is

    pub near_after : AreNear b.items
    near_after = subst AreNear (sym items_are) near_all.1

    pub jumps_after : (u v : ℕ) → u ≡ s.jumps → v ≡ u + pair (is_jump limit) (Some newest) (Some p) → pair (is_jump limit) (Some oldest) (first_of b.items) ≤ v
    jumps_after u v e f =
        let same : v ≡ more.jumps = f ∙ ap (λ (k : ℕ). k + pair (is_jump limit) (Some newest) (Some p)) e in
        rw (items_are, same) jumps_counted

    pub same_after : (u v : ℕ) → u ≡ s.same → v ≡ u + pair is_same (Some newest) (Some p) → pair is_same (Some oldest) (first_of b.items) ≤ v
    same_after u v e f =
        let same : v ≡ more.same = f ∙ ap (λ (k : ℕ). k + pair is_same (Some newest) (Some p)) e in
        rw (items_are, same) same_counted

    pub replaced_by : (t u v : Sums) →
        u.n ≡ s.n → v.n ≡ u.n → t.n ≡ v.n →
        u.x ≡ s.x +ℤ (p.north -ℤ oldest.north) → v.x ≡ u.x → t.x ≡ v.x →
        u.y ≡ s.y +ℤ (p.east -ℤ oldest.east) → v.y ≡ u.y → t.y ≡ v.y →
        u.square ≡ s.square +ℤ (square_of p -ℤ square_of oldest) → v.square ≡ u.square → t.square ≡ v.square →
        u.jumps ≡ s.jumps → v.jumps ≡ u.jumps + pair (is_jump limit) (Some newest) (Some p) → t.jumps ≡ v.jumps - pair (is_jump limit) (Some oldest) (first_of b.items) →
        u.same ≡ s.same → v.same ≡ u.same + pair is_same (Some newest) (Some p) → t.same ≡ v.same - pair is_same (Some oldest) (first_of b.items) →
        IsRunning limit b t
    replaced_by t u v n n' n'' x x' x'' y y' y'' q q' q'' j j' j'' e e' e'' =
        replaced b t is (same_sums t (with_less limit oldest (first_of rest) more)
        (omega (arith, n, n', n'')) (omega (arith, ints, x, x', x'')) (omega (arith, ints, y, y', y'')) (omega (arith, ints, q, q', q''))
        (j'' ∙ ap (λ (xs : List Place). v.jumps - pair (is_jump limit) (Some oldest) (first_of xs)) items_are
        ∙ ap (λ (k : ℕ). k - pair (is_jump limit) (Some oldest) (first_of rest)) (j' ∙ ap (λ (k : ℕ). k + pair (is_jump limit) (Some newest) (Some p)) j))
        (e'' ∙ ap (λ (xs : List Place). v.same - pair is_same (Some oldest) (first_of xs)) items_are
        ∙ ap (λ (k : ℕ). k - pair is_same (Some oldest) (first_of rest)) (e' ∙ ap (λ (k : ℕ). k + pair is_same (Some newest) (Some p)) e)))

-- of a full ring what is given out is what would not fit
pub given_out : (n m : ℕ) (o r : Option Place) → n ≡ m → r ≡ (if nat_lt n m then None else o) → o ≡ r
given_out n m o r full e = by-case (nat_lt n m) (le-ltb n m (omega (arith, full))) e
  where
    by-case : (t : Bool) → t ≡ false → r ≡ (if t then None else o) → o ≡ r
    by-case true none is = absurd cc
    by-case false none is = sym is

pub none_running : (limit : ℤ) (b : Buffer Place) (n : ℕ) → b ≡ buffer [] n → n ≤ 32 → IsRunning limit b (record { n = 0; x = pos 0; y = pos 0; square = pos 0; jumps = 0; same = 0 })
unfolding sums_of
none_running limit b n is few =
    let fresh : IsRunning limit (buffer [] n) (record { n = 0; x = pos 0; y = pos 0; square = pos 0; jumps = 0; same = 0 }) = record { kept = refl; near = tt; few = omega arith; capacity = few } in
    subst (λ (v : Buffer Place). IsRunning limit v (record { n = 0; x = pos 0; y = pos 0; square = pos 0; jumps = 0; same = 0 })) (sym is) fresh
