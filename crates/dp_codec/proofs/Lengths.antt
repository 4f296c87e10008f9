-- How long a spelling is.
use Rattle.std.proofs.Common.{◌≡◌, ℕ, zero, suc, ◌+◌, ◌*◌, ◌<◌, ◌≤◌, Bool, true, false, List, [], ◌∷◌, ◌++◌, get_or, length, refl, sym, subst, below_more, arith}
use Rattle.std.specs.Prelude.{ℤ, slice_index, slice_index_or}
use Rattle.std.specs.Int.{w8, w32, w64}
use Rattle.std.specs.List.{flat_map}
use Rattle.std.proofs.lemmas.List.{append-nil, length-append}
use Rattle.arrayvec.specs.ArrayVec.{ArrayVec}
use Rattle.dp_plant.specs.declared.place.Place.{Place}
use Rattle.dp_plant.specs.declared.plane.PlaneState.{PlaneState}
use Rattle.dp_plant.specs.declared.plant.Plant.{Plant}
use Rattle.dp_plant.specs.declared.yaw.YawState.{YawState}
use Rattle.dp_reftest.specs.declared.kept.Kept.{Kept}
use Rattle.dp_machine.specs.declared.state.State.{State}
use Rattle.dp_machine.specs.Step.{kept_at}
use Rattle.dp_codec.specs.Numbers.{signed_text, unsigned_text}
use Rattle.dp_codec.specs.Spelling.{IsThree, length_text}
use Rattle.dp_codec.specs.Parts.{coordinates, demand_parts, demands_parts, inside_parts, kept_parts, places, plane_parts, sample_parts, samples_parts, state_parts, wave_limit, wave_parts, waves_stand, windows_of, yaw_parts}

length-signed : (z : ℤ) → length (signed_text z) ≡ 8
unfolding signed_text
length-signed z = refl

length-w8 : (n : ℕ) → length (unsigned_text w8 n) ≡ 1
unfolding unsigned_text
length-w8 n = refl

pub length-w32 : (n : ℕ) → length (unsigned_text w32 n) ≡ 4
unfolding unsigned_text
length-w32 n = refl

length-w64 : (n : ℕ) → length (unsigned_text w64 n) ≡ 8
unfolding unsigned_text
length-w64 n = refl

length-places : (limit : ℤ) (p : Place) → length ((places limit).spell p) ≡ 16
length-places limit p = omega (arith, length-append {A = ℕ}, length-signed)

length-coordinates : (p : Place) → length (coordinates.spell p) ≡ 16
unfolding coordinates
length-coordinates p = omega (arith, length-append {A = ℕ}, length-signed)

length-sample : (p : Place) → length (sample_parts.spell p) ≡ 16
unfolding sample_parts
length-sample p = omega (arith, length-append {A = ℕ}, length-signed)

length-wave : (limit : ℤ) (p : Place) → length ((wave_parts true limit).spell p) ≡ 16
unfolding wave_parts
length-wave limit p = length-places limit p

wave_short : (stand : Bool) (limit : ℤ) (p : Place) → length ((wave_parts stand limit).spell p) ≤ 16
unfolding wave_parts
wave_short true limit p = omega (arith, length-places limit p)
wave_short false limit p = omega arith

length-plane : (limit : ℤ) (x : PlaneState) → length ((plane_parts true limit).spell x) ≡ 80
unfolding plane_parts
length-plane limit x = omega (arith, length-append {A = ℕ}, length-coordinates, length-wave)

plane_short : (stand : Bool) (limit : ℤ) (x : PlaneState) → length ((plane_parts stand limit).spell x) ≤ 80
unfolding plane_parts
plane_short stand limit x = omega (arith, length-append {A = ℕ}, length-coordinates, wave_short stand limit x.wave_p, wave_short stand limit x.wave_q)

length-inside : (p : Plant) (x : PlaneState) → length ((inside_parts p 2).spell x) ≡ 80
unfolding inside_parts
length-inside p x = length-plane (wave_limit p) x

inside_short : (p : Plant) (version : ℕ) (x : PlaneState) → length ((inside_parts p version).spell x) ≤ 80
unfolding inside_parts
inside_short p version x = plane_short (waves_stand p version) (wave_limit p) x

length-yaw : (x : YawState) → length (yaw_parts.spell x) ≡ 24
unfolding yaw_parts
length-yaw x = omega (arith, length-append {A = ℕ}, length-signed)

-- each of a kind is as long
length-each : {A : Type 0} (f : A → List ℕ) (n : ℕ) → ((x : A) → length (f x) ≡ n) → (xs : List A) → length (flat_map f xs) ≡ n * length xs
length-each f n each [] = omega arith
length-each f n each (x ∷ xs) = omega (arith, length-append (f x) (flat_map f xs), each x, length-each f n each xs)

length-kept : (count window : ℕ) (k : Kept) → length ((kept_parts count window).spell k) ≡ 9 + 16 * length k.list.items
unfolding kept_parts
length-kept count window k = omega (arith, length-append {A = ℕ}, length-w8, length-w64, length-each sample_parts.spell 16 length-sample k.list.items)

unfoldable pub samples_in : List Kept → ℕ
samples_in ks = (length (kept_at ks 0).list.items + length (kept_at ks 1).list.items) + length (kept_at ks 2).list.items

length-samples : (windows : List ℕ) (count : ℕ) (ks : List Kept) → length ((samples_parts windows count).spell ks) ≡ 27 + 16 * samples_in ks
unfolding samples_parts samples_in
length-samples windows count ks =
    omega (arith, length-append {A = ℕ}, length-kept count (slice_index windows 0) (kept_at ks 0), length-kept count (slice_index windows 1) (kept_at ks 1), length-kept count (slice_index windows 2) (kept_at ks 2))

length-demand : (d : List ℤ) → length (demand_parts.spell d) ≡ 24
unfolding demand_parts
length-demand d = omega (arith, length-append {A = ℕ}, length-signed)

length-demands : (count : ℕ) (d : ArrayVec (List ℤ)) → length ((demands_parts count).spell d) ≡ 1 + 24 * length d.items
unfolding demands_parts
length-demands count d = omega (arith, length-append {A = ℕ}, length-w8, length-each demand_parts.spell 24 length-demand d.items)

pub length-state : (p : Plant) (s : State) → length ((state_parts p 2).spell s) ≡ 149 + (16 * samples_in s.samples + 24 * length s.demands.items)
unfolding state_parts
length-state p s =
    omega (arith, length-append {A = ℕ}, length-w8, length-w32, length-w64, length-inside p s.plane, length-yaw, length-samples (windows_of p) s.count s.samples, length-demands s.count s.demands)

pub state_short : (p : Plant) (version : ℕ) (s : State) → samples_in s.samples ≤ 96 → length s.demands.items ≤ 60 → length ((state_parts p version).spell s) ≤ 3125
unfolding state_parts
state_short p version s few fewer =
    omega (arith, length-append {A = ℕ}, length-w8, length-w32, length-w64, inside_short p version s.plane, length-yaw, length-samples (windows_of p) s.count s.samples, length-demands s.count s.demands)

-- an element, whatever stands for what isn't there
pub entry_is : {A : Type 0} (xs : List A) (i : ℕ) (x d : A) → i < length xs → x ≡ get_or xs i x → slice_index_or xs i d ≡ x
entry_is [] i x d h e = absurd (omega (arith, h))
entry_is (y ∷ xs) zero x d h e = sym e
entry_is (y ∷ xs) (suc i) x d h e = entry_is xs i x d (omega (arith, h)) e

-- the length's text in each version
pub length_none : (version : ℕ) (text old : List ℕ) → version ≡ 1 → old ≡ old ++ length_text version text
length_none version text old e = rw e (sym (append-nil old))

pub length_some : (version : ℕ) (text : List ℕ) → version ≡ 2 → length_text version text ≡ unsigned_text w32 (8 + length text)
length_some version text e = rw e refl

-- one more of a list's elements has three numbers
pub three_more : (xs : List (List ℤ)) (i : ℕ) (d : List ℤ) → i < length xs → ((k : ℕ) → k < i → IsThree (get_or xs k [])) → IsThree (get_or xs i d) → (k : ℕ) → k < i + 1 → IsThree (get_or xs k [])
three_more xs i d h before here =
    below_more (λ (k : ℕ). IsThree (get_or xs k [])) i before (subst IsThree (get_or-any xs i d [] h) here)
  where
    get_or-any : (xs : List (List ℤ)) (i : ℕ) (d e : List ℤ) → i < length xs → get_or xs i d ≡ get_or xs i e
    get_or-any [] i d e h = absurd (omega (arith, h))
    get_or-any (x ∷ xs) zero d e h = refl
    get_or-any (x ∷ xs) (suc i) d e h = get_or-any xs i d e (omega (arith, h))
