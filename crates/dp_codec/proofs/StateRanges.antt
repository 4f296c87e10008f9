-- The ranges of the table are those of the plant's states.
use Rattle.std.proofs.Common.{◌≡◌, ◌<◌, ◌≤◌, ◌-◌, ◌^◌, ◌==◌, ◌||◌, ℕ, zero, suc, Bool, true, false, if◌then◌else◌, List, [], ◌∷◌, length, All, refl, sym, ap, subst, arith, unsigned_abs}
use Rattle.std.specs.Prelude.{ℤ, pos, neg_ℤ, ◌≤ℤ◌, int_le, slice_index, FitsSigned}
use Rattle.std.specs.Int.{w64}
use Rattle.std.specs.List.{AllByRecursion}
use Rattle.std.proofs.Math.Facts.{sfits_lit}
use Rattle.std.proofs.Math.Pow.{pow_mono}
use Rattle.std.proofs.lemmas.Int.{ints}
use Rattle.std.proofs.lemmas.List.Elements.{All-nil, All-cons, All-head, All-tail}
use Rattle.dp_alloc.specs.Ranges.{IsDemandWithin}
use Rattle.dp_cert.specs.CertifiedSet.{InsideIsWithin, IsInCertifiedSet}
use Rattle.dp_cert.specs.States.{HasNoWaves, IsStateOf}
use Rattle.dp_plant.specs.declared.cert.Parts.{Parts}
use Rattle.dp_plant.specs.declared.cert.Parts.TheVariants.{Three, Five}
use Rattle.dp_plant.specs.declared.place.Place.{Place}
use Rattle.dp_plant.specs.declared.plane.PlaneState.{PlaneState}
use Rattle.dp_plant.specs.declared.plant.Plant.{Plant}
use Rattle.dp_plant.specs.declared.references.RefLimits.{RefLimits}
use Rattle.dp_plant.specs.declared.yaw.YawState.{YawState}
use Rattle.dp_plant.specs.PlantRanges.{AreRefLimits, version_of}
use Rattle.dp_plant.specs.Ranges.{IsVectorWithin}
use Rattle.dp_plant.specs.Vectors.{zero_place}
use Rattle.dp_plant.proofs.PlantFacts.{plant_groups, plant_references, plant_within}
use Rattle.dp_reftest.specs.declared.kept.Kept.{Kept}
use Rattle.dp_reftest.specs.Window.{AreNear, IsDated, IsKept}
use Rattle.dp_machine.specs.declared.state.State.{State}
use Rattle.dp_machine.specs.Ranges.{IsYawInRange}
use Rattle.dp_machine.specs.Step.{kept_at, limits_at, limits_in}
use Rattle.dp_codec.specs.Parts.{frame_end, is_inside, waves_stand, windows_of}
use Rattle.dp_codec.specs.Spelling.{IsPlantState, IsThree}
use Rattle.dp_codec.proofs.Numerals.{Fitting, Within}
use Rattle.dp_codec.proofs.StateFields.{coordinates_field, demand_field, demands_field, inside_field, kept_field, limit_low, limit_high, places_field, plane_field, sample_field, samples_field, state_field, wave_base, wave_field, yaw_field}

-- ---- signed numbers
within_from : (n : ℕ) (z : ℤ) → Within (neg_ℤ (pos n)) (pos n) z → unsigned_abs z ≤ n
within_from n z h = omega (arith, ints, h.0, h.1)

within_to : (n : ℕ) (z : ℤ) → unsigned_abs z ≤ n → Within (neg_ℤ (pos n)) (pos n) z
within_to n z h = (omega (arith, ints, h), omega (arith, ints, h))

places_from : (n : ℕ) (a : FitsSigned w64 (neg_ℤ (pos n))) (b : FitsSigned w64 (pos n)) (p : Place) → (places_field (pos n) a b).fits p → IsVectorWithin n p
unfolding places_field
places_from n a b p h = record { north = within_from n p.north h.1.0; east = within_from n p.east h.1.1.0 }

places_to : (n : ℕ) (a : FitsSigned w64 (neg_ℤ (pos n))) (b : FitsSigned w64 (pos n)) (p : Place) → IsVectorWithin n p → (places_field (pos n) a b).fits p
unfolding places_field
places_to n a b p h = (tt, (within_to n p.north h.north, (within_to n p.east h.east, tt)))

coordinates_to : (p : Place) → IsVectorWithin (2 ^ 56) p → coordinates_field.fits p
unfolding coordinates_field
coordinates_to p h = places_to (2 ^ 56) (sfits_lit tt) (sfits_lit tt) p h

-- ---- the plane
zero_of : (p : Place) → IsVectorWithin 0 p → p ≡ zero_place
zero_of p h =
    let north : p.north ≡ pos 0 = omega (arith, ints, h.north) in
    let east : p.east ≡ pos 0 = omega (arith, ints, h.east) in
    rw (north, east) refl

zero_within : (n : ℕ) → IsVectorWithin n zero_place
zero_within n = record { north = omega arith; east = omega arith }

-- without a wave filter the wave states that are read are 0
no_waves : (stand : Bool) (a : FitsSigned w64 (neg_ℤ (pos 0))) (b : FitsSigned w64 (pos 0)) (p : Place) → (wave_base stand (pos 0) a b).fits p → p ≡ zero_place
unfolding wave_base
no_waves true a b p h = zero_of p (places_from 0 a b p h)
no_waves false a b p h = h

-- and those of a state can be written
waves_to : (two stand : Bool) (p : Place) → (two ≡ false → p ≡ zero_place) → (stand ≡ false → two ≡ false) → IsVectorWithin (2 ^ 56) p →
    (wave_base stand (if two then pos (2 ^ 56) else pos 0) (limit_low two) (limit_high two)).fits p
unfolding wave_base
waves_to true true p none absent h = places_to (2 ^ 56) (limit_low true) (limit_high true) p h
waves_to true false p none absent h = absurd (let e = absent refl in cc)
waves_to false true p none absent h = places_to 0 (limit_low false) (limit_high false) p (subst (IsVectorWithin 0) (sym (none refl)) (zero_within 0))
waves_to false false p none absent h = none refl

-- the states of a certificate by the plant's version
state_of_parts : (parts : Parts) (version : ℕ) (x : PlaneState) → version ≡ version_of parts → ((version == 2) ≡ false → HasNoWaves x) → IsStateOf parts x
state_of_parts (Three l) version x e h = h (ap (λ (n : ℕ). n == 2) e)
state_of_parts (Five l) version x e h = tt

no_waves_of : (parts : Parts) (version : ℕ) (x : PlaneState) → version ≡ version_of parts → IsStateOf parts x → (version == 2) ≡ false → HasNoWaves x
no_waves_of (Three l) version x e h f = h
no_waves_of (Five l) version x e h f = absurd (let t : (version == 2) ≡ true = ap (λ (n : ℕ). n == 2) e in cc)

-- with a limit of 0 for a plant without a filter
waves_from : (two stand : Bool) (p : Place) → two ≡ false → (wave_base stand (if two then pos (2 ^ 56) else pos 0) (limit_low two) (limit_high two)).fits p → p ≡ zero_place
waves_from true stand p e h = absurd (cc)
waves_from false stand p e h = no_waves stand (limit_low false) (limit_high false) p h

stands_not : (version plant : ℕ) → ((version == 2) || (plant == 2)) ≡ false → (plant == 2) ≡ false
stands_not version plant h = or_false (version == 2) (plant == 2) h
  where
    or_false : (a b : Bool) → (a || b) ≡ false → b ≡ false
    or_false true b e = absurd (cc)
    or_false false b e = e

le_is : (a b : ℤ) → int_le a b ≡ true → a ≤ℤ b
le_is a b h = grind (arith, ints)

le_true : (a b : ℤ) → a ≤ℤ b → int_le a b ≡ true
le_true a b h = grind (arith, ints)

inside_from : (p : Plant) (version : ℕ) (x : PlaneState) → (inside_field p version).fits x → IsInCertifiedSet p.cert x
unfolding inside_field plane_field wave_field is_inside
inside_from p version x h =
    record {
      of_parts = state_of_parts p.cert.parts p.version x (plant_within p).version.states
          (λ e. record { wave_p = waves_from (p.version == 2) (waves_stand p version) x.wave_p e h.0.1.1.1.1.0; wave_q = waves_from (p.version == 2) (waves_stand p version) x.wave_q e h.0.1.1.1.1.1.0 });
      inside = le_is _ _ h.1;
    }

inside_to : (p : Plant) (version : ℕ) (x : PlaneState) → InsideIsWithin p.cert → IsInCertifiedSet p.cert x → (inside_field p version).fits x
unfolding inside_field plane_field wave_field is_inside
inside_to p version x law h =
    let w = law x h in
    let none = no_waves_of p.cert.parts p.version x (plant_within p).version.states h.of_parts in
    let stands = stands_not version p.version in (
      (
        tt,
        (
          coordinates_to x.eta (record { north = w.north.eta; east = w.east.eta }),
          (
            coordinates_to x.beta (record { north = w.north.beta; east = w.east.beta }),
            (
              coordinates_to x.vel (record { north = w.north.vel; east = w.east.vel }),
              (
                waves_to (p.version == 2) (waves_stand p version) x.wave_p (λ e. (none e).wave_p) stands (record { north = w.north.wave_p; east = w.east.wave_p }),
                (
                  waves_to (p.version == 2) (waves_stand p version) x.wave_q (λ e. (none e).wave_q) stands (record { north = w.north.wave_q; east = w.east.wave_q }),
                  tt,
                ),
              ),
            ),
          ),
        ),
      ),
      le_true _ _ h.inside,
    )

-- ---- yaw
yaw_from : (x : YawState) → yaw_field.fits x → IsYawInRange x
unfolding yaw_field
yaw_from x h = record {
  psi_low = h.1.0.0;
  psi_high = omega (arith, ints, h.1.0.1);
  beta = within_from (2 ^ 38) x.beta h.1.1.0;
  rate = within_from (2 ^ 53) x.rate h.1.1.1.0;
}

yaw_to : (x : YawState) → IsYawInRange x → yaw_field.fits x
unfolding yaw_field
yaw_to x h = (tt, ((h.psi_low, omega (arith, ints, h.psi_high)), (within_to (2 ^ 38) x.beta h.beta, (within_to (2 ^ 53) x.rate h.rate, tt))))

-- ---- the windows
near_from : (xs : List Place) → AllByRecursion sample_field.fits xs → AreNear xs
unfolding sample_field
near_from [] h = tt
near_from (x ∷ xs) h = (places_from (2 ^ 43) (sfits_lit tt) (sfits_lit tt) x h.0, near_from xs h.1)

near_to : (xs : List Place) → AreNear xs → AllByRecursion sample_field.fits xs
unfolding sample_field
near_to [] h = tt
near_to (x ∷ xs) h = (places_to (2 ^ 43) (sfits_lit tt) (sfits_lit tt) x h.0, near_to xs h.1)

not_zero : (n : ℕ) → (suc n == 0) ≡ false
not_zero n = grind arith

frame_end_more : (n count : ℕ) → frame_end (suc n) count ≡ count
frame_end_more n count = rw (not_zero n) refl

dated_from : (count last : ℕ) (xs : List Place) → length xs - 1 ≤ last → last < frame_end (length xs) count → IsDated count last xs
dated_from count last [] a b = omega (arith, b)
dated_from count last (x ∷ xs) a b = (subst (λ (m : ℕ). last < m) (frame_end_more (length xs) count) b, omega (arith, a))

dated_to : (count last : ℕ) (xs : List Place) → IsDated count last xs → count ≤ 2 ^ 20 → Fitting (2 ^ 64) (length xs - 1) (frame_end (length xs) count) last
dated_to count last [] h c = ((omega arith, omega (arith, h)), omega (arith, h))
dated_to count last (x ∷ xs) h c = ((omega (arith, h.1), subst (λ (m : ℕ). last < m) (sym (frame_end_more (length xs) count)) h.0), omega (arith, h.0, c))

kept_from : (count window : ℕ) (k : Kept) → (kept_field count window).fits k → IsKept window count k
unfolding kept_field
kept_from count window k h = record {
  few = omega (arith, h.1.0.0.1);
  near = near_from k.list.items h.1.1.1.0.1;
  dated = dated_from count k.last k.list.items h.1.1.0.0.0 h.1.1.0.0.1;
}

kept_to : (count window : ℕ) (k : Kept) → count ≤ 2 ^ 20 → window ≤ 32 → IsKept window count k → (kept_field count window).fits k
unfolding kept_field
kept_to count window k c w h =
    (tt, (((omega arith, omega (arith, h.few)), omega (arith, h.few, w)), (dated_to count k.last k.list.items h.dated c, ((refl, near_to k.list.items h.near), tt))))

-- each window of a plant has at most 32 samples
pub window_small : (p : Plant) (i : ℕ) → (limits_at p i).window ≤ 32
window_small p i = in_list p.refs i (plant_references p)
  where
    in_list : (refs : List RefLimits) (i : ℕ) → All AreRefLimits refs → (limits_in refs i).window ≤ 32
    in_list [] i h = omega arith
    in_list (r ∷ refs) zero h = (All-head AreRefLimits r refs h).window_high
    in_list (r ∷ refs) (suc i) h = in_list refs i (All-tail AreRefLimits r refs h)

pub windows_small : (p : Plant) (i : ℕ) → slice_index (windows_of p) i ≤ 32
windows_small p zero = window_small p 0
windows_small p (suc zero) = window_small p 1
windows_small p (suc (suc zero)) = window_small p 2
windows_small p (suc (suc (suc i))) = omega arith

-- ---- the demands
demand_from : (d : List ℤ) → demand_field.fits d → (length d ≡ 3) × IsDemandWithin d
unfolding demand_field
demand_from d h = (h.0, record { surge = within_from (2 ^ 31) _ h.1.0; sway = within_from (2 ^ 31) _ h.1.1.0; yaw = within_from (2 ^ 38) _ h.1.1.1.0 })

demand_to : (d : List ℤ) → length d ≡ 3 → IsDemandWithin d → demand_field.fits d
unfolding demand_field
demand_to d l h = (l, (within_to (2 ^ 31) _ h.surge, (within_to (2 ^ 31) _ h.sway, (within_to (2 ^ 38) _ h.yaw, tt))))

all_three : (ds : List (List ℤ)) → AllByRecursion demand_field.fits ds → All IsThree ds
all_three [] h = All-nil IsThree
all_three (d ∷ ds) h = All-cons IsThree d ds (demand_from d h.0).0 (all_three ds h.1)

all_within : (ds : List (List ℤ)) → AllByRecursion demand_field.fits ds → All IsDemandWithin ds
all_within [] h = All-nil IsDemandWithin
all_within (d ∷ ds) h = All-cons IsDemandWithin d ds (demand_from d h.0).1 (all_within ds h.1)

all_to : (ds : List (List ℤ)) → All IsThree ds → All IsDemandWithin ds → AllByRecursion demand_field.fits ds
all_to [] l h = tt
all_to (d ∷ ds) l h = (demand_to d (All-head IsThree d ds l) (All-head IsDemandWithin d ds h), all_to ds (All-tail IsThree d ds l) (All-tail IsDemandWithin d ds h))

-- ---- the state
pub groups_small : (g : ℕ) → g ≤ 8 → 2 ^ g ≤ 2 ^ 8
groups_small g h = pow_mono h

pub state_from : (p : Plant) (version : ℕ) (s : State) → (state_field p version).fits s → IsPlantState p s
unfolding state_field samples_field demands_field
state_from p version s h =
    let plane = h.1.1 in let yaw = plane.1 in let heading = yaw.1 in let wind = heading.1 in let lost = wind.1 in let samples = lost.1 in let demands = samples.1 in
    record {
      within = record {
        count = omega (arith, h.1.0.0.1);
        plane = inside_from p version s.plane plane.0;
        yaw = yaw_from s.yaw yaw.0;
        heading = heading.0.0.1;
        wind = wind.0.0.1;
        lost = lost.0.0.1;
        first = kept_from s.count (limits_at p 0).window (kept_at s.samples 0) samples.0.1.0;
        second = kept_from s.count (limits_at p 1).window (kept_at s.samples 1) samples.0.1.1.0;
        third = kept_from s.count (limits_at p 2).window (kept_at s.samples 2) samples.0.1.1.1.0;
        few = omega (arith, demands.0.1.0.0.0, demands.0.1.0.0.1);
        demands = all_within s.demands.items demands.0.1.1.0.1;
      };
      samples = samples.0.0;
      demands = all_three s.demands.items demands.0.1.1.0.1;
    }

pub state_to : (p : Plant) (version : ℕ) (s : State) → InsideIsWithin p.cert → IsPlantState p s → (state_field p version).fits s
unfolding state_field samples_field demands_field
state_to p version s law h =
    let w = h.within in (
      tt,
      (
        ((omega arith, omega (arith, w.count)), omega (arith, w.count)),
        (
          inside_to p version s.plane law w.plane,
          (
            yaw_to s.yaw w.yaw,
            (
              ((omega arith, w.heading), omega (arith, w.heading)),
              (
                ((omega arith, w.wind), omega (arith, w.wind)),
                (
                  ((omega arith, w.lost), omega (arith, w.lost, groups_small p.groups (plant_groups p))),
                  (
                    (h.samples, (kept_to s.count (limits_at p 0).window (kept_at s.samples 0) w.count (window_small p 0) w.first, (kept_to s.count (limits_at p 1).window (kept_at s.samples 1) w.count (window_small p 1) w.second, (kept_to s.count (limits_at p 2).window (kept_at s.samples 2) w.count (window_small p 2) w.third, tt)))),
                    (
                      (tt, (((omega (arith, w.few), omega (arith, w.few)), omega (arith, w.few)), ((refl, all_to s.demands.items h.demands w.demands), tt))),
                      tt,
                    ),
                  ),
                ),
              ),
            ),
          ),
        ),
      ),
    )
