-- The parts of a state as fields: a line for each, as in the table.
use Rattle.std.proofs.Common.{◌≡◌, ℕ, ◌+◌, ◌-◌, ◌^◌, ◌==◌, List, [], ◌∷◌, length, Bool, true, false, if◌then◌else◌, refl, arith}
use Rattle.std.specs.Prelude.{ℤ, pos, neg_ℤ, ◌-ℤ◌, min, slice_index, slice_index_or, FitsSigned}
use Rattle.std.specs.Int.{w8, w32, w64}
use Rattle.std.proofs.Math.Facts.{sfits_lit}
use Rattle.arrayvec.specs.ArrayVec.{ArrayVec}
use Rattle.dp_plant.specs.declared.place.Place.{Place}
use Rattle.dp_plant.specs.declared.plane.PlaneState.{PlaneState}
use Rattle.dp_plant.specs.declared.plant.Plant.{Plant}
use Rattle.dp_plant.specs.declared.yaw.YawState.{YawState}
use Rattle.dp_plant.specs.Vectors.{entry, zero_place}
use Rattle.dp_plant.specs.Yaw.{turn}
use Rattle.dp_reftest.specs.declared.kept.Kept.{Kept}
use Rattle.dp_machine.specs.declared.state.State.{State}
use Rattle.dp_machine.specs.Step.{kept_at}
use Rattle.dp_codec.specs.Parts.{coordinates, demand_parts, demands_parts, frame_end, inside_parts, is_inside, kept_parts, plane_parts, sample_parts, samples_parts, state_parts, wave_limit, wave_parts, waves_stand, windows_of, yaw_parts}
use Rattle.dp_codec.proofs.Fields.{Any, Field, absent, end, passing_field, row, table, worded}
use Rattle.dp_codec.proofs.Numerals.{wide8, wide32, wide64, unsigned_field, signed_field, times_field}

-- ---- the plane
unfoldable pub places_field : (limit : ℤ) → FitsSigned w64 (neg_ℤ limit) → FitsSigned w64 limit → Field Place
places_field limit a b =
    table Any
    (row (λ p. p.north) (signed_field (neg_ℤ limit) limit a b) (λ north.
    row (λ p. p.east) (signed_field (neg_ℤ limit) limit a b) (λ east.
    end (record { north = north; east = east }) (λ h. ((tt, refl), refl)) (λ p k. rw (← k.0.1, ← k.1) refl))))

unfoldable pub coordinates_field : Field Place
unfolding coordinates places_field
coordinates_field = worded (places_field (pos (2 ^ 56)) (sfits_lit tt) (sfits_lit tt)) coordinates refl

unfoldable pub wave_base : (stand : Bool) (limit : ℤ) → FitsSigned w64 (neg_ℤ limit) → FitsSigned w64 limit → Field Place
wave_base true limit a b = places_field limit a b
wave_base false limit a b = absent zero_place

pub wave_same : (stand : Bool) (limit : ℤ) (a : FitsSigned w64 (neg_ℤ limit)) (b : FitsSigned w64 limit) → wave_parts stand limit ≡ (wave_base stand limit a b).format
unfolding wave_parts wave_base places_field
wave_same true limit a b = refl
wave_same false limit a b = refl

unfoldable pub wave_field : (stand : Bool) (limit : ℤ) → FitsSigned w64 (neg_ℤ limit) → FitsSigned w64 limit → Field Place
wave_field stand limit a b = worded (wave_base stand limit a b) (wave_parts stand limit) (wave_same stand limit a b)

unfoldable pub plane_field : (stand : Bool) (limit : ℤ) → FitsSigned w64 (neg_ℤ limit) → FitsSigned w64 limit → Field PlaneState
unfolding plane_parts coordinates_field wave_field
plane_field stand limit a b =
    worded
    (table Any
    (row (λ x. x.eta) coordinates_field (λ eta.
    row (λ x. x.beta) coordinates_field (λ beta.
    row (λ x. x.vel) coordinates_field (λ vel.
    row (λ x. x.wave_p) (wave_field stand limit a b) (λ wave_p.
    row (λ x. x.wave_q) (wave_field stand limit a b) (λ wave_q.
    end (record { eta = eta; beta = beta; vel = vel; wave_p = wave_p; wave_q = wave_q }) (λ h. (((((tt, refl), refl), refl), refl), refl)) (λ x k. rw (← k.0.0.0.0.1, ← k.0.0.0.1, ← k.0.0.1, ← k.0.1, ← k.1) refl))))))))
    (plane_parts stand limit) refl

pub limit_low : (two : Bool) → FitsSigned w64 (neg_ℤ (if two then pos (2 ^ 56) else pos 0))
limit_low true = sfits_lit tt
limit_low false = sfits_lit tt

pub limit_high : (two : Bool) → FitsSigned w64 (if two then pos (2 ^ 56) else pos 0)
limit_high true = sfits_lit tt
limit_high false = sfits_lit tt

unfoldable pub inside_field : (p : Plant) (version : ℕ) → Field PlaneState
unfolding inside_parts plane_field
inside_field p version = worded (passing_field (is_inside p) (plane_field (waves_stand p version) (wave_limit p) (limit_low (p.version == 2)) (limit_high (p.version == 2)))) (inside_parts p version) refl

-- ---- yaw
unfoldable pub yaw_field : Field YawState
unfolding yaw_parts
yaw_field =
    worded
    (table Any
    (row (λ x. x.psi) (signed_field (pos 0) (turn -ℤ pos 1) (sfits_lit tt) (sfits_lit tt)) (λ psi.
    row (λ x. x.beta) (signed_field (neg_ℤ (pos (2 ^ 38))) (pos (2 ^ 38)) (sfits_lit tt) (sfits_lit tt)) (λ beta.
    row (λ x. x.rate) (signed_field (neg_ℤ (pos (2 ^ 53))) (pos (2 ^ 53)) (sfits_lit tt) (sfits_lit tt)) (λ rate.
    end (record { psi = psi; beta = beta; rate = rate }) (λ h. (((tt, refl), refl), refl)) (λ x k. rw (← k.0.0.1, ← k.0.1, ← k.1) refl))))))
    yaw_parts refl

-- ---- the windows
unfoldable pub sample_field : Field Place
unfolding sample_parts places_field
sample_field = worded (places_field (pos (2 ^ 43)) (sfits_lit tt) (sfits_lit tt)) sample_parts refl

unfoldable pub kept_field : (count window : ℕ) → Field Kept
unfolding kept_parts sample_field
kept_field count window =
    worded
    (table Any
    (row (λ k. length k.list.items) (unsigned_field w8 (2 ^ 8) wide8 0 (window + 1)) (λ n.
    row (λ k. k.last) (unsigned_field w64 (2 ^ 64) wide64 (n - 1) (frame_end n count)) (λ last.
    row (λ k. k.list.items) (times_field sample_field n) (λ items.
    end (record { last = last; list = record { items = items } }) (λ h. (((tt, h.1.0), refl), refl)) (λ x k. rw (← k.0.1, ← k.1) refl))))))
    (kept_parts count window) refl

-- a list of three, by its entries
pub three_is : {A : Type 0} (d : A) (xs : List A) (a b c : A) → length xs ≡ 3 → slice_index_or xs 0 d ≡ a → slice_index_or xs 1 d ≡ b → slice_index_or xs 2 d ≡ c → xs ≡ a ∷ b ∷ c ∷ []
three_is d [] a b c l e f g = absurd (omega (arith, l))
three_is d (x ∷ []) a b c l e f g = absurd (omega (arith, l))
three_is d (x ∷ y ∷ []) a b c l e f g = absurd (omega (arith, l))
three_is d (x ∷ y ∷ z ∷ w ∷ xs) a b c l e f g = absurd (omega (arith, l))
three_is d (x ∷ y ∷ z ∷ []) a b c l e f g =
    let first : x ≡ a = e in let second : y ≡ b = f in let third : z ≡ c = g in
    rw (← first, ← second, ← third) refl

unfoldable pub samples_field : (windows : List ℕ) (count : ℕ) → Field (List Kept)
unfolding samples_parts kept_field
samples_field windows count =
    worded
    (table (λ (ks : List Kept). length ks ≡ 3)
    (row (λ ks. kept_at ks 0) (kept_field count (slice_index windows 0)) (λ first.
    row (λ ks. kept_at ks 1) (kept_field count (slice_index windows 1)) (λ second.
    row (λ ks. kept_at ks 2) (kept_field count (slice_index windows 2)) (λ third.
    end (first ∷ second ∷ third ∷ []) (λ h. (((refl, refl), refl), refl)) (λ ks k. three_is _ ks first second third k.0.0.0 k.0.0.1 k.0.1 k.1))))))
    (samples_parts windows count) refl

-- ---- the demands
unfoldable pub demand_field : Field (List ℤ)
unfolding demand_parts
demand_field =
    worded
    (table (λ (d : List ℤ). length d ≡ 3)
    (row (λ d. entry d 0) (signed_field (neg_ℤ (pos (2 ^ 31))) (pos (2 ^ 31)) (sfits_lit tt) (sfits_lit tt)) (λ surge.
    row (λ d. entry d 1) (signed_field (neg_ℤ (pos (2 ^ 31))) (pos (2 ^ 31)) (sfits_lit tt) (sfits_lit tt)) (λ sway.
    row (λ d. entry d 2) (signed_field (neg_ℤ (pos (2 ^ 38))) (pos (2 ^ 38)) (sfits_lit tt) (sfits_lit tt)) (λ turn.
    end (surge ∷ sway ∷ turn ∷ []) (λ h. (((refl, refl), refl), refl)) (λ d k. three_is (pos 0) d surge sway turn k.0.0.0 k.0.0.1 k.0.1 k.1))))))
    demand_parts refl

unfoldable pub demands_field : (count : ℕ) → Field (ArrayVec (List ℤ))
unfolding demands_parts demand_field
demands_field count =
    worded
    (table Any
    (row (λ d. length d.items) (unsigned_field w8 (2 ^ 8) wide8 (min 60 count) (min 60 count + 1)) (λ n.
    row (λ d. d.items) (times_field demand_field n) (λ items.
    end (record { items = items }) (λ h. ((tt, h.1.0), refl)) (λ x k. rw (← k.1) refl)))))
    (demands_parts count) refl

-- ---- the state
unfoldable pub state_field : (p : Plant) (version : ℕ) → Field State
unfolding state_parts inside_field yaw_field samples_field demands_field
state_field p version =
    worded
    (table Any
    (row (λ s. s.count) (unsigned_field w64 (2 ^ 64) wide64 0 (2 ^ 20 + 1)) (λ count.
    row (λ s. s.plane) (inside_field p version) (λ plane.
    row (λ s. s.yaw) yaw_field (λ yaw.
    row (λ s. s.heading) (unsigned_field w32 (2 ^ 32) wide32 0 36000) (λ heading.
    row (λ s. s.wind) (unsigned_field w32 (2 ^ 32) wide32 0 36000) (λ wind.
    row (λ s. s.lost) (unsigned_field w8 (2 ^ 8) wide8 0 (2 ^ p.groups)) (λ lost.
    row (λ s. s.samples) (samples_field (windows_of p) count) (λ samples.
    row (λ s. s.demands) (demands_field count) (λ demands.
    end (record { count = count; plane = plane; yaw = yaw; heading = heading; wind = wind; lost = lost; samples = samples; demands = demands })
    (λ h. ((((((((tt, refl), refl), refl), refl), refl), refl), refl), refl))
    (λ x k. rw (← k.0.0.0.0.0.0.0.1, ← k.0.0.0.0.0.0.1, ← k.0.0.0.0.0.1, ← k.0.0.0.0.1, ← k.0.0.0.1, ← k.0.0.1, ← k.0.1, ← k.1) refl)))))))))))
    (state_parts p version) refl
