-- The parts of a state's spelling: a row for each, with its name, its bytes and its range.
use Rattle.std.specs.Prelude.{ℕ, ℤ, pos, ◌-ℤ◌, ◌*ℤ◌, ◌+◌, ◌-◌, ◌^◌, ◌==◌, ◌||◌, int_le, min, List, [], ◌∷◌, length, slice_index, Bool, true, false, if◌then◌else◌}
use Rattle.std.specs.Int.{w8, w32, w64}
use Rattle.arrayvec.specs.ArrayVec.{ArrayVec}
use Rattle.dp_cert.specs.CertifiedSet.{reach_by}
use Rattle.dp_cert.specs.States.{state_form}
use Rattle.dp_plant.specs.declared.place.Place.{Place}
use Rattle.dp_plant.specs.declared.plane.PlaneState.{PlaneState}
use Rattle.dp_plant.specs.declared.plant.Plant.{Plant}
use Rattle.dp_plant.specs.declared.yaw.YawState.{YawState}
use Rattle.dp_plant.specs.Vectors.{entry, zero_place}
use Rattle.dp_plant.specs.Yaw.{turn}
use Rattle.dp_reftest.specs.declared.kept.Kept.{Kept}
use Rattle.dp_machine.specs.declared.state.State.{State}
use Rattle.dp_machine.specs.Step.{kept_at, limits_at}
use Rattle.dp_codec.specs.Format.{Format, made, part, passing, times}
use Rattle.dp_codec.specs.Numbers.{signed, unsigned, within}

-- ---- the plane, in north and in east
abbrev pub places : ℤ → Format Place
places limit =
    part (λ p. p.north) (within limit) (λ north.
    part (λ p. p.east) (within limit) (λ east.
    made (record { north = north; east = east })))

unfoldable pub coordinates : Format Place
coordinates = places (pos (2 ^ 56))

-- a wave state, where it stands; else it is 0
unfoldable pub wave_parts : Bool → ℤ → Format Place
wave_parts true limit = places limit
wave_parts false limit = made zero_place

unfoldable pub plane_parts : Bool → ℤ → Format PlaneState
plane_parts stand limit =
    part (λ x. x.eta) coordinates (λ eta.
    part (λ x. x.beta) coordinates (λ beta.
    part (λ x. x.vel) coordinates (λ vel.
    part (λ x. x.wave_p) (wave_parts stand limit) (λ wave_p.
    part (λ x. x.wave_q) (wave_parts stand limit) (λ wave_q.
    made (record { eta = eta; beta = beta; vel = vel; wave_p = wave_p; wave_q = wave_q }))))))

-- the wave states stand in spelling 2, and in spelling 1 of a plant with a wave filter; without one
-- they are 0
abbrev pub waves_stand : Plant → ℕ → Bool
waves_stand p version = (version == 2) || (p.version == 2)

abbrev pub wave_limit : Plant → ℤ
wave_limit p = if p.version == 2 then pos (2 ^ 56) else pos 0

-- V is at most N²
unfoldable pub is_inside : Plant → PlaneState → Bool
is_inside p x =
    int_le (state_form p.cert.parts x)
    (reach_by p.cert p.cert.parts *ℤ reach_by p.cert p.cert.parts)

unfoldable pub inside_parts : Plant → ℕ → Format PlaneState
inside_parts p version =
    passing (is_inside p) (plane_parts (waves_stand p version) (wave_limit p))

-- ---- yaw
unfoldable pub yaw_parts : Format YawState
yaw_parts =
    part (λ x. x.psi) (signed (pos 0) (turn -ℤ pos 1)) (λ psi.
    part (λ x. x.beta) (within (pos (2 ^ 38))) (λ beta.
    part (λ x. x.rate) (within (pos (2 ^ 53))) (λ rate.
    made (record { psi = psi; beta = beta; rate = rate }))))

-- ---- the windows of the three references
unfoldable pub sample_parts : Format Place
sample_parts = places (pos (2 ^ 43))

-- the frame number of the newest of n samples is 0 where there is none, else below count
abbrev pub frame_end : ℕ → ℕ → ℕ
frame_end n count = if n == 0 then 1 else count

unfoldable pub kept_parts : ℕ → ℕ → Format Kept
kept_parts count window =
    part (λ k. length k.list.items) (unsigned w8 0 (window + 1)) (λ n.
    part (λ k. k.last) (unsigned w64 (n - 1) (frame_end n count)) (λ last.
    part (λ k. k.list.items) (times sample_parts n) (λ items.
    made (record { last = last; list = record { items = items } }))))

unfoldable pub samples_parts : List ℕ → ℕ → Format (List Kept)
samples_parts windows count =
    part (λ ks. kept_at ks 0) (kept_parts count (slice_index windows 0)) (λ first.
    part (λ ks. kept_at ks 1) (kept_parts count (slice_index windows 1)) (λ second.
    part (λ ks. kept_at ks 2) (kept_parts count (slice_index windows 2)) (λ third.
    made (first ∷ second ∷ third ∷ []))))

-- ---- the last demands, one for each cycle up to 60, on surge, sway and yaw
unfoldable pub demand_parts : Format (List ℤ)
demand_parts =
    part (λ d. entry d 0) (within (pos (2 ^ 31))) (λ surge.
    part (λ d. entry d 1) (within (pos (2 ^ 31))) (λ sway.
    part (λ d. entry d 2) (within (pos (2 ^ 38))) (λ turn.
    made (surge ∷ sway ∷ turn ∷ []))))

unfoldable pub demands_parts : ℕ → Format (ArrayVec (List ℤ))
demands_parts count =
    part (λ d. length d.items) (unsigned w8 (min 60 count) (min 60 count + 1)) (λ n.
    part (λ d. d.items) (times demand_parts n) (λ items.
    made (record { items = items })))

-- ---- the state
abbrev pub windows_of : Plant → List ℕ
windows_of p = (limits_at p 0).window ∷ (limits_at p 1).window ∷ (limits_at p 2).window ∷ []

-- all parts of a plant's state, as they stand in a version of the spelling
unfoldable pub state_parts : Plant → ℕ → Format State
state_parts p version =
    part (λ s. s.count) (unsigned w64 0 (2 ^ 20 + 1)) (λ count.
    part (λ s. s.plane) (inside_parts p version) (λ plane.
    part (λ s. s.yaw) yaw_parts (λ yaw.
    part (λ s. s.heading) (unsigned w32 0 36000) (λ heading.
    part (λ s. s.wind) (unsigned w32 0 36000) (λ wind.
    part (λ s. s.lost) (unsigned w8 0 (2 ^ p.groups)) (λ lost.
    part (λ s. s.samples) (samples_parts (windows_of p) count) (λ samples.
    part (λ s. s.demands) (demands_parts count) (λ demands.
    made (record {
      count = count;
      plane = plane;
      yaw = yaw;
      heading = heading;
      wind = wind;
      lost = lost;
      samples = samples;
      demands = demands;
    })))))))))
