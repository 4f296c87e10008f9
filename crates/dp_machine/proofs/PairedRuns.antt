-- Two runs over records that differ in one position reference, cycle by cycle.
use Rattle.std.proofs.Common.{◌≡◌, ℕ, zero, suc, Bool, List, [], ◌∷◌, Option, Some, refl, ap, subst, ◌∙◌, arith, ℤ, pos, ◌≤ℤ◌}
use Rattle.std.specs.Prelude.{All, length, slice_get, take}
use Rattle.dp_trig.specs.SinePair.{pair_of}
use Rattle.dp_trig.proofs.SinePairs.{pair_of-short}
use Rattle.dp_plant.specs.Cases.{box_of, case_of}
use Rattle.dp_plant.specs.Observer.{rest_at}
use Rattle.dp_plant.specs.Ranges.{IsPair}
use Rattle.dp_plant.specs.Yaw.{YawStep}
use Rattle.dp_plant.specs.declared.cert.Parts.{Parts}
use Rattle.dp_plant.specs.declared.cert.Parts.TheVariants.{Three, Five}
use Rattle.dp_plant.specs.declared.frames.Frame.{Frame}
use Rattle.dp_plant.specs.declared.frames.Gust.{Gust}
use Rattle.dp_plant.specs.declared.frames.Slot.{Slot}
use Rattle.dp_plant.specs.declared.limits.Box3.{Box3}
use Rattle.dp_plant.specs.declared.limits.Setpoint.{Setpoint}
use Rattle.dp_plant.specs.declared.place.Place.{Place}
use Rattle.dp_plant.specs.declared.plane.PlaneState.{PlaneState}
use Rattle.dp_plant.specs.declared.plant.Plant.{Plant}
use Rattle.dp_plant.specs.declared.yaw.YawState.{YawState}
use Rattle.dp_reftest.specs.declared.kept.Kept.{Kept}
use Rattle.dp_fuse.specs.Laws.{FusedPlaceIsInHullOfTwo}
use Rattle.dp_cert.specs.States.{IsStateOf}
use Rattle.dp_cert.specs.TwinRuns.{AreClose, AreMeasuredWithin, ForcesStayClose, IsTwinCycle, RunsStayClose, SameIsClose, TwinCycle}
use Rattle.dp_machine.specs.declared.state.State.{State}
use Rattle.dp_machine.specs.Step.{first_state, forces_by, heading_in, measured_at, pair_in, plane_by, plane_in, push_by, sensed_by, sensed_of, step_at, whole_demand, yaw_in}
use Rattle.dp_machine.specs.Run.{Setpoints, cycle_at, issue_after, run_over}
use Rattle.dp_machine.specs.Reference.{force_in, force_of, reference_issue, reference_state}
use Rattle.dp_machine.specs.ReplacedReference.{AreBothBounded, AreSharedBut, IsReplaced, IsReplacedCycle, IsReplacedIn, ReplacedReferenceIsBounded, RunsShareAllButTheReplaced}
use Rattle.dp_machine.proofs.RowForces.{AreDemandsClose, forces_close}
use Rattle.dp_machine.proofs.SharedPlaces.{SameSlots, SameWindows, measured_close, windows_kept}

-- what is the same for a whole proof: the plant, the setpoints, the reference and the spread, and
-- what is known of the plant's gains
record Setting : Type 0 where
  p : Plant
  sets : Setpoints
  r : ℕ
  spread : ℤ
  low : pos 0 ≤ℤ spread
  hull : FusedPlaceIsInHullOfTwo
  runs : RunsStayClose p.gains p.cert
  forces : ForcesStayClose p.gains p.cert

-- ---- the planes
single : (s : ℤ) (t : TwinCycle) → IsTwinCycle s t → All (IsTwinCycle s) (t ∷ [])
single s t i zero d h = i
single s t i (suc k) d h = absurd (omega arith)

heading_short : (a : ℕ) → IsPair (pair_of a)
heading_short a = record { short = (pair_of-short a).within }

abbrev twin_cycle : Box3 → Setpoint → ℤ × ℤ → List ℤ → Option Place → Option Place → TwinCycle
twin_cycle box at pair wind y y' = record { box = box; setpoint = at; pair = pair; wind = wind; first = y; second = y' }

planes_close : (a : Setting) (at : Setpoint) (lost heading : ℕ) (push : List ℤ) (x x' : PlaneState) (y y' : Option Place)
    → AreMeasuredWithin a.spread y y' → AreClose a.p.cert a.spread x x'
    → AreClose a.p.cert a.spread (plane_by a.p at lost (pair_of heading) push x y).next (plane_by a.p at lost (pair_of heading) push x' y').next
unfolding plane_by
planes_close a at lost heading push x x' y y' w v =
    let t = twin_cycle (box_of (case_of a.p lost)) at (pair_of heading) push y y' in
    let i : IsTwinCycle a.spread t = record { pair = heading_short heading; places = w } in
    a.runs a.spread a.low (t ∷ []) (single a.spread t i) x x' v

demands_close : (a : Setting) (at : Setpoint) (lost heading : ℕ) (push : List ℤ) (x x' : PlaneState) (y y' : Option Place) (yaw : YawStep)
    → AreClose a.p.cert a.spread x x'
    → AreDemandsClose a.p.cert a.spread (whole_demand (plane_by a.p at lost (pair_of heading) push x y) yaw) (whole_demand (plane_by a.p at lost (pair_of heading) push x' y') yaw)
unfolding plane_by AreDemandsClose
demands_close a at lost heading push x x' y y' yaw v row =
    let t = twin_cycle (box_of (case_of a.p lost)) at (pair_of heading) push y y' in
    a.forces a.spread a.low t (heading_short heading) x x' v y y' row yaw.demand

-- ---- the states
-- a state by its parts
abbrev state_by : ℕ → YawState → ℕ → ℕ → ℕ → PlaneState → List Kept → List (List ℤ) → State
state_by count yaw heading wind lost x ks ds = record {
  count = count;
  plane = x;
  yaw = yaw;
  heading = heading;
  wind = wind;
  lost = lost;
  samples = ks;
  demands = record { items = ds };
}

-- two states of the runs, by what they share and what each has of its own
record Pair (a : Setting) : Type 0 where
  count : ℕ
  yaw : YawState
  heading : ℕ
  wind : ℕ
  lost : ℕ
  plane : PlaneState
  plane' : PlaneState
  windows : List Kept
  windows' : List Kept
  demands : List (List ℤ)
  demands' : List (List ℤ)
  same : SameWindows a.r windows windows'
  close : AreClose a.p.cert a.spread plane plane'

abbrev one_of : {a : Setting} → Pair a → State
one_of t = state_by t.count t.yaw t.heading t.wind t.lost t.plane t.windows t.demands

abbrev other_of : {a : Setting} → Pair a → State
other_of t = state_by t.count t.yaw t.heading t.wind t.lost t.plane' t.windows' t.demands'

-- ---- the frames
-- a frame by its parts
abbrev frame_by : ℕ → List (Slot ℕ) → List (Slot Gust) → List (Slot Bool) → List (Slot Place) → Frame
frame_by cycle gyro wind group ps = record { cycle = cycle; pos = ps; gyro = gyro; wind = wind; group = group }

-- a frame with the number and the places of another
abbrev with_places : Frame → Frame → Frame
with_places f f' = frame_by f'.cycle f.gyro f.wind f.group f'.pos

replaced_frame : (r : ℕ) (f f' : Frame) → IsReplacedIn r f f' → with_places f f' ≡ f'
replaced_frame r f f' t =
    ap (λ z. frame_by f'.cycle z f.wind f.group f'.pos) t.gyro
    ∙ ap (λ z. frame_by f'.cycle f'.gyro z f.group f'.pos) t.wind ∙ ap (λ z. frame_by f'.cycle f'.gyro f'.wind z f'.pos) t.group

own_cycle : (a : Setting) (s : State) (f f' : Frame) → IsReplacedCycle a.p a.r a.spread s f f' → IsReplacedCycle a.p a.r a.spread s f (with_places f f')
own_cycle a s f f' h = record { frames = record { others = h.frames.others; gyro = refl; wind = refl; group = refl }; others = h.others }

-- ---- one cycle
places_close : (a : Setting) (t : Pair a) (f f' : Frame) → IsReplacedCycle a.p a.r a.spread (one_of t) f (with_places f f')
    → AreMeasuredWithin a.spread (measured_at a.p (pair_in (one_of t) (sensed_of (one_of t) f)) (one_of t) f)
    (measured_at a.p (pair_in (one_of t) (sensed_of (one_of t) f)) (other_of t) (with_places f f'))
unfolding SameSlots
places_close a t f f' h = measured_close a.hull a.p a.r a.spread (one_of t) (other_of t) f (with_places f f') refl t.same h.frames.others h.others

unfoldable next_of : (a : Setting) (t : Pair a) (f f' : Frame) → IsReplacedCycle a.p a.r a.spread (one_of t) f (with_places f f') → Pair a
unfolding step_at sensed_by SameSlots
next_of a t f f' h =
    let s = one_of t in let s' = other_of t in let heard = sensed_of s f in
    let next = (cycle_at a.p a.sets s f).next in let next' = (cycle_at a.p a.sets s' (with_places f f')).next in
    record {
      count = next.count;
      yaw = next.yaw;
      heading = next.heading;
      wind = next.wind;
      lost = next.lost;
      plane = next.plane;
      plane' = next'.plane;
      windows = next.samples;
      windows' = next'.samples;
      demands = next.demands.items;
      demands' = next'.demands.items;
      same = windows_kept a.p a.r s s' f (with_places f f') refl t.same h.frames.others;
      close = planes_close a (a.sets t.count) heard.lost (heading_in s heard) (push_by a.p heard.gust) t.plane t.plane'
          (measured_at a.p (pair_in s heard) s f) (measured_at a.p (pair_in s heard) s' (with_places f f')) (places_close a t f f' h) t.close;
    }

cycle_forces : (a : Setting) (t : Pair a) (f f' : Frame) (k : ℕ)
    → AreBothBounded a.p.cert a.spread (case_of a.p (cycle_at a.p a.sets (one_of t) f).next.lost) k
    (force_in (Some (cycle_at a.p a.sets (one_of t) f).issue) k) (force_in (Some (cycle_at a.p a.sets (other_of t) (with_places f f')).issue) k)
unfolding step_at sensed_by force_in forces_by
cycle_forces a t f f' k =
    let s = one_of t in let s' = other_of t in let heard = sensed_of s f in let at = a.sets t.count in
    let plane = plane_in a.p at s f heard in let plane' = plane_in a.p at s' (with_places f f') heard in let yaw = yaw_in a.p at s heard in
    forces_close a.p.cert a.spread a.p.thrusters.items (case_of a.p heard.lost) (whole_demand plane yaw) (whole_demand plane' yaw)
    (demands_close a at heard.lost (heading_in s heard) (push_by a.p heard.gust) t.plane t.plane'
    (measured_at a.p (pair_in s heard) s f) (measured_at a.p (pair_in s heard) s' (with_places f f')) yaw t.close) k

-- ---- all cycles
-- the records from a state on
record IsReplacedFrom (a : Setting) (s : State) (fs fs' : List Frame) : Type 0 where
  lengths : length fs ≡ length fs'
  cycles : (n : ℕ) (f f' : Frame) → slice_get fs n ≡ Some f → slice_get fs' n ≡ Some f'
      → IsReplacedCycle a.p a.r a.spread (run_over a.p a.sets s (take n fs)) f f'

first_cycle : (a : Setting) (s : State) (f f' : Frame) (fs fs' : List Frame) → IsReplacedFrom a s (f ∷ fs) (f' ∷ fs') → IsReplacedCycle a.p a.r a.spread s f f'
unfolding run_over
first_cycle a s f f' fs fs' h = h.cycles 0 f f' refl refl

rest_of : (a : Setting) (s : State) (f f' : Frame) (fs fs' : List Frame) → IsReplacedFrom a s (f ∷ fs) (f' ∷ fs')
    → IsReplacedFrom a (cycle_at a.p a.sets s f).next fs fs'
unfolding run_over
rest_of a s f f' fs fs' h = record { lengths = omega (arith, h.lengths); cycles = λ n g g' e e'. h.cycles (suc n) g g' e e' }

after_cycles : (a : Setting) (t : Pair a) (fs fs' : List Frame) → IsReplacedFrom a (one_of t) fs fs' → (n k : ℕ)
    → AreBothBounded a.p.cert a.spread (case_of a.p (run_over a.p a.sets (one_of t) (take (suc n) fs)).lost) k
    (force_in (issue_after a.p a.sets (one_of t) fs n) k) (force_in (issue_after a.p a.sets (other_of t) fs' n) k)
unfolding next_of step_at sensed_by run_over issue_after force_in
after_cycles a t [] [] h n k = tt
after_cycles a t [] (f' ∷ fs') h n k = absurd (omega (arith, h.lengths))
after_cycles a t (f ∷ fs) [] h n k = absurd (omega (arith, h.lengths))
after_cycles a t (f ∷ fs) (f' ∷ fs') h zero k =
    let c = first_cycle a (one_of t) f f' fs fs' h in subst
    (λ z. AreBothBounded a.p.cert a.spread (case_of a.p (cycle_at a.p a.sets (one_of t) f).next.lost) k
    (force_in (Some (cycle_at a.p a.sets (one_of t) f).issue) k) (force_in (Some (cycle_at a.p a.sets (other_of t) z).issue) k))
    (replaced_frame a.r f f' c.frames) (cycle_forces a t f f' k)
after_cycles a t (f ∷ fs) (f' ∷ fs') h (suc n) k =
    let c = first_cycle a (one_of t) f f' fs fs' h in subst
    (λ z. AreBothBounded a.p.cert a.spread (case_of a.p (run_over a.p a.sets (cycle_at a.p a.sets (one_of t) f).next (take (suc n) fs)).lost) k
    (force_in (issue_after a.p a.sets (cycle_at a.p a.sets (one_of t) f).next fs n) k)
    (force_in (issue_after a.p a.sets (cycle_at a.p a.sets (other_of t) z).next fs' n) k))
    (replaced_frame a.r f f' c.frames)
    (after_cycles a (next_of a t f f' (own_cycle a (one_of t) f f' c)) fs fs' (rest_of a (one_of t) f f' fs fs' h) n k)

-- what the states share after n cycles
states_after : (a : Setting) (t : Pair a) (fs fs' : List Frame) → IsReplacedFrom a (one_of t) fs fs' → (n : ℕ)
    → AreSharedBut a.r (run_over a.p a.sets (one_of t) (take n fs)) (run_over a.p a.sets (other_of t) (take n fs'))
unfolding next_of step_at sensed_by run_over SameWindows
states_after a t fs fs' h zero = record { count = refl; yaw = refl; heading = refl; wind = refl; lost = refl; samples = t.same }
states_after a t [] [] h (suc n) = record { count = refl; yaw = refl; heading = refl; wind = refl; lost = refl; samples = t.same }
states_after a t [] (f' ∷ fs') h (suc n) = absurd (omega (arith, h.lengths))
states_after a t (f ∷ fs) [] h (suc n) = absurd (omega (arith, h.lengths))
states_after a t (f ∷ fs) (f' ∷ fs') h (suc n) =
    let c = first_cycle a (one_of t) f f' fs fs' h in subst
    (λ z. AreSharedBut a.r (run_over a.p a.sets (cycle_at a.p a.sets (one_of t) f).next (take n fs)) (run_over a.p a.sets (cycle_at a.p a.sets (other_of t) z).next (take n fs')))
    (replaced_frame a.r f f' c.frames)
    (states_after a (next_of a t f f' (own_cycle a (one_of t) f f' c)) fs fs' (rest_of a (one_of t) f f' fs fs' h) n)

-- ---- from the first state on
start : (a : Setting) (s : State) → AreClose a.p.cert a.spread s.plane s.plane → Pair a
unfolding SameWindows
start a s h = record {
  count = s.count;
  yaw = s.yaw;
  heading = s.heading;
  wind = s.wind;
  lost = s.lost;
  plane = s.plane;
  plane' = s.plane;
  windows = s.samples;
  windows' = s.samples;
  demands = s.demands.items;
  demands' = s.demands.items;
  same = λ i ne. refl;
  close = h;
}

-- at rest there are no waves
rest_is : (parts : Parts) (at : Place) → IsStateOf parts (rest_at at)
rest_is (Three l) at = record { wave_p = refl; wave_q = refl }
rest_is (Five l) at = tt

first_is : (p : Plant) → IsStateOf p.cert.parts (first_state p).plane
unfolding first_state
first_is p = rest_is p.cert.parts p.start.at

from_first : (a : Setting) (fs fs' : List Frame) → IsReplaced a.p a.sets a.r a.spread fs fs' → IsReplacedFrom a (first_state a.p) fs fs'
unfolding reference_state
from_first a fs fs' h = record { lengths = h.lengths; cycles = h.cycles }

-- what is known of fused places, and of a plant's gains with its certificate
pub record StaysClose (p : Plant) : Type 0 where
  pub hull : FusedPlaceIsInHullOfTwo
  pub same : SameIsClose p.cert
  pub runs : RunsStayClose p.gains p.cert
  pub forces : ForcesStayClose p.gains p.cert

setting : (p : Plant) → StaysClose p → Setpoints → ℕ → (spread : ℤ) → pos 0 ≤ℤ spread → Setting
setting p known sets r spread low = record { p = p; sets = sets; r = r; spread = spread; low = low; hull = known.hull; runs = known.runs; forces = known.forces }

pub bounded : (p : Plant) → StaysClose p → ReplacedReferenceIsBounded p
unfolding start setting reference_state force_of reference_issue
bounded p known sets r spread low fs fs' h n k =
    let a = setting p known sets r spread low in
    after_cycles a (start a (first_state p) (known.same spread low (first_state p).plane (first_is p))) fs fs' (from_first a fs fs' h) n k

pub shared : (p : Plant) → StaysClose p → RunsShareAllButTheReplaced p
unfolding start setting reference_state
shared p known sets r spread low fs fs' h n =
    let a = setting p known sets r spread low in
    states_after a (start a (first_state p) (known.same spread low (first_state p).plane (first_is p))) fs fs' (from_first a fs fs' h) n
