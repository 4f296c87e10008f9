-- One cycle of one computer.
use Rattle.std.specs.Prelude.{ℕ, ◌+◌, ◌/◌, ◌^◌, Bool, List, [], ◌∷◌, ◌++◌, filter_map, map, slice_index_or, Option, is_none, unwrap_or, ℤ, pos, unsigned_abs}
use Rattle.std.specs.Option.{option_map}
use Rattle.dp_trig.specs.SinePair.{pair_of}
use Rattle.dp_plant.specs.Cases.{box_of, case_of}
use Rattle.dp_plant.specs.declared.alarms.Alarms.{Alarms}
use Rattle.dp_plant.specs.declared.frames.Frame.{Frame}
use Rattle.dp_plant.specs.declared.frames.Gust.{Gust}
use Rattle.dp_plant.specs.declared.limits.Setpoint.{Setpoint}
use Rattle.dp_plant.specs.declared.place.Place.{Place}
use Rattle.dp_plant.specs.declared.plane.PlaneState.{PlaneState}
use Rattle.dp_plant.specs.declared.plant.Plant.{Plant}
use Rattle.dp_plant.specs.declared.references.RefLimits.{RefLimits}
use Rattle.dp_plant.specs.declared.references.Verdict.{Verdict}
use Rattle.dp_plant.specs.declared.yaw.YawState.{YawState}
use Rattle.dp_plant.specs.Observer.{rest_at}
use Rattle.dp_plant.specs.Step.{PlaneStep, plane_step}
use Rattle.dp_plant.specs.Vectors.{entry}
use Rattle.dp_plant.specs.Yaw.{YawStep, yaw_step}
use Rattle.dp_reftest.specs.declared.kept.Kept.{Kept}
use Rattle.dp_reftest.specs.Verdict.{verdict_of}
use Rattle.dp_reftest.specs.Window.{last_of, no_samples, slot_of, window_next}
use Rattle.dp_fuse.specs.Angles.{fused_angle}
use Rattle.dp_fuse.specs.Gusts.{fused_gust}
use Rattle.dp_fuse.specs.Places.{fused_place, origins_by}
use Rattle.dp_alloc.specs.Thrust.{forces_of}
use Rattle.dp_pid.specs.Asked.{limited_of}
use Rattle.dp_pid.specs.WindPush.{wind_push}
use Rattle.dp_consequence.specs.{mean_demand, unsurvived_bits}
use Rattle.dp_machine.specs.declared.issue.Issue.{Issue}
use Rattle.dp_machine.specs.declared.sensed.Sensed.{Sensed}
use Rattle.dp_machine.specs.declared.state.State.{State}
use Rattle.dp_machine.specs.Alarms.{cause_of, damaged_in}
use Rattle.dp_machine.specs.Groups.{lost_next}

pub record Step : Type 0 where
  pub issue : Issue
  pub next : State

-- ---- what a cycle hears of heading and wind, each by its base, and of the groups
unfoldable pub sensed_by : ℕ → ℕ → ℕ → Frame → Sensed
sensed_by heading wind lost f = record {
  heading = fused_angle heading (filter_map (λ s. s.last) f.gyro);
  gust = fused_gust wind (filter_map (λ s. s.last) f.wind);
  lost = lost_next lost f.group;
}

abbrev pub sensed_of : State → Frame → Sensed
sensed_of s f = sensed_by s.heading s.wind s.lost f

-- the bases of the next cycle: what was fused, or the base as it was
abbrev pub heading_in : State → Sensed → ℕ
heading_in s h = unwrap_or h.heading s.heading

abbrev pub wind_in : State → Sensed → ℕ
wind_in s h = unwrap_or (option_map (λ g. g.angle) h.gust) s.wind

-- ---- what it hears of the position
abbrev pub kept_at : List Kept → ℕ → Kept
kept_at ks i = slice_index_or ks i no_samples

abbrev pub no_limits : RefLimits
no_limits = record { window = 0; jump = pos 0; noise = pos 0; age = 0 }

abbrev pub limits_in : List RefLimits → ℕ → RefLimits
limits_in limits i = slice_index_or limits i no_limits

abbrev pub limits_at : Plant → ℕ → RefLimits
limits_at p i = limits_in p.refs i

-- the window of reference i with this frame's reading
abbrev pub window_at : Plant → State → Frame → ℕ → Kept
window_at p s f i =
    window_next (limits_at p i).window (kept_at s.samples i) s.count (slot_of f.pos i).last

abbrev pub verdict_at : Plant → State → Frame → ℕ → Verdict
verdict_at p s f i = verdict_of (limits_at p i) (window_at p s f i) s.count

-- what the tests say of the three references
abbrev pub verdicts_of : Plant → State → Frame → List Verdict
verdicts_of p s f = verdict_at p s f 0 ∷ verdict_at p s f 1 ∷ verdict_at p s f 2 ∷ []

-- where those that are usable say that the vessel's origin is, by the sine pair of the heading
unfoldable pub measured_by : Plant → ℤ × ℤ → List Verdict → Option Place
measured_by p pair verdicts = fused_place (origins_by pair p.levers verdicts)

abbrev pub measured_at : Plant → ℤ × ℤ → State → Frame → Option Place
measured_at p pair s f = measured_by p pair (verdicts_of p s f)

-- ---- what is demanded, and the estimates after it
-- the sine pair of the heading, cosine first
abbrev pub pair_in : State → Sensed → ℤ × ℤ
pair_in s h = pair_of (heading_in s h)

-- what the wind pushes on surge, sway and yaw
unfoldable pub push_by : Plant → Option Gust → List ℤ
push_by p gust = wind_push p.wind gust

-- while a set of groups is lost: from the sine pair, the wind's push, the state and the measured
-- place, if there is one
unfoldable pub plane_by : Plant → Setpoint → ℕ → ℤ × ℤ → List ℤ → PlaneState → Option Place
    → PlaneStep
plane_by p at lost pair push x y = plane_step p.gains (box_of (case_of p lost)) at pair push x y

-- likewise, with the measured heading, if there is one
unfoldable pub yaw_by : Plant → Setpoint → ℕ → List ℤ → YawState → Option ℕ → YawStep
yaw_by p at lost push x heading = yaw_step p.yaw (box_of (case_of p lost)) at push x heading

-- which of surge, sway and yaw the box limits, by the states of plane and yaw
unfoldable pub limited_by : Plant → Setpoint → ℕ → ℤ × ℤ → List ℤ → PlaneState → YawState
    → List Bool
limited_by p at lost pair push x yaw =
    limited_of p.gains p.yaw (box_of (case_of p lost)) x yaw at pair push

abbrev pub plane_in : Plant → Setpoint → State → Frame → Sensed → PlaneStep
plane_in p at s f h =
    plane_by p at h.lost (pair_in s h) (push_by p h.gust) s.plane (measured_at p (pair_in s h) s f)

abbrev pub yaw_in : Plant → Setpoint → State → Sensed → YawStep
yaw_in p at s h = yaw_by p at h.lost (push_by p h.gust) s.yaw h.heading

abbrev pub limited_in : Plant → Setpoint → State → Sensed → List Bool
limited_in p at s h = limited_by p at h.lost (pair_in s h) (push_by p h.gust) s.plane s.yaw

-- on surge, sway and yaw
abbrev pub whole_demand : PlaneStep → YawStep → List ℤ
whole_demand plane yaw = entry plane.demand 0 ∷ entry plane.demand 1 ∷ yaw.demand ∷ []

-- ---- the step
-- the demands of the last 60 cycles, this one's the newest
abbrev pub demands_with : State → List ℤ → List (List ℤ)
demands_with s demand = last_of 60 (s.demands.items ++ demand ∷ [])

-- the forces that meet a demand while a set of groups is lost
unfoldable pub forces_by : Plant → ℕ → List ℤ → List ℤ
forces_by p lost demand = forces_of p.thrusters.items (case_of p lost) demand

-- what a cycle warns of, by what the tests say, the frame, the measured place, if there is one, what
-- is heard, which demands are limited, and the mean demand of late
unfoldable pub alarms_by : Plant → List Verdict → Frame → Option Place → Sensed → List Bool → List ℤ
    → Alarms
alarms_by p verdicts f place h limited mean = record {
  refs = map cause_of verdicts;
  damaged = damaged_in f;
  blind = is_none place;
  gyro = is_none h.heading;
  wind = is_none h.gust;
  limited = limited;
  nocase = is_none (case_of p h.lost);
  lost = unsurvived_bits p h.lost mean;
}

abbrev pub alarms_in : Plant → Setpoint → State → Frame → Sensed → List ℤ → Alarms
alarms_in p at s f h demand =
    alarms_by p (verdicts_of p s f) f (measured_at p (pair_in s h) s f) h (limited_in p at s h)
    (mean_demand (demands_with s demand))

abbrev pub issue_in : Plant → Setpoint → State → Frame → Sensed → List ℤ → Issue
issue_in p at s f h demand = record {
  cycle = s.count;
  forces = record { items = forces_by p h.lost demand };
  demand = demand;
  alarms = alarms_in p at s f h demand;
}

abbrev pub state_in : Plant → State → Frame → Sensed → List ℤ → PlaneState → YawState → State
state_in p s f h demand plane yaw = record {
  count = s.count + 1;
  plane = plane;
  yaw = yaw;
  heading = heading_in s h;
  wind = wind_in s h;
  lost = h.lost;
  samples = window_at p s f 0 ∷ window_at p s f 1 ∷ window_at p s f 2 ∷ [];
  demands = record { items = demands_with s demand };
}

-- one cycle: what is issued, and the state after it
abbrev pub step_by : Plant → Setpoint → State → Frame → Sensed → List ℤ → PlaneState → YawState
    → Step
step_by p at s f h demand plane yaw = record {
  issue = issue_in p at s f h demand;
  next = state_in p s f h demand plane yaw;
}

-- one cycle at a setpoint
unfoldable pub step_at : Plant → Setpoint → State → Frame → Step
step_at p at s f =
    let h = sensed_of s f in let plane = plane_in p at s f h in let yaw = yaw_in p at s h in
    step_by p at s f h (whole_demand plane yaw) plane.next yaw.next

-- one cycle at the plant's own setpoint
abbrev pub step_of : Plant → State → Frame → Step
step_of p s f = step_at p p.setpoint s f

-- ---- states
abbrev pub resting_yaw : ℤ → YawState
resting_yaw psi = record { psi = psi; beta = pos 0; rate = pos 0 }

-- at rest at the plant's start, with no samples, no demands and no group lost
unfoldable pub first_state : Plant → State
first_state p = record {
  count = 0;
  plane = rest_at p.start.at;
  yaw = resting_yaw p.start.psi;
  heading = unsigned_abs p.start.psi / 10 ^ 7;
  wind = 0;
  lost = 0;
  samples = no_samples ∷ no_samples ∷ no_samples ∷ [];
  demands = record { items = [] };
}

-- the state with its plane at rest at a place; all else stays
unfoldable pub rest_in : State → Place → State
rest_in s at = record s { plane = rest_at at }
