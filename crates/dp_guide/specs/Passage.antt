-- The setpoints of a list of moves, cycle by cycle.
use Rattle.std.specs.Prelude.{ℕ, zero, suc, ◌+◌, ◌&&◌, nat_le, List, [], ◌∷◌, if◌then◌else◌}
use Rattle.dp_plant.specs.declared.limits.Setpoint.{Setpoint}
use Rattle.dp_guide.specs.declared.motion.GuideLimits.{GuideLimits}
use Rattle.dp_guide.specs.declared.motion.Motion.{Motion}
use Rattle.dp_guide.specs.declared.moves.Move.{Move}
use Rattle.dp_guide.specs.Motion.{begun, headed, is_resting, stepped}

-- a guide, the moves that wait, and how many cycles there were
pub record PassageState : Type 0 where
  pub motion : Motion
  pub waiting : List Move
  pub cycle : ℕ

-- at rest on a setpoint, all moves waiting
abbrev pub passage_begun : GuideLimits → Setpoint → List Move → PassageState
passage_begun limits start moves = record {
  motion = begun limits start;
  waiting = moves;
  cycle = 0;
}

-- the first move that waits becomes the target, where it is of this or an earlier cycle and the
-- guide rests
abbrev pub first_taken : Motion → List Move → ℕ → PassageState
first_taken motion [] cycle = record { motion = motion; waiting = []; cycle = cycle }
first_taken motion (m ∷ later) cycle =
    if nat_le m.cycle cycle && is_resting motion
    then record { motion = headed motion m.to; waiting = later; cycle = cycle }
    else record { motion = motion; waiting = m ∷ later; cycle = cycle }

abbrev pub move_taken : PassageState → PassageState
move_taken p = first_taken p.motion p.waiting p.cycle

-- then all coordinates step once
abbrev pub one_cycle : PassageState → PassageState
one_cycle p = record {
  motion = stepped p.motion;
  waiting = p.waiting;
  cycle = p.cycle + 1;
}

unfoldable pub passage_next : PassageState → PassageState
passage_next p = one_cycle (move_taken p)

-- after n cycles
abbrev pub passage_after : GuideLimits → Setpoint → List Move → ℕ → PassageState
passage_after limits start moves zero = passage_begun limits start moves
passage_after limits start moves (suc n) = passage_next (passage_after limits start moves n)

-- the setpoint of cycle n, counted from 0: where the guide is at its end
abbrev pub setpoints_of : GuideLimits → Setpoint → List Move → ℕ → Setpoint
setpoints_of limits start moves n = (passage_after limits start moves (suc n)).motion.here
