-- Angles, brought to the turn that is nearest to zero.
use Rattle.std.specs.Prelude.{◌≡◌, ℤ, pos, neg_ℤ, ◌+ℤ◌, ◌-ℤ◌, ◌*ℤ◌, ◌≤ℤ◌, ◌<ℤ◌}
use Rattle.std.specs.Int.{int_rem_euclid}
use Rattle.dp_fixed.specs.Division.{floor_of}

-- what differs from x by whole turns and lies from minus half a turn up to, but not including, half
-- a turn
abbrev pub wrap_of : ℤ → ℤ → ℤ
wrap_of x turn = let half = floor_of turn (pos 2) in int_rem_euclid (x +ℤ half) turn -ℤ half

-- w differs from x by whole turns, and twice w lies from minus one turn up to, but not including,
-- one turn
pub record IsWrapped (x turn w : ℤ) : Type 0 where
  pub turns : ℤ
  pub same_angle : x ≡ w +ℤ turns *ℤ turn
  pub low : neg_ℤ turn ≤ℤ (pos 2 *ℤ w)
  pub high : (pos 2 *ℤ w) <ℤ turn
