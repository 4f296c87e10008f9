-- How up to three angles become one. Angles are in hundredths of a degree.
use Rattle.std.specs.Prelude.{ℕ, List, map, Option, ℤ, pos, ◌+ℤ◌, ◌-ℤ◌, unsigned_abs}
use Rattle.std.specs.Int.{int_rem_euclid}
use Rattle.std.specs.Option.{option_map}
use Rattle.dp_fixed.specs.Turns.{wrap_of}
use Rattle.dp_fuse.specs.declared.weighted.Weighted.{Weighted}
use Rattle.dp_fuse.specs.Fuse.{alike, fuse}

-- how far an angle is from a base, from minus half a turn up to, but not including, half a turn
abbrev pub turn_from : ℕ → ℕ → ℤ
turn_from base angle = wrap_of (pos angle -ℤ pos base) (pos 36000)

-- the angle that is so far from a base
abbrev pub turned_by : ℕ → ℤ → ℕ
turned_by base d = unsigned_abs (int_rem_euclid (pos base +ℤ d) (pos 36000))

abbrev pub weighted_turn : ℕ → ℕ → Weighted
weighted_turn base angle = alike (turn_from base angle)

-- what is fused is how far each angle is from the base
abbrev pub fused_angle : ℕ → List ℕ → Option ℕ
fused_angle base angles = option_map (turned_by base) (fuse (map (weighted_turn base) angles))
