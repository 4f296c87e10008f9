-- Which groups of thrusters are lost.
use Rattle.std.specs.Prelude.{ℕ, ◌+◌, ◌*◌, ◌/◌, ◌%◌, Bool, true, false, List, [], ◌∷◌, Option, Some, None}
use Rattle.dp_plant.specs.declared.frames.Slot.{Slot}

-- a group stays as it was until it is heard of again: 1 where it is lost, 0 where it is ready
abbrev pub lost_bit : ℕ → Option Bool → ℕ
lost_bit bit None = bit
lost_bit bit (Some true) = 0
lost_bit bit (Some false) = 1

-- the mask of the groups that are lost after a frame: bit g for the group of wire g
abbrev pub lost_next : ℕ → List (Slot Bool) → ℕ
lost_next mask [] = 0
lost_next mask (s ∷ ss) = lost_bit (mask % 2) s.last + 2 * lost_next (mask / 2) ss
