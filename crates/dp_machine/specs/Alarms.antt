-- What a cycle warns of.
use Rattle.std.specs.Prelude.{ℕ, Bool, List, not, nat_lt, ◌++◌, map}
use Rattle.std.specs.List.{list_all}
use Rattle.dp_fixed.specs.{bits_of}
use Rattle.dp_plant.specs.declared.alarms.Cause.{Cause}
use Rattle.dp_plant.specs.declared.alarms.Cause.TheVariants as cause
use Rattle.dp_plant.specs.declared.frames.Frame.{Frame}
use Rattle.dp_plant.specs.declared.frames.Slot.{Slot}
use Rattle.dp_plant.specs.declared.references.Verdict.{Verdict}
use Rattle.dp_plant.specs.declared.references.Verdict.TheVariants.{Silent, Stale, Frozen, Jumped, Noisy, Usable}

-- that a reference is good, or why it isn't usable
abbrev pub cause_of : Verdict → Cause
cause_of Silent = cause.Silent
cause_of (Stale age) = cause.Stale
cause_of Frozen = cause.Frozen
cause_of Jumped = cause.Jumped
cause_of (Noisy variance) = cause.Noisy
cause_of (Usable at weight) = cause.Good

abbrev pub is_damaged : {X : Type 0} → Slot X → Bool
is_damaged s = nat_lt 0 s.damage

-- no damaged line came on any of these wires
abbrev pub are_sound_slots : {X : Type 0} → List (Slot X) → Bool
are_sound_slots slots = list_all (λ s. not (is_damaged s)) slots

-- the wires with damage, in the order of positions, gyros, wind sensors and groups
unfoldable pub damaged_in : Frame → ℕ
damaged_in f =
    bits_of (map is_damaged f.pos ++ (map is_damaged f.gyro
    ++ (map is_damaged f.wind ++ map is_damaged f.group)))
