-- The frame of a cycle, filtered out of all entries of a record. Entries are newest first.
use Rattle.std.specs.Prelude.{ℕ, ◌≤◌, ◌<◌, Bool, false, ◌==◌, ◌&&◌, List, [], ◌∷◌, map, replicate, All}
use Rattle.std.specs.List.{range_with_len}
use Rattle.dp_plant.specs.declared.frames.Frame.{Frame}
use Rattle.dp_plant.specs.declared.frames.Slot.{Slot}
use Rattle.dp_plant.specs.declared.frames.Wire.{Wire}
use Rattle.dp_plant.specs.declared.frames.Wire.TheVariants.{Pos, Gyro, Wind, Group}
use Rattle.dp_frame.specs.declared.entry.Brought.{Brought}
use Rattle.dp_frame.specs.declared.entry.Entry.{Entry}
use Rattle.dp_frame.specs.declared.entry.Content.{Content}
use Rattle.dp_frame.specs.Slots.{slot_of, no_slot, place_of, heading_of, gust_of, ready_of}

-- the wire is number i of its kind
abbrev pub is_pos : ℕ → Wire → Bool
is_pos i (Pos k) = k == i
is_pos i other = false

abbrev pub is_gyro : ℕ → Wire → Bool
is_gyro i (Gyro k) = k == i
is_gyro i other = false

abbrev pub is_wind : ℕ → Wire → Bool
is_wind i (Wind k) = k == i
is_wind i other = false

abbrev pub is_group : ℕ → Wire → Bool
is_group i (Group k) = k == i
is_group i other = false

module _ {T : Type 0} where
  -- the slots of cycle n for the first `count` wires of a kind
  unfoldable pub slots_of : (ℕ → Wire → Bool) → (Content → Brought T) → ℕ → ℕ → List Entry
      → List (Slot T)
  slots_of is_wire brought count n entries =
      map (λ i. slot_of (λ e. is_wire i e.wire && e.cycle == n) (λ e. brought e.content) entries)
      (range_with_len 0 count)

-- the frame of cycle n
unfoldable pub frame_of : ℕ → List Entry → Frame
frame_of n entries = record {
  cycle = n;
  pos = slots_of is_pos place_of 3 n entries;
  gyro = slots_of is_gyro heading_of 3 n entries;
  wind = slots_of is_wind gust_of 3 n entries;
  group = slots_of is_group ready_of 8 n entries;
}

-- the frame of a cycle that no line came for
abbrev pub no_frame : ℕ → Frame
no_frame n = record {
  cycle = n;
  pos = replicate 3 no_slot;
  gyro = replicate 3 no_slot;
  wind = replicate 3 no_slot;
  group = replicate 8 no_slot;
}

-- each of these entries is of an earlier cycle
unfoldable pub IsBefore : ℕ → List Entry → Type 0
IsBefore n [] = Unit {0}
IsBefore n (e ∷ es) = (e.cycle < n) × IsBefore n es

module _ {T : Type 0} where
  -- no count is above this
  abbrev pub AreBounded : ℕ → List (Slot T) → Type 0
  AreBounded most slots = All (λ s. (s.damage ≤ most) × (s.skipped ≤ most)) slots

pub record IsFrameBounded (most : ℕ) (frame : Frame) : Type 0 where
  pub pos : AreBounded most frame.pos
  pub gyro : AreBounded most frame.gyro
  pub wind : AreBounded most frame.wind
  pub group : AreBounded most frame.group
