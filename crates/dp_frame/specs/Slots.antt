-- What the lines of one wire and cycle come to in a slot, whatever the type of its readings.
-- Entries are newest first.
use Rattle.std.specs.Prelude.{ℕ, ◌+◌, Bool, true, false, ◌&&◌, List, [], ◌∷◌, if◌then◌else◌, count_by, Option, Some, None}
use Rattle.dp_plant.specs.declared.place.Place.{Place}
use Rattle.dp_plant.specs.declared.frames.Gust.{Gust}
use Rattle.dp_plant.specs.declared.frames.Slot.{Slot}
use Rattle.dp_frame.specs.declared.entry.Brought.{Brought}
use Rattle.dp_frame.specs.declared.entry.Brought.TheVariants.{Reading, Damaged, Skipped}
use Rattle.dp_frame.specs.declared.entry.Entry.{Entry}
use Rattle.dp_frame.specs.declared.entry.Content.{Content}
use Rattle.dp_frame.specs.declared.entry.Content.TheVariants as content

-- what a line brings for a slot of places, and for one of headings, of winds, and of groups'
-- states: a reading of another kind is none
abbrev pub place_of : Content → Brought Place
place_of (content.At place) = Reading place
place_of content.Damaged = Damaged
place_of other = Skipped

abbrev pub heading_of : Content → Brought ℕ
heading_of (content.Heading heading) = Reading heading
heading_of content.Damaged = Damaged
heading_of other = Skipped

abbrev pub gust_of : Content → Brought Gust
gust_of (content.Wind gust) = Reading gust
gust_of content.Damaged = Damaged
gust_of other = Skipped

abbrev pub ready_of : Content → Brought Bool
ready_of (content.Ready ready) = Reading ready
ready_of content.Damaged = Damaged
ready_of other = Skipped

module _ {T : Type 0} where
  abbrev pub is_damage : Brought T → Bool
  is_damage Damaged = true
  is_damage (Reading x) = false
  is_damage Skipped = false

  abbrev pub is_skip : Brought T → Bool
  is_skip Skipped = true
  is_skip (Reading x) = false
  is_skip Damaged = false

  -- the reading that a line brings, else what there was before it
  abbrev pub latest : Brought T → Option T → Option T
  latest (Reading x) before = Some x
  latest Damaged before = before
  latest Skipped before = before

  -- the last reading of the entries that pass a test
  unfoldable pub last_reading : (Entry → Bool) → (Entry → Brought T) → List Entry → Option T
  last_reading passes brought [] = None
  last_reading passes brought (e ∷ before) =
      if passes e then latest (brought e) (last_reading passes brought before)
      else last_reading passes brought before

  -- their last reading, and the numbers of those that are damaged and that are skipped
  unfoldable pub slot_of : (Entry → Bool) → (Entry → Brought T) → List Entry → Slot T
  slot_of passes brought entries = record {
    last = last_reading passes brought entries;
    damage = count_by (λ e. passes e && is_damage (brought e)) entries;
    skipped = count_by (λ e. passes e && is_skip (brought e)) entries;
  }

  -- a slot that no line came for
  abbrev pub no_slot : Slot T
  no_slot = record { last = None; damage = 0; skipped = 0 }

  -- a slot with one more line counted
  abbrev pub counted_slot : Brought T → Slot T → Slot T
  counted_slot (Reading x) slot = record slot { last = Some x }
  counted_slot Damaged slot = record slot { damage = slot.damage + 1 }
  counted_slot Skipped slot = record slot { skipped = slot.skipped + 1 }
