-- A line that follows, and the frame that it closes.
use Rattle.std.proofs.Common.{◌≡◌, ℕ, ◌+◌, ◌-◌, ◌<◌, ◌≤◌, List, ◌∷◌, true, false, refl, arith}
use Rattle.std.specs.Prelude.{nat_lt, length}
use Rattle.std.proofs.lemmas.Bool.Decides.{nat_tests}
use Rattle.std.proofs.lemmas.List.Elements.{All-replicate}
use Rattle.std.proofs.lemmas.List.FromFn.{length-map-range_with_len}
use Rattle.dp_plant.specs.declared.frames.Frame.{Frame}
use Rattle.dp_frame.specs.declared.entry.Entry.{Entry}
use Rattle.dp_frame.specs.declared.feed.Feed.TheVariants.{More, Closed}
use Rattle.dp_frame.specs.Slots.{no_slot}
use Rattle.dp_frame.specs.Frames.{frame_of, no_frame, IsFrameBounded}
use Rattle.dp_frame.specs.Record.{last_cycle}
use Rattle.dp_frame.specs.Feeds.{closed, given}
use Rattle.dp_frame.specs.Progresses.{Follows}
use Rattle.dp_frame.proofs.EmptyFrames.{frame-later}

pub is_less : (a b : ℕ) → a < b → nat_lt a b ≡ true
is_less a b lt = grind (arith, nat_tests)

pub is_not_less : (a b : ℕ) → a ≡ b → nat_lt a b ≡ false
is_not_less a b e = grind (arith, nat_tests)

pub closed-later : (e : Entry) (es : List Entry) → last_cycle es < e.cycle
    → closed es (e ∷ es) ≡ Closed (frame_of (last_cycle es) es) (e.cycle - last_cycle es - 1)
unfolding closed last_cycle
closed-later e es lt = rw (is_less (last_cycle es) e.cycle lt, frame-later (last_cycle es) e es lt)

pub closed-same : (e : Entry) (es : List Entry) → last_cycle es ≡ e.cycle → closed es (e ∷ es) ≡ More
unfolding closed last_cycle
closed-same e es eq = rw (is_not_less (last_cycle es) e.cycle eq)

pub same_cycle : (e : Entry) (es : List Entry) (kept : Frame) → kept ≡ frame_of (last_cycle es) es → Follows es e → e.cycle ≤ kept.cycle
    → last_cycle es ≡ e.cycle
unfolding frame_of
same_cycle e es kept was f le =
    let k : kept.cycle ≡ last_cycle es = rw was in omega (arith, f.later)

pub closed-still : (es : List Entry) → closed es es ≡ More
unfolding closed
closed-still es = rw (is_not_less (last_cycle es) (last_cycle es) refl)

-- how many frames an answer gives
pub given-closed : (frame : Frame) (empty : ℕ) → length (given (Closed frame empty)) ≡ empty + 1
given-closed frame empty = omega (arith, length-map-range_with_len no_frame (frame.cycle + 1) empty)

-- a fresh frame has no counts
pub bounded-empty : (n cycle : ℕ) → IsFrameBounded n (no_frame cycle)
bounded-empty n cycle = record {
  pos = All-replicate (λ s. (s.damage ≤ n) × (s.skipped ≤ n)) 3 no_slot (omega arith, omega arith);
  gyro = All-replicate (λ s. (s.damage ≤ n) × (s.skipped ≤ n)) 3 no_slot (omega arith, omega arith);
  wind = All-replicate (λ s. (s.damage ≤ n) × (s.skipped ≤ n)) 3 no_slot (omega arith, omega arith);
  group = All-replicate (λ s. (s.damage ≤ n) × (s.skipped ≤ n)) 8 no_slot (omega arith, omega arith);
}
