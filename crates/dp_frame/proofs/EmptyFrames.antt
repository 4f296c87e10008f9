-- Frames that a line leaves as they are, and frames for which no line came.
use Rattle.std.proofs.Common.{◌≡◌, ℕ, ◌<◌, List, [], ◌∷◌, Bool, true, false, eqb, arith, refl, ◌∙◌}
use Rattle.std.specs.Prelude.{◌&&◌, ◌==◌, map}
use Rattle.std.specs.List.{range_with_len}
use Rattle.std.proofs.lemmas.Bool.Decides.{nat_tests}
use Rattle.dp_plant.specs.declared.frames.Wire.{Wire}
use Rattle.dp_frame.specs.declared.entry.Brought.{Brought}
use Rattle.dp_frame.specs.declared.entry.Entry.{Entry}
use Rattle.dp_frame.specs.declared.entry.Content.{Content}
use Rattle.dp_frame.specs.Slots.{last_reading, slot_of, no_slot, place_of, heading_of, gust_of, ready_of}
use Rattle.dp_frame.specs.Frames.{slots_of, frame_of, no_frame, is_pos, is_gyro, is_wind, is_group, IsBefore}
use Rattle.dp_frame.proofs.SlotSteps.{slot-miss, slots-miss}

and_false : (a : Bool) → (a && false) ≡ false
and_false true = refl
and_false false = refl

less-eqb : (a b : ℕ) → a < b → eqb a b ≡ false
less-eqb a b lt = grind (arith, nat_tests)

more-eqb : (a b : ℕ) → b < a → eqb a b ≡ false
more-eqb a b lt = grind (arith, nat_tests)

-- a line of a later cycle leaves a frame as it is
pub frame-later : (n : ℕ) (e : Entry) (es : List Entry) → n < e.cycle → frame_of n (e ∷ es) ≡ frame_of n es
unfolding frame_of
frame-later n e es lt =
    rw (
      slots-miss is_pos place_of 3 n e es (λ k. miss (is_pos k e.wire)),
      slots-miss is_gyro heading_of 3 n e es (λ k. miss (is_gyro k e.wire)),
      slots-miss is_wind gust_of 3 n e es (λ k. miss (is_wind k e.wire)),
      slots-miss is_group ready_of 8 n e es (λ k. miss (is_group k e.wire)),
    )
  where
    miss : (v : Bool) → (v && e.cycle == n) ≡ false
    miss v = rw (more-eqb e.cycle n lt) (and_false v)

module _ {T : Type 0} where
  slot-before : (is_wire : ℕ → Wire → Bool) (brought : Content → Brought T) (k n : ℕ) (es : List Entry) → IsBefore n es
      → slot_of (λ x. is_wire k x.wire && x.cycle == n) (λ x. brought x.content) es ≡ no_slot
  unfolding slot_of last_reading IsBefore
  slot-before is_wire brought k n [] b = refl
  slot-before is_wire brought k n (e ∷ es) b =
      slot-miss (λ x. is_wire k x.wire && x.cycle == n) (λ x. brought x.content) e es (rw (less-eqb e.cycle n b.0) (and_false (is_wire k e.wire)))
      ∙ slot-before is_wire brought k n es b.1

  slots-before : (is_wire : ℕ → Wire → Bool) (brought : Content → Brought T) (n : ℕ) (es : List Entry) (ks : List ℕ) → IsBefore n es
      → map (λ k. slot_of (λ x. is_wire k x.wire && x.cycle == n) (λ x. brought x.content) es) ks ≡ map (λ k. no_slot) ks
  slots-before is_wire brought n es [] b = refl
  slots-before is_wire brought n es (k ∷ ks) b = rw (slot-before is_wire brought k n es b, slots-before is_wire brought n es ks b)

-- a frame that no line came for
pub frame-before : (n : ℕ) (es : List Entry) → IsBefore n es → frame_of n es ≡ no_frame n
unfolding frame_of slots_of
frame-before n es b =
    rw (
      slots-before is_pos place_of n es (range_with_len 0 3) b,
      slots-before is_gyro heading_of n es (range_with_len 0 3) b,
      slots-before is_wind gust_of n es (range_with_len 0 3) b,
      slots-before is_group ready_of n es (range_with_len 0 8) b,
    )
