-- One more line in a slot and in a frame.
use Rattle.std.proofs.Common.{◌≡◌, ℕ, ◌+◌, ◌<◌, List, [], ◌∷◌, Bool, true, false, cond, arith, refl, sym, ap, ◌∙◌, zero-add, eqb, eq-eqb, Option, length, inl, inr}
use Rattle.std.specs.Prelude.{slice_set, slice_index_or, count_by, ◌&&◌, ◌==◌, map, ◌≢◌}
use Rattle.std.specs.List.{range_with_len}
use Rattle.std.proofs.Math.Nat.{add_comm}
use Rattle.std.proofs.lemmas.List.{length-set, get_or-set_same, get_or-set_other}
use Rattle.std.proofs.lemmas.List.FromFn.{fill_by_all, length-map-range_with_len, get_or-map-range_with_len}
use Rattle.std.proofs.lemmas.List.Sums.{sum_by-cons}
use Rattle.std.proofs.lemmas.Bool.{cases_eq}
use Rattle.std.proofs.lemmas.Bool.Decides.{nat_tests}
use Rattle.dp_plant.specs.declared.place.Place.{Place}
use Rattle.dp_plant.specs.declared.frames.Slot.{Slot}
use Rattle.dp_plant.specs.declared.frames.Frame.{Frame}
use Rattle.dp_plant.specs.declared.frames.Gust.{Gust}
use Rattle.dp_plant.specs.declared.frames.Wire.{Wire}
use Rattle.dp_plant.specs.declared.frames.Wire.TheVariants.{Pos, Gyro, Wind, Group}
use Rattle.dp_frame.specs.declared.entry.Brought.{Brought}
use Rattle.dp_frame.specs.declared.entry.Brought.TheVariants.{Reading, Damaged, Skipped}
use Rattle.dp_frame.specs.declared.entry.Entry.{Entry}
use Rattle.dp_frame.specs.declared.entry.Content.{Content}
use Rattle.dp_frame.specs.Slots.{counted_slot, last_reading, slot_of, place_of, heading_of, gust_of, ready_of}
use Rattle.dp_frame.specs.Frames.{slots_of, frame_of, is_pos, is_gyro, is_wind, is_group}

count-no : (p : Entry → Bool) (e : Entry) (es : List Entry) → p e ≡ false → count_by p (e ∷ es) ≡ count_by p es
count-no p e es miss = sum_by-cons (λ x. cond (p x) 1 0) e es ∙ rw (miss, zero-add)

count-yes : (p : Entry → Bool) (e : Entry) (es : List Entry) → p e ≡ true → count_by p (e ∷ es) ≡ count_by p es + 1
count-yes p e es hit = sum_by-cons (λ x. cond (p x) 1 0) e es ∙ rw hit (add_comm 1 (count_by p es))

module _ {T : Type 0} where
  same-slot : (a b : Option T) (d e k m : ℕ) → a ≡ b → d ≡ e → k ≡ m
      → ◌≡◌ {A = Slot T} record { last = a; damage = d; skipped = k } record { last = b; damage = e; skipped = m }
  same-slot a b d e k m p q r = cc

  pub slot-miss : (p : Entry → Bool) (f : Entry → Brought T) (e : Entry) (es : List Entry) → p e ≡ false → slot_of p f (e ∷ es) ≡ slot_of p f es
  unfolding slot_of last_reading
  slot-miss p f e es miss =
      same-slot _ _ _ _ _ _ (rw miss) (count-no _ e es (rw miss)) (count-no _ e es (rw miss))

  slot-hit-by : (b : Brought T) (p : Entry → Bool) (f : Entry → Brought T) (e : Entry) (es : List Entry) → f e ≡ b → p e ≡ true
      → slot_of p f (e ∷ es) ≡ counted_slot b (slot_of p f es)
  unfolding slot_of last_reading
  slot-hit-by (Reading x) p f e es is hit =
      same-slot _ _ _ _ _ _ (rw (hit, is)) (count-no _ e es (rw (hit, is))) (count-no _ e es (rw (hit, is)))
  slot-hit-by Damaged p f e es is hit =
      same-slot _ _ _ _ _ _ (rw (hit, is)) (count-yes _ e es (rw (hit, is))) (count-no _ e es (rw (hit, is)))
  slot-hit-by Skipped p f e es is hit =
      same-slot _ _ _ _ _ _ (rw (hit, is)) (count-no _ e es (rw (hit, is))) (count-yes _ e es (rw (hit, is)))

  pub slot-hit : (p : Entry → Bool) (f : Entry → Brought T) (e : Entry) (es : List Entry) → p e ≡ true
      → slot_of p f (e ∷ es) ≡ counted_slot (f e) (slot_of p f es)
  slot-hit p f e es hit = slot-hit-by (f e) p f e es refl hit

  pub map-same : (f g : ℕ → Slot T) (ks : List ℕ) → ((k : ℕ) → f k ≡ g k) → map f ks ≡ map g ks
  map-same f g [] same = refl
  map-same f g (k ∷ ks) same = rw (same k, map-same f g ks same)

  -- a line that is on no wire of the kind, or of another cycle
  pub slots-miss : (is_wire : ℕ → Wire → Bool) (brought : Content → Brought T) (count n : ℕ) (e : Entry) (es : List Entry)
      → ((k : ℕ) → (is_wire k e.wire && e.cycle == n) ≡ false) → slots_of is_wire brought count n (e ∷ es) ≡ slots_of is_wire brought count n es
  unfolding slots_of
  slots-miss is_wire brought count n e es miss =
      map-same _ _ (range_with_len 0 count) (λ k. slot-miss (λ x. is_wire k x.wire && x.cycle == n) (λ x. brought x.content) e es (miss k))

  -- a line on wire i of the kind
  pub slots-hit : (is_wire : ℕ → Wire → Bool) (brought : Content → Brought T) (count i : ℕ) (e : Entry) (es : List Entry) (d : Slot T)
      → i < count → is_wire i e.wire ≡ true → ((k : ℕ) → k ≢ i → is_wire k e.wire ≡ false)
      → slice_set (slots_of is_wire brought count e.cycle es) i (counted_slot (brought e.content) (slice_index_or (slots_of is_wire brought count e.cycle es) i d))
      ≡ slots_of is_wire brought count e.cycle (e ∷ es)
  unfolding slots_of
  slots-hit is_wire brought count i e es d lt hit miss =
      let old : ℕ → Slot T = λ k. slot_of (λ x. is_wire k x.wire && x.cycle == e.cycle) (λ x. brought x.content) es in
      let new : ℕ → Slot T = λ k. slot_of (λ x. is_wire k x.wire && x.cycle == e.cycle) (λ x. brought x.content) (e ∷ es) in
      let olds : List (Slot T) = map old (range_with_len 0 count) in
      let long : length olds ≡ count = length-map-range_with_len old 0 count in
      let same : new i ≡ counted_slot (brought e.content) (old i) = slot-hit _ _ e es (rw (hit, eq-eqb e.cycle e.cycle refl)) in
      let was : slice_index_or olds i d ≡ old i = get_or-map-range_with_len old 0 count i i d lt (zero-add i) in
      fill_by_all new (slice_set olds i (counted_slot (brought e.content) (slice_index_or olds i d))) count d (length-set olds i _ ∙ long)
      (λ k below. elim (cases_eq k i) [
        | inl is ↦ rw is (get_or-set_same olds i _ d (omega (arith, long, lt)) ∙ ap (counted_slot (brought e.content)) was ∙ sym same)
        | inr other ↦ get_or-set_other olds i k _ d other ∙ get_or-map-range_with_len old 0 count k k d below (zero-add k) ∙ sym (slot-miss _ _ e es (rw (miss k other)))
      ])

same-frame : (n : ℕ) (a b : List (Slot Place)) (d f : List (Slot ℕ)) (g h : List (Slot Gust)) (k m : List (Slot Bool)) → a ≡ b → d ≡ f → g ≡ h → k ≡ m
    → ◌≡◌ {A = Frame} record { cycle = n; pos = a; gyro = d; wind = g; group = k } record { cycle = n; pos = b; gyro = f; wind = h; group = m }
same-frame n a b d f g h k m p q r s = cc

other_number : (k i : ℕ) → k ≢ i → eqb i k ≡ false
other_number k i other = grind (arith, nat_tests)

-- the frame of the line's cycle, with the line counted on its wire
pub pos-noted : (e : Entry) (es : List Entry) (i : ℕ) (d : Slot Place) (frame : Frame) → e.wire ≡ Pos i → i < 3 → frame ≡ frame_of e.cycle es
    → ◌≡◌ {A = Frame} (record frame { pos = slice_set frame.pos i (counted_slot (place_of e.content) (slice_index_or frame.pos i d)) }) (frame_of e.cycle (e ∷ es))
unfolding frame_of
pos-noted e es i d frame is lt was =
    rw was (same-frame e.cycle _ _ _ _ _ _ _ _
    (slots-hit is_pos place_of 3 i e es d lt (rw (is, eq-eqb i i refl)) (λ k other. rw (is, other_number k i other)))
    (sym (slots-miss is_gyro heading_of 3 e.cycle e es (λ k. rw is)))
    (sym (slots-miss is_wind gust_of 3 e.cycle e es (λ k. rw is)))
    (sym (slots-miss is_group ready_of 8 e.cycle e es (λ k. rw is))))

pub gyro-noted : (e : Entry) (es : List Entry) (i : ℕ) (d : Slot ℕ) (frame : Frame) → e.wire ≡ Gyro i → i < 3 → frame ≡ frame_of e.cycle es
    → ◌≡◌ {A = Frame} (record frame { gyro = slice_set frame.gyro i (counted_slot (heading_of e.content) (slice_index_or frame.gyro i d)) }) (frame_of e.cycle (e ∷ es))
unfolding frame_of
gyro-noted e es i d frame is lt was =
    rw was (same-frame e.cycle _ _ _ _ _ _ _ _
    (sym (slots-miss is_pos place_of 3 e.cycle e es (λ k. rw is)))
    (slots-hit is_gyro heading_of 3 i e es d lt (rw (is, eq-eqb i i refl)) (λ k other. rw (is, other_number k i other)))
    (sym (slots-miss is_wind gust_of 3 e.cycle e es (λ k. rw is)))
    (sym (slots-miss is_group ready_of 8 e.cycle e es (λ k. rw is))))

pub wind-noted : (e : Entry) (es : List Entry) (i : ℕ) (d : Slot Gust) (frame : Frame) → e.wire ≡ Wind i → i < 3 → frame ≡ frame_of e.cycle es
    → ◌≡◌ {A = Frame} (record frame { wind = slice_set frame.wind i (counted_slot (gust_of e.content) (slice_index_or frame.wind i d)) }) (frame_of e.cycle (e ∷ es))
unfolding frame_of
wind-noted e es i d frame is lt was =
    rw was (same-frame e.cycle _ _ _ _ _ _ _ _
    (sym (slots-miss is_pos place_of 3 e.cycle e es (λ k. rw is)))
    (sym (slots-miss is_gyro heading_of 3 e.cycle e es (λ k. rw is)))
    (slots-hit is_wind gust_of 3 i e es d lt (rw (is, eq-eqb i i refl)) (λ k other. rw (is, other_number k i other)))
    (sym (slots-miss is_group ready_of 8 e.cycle e es (λ k. rw is))))

pub group-noted : (e : Entry) (es : List Entry) (i : ℕ) (d : Slot Bool) (frame : Frame) → e.wire ≡ Group i → i < 8 → frame ≡ frame_of e.cycle es
    → ◌≡◌ {A = Frame} (record frame { group = slice_set frame.group i (counted_slot (ready_of e.content) (slice_index_or frame.group i d)) }) (frame_of e.cycle (e ∷ es))
unfolding frame_of
group-noted e es i d frame is lt was =
    rw was (same-frame e.cycle _ _ _ _ _ _ _ _
    (sym (slots-miss is_pos place_of 3 e.cycle e es (λ k. rw is)))
    (sym (slots-miss is_gyro heading_of 3 e.cycle e es (λ k. rw is)))
    (sym (slots-miss is_wind gust_of 3 e.cycle e es (λ k. rw is)))
    (slots-hit is_group ready_of 8 i e es d lt (rw (is, eq-eqb i i refl)) (λ k other. rw (is, other_number k i other))))
