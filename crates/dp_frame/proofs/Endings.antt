-- The frames that `finish` gives are the rest of the record's.
use Rattle.std.proofs.Common.{◌≡◌, ℕ, ◌<◌, ◌≤◌, List, [], ◌∷◌, ◌++◌, Bool, true, false, length, refl, ap, sym, ◌∙◌, arith, Option, Some, None, append-nil, zero-add}
use Rattle.std.specs.List.{range_with_len}
use Rattle.std.specs.Prelude.{map, take, nat_lt, is_some, if◌then◌else◌}
use Rattle.std.proofs.lemmas.List.FromFn.{length-map-range_with_len, take-map-range_with_len, map-range_with_len_more}
use Rattle.dp_plant.specs.declared.frames.Frame.{Frame}
use Rattle.dp_frame.specs.declared.entry.Entry.{Entry}
use Rattle.dp_frame.specs.declared.settings.Settings.{Settings}
use Rattle.dp_frame.specs.declared.fault.Refusal.{Refusal}
use Rattle.dp_frame.specs.declared.fault.Refusal.TheVariants as refusal
use Rattle.dp_frame.specs.declared.feed.Feed.{Feed}
use Rattle.dp_frame.specs.declared.feed.Feed.TheVariants.{More, Closed, Fault, TooMany}
use Rattle.dp_frame.specs.declared.feed.Phase.{Phase}
use Rattle.dp_frame.specs.declared.feed.Phase.TheVariants.{Open, Last, Done}
use Rattle.dp_frame.specs.Frames.{frame_of}
use Rattle.dp_frame.specs.Record.{all_lines, cycle_count, ended_lines, entries, first_refusal, last_cycle}
use Rattle.dp_frame.specs.Feeds.{answer, closed, ending, given, is_closed, is_more, is_told, last_frame, phase_after, told, told_or}
use Rattle.dp_frame.specs.Cycles.{frames_given, frames_so_far, frames_upto, record_frames, record_length}
use Rattle.dp_frame.proofs.FinishSteps.{answer-more, more-is}
use Rattle.dp_frame.proofs.CycleSteps.{map-range-same, frame_of-cycle, frames-all, given-told, length-frames}
use Rattle.dp_frame.proofs.Lasting.{lasts, refusal-lasts}
use Rattle.dp_frame.proofs.TextSteps.{ended-more, all-more}

-- the last frame is what is left behind those that are over
last-given : (es : List Entry) → frames_upto (cycle_count es) es ≡ frames_upto (last_cycle es) es ++ given (last_frame es)
unfolding frames_upto cycle_count last_cycle last_frame
last-given [] = refl
last-given (e ∷ es) = map-range_with_len_more (λ k. frame_of k (e ∷ es)) 0 e.cycle e.cycle (zero-add e.cycle)

record-refused : (p : Settings) (lines : List (List ℕ)) (r : Refusal) → first_refusal p lines ≡ Some r → record_frames p lines ≡ frames_so_far p lines
unfolding record_frames record_length frames_so_far
record-refused p lines r is = rw is

record-going : (p : Settings) (lines : List (List ℕ)) → first_refusal p lines ≡ None
    → record_frames p lines ≡ frames_so_far p lines ++ given (last_frame (entries p lines))
unfolding record_frames record_length frames_so_far
record-going p lines ok = rw ok (last-given (entries p lines))

record-last : (p : Settings) (lines : List (List ℕ))
    → record_frames p lines ≡ frames_so_far p lines ++ given (told_or (first_refusal p lines) (last_frame (entries p lines)))
record-last p lines = by_refusal (first_refusal p lines) refl
  where
    by_refusal : (r : Option Refusal) → first_refusal p lines ≡ r
        → record_frames p lines ≡ frames_so_far p lines ++ given (told_or (first_refusal p lines) (last_frame (entries p lines)))
    by_refusal (Some r) is = rw (is, given-told r) (record-refused p lines r is ∙ sym (append-nil _))
    by_refusal None is = rw is (record-going p lines is)

pub given-none : (a : Feed) → is_closed a ≡ false → given a ≡ []
given-none More is = refl
given-none (Closed frame empty) is = cc
given-none (Fault line kind) is = refl
given-none (TooMany line cycle) is = refl

pub finish-gives : (p : Settings) (t : List ℕ) (phase : Phase) → 0 < p.cycle_ms
    → frames_given p t (phase_after p t phase) ≡ frames_given p t phase ++ given (ending p t phase)
unfolding frames_given phase_after ending
finish-gives p t Open some = by_answer (is_more (answer p (ended_lines t) (all_lines t))) refl
  where
    by_answer : (v : Bool) → is_more (answer p (ended_lines t) (all_lines t)) ≡ v
        → frames_given p t (if v then Done else Last) ≡ frames_so_far p (ended_lines t) ++ given (if v then last_frame (entries p (all_lines t)) else answer p (ended_lines t) (all_lines t))
    by_answer true is =
        let more = more-is _ is in
        record-going p (all_lines t) (answer-more p (ended_lines t) (all_lines t) more)
        ∙ ap (λ l. l ++ given (last_frame (entries p (all_lines t)))) (frames-all p t some ∙ rw more (append-nil _))
    by_answer false is = frames-all p t some
finish-gives p t Last some = record-last p (all_lines t)
finish-gives p t Done some = by_refusal (first_refusal p (all_lines t))
  where
    by_refusal : (r : Option Refusal) → record_frames p (all_lines t) ≡ record_frames p (all_lines t) ++ given (told_or r More)
    by_refusal (Some r) = rw (given-told r) (sym (append-nil _))
    by_refusal None = sym (append-nil _)

closed-tells : (v : Bool) (frame : Frame) (empty : ℕ) → is_more (if v then Closed frame empty else More) ≡ false
    → is_closed (if v then Closed frame empty else More) ≡ false → ⊥
closed-tells true frame empty moved shut = cc
closed-tells false frame empty moved shut = cc

-- an answer that neither waits nor closes a frame tells of a line
told-when : (p : Settings) (before after : List (List ℕ)) → is_more (answer p before after) ≡ false → is_closed (answer p before after) ≡ false
    → (r : Refusal) × (first_refusal p after ≡ Some r)
unfolding answer closed
told-when p before after moved shut = by_refusal (first_refusal p after) refl moved shut
  where
    by_refusal : (r : Option Refusal) → first_refusal p after ≡ r → is_more (told_or r (closed (entries p before) (entries p after))) ≡ false
        → is_closed (told_or r (closed (entries p before) (entries p after))) ≡ false → (r : Refusal) × (first_refusal p after ≡ Some r)
    by_refusal (Some r) is moved shut = (r, is)
    by_refusal None is moved shut = absurd (closed-tells (nat_lt (last_cycle (entries p before)) (last_cycle (entries p after))) _ _ moved shut)

all-given : (p : Settings) (t : List ℕ) (phase : Phase) → 0 < p.cycle_ms → is_closed (ending p t phase) ≡ false
    → frames_given p t phase ≡ frames_given p t (phase_after p t phase)
all-given p t phase some shut =
    sym (finish-gives p t phase some ∙ ap (λ l. frames_given p t phase ++ l) (given-none (ending p t phase) shut) ∙ append-nil (frames_given p t phase))

pub finish-gives-all : (p : Settings) (t : List ℕ) (phase : Phase) → 0 < p.cycle_ms → is_closed (ending p t phase) ≡ false
    → frames_given p t phase ≡ record_frames p (all_lines t)
unfolding frames_given phase_after ending
finish-gives-all p t Open some shut = by_answer (is_more (answer p (ended_lines t) (all_lines t))) refl (all-given p t Open some shut) shut
  where
    by_answer : (v : Bool) → is_more (answer p (ended_lines t) (all_lines t)) ≡ v
        → frames_so_far p (ended_lines t) ≡ frames_given p t (if v then Done else Last)
        → is_closed (if v then last_frame (entries p (all_lines t)) else answer p (ended_lines t) (all_lines t)) ≡ false
        → frames_so_far p (ended_lines t) ≡ record_frames p (all_lines t)
    by_answer true is all shut = all
    by_answer false is all shut =
        let r = told-when p (ended_lines t) (all_lines t) is shut in
        all ∙ sym (record-refused p (all_lines t) r.0 r.1)
finish-gives-all p t Last some shut = all-given p t Last some shut
finish-gives-all p t Done some shut = refl

pub frames-last : (p : Settings) (text more : List ℕ) (n : ℕ) → 0 < p.cycle_ms → n < last_cycle (entries p (ended_lines text))
    → (frame_of n (entries p (ended_lines (text ++ more))) ≡ frame_of n (entries p (ended_lines text)))
    × (frame_of n (entries p (all_lines (text ++ more))) ≡ frame_of n (entries p (ended_lines text)))
frames-last p text more n some lt =
    let e = ended-more text more in
    let a = all-more text more in
    (rw e.1 ((lasts p (ended_lines text) e.0 some).frames n lt), rw a.1 ((lasts p (ended_lines text) a.0 some).frames n lt))

last-within : (es : List Entry) → last_cycle es ≤ cycle_count es
unfolding last_cycle cycle_count
last-within [] = omega arith
last-within (e ∷ es) = omega arith

last-in_record : (p : Settings) (lines : List (List ℕ)) → last_cycle (entries p lines) ≤ record_length p lines
unfolding record_length
last-in_record p lines = by_test (is_some (first_refusal p lines)) (entries p lines)
  where
    by_test : (v : Bool) (es : List Entry) → last_cycle es ≤ (if v then last_cycle es else cycle_count es)
    by_test true es = omega arith
    by_test false es = last-within es

prefix-of_lines : (p : Settings) (lines more : List (List ℕ)) → 0 < p.cycle_ms
    → take (length (frames_so_far p lines)) (record_frames p (more ++ lines)) ≡ frames_so_far p lines
unfolding frames_so_far record_frames frames_upto
prefix-of_lines p lines more some =
    let es = entries p lines in
    let fs = entries p (more ++ lines) in
    let grown = lasts p lines more some in
    let long : length (map (λ k. frame_of k es) (range_with_len 0 (last_cycle es))) ≡ last_cycle es = length-map-range_with_len (λ k. frame_of k es) 0 (last_cycle es) in
    rw long
    (take-map-range_with_len (λ k. frame_of k fs) 0 (record_length p (more ++ lines)) (last_cycle es) (omega (arith, grown.later, last-in_record p (more ++ lines)))
    ∙ map-range-same _ _ 0 (last_cycle es) (λ k low high. grown.frames k (omega (arith, high))))

pub prefix-of-record : (p : Settings) (text more : List ℕ) → 0 < p.cycle_ms
    → take (length (frames_so_far p (ended_lines text))) (record_frames p (all_lines (text ++ more))) ≡ frames_so_far p (ended_lines text)
prefix-of-record p text more some = let a = all-more text more in rw a.1 (prefix-of_lines p (ended_lines text) a.0 some)

pub refusal-ends : (p : Settings) (text more : List ℕ) (r : Refusal) → first_refusal p (ended_lines text) ≡ Some r
    → (first_refusal p (ended_lines (text ++ more)) ≡ Some r) × (first_refusal p (all_lines (text ++ more)) ≡ Some r)
    × (record_frames p (all_lines (text ++ more)) ≡ frames_so_far p (ended_lines text))
unfolding frames_so_far
refusal-ends p text more r is =
    let e = ended-more text more in
    let a = all-more text more in
    let all = refusal-lasts p (ended_lines text) a.0 r is in (
      rw e.1 (refusal-lasts p (ended_lines text) e.0 r is).0,
      rw a.1 all.0,
      record-refused p (all_lines (text ++ more)) r (rw a.1 all.0) ∙ rw (a.1, all.1),
    )

told-closed : (r : Refusal) (frame : Frame) (empty : ℕ) → told r ≡ Closed frame empty → ⊥
told-closed (refusal.Faulty line kind) frame empty is = cc
told-closed (refusal.TooMany line cycle) frame empty is = cc

closed-cycle : (before after : List Entry) (frame : Frame) (empty : ℕ) → closed before after ≡ Closed frame empty → frame.cycle ≡ last_cycle before
unfolding closed
closed-cycle before after frame empty is = by_test (nat_lt (last_cycle before) (last_cycle after)) _ is
  where
    by_test : (v : Bool) (n : ℕ) → (if v then Closed (frame_of (last_cycle before) after) n else More) ≡ Closed frame empty
        → frame.cycle ≡ last_cycle before
    by_test true n is =
        let same : frame_of (last_cycle before) after ≡ frame = cc in
        rw (← same) (frame_of-cycle (last_cycle before) after)
    by_test false n is = cc

answer-cycle : (p : Settings) (before after : List (List ℕ)) (frame : Frame) (empty : ℕ) → answer p before after ≡ Closed frame empty
    → frame.cycle ≡ length (frames_so_far p before)
unfolding answer frames_so_far
answer-cycle p before after frame empty is =
    rw (length-frames (last_cycle (entries p before)) (entries p before)) (by_refusal (first_refusal p after) is)
  where
    by_refusal : (r : Option Refusal) → told_or r (closed (entries p before) (entries p after)) ≡ Closed frame empty
        → frame.cycle ≡ last_cycle (entries p before)
    by_refusal (Some r) is = absurd (told-closed r frame empty is)
    by_refusal None is = closed-cycle (entries p before) (entries p after) frame empty is

last-cycle : (es : List Entry) (frame : Frame) (empty : ℕ) → last_frame es ≡ Closed frame empty → frame.cycle ≡ last_cycle es
unfolding last_frame last_cycle
last-cycle [] frame empty is = cc
last-cycle (e ∷ es) frame empty is =
    let same : frame_of e.cycle (e ∷ es) ≡ frame = cc in
    rw (← same) (frame_of-cycle e.cycle (e ∷ es))

last-length : (p : Settings) (lines : List (List ℕ)) (frame : Frame) (empty : ℕ) → last_frame (entries p lines) ≡ Closed frame empty
    → frame.cycle ≡ length (frames_so_far p lines)
unfolding frames_so_far
last-length p lines frame empty is = rw (length-frames (last_cycle (entries p lines)) (entries p lines)) (last-cycle (entries p lines) frame empty is)

ending-cycle : (p : Settings) (t : List ℕ) (phase : Phase) (frame : Frame) (empty : ℕ) → 0 < p.cycle_ms → ending p t phase ≡ Closed frame empty
    → frame.cycle ≡ length (frames_given p t phase)
unfolding frames_given ending
ending-cycle p t Open frame empty some is = by_answer (is_more (answer p (ended_lines t) (all_lines t))) refl is
  where
    by_answer : (v : Bool) → is_more (answer p (ended_lines t) (all_lines t)) ≡ v
        → (if v then last_frame (entries p (all_lines t)) else answer p (ended_lines t) (all_lines t)) ≡ Closed frame empty
        → frame.cycle ≡ length (frames_so_far p (ended_lines t))
    by_answer true moved is =
        let same : frames_so_far p (all_lines t) ≡ frames_so_far p (ended_lines t) = frames-all p t some ∙ rw (more-is _ moved) (append-nil _) in
        last-length p (all_lines t) frame empty is ∙ ap length same
    by_answer false moved is = answer-cycle p (ended_lines t) (all_lines t) frame empty is
ending-cycle p t Last frame empty some is = by_refusal (first_refusal p (all_lines t)) is
  where
    by_refusal : (r : Option Refusal) → told_or r (last_frame (entries p (all_lines t))) ≡ Closed frame empty
        → frame.cycle ≡ length (frames_so_far p (all_lines t))
    by_refusal (Some r) is = absurd (told-closed r frame empty is)
    by_refusal None is = last-length p (all_lines t) frame empty is
ending-cycle p t Done frame empty some is = by_refusal (first_refusal p (all_lines t)) is
  where
    by_refusal : (r : Option Refusal) → told_or r More ≡ Closed frame empty → frame.cycle ≡ length (record_frames p (all_lines t))
    by_refusal (Some r) is = absurd (told-closed r frame empty is)
    by_refusal None is = cc

pub closed-next : (p : Settings) (text : List ℕ) (byte : ℕ) (phase : Phase) (frame : Frame) (empty : ℕ) → 0 < p.cycle_ms
    → (answer p (ended_lines text) (ended_lines (text ++ byte ∷ [])) ≡ Closed frame empty → frame.cycle ≡ length (frames_so_far p (ended_lines text)))
    × (ending p text phase ≡ Closed frame empty → frame.cycle ≡ length (frames_given p text phase))
closed-next p text byte phase frame empty some =
    (λ is. answer-cycle p (ended_lines text) (ended_lines (text ++ byte ∷ [])) frame empty is, λ is. ending-cycle p text phase frame empty some is)

told-told : (r : Refusal) → is_told (told r) ≡ true
told-told (refusal.Faulty line kind) = refl
told-told (refusal.TooMany line cycle) = refl

same-told : (q r : Refusal) → told q ≡ told r → q ≡ r
same-told (refusal.Faulty line kind) (refusal.Faulty m k) is = cc
same-told (refusal.Faulty line kind) (refusal.TooMany m n) is = cc
same-told (refusal.TooMany line cycle) (refusal.Faulty m k) is = cc
same-told (refusal.TooMany line cycle) (refusal.TooMany m n) is = cc

-- an answer of a first refused line, or of something else that tells of none
pub record Tells (o : Option Refusal) (a : Feed) : Type 0 where
  pub whether : is_told a ≡ is_some o
  pub which : (r : Refusal) → a ≡ told r → o ≡ Some r

tells : (o : Option Refusal) (a : Feed) → is_told a ≡ false → Tells o (told_or o a)
tells (Some q) a quiet = record { whether = told-told q; which = λ r is. ap Some (same-told q r is) }
tells None a quiet = record { whether = quiet; which = λ r is. absurd (told-not_quiet r is) }
  where
    told-not_quiet : (r : Refusal) → a ≡ told r → ⊥
    told-not_quiet r is = let e : is_told a ≡ true = rw is (told-told r) in cc

closed-quiet : (before after : List Entry) → is_told (closed before after) ≡ false
unfolding closed
closed-quiet before after = by_test (nat_lt (last_cycle before) (last_cycle after)) _ _
  where
    by_test : (v : Bool) (frame : Frame) (n : ℕ) → is_told (if v then Closed frame n else More) ≡ false
    by_test true frame n = refl
    by_test false frame n = refl

last-quiet : (es : List Entry) → is_told (last_frame es) ≡ false
unfolding last_frame
last-quiet [] = refl
last-quiet (e ∷ es) = refl

pub answer-tells : (p : Settings) (before after : List (List ℕ)) → Tells (first_refusal p after) (answer p before after)
unfolding answer
answer-tells p before after = tells (first_refusal p after) (closed (entries p before) (entries p after)) (closed-quiet (entries p before) (entries p after))

last-tells : (p : Settings) (t : List ℕ)
    → Tells (first_refusal p (all_lines t)) (told_or (first_refusal p (all_lines t)) (last_frame (entries p (all_lines t))))
last-tells p t = tells (first_refusal p (all_lines t)) _ (last-quiet (entries p (all_lines t)))

ending-tells : (p : Settings) (t : List ℕ) (phase : Phase) → Tells (first_refusal p (all_lines t)) (ending p t phase)
unfolding ending
ending-tells p t Open = by_answer (is_more (answer p (ended_lines t) (all_lines t))) refl
  where
    by_answer : (v : Bool) → is_more (answer p (ended_lines t) (all_lines t)) ≡ v
        → Tells (first_refusal p (all_lines t)) (if v then last_frame (entries p (all_lines t)) else answer p (ended_lines t) (all_lines t))
    by_answer true moved = let ok = answer-more p (ended_lines t) (all_lines t) (more-is _ moved) in
        rw ok (tells None (last_frame (entries p (all_lines t))) (last-quiet (entries p (all_lines t))))
    by_answer false moved = answer-tells p (ended_lines t) (all_lines t)
ending-tells p t Last = last-tells p t
ending-tells p t Done = tells (first_refusal p (all_lines t)) More refl

pub told-first : (p : Settings) (text : List ℕ) (byte : ℕ) (phase : Phase) (r : Refusal)
    → (is_told (answer p (ended_lines text) (ended_lines (text ++ byte ∷ []))) ≡ is_some (first_refusal p (ended_lines (text ++ byte ∷ []))))
    × (answer p (ended_lines text) (ended_lines (text ++ byte ∷ [])) ≡ told r → first_refusal p (ended_lines (text ++ byte ∷ [])) ≡ Some r)
    × (is_told (ending p text phase) ≡ is_some (first_refusal p (all_lines text)))
    × (ending p text phase ≡ told r → first_refusal p (all_lines text) ≡ Some r)
told-first p text byte phase r =
    let a = answer-tells p (ended_lines text) (ended_lines (text ++ byte ∷ [])) in
    let e = ending-tells p text phase in (a.whether, a.which r, e.whether, e.which r)
