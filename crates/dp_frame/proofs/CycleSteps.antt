-- The frames that the answers give are those of the record.
use Rattle.std.proofs.Common.{◌≡◌, ℕ, zero, suc, ◌+◌, ◌-◌, ◌<◌, ◌≤◌, inl, inr, List, [], ◌∷◌, ◌++◌, Bool, true, false, length, refl, ap, sym, ◌∙◌, arith, Option, Some, None, append-nil, add-zero, zero-add}
use Rattle.std.specs.Prelude.{map}
use Rattle.std.specs.List.{range_with_len, flat_map}
use Rattle.std.proofs.lemmas.Bool.{cases_lt}
use Rattle.std.proofs.lemmas.List.{append_assoc, map-append}
use Rattle.std.proofs.lemmas.List.FromFn.{length-map-range_with_len}
use Rattle.dp_frame.specs.declared.entry.Entry.{Entry}
use Rattle.dp_frame.specs.declared.settings.Settings.{Settings}
use Rattle.dp_frame.specs.declared.fault.Refusal.{Refusal}
use Rattle.dp_frame.specs.declared.fault.Refusal.TheVariants as refusal
use Rattle.dp_frame.specs.declared.feed.Feed.TheVariants.{Closed}
use Rattle.dp_frame.specs.Frames.{frame_of, no_frame}
use Rattle.dp_text.specs.Lines.{is_newline, stripped}
use Rattle.dp_frame.specs.Record.{all_lines, ended_lines, entries, first_refusal, good_lines, last_cycle, unfinished_line}
use Rattle.dp_frame.specs.Feeds.{answer, closed, given, told}
use Rattle.dp_frame.specs.Progresses.{Follows}
use Rattle.dp_frame.specs.Cycles.{answers_after, frames_so_far, frames_upto}
use Rattle.dp_frame.proofs.EmptyFrames.{frame-later, frame-before}
use Rattle.dp_frame.proofs.GrowingLines.{entries-refused}
use Rattle.dp_frame.proofs.Entering.{closed-later, closed-same, closed-still}
use Rattle.dp_frame.proofs.FinishSteps.{all-done, all-left, answer-refused}
use Rattle.dp_frame.proofs.Lasting.{Grows, grows}
use Rattle.dp_frame.proofs.TextSteps.{ended-none, ended-other, ended-newline, newline-is}

module _ {A : Type 0} where
  pub map-range-same : (f g : ℕ → A) (a n : ℕ) → ((k : ℕ) → a ≤ k → k < a + n → f k ≡ g k) → map f (range_with_len a n) ≡ map g (range_with_len a n)
  map-range-same f g a zero same = refl
  map-range-same f g a (suc n) same =
      rw (same a (omega arith) (omega arith), map-range-same f g (a + 1) n (λ k low high. same k (omega (arith, low)) (omega (arith, high))))

range-split : (a n m : ℕ) → range_with_len a (n + m) ≡ range_with_len a n ++ range_with_len (a + n) m
range-split a zero m = rw (zero-add m, add-zero a)
range-split a (suc n) m =
    let e : suc n + m ≡ suc (n + m) = omega arith in
    let f : a + suc n ≡ a + 1 + n = omega arith in
    rw (e, f, range-split (a + 1) n m)

pub length-frames : (n : ℕ) (es : List Entry) → length (frames_upto n es) ≡ n
unfolding frames_upto
length-frames n es = length-map-range_with_len (λ k. frame_of k es) 0 n

pub frame_of-cycle : (n : ℕ) (es : List Entry) → (frame_of n es).cycle ≡ n
unfolding frame_of
frame_of-cycle n es = refl

-- an entry of the last cycle leaves the frames before it
frames-same : (e : Entry) (es : List Entry) (n : ℕ) → n ≤ e.cycle → frames_upto n (e ∷ es) ≡ frames_upto n es
unfolding frames_upto
frames-same e es n le = map-range-same _ _ 0 n (λ k low high. frame-later k e es (omega (arith, high, le)))

-- an entry of a later cycle closes the frame of the last cycle, and those between are empty
frames-later : (e : Entry) (es : List Entry) → Follows es e → last_cycle es < e.cycle
    → frames_upto e.cycle (e ∷ es) ≡ frames_upto (last_cycle es) es ++ given (Closed (frame_of (last_cycle es) es) (e.cycle - last_cycle es - 1))
unfolding frames_upto
frames-later e es f lt =
    let a = last_cycle es in
    let m = e.cycle - last_cycle es - 1 in
    let all : e.cycle ≡ a + suc m = omega (arith, lt) in
    let split : range_with_len 0 e.cycle ≡ range_with_len 0 a ++ range_with_len a (suc m) =
    ap (range_with_len 0) all ∙ range-split 0 a (suc m) ∙ ap (λ k. range_with_len 0 a ++ range_with_len k (suc m)) (zero-add a) in
    let prefix : map (λ k. frame_of k (e ∷ es)) (range_with_len 0 a) ≡ map (λ k. frame_of k es) (range_with_len 0 a) = frames-same e es a (omega (arith, lt)) in
    let here : frame_of a (e ∷ es) ≡ frame_of a es = frame-later a e es lt in
    let behind : map (λ k. frame_of k (e ∷ es)) (range_with_len (a + 1) m) ≡ map no_frame (range_with_len (a + 1) m) =
    map-range-same _ _ (a + 1) m (λ k low high. frame-later k e es (omega (arith, high, lt)) ∙ frame-before k es (f.rising k (omega (arith, low)))) in
    ap (map (λ k. frame_of k (e ∷ es))) split ∙ map-append (λ k. frame_of k (e ∷ es)) (range_with_len 0 a) (range_with_len a (suc m))
    ∙ rw (prefix, here, behind, frame_of-cycle a es)

frames-entered : (e : Entry) (es : List Entry) → Follows es e
    → frames_upto e.cycle (e ∷ es) ≡ frames_upto (last_cycle es) es ++ given (closed es (e ∷ es))
frames-entered e es f =
    elim (cases_lt (last_cycle es) e.cycle) [
      | inl lt ↦ rw (closed-later e es lt) (frames-later e es f lt)
      | inr le ↦ same (omega (arith, le, f.later))
    ]
  where
    same : last_cycle es ≡ e.cycle → frames_upto e.cycle (e ∷ es) ≡ frames_upto (last_cycle es) es ++ given (closed es (e ∷ es))
    same eq = rw (closed-same e es eq, eq, append-nil (frames_upto e.cycle es)) (frames-same e es e.cycle (omega arith))

frames-grown : (es fs : List Entry) → Grows es fs → frames_upto (last_cycle fs) fs ≡ frames_upto (last_cycle es) es ++ given (closed es fs)
unfolding Grows last_cycle
frames-grown es fs (inl is) = rw (is, closed-still es) (sym (append-nil (frames_upto (last_cycle es) es)))
frames-grown es fs (inr g) = rw g.1 (frames-entered g.0 es g.2)

pub given-told : (r : Refusal) → given (told r) ≡ []
given-told (refusal.Faulty line kind) = refl
given-told (refusal.TooMany line cycle) = refl

pub answer-going : (p : Settings) (before after : List (List ℕ)) → first_refusal p after ≡ None
    → answer p before after ≡ closed (entries p before) (entries p after)
unfolding answer
answer-going p before after ok = rw ok

-- one more line adds to the frames that are over just what it is answered
pub frames-line : (p : Settings) (lines : List (List ℕ)) (line : List ℕ) → 0 < p.cycle_ms
    → frames_so_far p (line ∷ lines) ≡ frames_so_far p lines ++ given (answer p lines (line ∷ lines))
unfolding frames_so_far
frames-line p lines line some = by_refusal (first_refusal p (line ∷ lines)) refl
  where
    by_refusal : (r : Option Refusal) → first_refusal p (line ∷ lines) ≡ r
        → frames_upto (last_cycle (entries p (line ∷ lines))) (entries p (line ∷ lines)) ≡ frames_upto (last_cycle (entries p lines)) (entries p lines) ++ given (answer p lines (line ∷ lines))
    by_refusal (Some r) is = rw (answer-refused p lines (line ∷ lines) r is, given-told r, entries-refused p lines line r is) (sym (append-nil _))
    by_refusal None is = rw (answer-going p lines (line ∷ lines) is) (frames-grown (entries p lines) (entries p (line ∷ lines)) (grows p lines line some))

-- no more lines add nothing
pub given-still : (p : Settings) (lines : List (List ℕ)) → given (answer p lines lines) ≡ []
given-still p lines = by_refusal (first_refusal p lines) refl
  where
    by_refusal : (r : Option Refusal) → first_refusal p lines ≡ r → given (answer p lines lines) ≡ []
    by_refusal (Some r) is = rw (answer-refused p lines lines r is) (given-told r)
    by_refusal None is = rw (answer-going p lines lines is, closed-still (entries p lines))

-- what the last line of a text adds
pub frames-all : (p : Settings) (t : List ℕ) → 0 < p.cycle_ms
    → frames_so_far p (all_lines t) ≡ frames_so_far p (ended_lines t) ++ given (answer p (ended_lines t) (all_lines t))
frames-all p t some =
    elim (cases_lt 0 (length (unfinished_line t))) [
      | inl lt ↦ rw (all-left t (λ e. omega (arith, lt, e))) (frames-line p (ended_lines t) (unfinished_line t) some)
      | inr le ↦ rw (all-done t (omega (arith, le)), given-still p (ended_lines t)) (sym (append-nil _))
    ]

-- what a byte adds
pub frames-byte : (p : Settings) (t : List ℕ) (b : ℕ) → 0 < p.cycle_ms
    → frames_so_far p (ended_lines (t ++ b ∷ [])) ≡ frames_so_far p (ended_lines t) ++ given (answer p (ended_lines t) (ended_lines (t ++ b ∷ [])))
frames-byte p t b some = by_byte (is_newline b) refl
  where
    by_byte : (v : Bool) → is_newline b ≡ v
        → frames_so_far p (ended_lines (t ++ b ∷ [])) ≡ frames_so_far p (ended_lines t) ++ given (answer p (ended_lines t) (ended_lines (t ++ b ∷ [])))
    by_byte false other = rw (ended-other t b other, given-still p (ended_lines t)) (sym (append-nil _))
    by_byte true is = rw (newline-is b is, ended-newline t) (frames-line p (ended_lines t) (stripped (unfinished_line t)) some)

-- before the first byte
pub nothing_over : (p : Settings) → frames_so_far p (ended_lines []) ≡ []
unfolding frames_so_far frames_upto entries good_lines last_cycle
nothing_over p = rw ended-none

pub frames-bytes : (p : Settings) (before text : List ℕ) → 0 < p.cycle_ms
    → frames_so_far p (ended_lines before) ++ flat_map given (answers_after p before text) ≡ frames_so_far p (ended_lines (before ++ text))
unfolding answers_after
frames-bytes p before [] some = append-nil _ ∙ ap (λ t. frames_so_far p (ended_lines t)) (sym (append-nil before))
frames-bytes p before (byte ∷ text) some =
    sym (append_assoc (frames_so_far p (ended_lines before)) (given (answer p (ended_lines before) (ended_lines (before ++ byte ∷ [])))) (flat_map given (answers_after p (before ++ byte ∷ []) text)))
    ∙ ap (λ l. l ++ flat_map given (answers_after p (before ++ byte ∷ []) text)) (sym (frames-byte p before byte some))
    ∙ frames-bytes p (before ++ byte ∷ []) text some
    ∙ ap (λ t. frames_so_far p (ended_lines t)) (append_assoc before (byte ∷ []) text)

pub answers-give : (p : Settings) (text : List ℕ) → 0 < p.cycle_ms → flat_map given (answers_after p [] text) ≡ frames_so_far p (ended_lines text)
answers-give p text some = ap (λ l. l ++ flat_map given (answers_after p [] text)) (sym (nothing_over p)) ∙ frames-bytes p [] text some
