-- A progress represents one more line.
use Rattle.std.proofs.Common.{◌≡◌, ℕ, ◌+◌, ◌<◌, List, [], ◌∷◌, Bool, true, false, refl, ap, sym, ◌∙◌, arith, Some, None}
use Rattle.std.specs.Prelude.{if◌then◌else◌}
use Rattle.dp_plant.specs.declared.frames.Frame.{Frame}
use Rattle.dp_frame.specs.declared.progress.Progress.{Progress}
use Rattle.dp_frame.specs.declared.entry.Entry.{Entry}
use Rattle.dp_frame.specs.declared.settings.Settings.{Settings}
use Rattle.dp_frame.specs.declared.entry.Judged.{Judged}
use Rattle.dp_frame.specs.declared.entry.Judged.TheVariants.{Blank, Good}
use Rattle.dp_frame.specs.declared.fault.Refusal.{Refusal}
use Rattle.dp_frame.specs.declared.feed.Feed.TheVariants.{More, Closed}
use Rattle.dp_frame.specs.Line.{judge}
use Rattle.dp_frame.specs.Frames.{frame_of, no_frame, IsBefore}
use Rattle.dp_frame.specs.Record.{refusal_of, first_refusal, good_lines, entries, last_time, last_cycle, is_begun}
use Rattle.dp_frame.specs.Feeds.{answer, closed, last_frame, told}
use Rattle.dp_frame.specs.Progresses.{Follows, Keeps, ProgressRepresents}
use Rattle.dp_frame.proofs.JudgedLines.{judge-good, judge-filled}
use Rattle.dp_frame.proofs.EmptyFrames.{frame-before}
use Rattle.dp_frame.proofs.GrowingLines.{refusal-more, entries-good, entries-blank, last_time-blank, last_time-filled, follows-good}
use Rattle.dp_frame.proofs.Entering.{closed-still}

-- what is known where a progress that goes on judges the next line
pub record Ready (b : Progress) (lines : List (List ℕ)) (line : List ℕ) (j : Judged) : Type 0 where
  pub ok : first_refusal b.settings lines ≡ None
  pub judged : judge b.settings (last_time lines) line ≡ j
  pub keeps : Keeps b lines

pub ready : (b : Progress) (lines : List (List ℕ)) (line : List ℕ) (j : Judged) → b.refusal ≡ None → j ≡ judge b.settings b.last line
    → ProgressRepresents b lines → Ready b lines line j
ready b lines line j none is r =
    let k = r.keeps none in
    record {
      ok = sym r.refusal ∙ none;
      judged = ap (λ t. judge b.settings t line) (sym k.last) ∙ sym is;
      keeps = k;
    }

pub represents-blank : (b : Progress) (lines : List (List ℕ)) (line : List ℕ) → b.refusal ≡ None → Ready b lines line Blank
    → ProgressRepresents (record b { number = b.number + 1 }) (line ∷ lines)
represents-blank b lines line none r = record {
  refusal = none ∙ sym (refusal-more b.settings lines line Blank r.ok r.judged);
  keeps = λ _. record {
    number = omega (arith, r.keeps.number);
    last = r.keeps.last ∙ sym (last_time-blank lines line (judge-filled b.settings (last_time lines) line r.judged));
    begun = rw (entries-blank b.settings lines line r.ok r.judged) r.keeps.begun;
    kept = rw (entries-blank b.settings lines line r.ok r.judged) r.keeps.kept;
  };
}

pub answer-blank : (b : Progress) (lines : List (List ℕ)) (line : List ℕ) → Ready b lines line Blank → More ≡ answer b.settings lines (line ∷ lines)
unfolding answer
answer-blank b lines line r =
    rw (refusal-more b.settings lines line Blank r.ok r.judged, entries-blank b.settings lines line r.ok r.judged) (sym (closed-still (entries b.settings lines)))

pub represents-good : (b : Progress) (lines : List (List ℕ)) (line : List ℕ) (e : Entry) (kept completed : Frame) → b.refusal ≡ None → Ready b lines line (Good e)
    → kept ≡ frame_of e.cycle (e ∷ entries b.settings lines)
    → ProgressRepresents record { settings = b.settings; refusal = b.refusal; number = b.number + 1; last = e.time; begun = true; kept = kept; completed = completed } (line ∷ lines)
unfolding last_cycle is_begun
represents-good b lines line e kept completed none r is =
    let says = judge-good b.settings (last_time lines) line e r.judged in
    record {
      refusal = none ∙ sym (refusal-more b.settings lines line (Good e) r.ok r.judged);
      keeps = λ _. record {
        number = omega (arith, r.keeps.number);
        last = says.time ∙ sym (last_time-filled lines line says.filled);
        begun = rw (entries-good b.settings lines line e r.ok r.judged);
        kept = rw (entries-good b.settings lines line e r.ok r.judged) is;
      };
    }

pub answer-good : (b : Progress) (lines : List (List ℕ)) (line : List ℕ) (e : Entry) → Ready b lines line (Good e)
    → closed (entries b.settings lines) (e ∷ entries b.settings lines) ≡ answer b.settings lines (line ∷ lines)
unfolding answer
answer-good b lines line e r =
    rw (refusal-more b.settings lines line (Good e) r.ok r.judged, entries-good b.settings lines line e r.ok r.judged)

pub ready-follows : (b : Progress) (lines : List (List ℕ)) (line : List ℕ) (e : Entry) → 0 < b.settings.cycle_ms → Ready b lines line (Good e)
    → Follows (entries b.settings lines) e
ready-follows b lines line e some r = follows-good b.settings lines line e some r.ok r.judged

refused-at : (b : Progress) (lines : List (List ℕ)) (line : List ℕ) (j : Judged) (f : Refusal) → Ready b lines line j
    → refusal_of (b.number + 1) j ≡ Some f → first_refusal b.settings (line ∷ lines) ≡ Some f
refused-at b lines line j f r is =
    refusal-more b.settings lines line j r.ok r.judged ∙ ap (λ n. refusal_of (n + 1) j) (sym r.keeps.number) ∙ is

pub represents-refused : (b : Progress) (lines : List (List ℕ)) (line : List ℕ) (j : Judged) (f : Refusal) → Ready b lines line j
    → refusal_of (b.number + 1) j ≡ Some f
    → ProgressRepresents record { settings = b.settings; refusal = Some f; number = b.number + 1; last = b.last; begun = b.begun; kept = b.kept; completed = b.completed } (line ∷ lines)
represents-refused b lines line j f r is = record {
  refusal = sym (refused-at b lines line j f r is);
  keeps = λ none. absurd (some_none f none);
}
  where
    some_none : (f : Refusal) → Some f ≡ None → ⊥
    some_none f is = cc

pub answer-refused : (b : Progress) (lines : List (List ℕ)) (line : List ℕ) (j : Judged) (f : Refusal) → Ready b lines line j
    → refusal_of (b.number + 1) j ≡ Some f
    → told f ≡ answer b.settings lines (line ∷ lines)
unfolding answer
answer-refused b lines line j f r is = rw (refused-at b lines line j f r is)

-- before the first line
pub represents-first : (settings : Settings) (kept completed : Frame) → kept ≡ no_frame 0
    → ProgressRepresents record { settings = settings; refusal = None; number = 0; last = 0; begun = false; kept = kept; completed = completed } []
unfolding first_refusal last_time entries good_lines last_cycle is_begun IsBefore
represents-first settings kept completed is = record {
  refusal = refl;
  keeps = λ _. record { number = refl; last = refl; begun = refl; kept = is ∙ sym (frame-before 0 [] nothing) };
}
  where
    nothing : IsBefore 0 []
    nothing = tt

last_frame-by : (es : List Entry) (begun : Bool) (kept : Frame) → begun ≡ is_begun es → kept ≡ frame_of (last_cycle es) es
    → (if begun then Closed kept 0 else More) ≡ last_frame es
unfolding is_begun last_frame last_cycle
last_frame-by [] begun kept a b = rw a
last_frame-by (e ∷ es) begun kept a b = rw (a, b)

pub last_frame-is : (b : Progress) (lines : List (List ℕ)) → ProgressRepresents b lines → b.refusal ≡ None
    → (if b.begun then Closed b.kept 0 else More) ≡ last_frame (entries b.settings lines)
last_frame-is b lines r none = let k = r.keeps none in last_frame-by (entries b.settings lines) b.begun b.kept k.begun k.kept
