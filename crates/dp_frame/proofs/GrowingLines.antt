-- One more line of a record.
use Rattle.std.proofs.Common.{◌≡◌, ℕ, ◌+◌, ◌*◌, ◌/◌, ◌<◌, ◌≤◌, List, [], ◌∷◌, true, false, length, refl, arith, Option, Some, None}
use Rattle.std.specs.Prelude.{◌==◌}
use Rattle.std.specs.Option.{option_or}
use Rattle.std.proofs.Math.Nat.{div-lt_iff_lt-mul, div-mul-le_self}
use Rattle.dp_frame.specs.declared.entry.Entry.{Entry}
use Rattle.dp_frame.specs.declared.settings.Settings.{Settings}
use Rattle.dp_frame.specs.declared.entry.Judged.{Judged}
use Rattle.dp_frame.specs.declared.entry.Judged.TheVariants.{Blank, Good, Faulty, TooMany}
use Rattle.dp_frame.specs.declared.fault.Refusal.{Refusal}
use Rattle.dp_frame.specs.Line.{judge, time_of}
use Rattle.dp_frame.specs.Frames.{IsBefore}
use Rattle.dp_frame.specs.Record.{refusal_of, first_refusal, good_lines, entry_of, entries, last_time, last_cycle}
use Rattle.dp_frame.specs.Progresses.{Follows}
use Rattle.dp_frame.proofs.JudgedLines.{judge-good, judge-blank, judge-filled}

pub refusal-more : (p : Settings) (lines : List (List ℕ)) (line : List ℕ) (j : Judged) → first_refusal p lines ≡ None
    → judge p (last_time lines) line ≡ j
    → first_refusal p (line ∷ lines) ≡ refusal_of (length lines + 1) j
unfolding first_refusal
refusal-more p lines line j ok is = rw (ok, is)

-- the first line that can't be taken stays the first
pub refusal-stays : (p : Settings) (lines : List (List ℕ)) (line : List ℕ) (r : Refusal) → first_refusal p lines ≡ Some r
    → first_refusal p (line ∷ lines) ≡ Some r
unfolding first_refusal
refusal-stays p lines line r is = rw is

good-stays : (p : Settings) (lines : List (List ℕ)) (line : List ℕ) (r : Refusal) → first_refusal p (line ∷ lines) ≡ Some r
    → good_lines p (line ∷ lines) ≡ good_lines p lines
unfolding good_lines
good-stays p lines line r is = rw is

good-more : (p : Settings) (lines : List (List ℕ)) (line : List ℕ) → first_refusal p (line ∷ lines) ≡ None
    → good_lines p (line ∷ lines) ≡ line ∷ good_lines p lines
unfolding good_lines
good-more p lines line is = rw is

pub entries-refused : (p : Settings) (lines : List (List ℕ)) (line : List ℕ) (r : Refusal) → first_refusal p (line ∷ lines) ≡ Some r
    → entries p (line ∷ lines) ≡ entries p lines
unfolding entries
entries-refused p lines line r is = rw (good-stays p lines line r is)

pub entries-good : (p : Settings) (lines : List (List ℕ)) (line : List ℕ) (e : Entry) → first_refusal p lines ≡ None
    → judge p (last_time lines) line ≡ Good e
    → entries p (line ∷ lines) ≡ e ∷ entries p lines
unfolding entries
entries-good p lines line e ok is =
    let says = judge-good p (last_time lines) line e is in
    rw (good-more p lines line (refusal-more p lines line (Good e) ok is), says.same)

entry_of-blank : (p : Settings) (line : List ℕ) → (length line == 0) ≡ true → entry_of p line ≡ None
unfolding entry_of
entry_of-blank p line empty = rw (judge-blank p 0 line empty)

pub entries-blank : (p : Settings) (lines : List (List ℕ)) (line : List ℕ) → first_refusal p lines ≡ None → judge p (last_time lines) line ≡ Blank
    → entries p (line ∷ lines) ≡ entries p lines
unfolding entries
entries-blank p lines line ok is =
    rw (good-more p lines line (refusal-more p lines line Blank ok is), entry_of-blank p line (judge-filled p (last_time lines) line is))

pub last_time-blank : (lines : List (List ℕ)) (line : List ℕ) → (length line == 0) ≡ true → last_time (line ∷ lines) ≡ last_time lines
unfolding last_time
last_time-blank lines line empty = rw empty

pub last_time-filled : (lines : List (List ℕ)) (line : List ℕ) → (length line == 0) ≡ false → last_time (line ∷ lines) ≡ time_of line
unfolding last_time
last_time-filled lines line filled = rw filled

-- the times of the good lines don't fall, and none is after t
unfoldable pub IsTimed : ℕ → ℕ → List Entry → Type 0
IsTimed step t [] = Unit {0}
IsTimed step t (e ∷ es) = (e.time ≤ t) × (e.cycle ≡ e.time / step) × IsTimed step e.time es

timed-later : (step t u : ℕ) (es : List Entry) → t ≤ u → IsTimed step t es → IsTimed step u es
unfolding IsTimed
timed-later step t u [] le timed = tt
timed-later step t u (e ∷ es) le timed = (omega (arith, timed.0, le), timed.1, timed.2)

-- fewer lines were all taken, and the last one too
pub refusal-fewer : (p : Settings) (lines : List (List ℕ)) (line : List ℕ) → first_refusal p (line ∷ lines) ≡ None
    → (first_refusal p lines ≡ None) × (refusal_of (length lines + 1) (judge p (last_time lines) line) ≡ None)
unfolding first_refusal
refusal-fewer p lines line is = by_refusal (first_refusal p lines) refl is
  where
    by_refusal : (r : Option Refusal) → first_refusal p lines ≡ r
        → option_or r (refusal_of (length lines + 1) (judge p (last_time lines) line)) ≡ None
        → (first_refusal p lines ≡ None) × (refusal_of (length lines + 1) (judge p (last_time lines) line) ≡ None)
    by_refusal None e is = (e, is)
    by_refusal (Some r) e is = cc

nothing_yet : (p : Settings) → IsTimed p.cycle_ms (last_time []) (entries p [])
unfolding IsTimed last_time entries good_lines
nothing_yet p = tt

timed-by : (p : Settings) (lines : List (List ℕ)) (line : List ℕ) (j : Judged) → first_refusal p lines ≡ None → judge p (last_time lines) line ≡ j
    → refusal_of (length lines + 1) j ≡ None
    → IsTimed p.cycle_ms (last_time lines) (entries p lines) → IsTimed p.cycle_ms (last_time (line ∷ lines)) (entries p (line ∷ lines))
unfolding IsTimed
timed-by p lines line Blank ok is none before =
    rw (entries-blank p lines line ok is, last_time-blank lines line (judge-filled p (last_time lines) line is)) before
timed-by p lines line (Good e) ok is none before =
    let says = judge-good p (last_time lines) line e is in
    rw (entries-good p lines line e ok is, last_time-filled lines line says.filled, ← says.time)
    (omega arith, says.cycle, timed-later p.cycle_ms (last_time lines) e.time (entries p lines) says.later before)
timed-by p lines line (Faulty k) ok is none before = cc
timed-by p lines line (TooMany k) ok is none before = cc

pub timed : (p : Settings) (lines : List (List ℕ)) → first_refusal p lines ≡ None → IsTimed p.cycle_ms (last_time lines) (entries p lines)
timed p [] ok = nothing_yet p
timed p (line ∷ lines) ok =
    let f = refusal-fewer p lines line ok in
    timed-by p lines line (judge p (last_time lines) line) f.0 refl f.1 (timed p lines f.0)

div_mono : (step t u : ℕ) → 0 < step → t ≤ u → t / step ≤ u / step
div_mono step t u some le =
    let f : u / step < t / step → u < t / step * step = (div-lt_iff_lt-mul some).0 in
    let g : t / step * step ≤ t = div-mul-le_self t step in grind arith

pub timed-before : (step t n : ℕ) (es : List Entry) → 0 < step → t / step < n → IsTimed step t es → IsBefore n es
unfolding IsTimed IsBefore
timed-before step t n [] some lt timed = tt
timed-before step t n (e ∷ es) some lt timed =
    let le = div_mono step e.time t some timed.0 in
    (omega (arith, lt, le, timed.1), timed-before step e.time n es some (omega (arith, lt, le)) timed.2)

before-last : (step t n : ℕ) (es : List Entry) → 0 < step → last_cycle es < n → IsTimed step t es → IsBefore n es
unfolding IsTimed last_cycle IsBefore
before-last step t n [] some lt timed = tt
before-last step t n (e ∷ es) some lt timed = (lt, timed-before step e.time n es some (omega (arith, lt, timed.1)) timed.2)

not_before_last : (step t : ℕ) (es : List Entry) (e : Entry) → 0 < step → t ≤ e.time → e.cycle ≡ e.time / step → IsTimed step t es
    → last_cycle es ≤ e.cycle
unfolding IsTimed last_cycle
not_before_last step t [] e some le is timed = omega arith
not_before_last step t (d ∷ es) e some le is timed = omega (arith, div_mono step d.time e.time some (omega (arith, timed.0, le)), timed.1, is)

pub follows-good : (p : Settings) (lines : List (List ℕ)) (line : List ℕ) (e : Entry) → 0 < p.cycle_ms → first_refusal p lines ≡ None
    → judge p (last_time lines) line ≡ Good e
    → Follows (entries p lines) e
follows-good p lines line e some ok is =
    let says = judge-good p (last_time lines) line e is in
    let times = timed p lines ok in
    record {
      later = not_before_last p.cycle_ms (last_time lines) (entries p lines) e some says.later says.cycle times;
      rising = λ n lt. before-last p.cycle_ms (last_time lines) n (entries p lines) some lt times;
    }
