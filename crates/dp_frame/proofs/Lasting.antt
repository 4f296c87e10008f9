-- However a record goes on, its first refused line and the frames that are over stay.
use Rattle.std.proofs.Common.{◌≡◌, ℕ, ◌+◌, ◌<◌, ◌≤◌, ◌⊎◌, inl, inr, List, [], ◌∷◌, ◌++◌, length, refl, ◌∙◌, arith, Option, Some, None}
use Rattle.dp_frame.specs.declared.entry.Entry.{Entry}
use Rattle.dp_frame.specs.declared.settings.Settings.{Settings}
use Rattle.dp_frame.specs.declared.entry.Judged.{Judged}
use Rattle.dp_frame.specs.declared.entry.Judged.TheVariants.{Blank, Good, Faulty, TooMany}
use Rattle.dp_frame.specs.declared.fault.Refusal.{Refusal}
use Rattle.dp_frame.specs.Line.{judge}
use Rattle.dp_frame.specs.Frames.{frame_of}
use Rattle.dp_frame.specs.Record.{first_refusal, entries, last_time, last_cycle, refusal_of}
use Rattle.dp_frame.specs.Progresses.{Follows}
use Rattle.dp_frame.proofs.EmptyFrames.{frame-later}
use Rattle.dp_frame.proofs.GrowingLines.{refusal-fewer, refusal-stays, entries-refused, entries-good, entries-blank, follows-good}

-- what one more line does to the entries: nothing, or one more that follows
unfoldable pub Grows : List Entry → List Entry → Type 0
Grows es fs = (fs ≡ es) ⊎ ((e : Entry) × (fs ≡ e ∷ es) × Follows es e)

grows-by : (p : Settings) (lines : List (List ℕ)) (line : List ℕ) (j : Judged) → 0 < p.cycle_ms → first_refusal p lines ≡ None
    → judge p (last_time lines) line ≡ j → refusal_of (length lines + 1) j ≡ None
    → Grows (entries p lines) (entries p (line ∷ lines))
unfolding Grows
grows-by p lines line Blank some ok is none = inl (entries-blank p lines line ok is)
grows-by p lines line (Good e) some ok is none = inr (e, entries-good p lines line e ok is, follows-good p lines line e some ok is)
grows-by p lines line (Faulty k) some ok is none = cc
grows-by p lines line (TooMany k) some ok is none = cc

pub grows : (p : Settings) (lines : List (List ℕ)) (line : List ℕ) → 0 < p.cycle_ms → Grows (entries p lines) (entries p (line ∷ lines))
unfolding Grows
grows p lines line some = by_refusal (first_refusal p (line ∷ lines)) refl
  where
    by_refusal : (r : Option Refusal) → first_refusal p (line ∷ lines) ≡ r → Grows (entries p lines) (entries p (line ∷ lines))
    by_refusal (Some r) is = inl (entries-refused p lines line r is)
    by_refusal None is = let w = refusal-fewer p lines line is in grows-by p lines line (judge p (last_time lines) line) some w.0 refl w.1

-- a frame before the last cycle stays as it is
pub record Lasts (es fs : List Entry) : Type 0 where
  pub later : last_cycle es ≤ last_cycle fs
  pub frames : (n : ℕ) → n < last_cycle es → frame_of n fs ≡ frame_of n es

lasts-step : (es fs : List Entry) → Grows es fs → Lasts es fs
unfolding Grows last_cycle
lasts-step es fs (inl is) = record { later = rw is (omega arith); frames = λ n lt. rw is }
lasts-step es fs (inr g) =
    let later = (g.2).later in
    record { later = rw g.1 later; frames = λ n lt. rw g.1 (frame-later n g.0 es (omega (arith, lt, later))) }

lasts-trans : (es fs gs : List Entry) → Lasts es fs → Lasts fs gs → Lasts es gs
lasts-trans es fs gs a b = record {
  later = omega (arith, a.later, b.later);
  frames = λ n lt. b.frames n (omega (arith, lt, a.later)) ∙ a.frames n lt;
}

pub lasts : (p : Settings) (lines more : List (List ℕ)) → 0 < p.cycle_ms → Lasts (entries p lines) (entries p (more ++ lines))
lasts p lines [] some = record { later = omega arith; frames = λ n lt. refl }
lasts p lines (line ∷ more) some =
    lasts-trans (entries p lines) (entries p (more ++ lines)) (entries p ((line ∷ more) ++ lines)) (lasts p lines more some) (lasts-step _ _ (grows p (more ++ lines) line some))

-- the first refused line stays, and no later line is good
pub refusal-lasts : (p : Settings) (lines more : List (List ℕ)) (r : Refusal) → first_refusal p lines ≡ Some r
    → (first_refusal p (more ++ lines) ≡ Some r) × (entries p (more ++ lines) ≡ entries p lines)
refusal-lasts p lines [] r is = (is, refl)
refusal-lasts p lines (line ∷ more) r is =
    let less = refusal-lasts p lines more r is in
    let here = refusal-stays p (more ++ lines) line r less.0 in
    (here, entries-refused p (more ++ lines) line r here ∙ less.1)
