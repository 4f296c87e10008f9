-- What is left after the last byte.
use Rattle.std.proofs.Common.{◌≡◌, ℕ, ◌<◌, ◌⊎◌, inl, inr, List, ◌∷◌, true, false, length, take, refl, sym, ◌∙◌, arith, Option, Some, None, subst}
use Rattle.std.specs.Prelude.{◌==◌}
use Rattle.std.proofs.lemmas.List.{length-take}
use Rattle.std.proofs.lemmas.Bool.{cases_lt}
use Rattle.std.proofs.lemmas.Bool.Decides.{nat_tests}
use Rattle.dp_frame.specs.declared.progress.Progress.{Progress}
use Rattle.dp_frame.specs.declared.settings.Settings.{Settings}
use Rattle.dp_frame.specs.declared.fault.Refusal.{Refusal}
use Rattle.dp_frame.specs.declared.fault.Refusal.TheVariants as refusal
use Rattle.dp_frame.specs.declared.feed.Feed.{Feed}
use Rattle.dp_frame.specs.declared.feed.Feed.TheVariants.{More, Closed, Fault, TooMany}
use Rattle.dp_frame.specs.declared.feed.Phase.{Phase}
use Rattle.dp_frame.specs.declared.feed.Phase.TheVariants.{Open, Last, Done}
use Rattle.dp_frame.specs.Record.{first_refusal, entries, ended_lines, all_lines, unfinished_line}
use Rattle.dp_frame.specs.Feeds.{answer, closed, ending, is_more, last_frame, phase_after, told, told_or}
use Rattle.dp_frame.specs.Progresses.{ProgressRepresents}
use Rattle.dp_frame.specs.LinesState.{LinesState}
use Rattle.dp_frame.specs.Represents.{Represents, RepresentsWhole}
use Rattle.dp_frame.proofs.TextSteps.{all-ended}
use Rattle.dp_frame.proofs.Entering.{closed-still}
use Rattle.dp_frame.proofs.GrowingLines.{refusal-stays}
use Rattle.dp_frame.proofs.FeedSteps.{take-all, represents-long, answer-long}

zero-eqb : (n : ℕ) → n ≡ 0 → (n == 0) ≡ true
zero-eqb n is = grind (arith, nat_tests)

some-eqb : (n : ℕ) → (n ≡ 0 → ⊥) → (n == 0) ≡ false
some-eqb n other = grind (arith, nat_tests)

pub all-done : (t : List ℕ) → length (unfinished_line t) ≡ 0 → all_lines t ≡ ended_lines t
all-done t is = all-ended t ∙ rw (zero-eqb (length (unfinished_line t)) is)

pub all-left : (t : List ℕ) → (length (unfinished_line t) ≡ 0 → ⊥) → all_lines t ≡ unfinished_line t ∷ ended_lines t
all-left t some = all-ended t ∙ rw (some-eqb (length (unfinished_line t)) some)

-- a line that can't be taken among those with a line feed is one of all
pub all-refusal : (p : Settings) (t : List ℕ) (r : Refusal) → first_refusal p (ended_lines t) ≡ Some r → first_refusal p (all_lines t) ≡ Some r
all-refusal p t r is =
    elim (cases_lt 0 (length (unfinished_line t))) [
      | inl lt ↦ rw (all-left t (λ e. omega (arith, lt, e))) (refusal-stays p (ended_lines t) (unfinished_line t) r is)
      | inr le ↦ rw (all-done t (omega (arith, le))) is
    ]

pub answer-none : (p : Settings) (lines : List (List ℕ)) → first_refusal p lines ≡ None → answer p lines lines ≡ More
unfolding answer
answer-none p lines ok = rw (ok, closed-still (entries p lines))

-- the prefix is the unfinished line, or both are too long
prefix-cases : (u prefix : List ℕ) → prefix ≡ take 193 u → (prefix ≡ u) ⊎ ((192 < length prefix) × (192 < length u))
prefix-cases u prefix is =
    elim (cases_lt 193 (length u)) [
      | inl lt ↦ inr (rw is (omega (arith, length-take 193 u, lt)), omega (arith, lt))
      | inr le ↦ inl (is ∙ take-all 193 u le)
    ]

progress-left : (b : Progress) (t : List ℕ) (prefix : List ℕ) → first_refusal b.settings (ended_lines t) ≡ None → (length (unfinished_line t) ≡ 0 → ⊥)
    → (prefix ≡ unfinished_line t) ⊎ ((192 < length prefix) × (192 < length (unfinished_line t))) → ProgressRepresents b (prefix ∷ ended_lines t)
    → ProgressRepresents b (all_lines t)
progress-left b t prefix ok some (inl is) r = rw (all-left t some) (subst (λ l. ProgressRepresents b (l ∷ ended_lines t)) is r)
progress-left b t prefix ok some (inr long) r = rw (all-left t some) (represents-long b (ended_lines t) prefix _ ok long.0 long.1 r)

answer-left : (p : Settings) (t : List ℕ) (prefix : List ℕ) → first_refusal p (ended_lines t) ≡ None → (length (unfinished_line t) ≡ 0 → ⊥)
    → (prefix ≡ unfinished_line t) ⊎ ((192 < length prefix) × (192 < length (unfinished_line t)))
    → answer p (ended_lines t) (prefix ∷ ended_lines t) ≡ answer p (ended_lines t) (all_lines t)
answer-left p t prefix ok some (inl is) = rw (all-left t some, is)
answer-left p t prefix ok some (inr long) = rw (all-left t some) (answer-long p (ended_lines t) prefix _ ok long.0 long.1)

-- nothing but the last frame is left
pub ending-more : (p : Settings) (t : List ℕ) → answer p (ended_lines t) (all_lines t) ≡ More
    → (ending p t Open ≡ last_frame (entries p (all_lines t))) × (phase_after p t Open ≡ Done)
unfolding ending phase_after
ending-more p t is = (rw is, rw is)

pub ending-other : (p : Settings) (t : List ℕ) (a : Feed) → answer p (ended_lines t) (all_lines t) ≡ a → is_more a ≡ false
    → (ending p t Open ≡ a) × (phase_after p t Open ≡ Last)
unfolding ending phase_after
ending-other p t a is other = (rw (is, other), rw (is, other))

pub not_more : (a : Feed) → (a ≡ More → ⊥) → is_more a ≡ false
not_more More other = absurd (other refl)
not_more (Closed frame empty) other = refl
not_more (Fault line kind) other = refl
not_more (TooMany line cycle) other = refl

pub more-is : (a : Feed) → is_more a ≡ true → a ≡ More
more-is More e = refl
more-is (Closed frame empty) e = absurd cc
more-is (Fault line kind) e = absurd cc
more-is (TooMany line cycle) e = absurd cc

pub told-more : (r : Refusal) → told r ≡ More → ⊥
told-more (refusal.Faulty line kind) is = cc
told-more (refusal.TooMany line cycle) is = cc

pub answer-more : (p : Settings) (before after : List (List ℕ)) → answer p before after ≡ More → first_refusal p after ≡ None
unfolding answer
answer-more p before after is = by_refusal (first_refusal p after) refl is
  where
    by_refusal : (r : Option Refusal) → first_refusal p after ≡ r → told_or r (closed (entries p before) (entries p after)) ≡ More
        → first_refusal p after ≡ None
    by_refusal None e is = e
    by_refusal (Some r) e is = absurd (told-more r is)

pub done_open : Done ≡ Open → ⊥
done_open is = cc

pub last_open : Last ≡ Open → ⊥
last_open is = cc

pub whole-done : (b : Progress) (prefix : List ℕ) (n m : ℕ) (t : List ℕ) → ProgressRepresents b (all_lines t)
    → RepresentsWhole record { progress = b; prefix = prefix; prefix_len = n; bytes = m; phase = Done } t
whole-done b prefix n m t r = record { before = λ is. absurd (done_open is); after = λ _. r }

pub whole-last : (b : Progress) (prefix : List ℕ) (n m : ℕ) (t : List ℕ) → ProgressRepresents b (all_lines t)
    → RepresentsWhole record { progress = b; prefix = prefix; prefix_len = n; bytes = m; phase = Last } t
whole-last b prefix n m t r = record { before = λ is. absurd (last_open is); after = λ _. r }

pub whole-progress : (s : LinesState) (t : List ℕ) (q : Phase) → s.phase ≡ q → (q ≡ Open → ⊥) → RepresentsWhole s t → ProgressRepresents s.progress (all_lines t)
whole-progress s t q is other w = w.after (λ still. other (sym is ∙ still))

-- a line that can't be taken is told again and again
refusal-all : (s : LinesState) (t : List ℕ) (q : Phase) (r : Refusal) → s.phase ≡ q → s.progress.refusal ≡ Some r → RepresentsWhole s t
    → first_refusal s.progress.settings (all_lines t) ≡ Some r
refusal-all s t Open r is stop w = all-refusal s.progress.settings t r (sym (w.before is).lines.refusal ∙ stop)
refusal-all s t Last r is stop w = sym (whole-progress s t Last is last_open w).refusal ∙ stop
refusal-all s t Done r is stop w = sym (whole-progress s t Done is done_open w).refusal ∙ stop

pub answer-refused : (p : Settings) (before after : List (List ℕ)) (r : Refusal) → first_refusal p after ≡ Some r → answer p before after ≡ told r
unfolding answer
answer-refused p before after r is = rw is

told-is_more : (r : Refusal) → is_more (told r) ≡ false
told-is_more (refusal.Faulty line kind) = refl
told-is_more (refusal.TooMany line cycle) = refl

pub ending-refused : (p : Settings) (t : List ℕ) (q : Phase) (r : Refusal) → first_refusal p (all_lines t) ≡ Some r → ending p t q ≡ told r
unfolding ending
ending-refused p t Open r is = rw (answer-refused p (ended_lines t) (all_lines t) r is, told-is_more r)
ending-refused p t Last r is = rw is
ending-refused p t Done r is = rw is

pub ending-told : (s : LinesState) (t : List ℕ) (r : Refusal) → s.progress.refusal ≡ Some r → RepresentsWhole s t
    → told r ≡ ending s.progress.settings t s.phase
ending-told s t r stop w = sym (ending-refused s.progress.settings t s.phase r (refusal-all s t s.phase r refl stop w))

pub no_refusal : (s : LinesState) (t : List ℕ) (r : Refusal) → s.progress.refusal ≡ Some r → RepresentsWhole s t
    → first_refusal s.progress.settings (all_lines t) ≡ None → ⊥
no_refusal s t r stop w ok = let a = refusal-all s t s.phase r refl stop w in cc

pub ending-last : (p : Settings) (t : List ℕ) (q : Phase) → q ≡ Last → first_refusal p (all_lines t) ≡ None
    → (ending p t q ≡ last_frame (entries p (all_lines t))) × (phase_after p t q ≡ Done)
unfolding ending phase_after
ending-last p t q is ok = (rw (is, ok), rw is)

pub ending-done : (p : Settings) (t : List ℕ) (q : Phase) → q ≡ Done → first_refusal p (all_lines t) ≡ None
    → (ending p t q ≡ More) × (phase_after p t q ≡ Done)
unfolding ending phase_after
ending-done p t q is ok = (rw (is, ok), rw is)

-- the unfinished line is judged: the progress of all lines, and the answer
pub record Judges (s : LinesState) (b : Progress) (a : Feed) (t : List ℕ) : Type 0 where
  pub progress : ProgressRepresents b (all_lines t)
  pub answer_is : a ≡ answer s.progress.settings (ended_lines t) (all_lines t)

pub judges : (s : LinesState) (b : Progress) (a : Feed) (line : List ℕ) (t : List ℕ) → Represents s t → s.progress.refusal ≡ None → (s.prefix_len ≡ 0 → ⊥)
    → line ≡ s.prefix → b.settings ≡ s.progress.settings
    → ProgressRepresents b (line ∷ ended_lines t) → a ≡ answer s.progress.settings (ended_lines t) (line ∷ ended_lines t) → Judges s b a t
judges s b a line t was none some is same r e =
    let k = was.prefix none in
    let ok : first_refusal s.progress.settings (ended_lines t) ≡ None = sym was.lines.refusal ∙ none in
    let filled : length (unfinished_line t) ≡ 0 → ⊥ = λ z. some (k.prefix_len ∙ z) in
    let cases = prefix-cases (unfinished_line t) line (is ∙ k.prefix) in
    record {
      progress = progress-left b t line (rw same ok) filled cases r;
      answer_is = e ∙ answer-left s.progress.settings t line ok filled cases;
    }

-- a reader of a text is one of the whole text, until its end is told
pub whole-open : (s : LinesState) (t : List ℕ) → s.phase ≡ Open → Represents s t → RepresentsWhole s t
whole-open s t is r = record { before = λ _. r; after = λ other. absurd (other is) }
