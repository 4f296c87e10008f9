-- A reader of lines represents the text with one more byte.
use Rattle.std.proofs.Common.{◌≡◌, ℕ, ◌+◌, ◌-◌, ◌<◌, ◌≤◌, ◌⊎◌, inl, inr, List, [], ◌∷◌, ◌++◌, Bool, true, false, length, take, refl, ap, sym, ◌∙◌, arith, Some, None, subst}
use Rattle.std.specs.Prelude.{◌==◌, slice_index}
use Rattle.std.proofs.lemmas.Grind.{common_steps}
use Rattle.std.proofs.lemmas.List.{length-take, take-append-le}
use Rattle.std.proofs.lemmas.Bool.{cases_lt}
use Rattle.dp_text.specs.Lines.{is_newline, stripped}
use Rattle.dp_frame.specs.declared.progress.Progress.{Progress}
use Rattle.dp_frame.specs.declared.settings.Settings.{Settings}
use Rattle.dp_frame.specs.declared.entry.Judged.TheVariants.{Faulty}
use Rattle.dp_frame.specs.declared.fault.LineFault.TheVariants.{LongLine}
use Rattle.dp_frame.specs.declared.fault.Refusal.{Refusal}
use Rattle.dp_frame.specs.declared.fault.Refusal.TheVariants as refusal
use Rattle.dp_frame.specs.declared.feed.Feed.TheVariants.{More}
use Rattle.dp_frame.specs.Record.{first_refusal, entries, last_time, ended_lines, unfinished_line}
use Rattle.dp_frame.specs.Feeds.{answer, told}
use Rattle.dp_frame.specs.Progresses.{ProgressRepresents}
use Rattle.dp_frame.specs.LinesState.{LinesState}
use Rattle.dp_frame.specs.Represents.{Represents}
use Rattle.dp_frame.proofs.JudgedLines.{judge-long}
use Rattle.dp_frame.proofs.GrowingLines.{refusal-more, refusal-stays}
use Rattle.dp_frame.proofs.Entering.{closed-still}
use Rattle.dp_frame.proofs.TextSteps.{ended-other, unfinished-other, ended-newline, unfinished-newline, newline-is}

some_none : (r : Refusal) → Some r ≡ None → ⊥
some_none r is = cc

-- the first line that can't be taken stays it, whatever byte comes
pub ended-refusal : (p : Settings) (t : List ℕ) (b : ℕ) (r : Refusal) → first_refusal p (ended_lines t) ≡ Some r
    → first_refusal p (ended_lines (t ++ b ∷ [])) ≡ Some r
ended-refusal p t b r is = by_byte (is_newline b) refl
  where
    by_byte : (v : Bool) → is_newline b ≡ v → first_refusal p (ended_lines (t ++ b ∷ [])) ≡ Some r
    by_byte false other = rw (ended-other t b other) is
    by_byte true newline = rw (newline-is b newline, ended-newline t) (refusal-stays p (ended_lines t) _ r is)

pub length-snoc : (t : List ℕ) (b : ℕ) → length (t ++ b ∷ []) ≡ length t + 1
length-snoc t b = grind (arith, common_steps)

pub represents-refused : (s : LinesState) (t : List ℕ) (b : ℕ) (r : Refusal) → s.progress.refusal ≡ Some r → Represents s t
    → Represents record { progress = s.progress; prefix = s.prefix; prefix_len = s.prefix_len; bytes = s.bytes + 1; phase = s.phase } (t ++ b ∷ [])
represents-refused s t b r is was = record {
  bytes = rw was.bytes (sym (length-snoc t b));
  lines = record {
    refusal = is ∙ sym (ended-refusal s.progress.settings t b r (sym was.lines.refusal ∙ is));
    keeps = λ none. absurd (some_none r (sym is ∙ none));
  };
  prefix = λ none. absurd (some_none r (sym is ∙ none));
}

pub answer-told : (s : LinesState) (t : List ℕ) (b : ℕ) (r : Refusal) → s.progress.refusal ≡ Some r → Represents s t
    → told r ≡ answer s.progress.settings (ended_lines t) (ended_lines (t ++ b ∷ []))
unfolding answer
answer-told s t b r is was = rw (ended-refusal s.progress.settings t b r (sym was.lines.refusal ∙ is))

pub take-all : (n : ℕ) (u : List ℕ) → length u ≤ n → take n u ≡ u
take-all n u le = grind (arith, common_steps)

-- the prefix of a line that goes on
take-snoc : (n : ℕ) (u : List ℕ) (b : ℕ) → take n (take n u ++ b ∷ []) ≡ take n (u ++ b ∷ [])
take-snoc n u b =
    elim (cases_lt n (length u)) [
      | inl lt ↦ let long : n ≤ length (take n u) = omega (arith, length-take n u) in
          take-append-le n (take n u) (b ∷ []) long ∙ take-all n (take n u) (omega (arith, length-take n u))
          ∙ sym (take-append-le n u (b ∷ []) (omega (arith, lt)))
      | inr le ↦ rw (take-all n u le)
    ]

pub represents-other : (s : LinesState) (t : List ℕ) (b : ℕ) (prefix : List ℕ) → is_newline b ≡ false → s.progress.refusal ≡ None → Represents s t
    → prefix ≡ take 193 (s.prefix ++ b ∷ [])
    → Represents record { progress = s.progress; prefix = prefix; prefix_len = s.prefix_len + 1; bytes = s.bytes + 1; phase = s.phase } (t ++ b ∷ [])
represents-other s t b prefix other none was is =
    let k = was.prefix none in
    record {
      bytes = rw was.bytes (sym (length-snoc t b));
      lines = rw (ended-other t b other) was.lines;
      prefix = λ _. record {
        prefix = rw (unfinished-other t b other, is, k.prefix) (take-snoc 193 (unfinished_line t) b);
        prefix_len = rw (unfinished-other t b other, length-snoc (unfinished_line t) b, k.prefix_len);
      };
    }

pub answer-other : (s : LinesState) (t : List ℕ) (b : ℕ) → is_newline b ≡ false → s.progress.refusal ≡ None → Represents s t
    → More ≡ answer s.progress.settings (ended_lines t) (ended_lines (t ++ b ∷ []))
unfolding answer
answer-other s t b other none was =
    rw (ended-other t b other, sym was.lines.refusal ∙ none, closed-still (entries s.progress.settings (ended_lines t)))

pub strip-length : (u : List ℕ) → length u ≤ length (stripped u) + 1
strip-length u = by_test (slice_index u (length u - 1) == 13) refl
  where
    by_test : (v : Bool) → (slice_index u (length u - 1) == 13) ≡ v → length u ≤ length (stripped u) + 1
    by_test true is = rw is (omega (arith, length-take (length u - 1) u))
    by_test false is = rw is (omega arith)

-- the line that is judged is the whole one, or both are too long
pub line-cases : (u prefix line : List ℕ) (n : ℕ) → prefix ≡ take 193 u → n ≡ length u → (n ≤ 193 → line ≡ stripped prefix) → (193 < n → line ≡ prefix)
    → (line ≡ stripped u) ⊎ ((192 < length line) × (192 < length (stripped u)))
line-cases u prefix line n is len short long =
    elim (cases_lt 193 n) [
      | inl lt ↦ inr (rw (long lt, is) (omega (arith, length-take 193 u, len, lt)), omega (arith, strip-length u, len, lt))
      | inr le ↦ inl (short le ∙ ap stripped (is ∙ take-all 193 u (omega (arith, len, le))))
    ]

-- two lines that are too long are one to the progress
pub represents-long : (b : Progress) (lines : List (List ℕ)) (x y : List ℕ) → first_refusal b.settings lines ≡ None → 192 < length x → 192 < length y
    → ProgressRepresents b (x ∷ lines) → ProgressRepresents b (y ∷ lines)
represents-long b lines x y ok long_x long_y r =
    let f = refusal-more b.settings lines x (Faulty LongLine) ok (judge-long b.settings (last_time lines) x long_x) in
    let g = refusal-more b.settings lines y (Faulty LongLine) ok (judge-long b.settings (last_time lines) y long_y) in
    record {
      refusal = r.refusal ∙ f ∙ sym g;
      keeps = λ none. absurd (some_none (refusal.Faulty (length lines + 1) LongLine) (sym f ∙ sym r.refusal ∙ none));
    }

pub answer-long : (p : Settings) (lines : List (List ℕ)) (x y : List ℕ) → first_refusal p lines ≡ None → 192 < length x → 192 < length y
    → answer p lines (x ∷ lines) ≡ answer p lines (y ∷ lines)
unfolding answer
answer-long p lines x y ok long_x long_y =
    let f = refusal-more p lines x (Faulty LongLine) ok (judge-long p (last_time lines) x long_x) in
    let g = refusal-more p lines y (Faulty LongLine) ok (judge-long p (last_time lines) y long_y) in
    rw (f, g)

progress-newline : (b : Progress) (t : List ℕ) (line : List ℕ) → first_refusal b.settings (ended_lines t) ≡ None
    → (line ≡ stripped (unfinished_line t)) ⊎ ((192 < length line) × (192 < length (stripped (unfinished_line t))))
    → ProgressRepresents b (line ∷ ended_lines t) → ProgressRepresents b (ended_lines (t ++ 10 ∷ []))
progress-newline b t line ok (inl is) r = rw (ended-newline t) (subst (λ l. ProgressRepresents b (l ∷ ended_lines t)) is r)
progress-newline b t line ok (inr long) r = rw (ended-newline t) (represents-long b (ended_lines t) line _ ok long.0 long.1 r)

pub answer-newline : (p : Settings) (t : List ℕ) (line : List ℕ) → first_refusal p (ended_lines t) ≡ None
    → (line ≡ stripped (unfinished_line t)) ⊎ ((192 < length line) × (192 < length (stripped (unfinished_line t))))
    → answer p (ended_lines t) (line ∷ ended_lines t) ≡ answer p (ended_lines t) (ended_lines (t ++ 10 ∷ []))
answer-newline p t line ok (inl is) = rw (ended-newline t, is)
answer-newline p t line ok (inr long) = rw (ended-newline t) (answer-long p (ended_lines t) line _ ok long.0 long.1)

pub represents-newline : (s : LinesState) (b : Progress) (t : List ℕ) (line : List ℕ) → b.settings ≡ s.progress.settings → s.progress.refusal ≡ None
    → Represents s t
    → (line ≡ stripped (unfinished_line t)) ⊎ ((192 < length line) × (192 < length (stripped (unfinished_line t))))
    → ProgressRepresents b (line ∷ ended_lines t)
    → Represents record { progress = b; prefix = []; prefix_len = 0; bytes = s.bytes + 1; phase = s.phase } (t ++ 10 ∷ [])
represents-newline s b t line same none was cases r = record {
  bytes = rw was.bytes (sym (length-snoc t 10));
  lines = progress-newline b t line (rw same (sym was.lines.refusal ∙ none)) cases r;
  prefix = λ _. record { prefix = rw (unfinished-newline t); prefix_len = rw (unfinished-newline t) };
}

pub take-full : (n : ℕ) (u : List ℕ) (b : ℕ) → length u ≡ n → take n (u ++ b ∷ []) ≡ u
take-full n u b is = grind (arith, common_steps)
