-- A reader of lines represents the text with more bytes, and what they are answered.
use Rattle.std.proofs.Common.{◌≡◌, ℕ, suc, ◌+◌, ◌-◌, ◌<◌, ◌≤◌, ◌⊎◌, inl, inr, List, [], ◌∷◌, ◌++◌, Bool, true, false, length, take, drop, get_or, refl, ap, sym, ◌∙◌, arith, Some, None, subst, append_assoc, append-nil, length-append, min, replicate}
use Rattle.std.specs.Prelude.{not, Option}
use Rattle.std.specs.Option.{unwrap_or}
use Rattle.std.proofs.Math.Seq.{take-add, take-append-add}
use Rattle.std.proofs.lemmas.List.{length-drop, length-take, nil_from_length, replicate-append-replicate, replicate_more, take-append-le, take_min, take_more}
use Rattle.std.proofs.lemmas.List.Sums.{prefix_len-le-length, prefix_len_is, prefix_len_stops}
use Rattle.std.proofs.lemmas.Bool.{cases_lt}
use Rattle.memchr.specs.Find.{IsFirstByte, is_byte}
use Rattle.dp_text.specs.Lines.{is_newline, stripped}
use Rattle.dp_frame.specs.declared.settings.Settings.{Settings}
use Rattle.dp_frame.specs.declared.feed.Feed.{Feed}
use Rattle.dp_frame.specs.declared.feed.Feed.TheVariants.{More}
use Rattle.dp_frame.specs.Record.{ended_lines, entries, first_refusal, line_len, unfinished_line}
use Rattle.dp_frame.specs.Feeds.{answer, answer_to}
use Rattle.dp_frame.specs.Cycles.{IsAnswered, answers_after}
use Rattle.dp_frame.specs.declared.progress.Progress.{Progress}
use Rattle.dp_frame.specs.Progresses.{ProgressRepresents}
use Rattle.dp_frame.specs.LinesState.{LinesState}
use Rattle.dp_frame.specs.Represents.{KeepsPrefix, Represents}
use Rattle.dp_frame.proofs.Entering.{closed-still}
use Rattle.dp_frame.proofs.FeedSteps.{answer-newline, represents-newline, strip-length, take-all}
use Rattle.dp_frame.proofs.TextSteps.{ended-other, newline-is, unfinished-other}

-- ---- a part of a line

line_len-other : (b : ℕ) (more : List ℕ) → is_newline b ≡ false → line_len (b ∷ more) ≡ suc (line_len more)
line_len-other b more is = rw is (omega arith)

part-cons : (b : ℕ) (more : List ℕ) → line_len (b ∷ more) ≡ suc (length more) → (is_newline b ≡ false) × (line_len more ≡ length more)
part-cons b more part = by_byte (is_newline b) refl
  where
    by_byte : (v : Bool) → is_newline b ≡ v → (is_newline b ≡ false) × (line_len more ≡ length more)
    by_byte true is = let none : line_len (b ∷ more) ≡ 0 = rw is in absurd (omega arith)
    by_byte false is = let one = line_len-other b more is in (is, omega arith)

not_so : (b : Bool) → (b ≡ true → ⊥) → not b ≡ true
not_so true other = absurd (other refl)
not_so false other = refl

-- the first line feed that a search finds
pub line_len-found : (text : List ℕ) (r : Option ℕ) → IsFirstByte (is_byte 10) text r → unwrap_or r (length text) ≡ line_len text
line_len-found text None none =
    sym (prefix_len_is (λ (b : ℕ). not (is_newline b)) text (length text) 0 (omega arith) (λ k lt. not_so (is_newline (get_or text k 0)) (none k (omega arith) lt)) (λ lt. absurd (omega (arith, lt))))
line_len-found text (Some at) found =
    sym (prefix_len_is (λ (b : ℕ). not (is_newline b)) text at 0 (omega (arith, found.0.high)) (λ k lt. not_so (is_newline (get_or text k 0)) (found.0.before k (omega arith) lt)) (λ lt. ap not found.1))

-- what comes before the next line feed is a part of a line
pub line-part : (text : List ℕ) → line_len (take (line_len text) text) ≡ length (take (line_len text) text)
line-part [] = refl
line-part (b ∷ more) = by_byte (is_newline b) refl (line-part more)
  where
    by_byte : (v : Bool) → is_newline b ≡ v → line_len (take (line_len more) more) ≡ length (take (line_len more) more)
        → line_len (take (line_len (b ∷ more)) (b ∷ more)) ≡ length (take (line_len (b ∷ more)) (b ∷ more))
    by_byte true is rest = let none : line_len (b ∷ more) ≡ 0 = rw is in rw none
    by_byte false is rest = rw (line_len-other b more is, line_len-other b (take (line_len more) more) is) (ap suc rest)

-- and then comes a line feed
pub line-end : (text : List ℕ) → line_len text < length text → get_or text (line_len text) 0 ≡ 10
line-end text lt = newline-is (get_or text (line_len text) 0) (by_test (is_newline (get_or text (line_len text) 0)) refl)
  where
    by_test : (v : Bool) → is_newline (get_or text (line_len text) 0) ≡ v → is_newline (get_or text (line_len text) 0) ≡ true
    by_test true is = is
    by_test false is =
        let stops = prefix_len_stops (λ (b : ℕ). not (is_newline b)) text 0 lt in
        absurd cc

part-ended : (t bytes : List ℕ) → line_len bytes ≡ length bytes → ended_lines (t ++ bytes) ≡ ended_lines t
part-ended t [] part = ap ended_lines (append-nil t)
part-ended t (b ∷ more) part =
    let p = part-cons b more part in
    ap ended_lines (sym (append_assoc t (b ∷ []) more)) ∙ part-ended (t ++ b ∷ []) more p.1 ∙ ended-other t b p.0

part-unfinished : (t bytes : List ℕ) → line_len bytes ≡ length bytes → unfinished_line (t ++ bytes) ≡ unfinished_line t ++ bytes
part-unfinished t [] part = ap unfinished_line (append-nil t) ∙ sym (append-nil (unfinished_line t))
part-unfinished t (b ∷ more) part =
    let p = part-cons b more part in
    ap unfinished_line (sym (append_assoc t (b ∷ []) more)) ∙ part-unfinished (t ++ b ∷ []) more p.1
    ∙ ap (λ (u : List ℕ). u ++ more) (unfinished-other t b p.0) ∙ append_assoc (unfinished_line t) (b ∷ []) more

part-answer : (p : Settings) (t : List ℕ) (b : ℕ) → is_newline b ≡ false → first_refusal p (ended_lines t) ≡ None → answer_to p t b ≡ More
unfolding answer
part-answer p t b other ok = rw (ended-other t b other, ok) (closed-still (entries p (ended_lines t)))

-- the bytes of a part bring nothing
part-answers : (p : Settings) (t bytes : List ℕ) → line_len bytes ≡ length bytes → first_refusal p (ended_lines t) ≡ None
    → answers_after p t bytes ≡ replicate (length bytes) More
unfolding answers_after
part-answers p t [] part ok = refl
part-answers p t (b ∷ more) part ok =
    let q = part-cons b more part in
    rw (part-answer p t b q.0 ok, part-answers p (t ++ b ∷ []) more q.1 (ap (first_refusal p) (ended-other t b q.0) ∙ ok))

-- the prefix of a line that goes on
take-more : (n : ℕ) (u v : List ℕ) → take n (take n u ++ v) ≡ take n (u ++ v)
take-more n u v =
    elim (cases_lt n (length u)) [
      | inl lt ↦ let long : n ≤ length (take n u) = omega (arith, length-take n u) in
          take-append-le n (take n u) v long ∙ take-all n (take n u) (omega (arith, length-take n u))
          ∙ sym (take-append-le n u v (omega (arith, lt)))
      | inr le ↦ rw (take-all n u le)
    ]

-- as many bytes as there is room for
pub take-room : (n count : ℕ) (u v : List ℕ) → length u ≤ n → count ≡ min (length v) (n - length u) → take n (u ++ v) ≡ u ++ take count v
take-room n count u v le is =
    let all : n ≡ length u + (n - length u) = omega arith in
    let few : count ≡ min (n - length u) (length v) = omega arith in
    ap (λ (k : ℕ). take k (u ++ v)) all ∙ take-append-add u v (n - length u)
    ∙ ap (λ (w : List ℕ). u ++ w) (sym (take_min (n - length u) v) ∙ ap (λ (k : ℕ). take k v) (sym few))

pub represents-part : (s : LinesState) (t bytes prefix : List ℕ) → line_len bytes ≡ length bytes → s.progress.refusal ≡ None → Represents s t
    → prefix ≡ take 193 (s.prefix ++ bytes)
    → Represents record { progress = s.progress; prefix = prefix; prefix_len = s.prefix_len + length bytes; bytes = s.bytes + length bytes; phase = s.phase } (t ++ bytes)
represents-part s t bytes prefix part none was is =
    let k = was.prefix none in
    record {
      bytes = rw was.bytes (sym (length-append t bytes));
      lines = rw (part-ended t bytes part) was.lines;
      prefix = λ _. record {
        prefix = rw (part-unfinished t bytes part, is, k.prefix) (take-more 193 (unfinished_line t) bytes);
        prefix_len = rw (part-unfinished t bytes part, length-append (unfinished_line t) bytes, k.prefix_len);
      };
    }

-- ---- the answers to more bytes

pub answers-append : (p : Settings) (t xs ys : List ℕ) → answers_after p t (xs ++ ys) ≡ answers_after p t xs ++ answers_after p (t ++ xs) ys
unfolding answers_after
answers-append p t [] ys = ap (λ (u : List ℕ). answers_after p u ys) (sym (append-nil t))
answers-append p t (b ∷ xs) ys =
    ap (λ (l : List Feed). answer_to p t b ∷ l) (answers-append p (t ++ b ∷ []) xs ys
    ∙ ap (λ (u : List ℕ). answers_after p (t ++ b ∷ []) xs ++ answers_after p u ys) (append_assoc t (b ∷ []) xs))

-- nothing, and then what the last byte is answered
pub answered-more : (p : Settings) (t xs ys : List ℕ) (feed : Feed) → 0 < length ys
    → answers_after p t xs ≡ replicate (length xs) More → IsAnswered p (t ++ xs) ys feed → IsAnswered p t (xs ++ ys) feed
answered-more p t xs ys feed some quiet last =
    let joined : length xs + (length ys - 1) ≡ length (xs ++ ys) - 1 = omega (arith, length-append xs ys) in
    record {
      answers = rw (answers-append p t xs ys, quiet, last.answers)
          (sym (append_assoc (replicate (length xs) More) (replicate (length ys - 1) More) (feed ∷ []))
          ∙ ap (λ (l : List Feed). l ++ feed ∷ []) (replicate-append-replicate (length xs) (length ys - 1) More ∙ ap (λ (n : ℕ). replicate n More) joined));
    }

-- where the last brings nothing, all do
pub answered-quiet : (p : Settings) (t xs : List ℕ) → 0 < length xs → IsAnswered p t xs More → answers_after p t xs ≡ replicate (length xs) More
answered-quiet p t xs some last =
    let all : length xs - 1 + 1 ≡ length xs = omega arith in
    last.answers ∙ replicate_more (length xs - 1) More ∙ ap (λ (n : ℕ). replicate n More) all

pub quiet-answered : (p : Settings) (t xs : List ℕ) → 0 < length xs → answers_after p t xs ≡ replicate (length xs) More → IsAnswered p t xs More
quiet-answered p t xs some quiet =
    let all : length xs - 1 + 1 ≡ length xs = omega arith in
    record { answers = quiet ∙ ap (λ (n : ℕ). replicate n More) (sym all) ∙ sym (replicate_more (length xs - 1) More) }

pub answered-one : (p : Settings) (t : List ℕ) (b : ℕ) (feed : Feed) → feed ≡ answer_to p t b → IsAnswered p t (b ∷ []) feed
unfolding answers_after
answered-one p t b feed is = record { answers = ap (λ (x : Feed). x ∷ []) (sym is) }

-- the bytes up to a line feed, and the line feed
pub to-line-end : (t text : List ℕ) → line_len text < length text → (t ++ take (line_len text) text) ++ 10 ∷ [] ≡ t ++ take (line_len text + 1) text
to-line-end t text lt =
    append_assoc t (take (line_len text) text) (10 ∷ [])
    ∙ ap (λ (l : List ℕ). t ++ l) (ap (λ (b : ℕ). take (line_len text) text ++ b ∷ []) (sym (line-end text lt)) ∙ sym (take_more text (line_len text) 0 lt))

pub answered-part : (p : Settings) (t text : List ℕ) → 0 < length text → line_len text ≡ length text → first_refusal p (ended_lines t) ≡ None
    → IsAnswered p t text More
answered-part p t text some whole ok = quiet-answered p t text some (part-answers p t text whole ok)

pub answered-line : (p : Settings) (t text : List ℕ) (feed : Feed) → line_len text < length text → first_refusal p (ended_lines t) ≡ None
    → feed ≡ answer_to p (t ++ take (line_len text) text) 10 → IsAnswered p t (take (line_len text + 1) text) feed
answered-line p t text feed lt ok is =
    subst (λ (l : List ℕ). IsAnswered p t l feed)
    (ap (λ (b : ℕ). take (line_len text) text ++ b ∷ []) (sym (line-end text lt)) ∙ sym (take_more text (line_len text) 0 lt))
    (answered-more p t (take (line_len text) text) (10 ∷ []) feed (omega arith)
    (part-answers p t (take (line_len text) text) (line-part text) ok) (answered-one p (t ++ take (line_len text) text) 10 feed is))

pub one-byte : (text : List ℕ) → 0 < length text → take 1 text ≡ get_or text 0 0 ∷ []
one-byte text some = take_more text 0 0 some

pub none-ended : (s : LinesState) (t : List ℕ) → s.progress.refusal ≡ None → Represents s t → first_refusal s.progress.settings (ended_lines t) ≡ None
none-ended s t none was = sym was.lines.refusal ∙ none

pub not_whole : (text : List ℕ) (n : ℕ) → n ≡ line_len text → (n ≡ length text → ⊥) → line_len text < length text
not_whole text n is other = omega (arith, prefix_len-le-length (λ (b : ℕ). not (is_newline b)) text)

-- one byte is taken whole
pub taken-one : (b n : ℕ) → 0 < n → n ≤ length (b ∷ []) → take n (b ∷ []) ≡ b ∷ []
taken-one b n some le = let one : n ≡ 1 = omega arith in rw one

pub answered-is : (p : Settings) (t : List ℕ) (b : ℕ) (feed : Feed) → IsAnswered p t (b ∷ []) feed → feed ≡ answer_to p t b
unfolding answers_after
answered-is p t b feed a = let same = a.answers in cc

-- ---- one more line of a piece

pub to-part-end : (t xs : List ℕ) (i n : ℕ) → (t ++ take i xs) ++ take n (drop i xs) ≡ t ++ take (i + n) xs
to-part-end t xs i n = append_assoc t (take i xs) (take n (drop i xs)) ∙ ap (λ (l : List ℕ). t ++ l) (sym (take-add i n xs))

pub piece-answered : (p : Settings) (t xs : List ℕ) (i n : ℕ) (feed : Feed) → 0 < n → n ≤ length (drop i xs)
    → answers_after p t (take i xs) ≡ replicate (length (take i xs)) More → IsAnswered p (t ++ take i xs) (take n (drop i xs)) feed
    → IsAnswered p t (take (i + n) xs) feed
piece-answered p t xs i n feed some within quiet last =
    subst (λ (l : List ℕ). IsAnswered p t l feed) (sym (take-add i n xs))
    (answered-more p t (take i xs) (take n (drop i xs)) feed (omega (arith, length-take n (drop i xs))) quiet last)

pub piece-quiet : (p : Settings) (t xs : List ℕ) (i n : ℕ) (feed : Feed) → 0 < n → n ≤ length (drop i xs) → feed ≡ More
    → answers_after p t (take i xs) ≡ replicate (length (take i xs)) More → IsAnswered p (t ++ take i xs) (take n (drop i xs)) feed
    → answers_after p t (take (i + n) xs) ≡ replicate (length (take (i + n) xs)) More
piece-quiet p t xs i n feed some within more quiet last =
    answered-quiet p t (take (i + n) xs) (omega (arith, length-take (i + n) xs, length-drop i xs))
    (piece-answered p t xs i n More some within quiet (subst (λ (x : Feed). IsAnswered p (t ++ take i xs) (take n (drop i xs)) x) more last))

-- ---- a line that stands whole in a piece

pub whole-cases : (u line : List ℕ) (n : ℕ) → n ≡ length u → (n ≤ 193 → line ≡ stripped u) → (193 < n → line ≡ u)
    → (line ≡ stripped u) ⊎ ((192 < length line) × (192 < length (stripped u)))
whole-cases u line n len short long =
    elim (cases_lt 193 n) [
      | inl lt ↦ inr (rw (long lt) (omega (arith, len, lt)), omega (arith, strip-length u, len, lt))
      | inr le ↦ inl (short le)
    ]

-- the line is what hasn't ended
whole-unfinished : (s : LinesState) (t u : List ℕ) → line_len u ≡ length u → s.prefix_len ≡ 0 → KeepsPrefix s t → unfinished_line (t ++ u) ≡ u
whole-unfinished s t u part fresh k =
    let none : unfinished_line t ≡ [] = nil_from_length (unfinished_line t) (sym k.prefix_len ∙ fresh) in
    part-unfinished t u part ∙ ap (λ (l : List ℕ). l ++ u) none

pub represents-whole : (s : LinesState) (b : Progress) (t u line : List ℕ) → b.settings ≡ s.progress.settings → s.progress.refusal ≡ None
    → line_len u ≡ length u → s.prefix_len ≡ 0 → Represents s t
    → (line ≡ stripped u) ⊎ ((192 < length line) × (192 < length (stripped u)))
    → ((lines : List (List ℕ)) → ProgressRepresents s.progress lines → ProgressRepresents b (line ∷ lines))
    → Represents record { progress = b; prefix = s.prefix; prefix_len = s.prefix_len; bytes = s.bytes + (length u + 1); phase = s.phase } ((t ++ u) ++ 10 ∷ [])
represents-whole s b t u line same none part fresh was cases judged =
    let k = was.prefix none in
    let left = whole-unfinished s t u part fresh k in
    let now = represents-part s t u (take 193 (s.prefix ++ u)) part none was refl in
    let before : unfinished_line t ≡ [] = nil_from_length (unfinished_line t) (sym k.prefix_len ∙ fresh) in
    let empty : s.prefix ≡ [] = k.prefix ∙ ap (take 193) before in
    let done = represents-newline _ b (t ++ u) line same none now (rw left cases) (judged (ended_lines (t ++ u)) now.lines) in
    record {
      bytes = omega (arith, done.bytes);
      lines = done.lines;
      prefix = λ going. let p = done.prefix going in record { prefix = empty ∙ p.prefix; prefix_len = fresh ∙ p.prefix_len };
    }

pub answer-whole : (s : LinesState) (t u line : List ℕ) → s.progress.refusal ≡ None → line_len u ≡ length u → s.prefix_len ≡ 0 → Represents s t
    → (line ≡ stripped u) ⊎ ((192 < length line) × (192 < length (stripped u)))
    → answer s.progress.settings (ended_lines (t ++ u)) (line ∷ ended_lines (t ++ u)) ≡ answer_to s.progress.settings (t ++ u) 10
answer-whole s t u line none part fresh was cases =
    let left = whole-unfinished s t u part fresh (was.prefix none) in
    let ok : first_refusal s.progress.settings (ended_lines (t ++ u)) ≡ None = ap (λ (l : List (List ℕ)). first_refusal s.progress.settings l) (part-ended t u part) ∙ none-ended s t none was in
    answer-newline s.progress.settings (t ++ u) line ok (rw left cases)

-- the progress represents the lines of the text with a part more
pub lines-part : (s : LinesState) (t u : List ℕ) → line_len u ≡ length u → Represents s t → ProgressRepresents s.progress (ended_lines (t ++ u))
lines-part s t u part was = rw (part-ended t u part) was.lines
