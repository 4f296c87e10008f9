-- What a piece of a record brings: the frames that its answer gives, or the line that it tells of.
use Rattle.std.proofs.Common.{◌≡◌, ℕ, zero, suc, ◌+◌, ◌-◌, ◌<◌, List, [], ◌∷◌, ◌++◌, length, take, get_or, ap, sym, ◌∙◌, arith, Some, append_assoc, append-nil, is_some, replicate}
use Rattle.std.specs.List.{flat_map}
use Rattle.std.proofs.lemmas.List.{same_from_push, take_all, take_more}
use Rattle.dp_plant.specs.declared.frames.Frame.{Frame}
use Rattle.dp_frame.specs.declared.settings.Settings.{Settings}
use Rattle.dp_frame.specs.declared.fault.Refusal.{Refusal}
use Rattle.dp_frame.specs.declared.feed.Feed.{Feed}
use Rattle.dp_frame.specs.declared.feed.Feed.TheVariants.{More}
use Rattle.dp_frame.specs.Record.{ended_lines, first_refusal}
use Rattle.dp_frame.specs.Feeds.{answer, answer_to, given, is_told, told}
use Rattle.dp_frame.specs.Cycles.{IsAnswered, answers_after, frames_so_far}
use Rattle.dp_frame.proofs.CycleSteps.{frames-bytes}
use Rattle.dp_frame.proofs.Endings.{answer-tells}
use Rattle.dp_frame.proofs.PieceSteps.{answers-append}

nothing-given : (n : ℕ) (feed : Feed) → flat_map given (replicate n More ++ feed ∷ []) ≡ given feed
nothing-given zero feed = append-nil (given feed)
nothing-given (suc n) feed = nothing-given n feed

-- the piece adds to the frames that are over just those that its answer gives
pub piece-gives : (p : Settings) (t piece : List ℕ) (feed : Feed) → 0 < p.cycle_ms → IsAnswered p t piece feed
    → frames_so_far p (ended_lines (t ++ piece)) ≡ frames_so_far p (ended_lines t) ++ given feed
piece-gives p t piece feed some a =
    sym (frames-bytes p t piece some)
    ∙ ap (λ (l : List Feed). frames_so_far p (ended_lines t) ++ flat_map given l) a.answers
    ∙ ap (λ (l : List Frame). frames_so_far p (ended_lines t) ++ l) (nothing-given (length piece - 1) feed)

-- its answer is that to the last byte
pub piece-answer : (p : Settings) (t piece : List ℕ) (feed : Feed) → IsAnswered p t piece feed
    → feed ≡ answer p (ended_lines (t ++ take (length piece - 1) piece)) (ended_lines (t ++ piece))
unfolding answers_after
piece-answer p t [] feed a = let same = a.answers in absurd cc
piece-answer p t (b ∷ more) feed a =
    let n = length (b ∷ more) - 1 in
    let xs = take n (b ∷ more) in
    let last = get_or (b ∷ more) n 0 in
    let whole : n + 1 ≡ length (b ∷ more) = omega arith in
    let split : xs ++ last ∷ [] ≡ b ∷ more = sym (take_more (b ∷ more) n 0 (omega arith)) ∙ ap (λ (k : ℕ). take k (b ∷ more)) whole ∙ take_all (length (b ∷ more)) (b ∷ more) (omega arith) in
    let answers : answers_after p t xs ++ answer_to p (t ++ xs) last ∷ [] ≡ replicate n More ++ feed ∷ [] =
    sym (answers-append p t xs (last ∷ [])) ∙ ap (answers_after p t) split ∙ a.answers in
    let same = same_from_push (answers_after p t xs) (replicate n More) (answer_to p (t ++ xs) last) feed answers in
    sym same.1 ∙ ap (λ (l : List ℕ). answer p (ended_lines (t ++ xs)) (ended_lines l)) (append_assoc t xs (last ∷ []) ∙ ap (λ (l : List ℕ). t ++ l) split)

pub piece-told : (p : Settings) (t piece : List ℕ) (feed : Feed) → IsAnswered p t piece feed
    → (is_told feed ≡ is_some (first_refusal p (ended_lines (t ++ piece))))
    × ((r : Refusal) → feed ≡ told r → first_refusal p (ended_lines (t ++ piece)) ≡ Some r)
piece-told p t piece feed a =
    let before = ended_lines (t ++ take (length piece - 1) piece) in
    let is = piece-answer p t piece feed a in
    let tells = answer-tells p before (ended_lines (t ++ piece)) in
    (ap is_told is ∙ tells.whether, λ r e. tells.which r (sym is ∙ e))
