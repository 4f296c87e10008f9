-- Tallies of more ballots, and of the ballots of what was played.
use Rattle.std.proofs.Common.{◌≡◌, ◌+◌, ◌*◌, ◌≤◌, ◌<◌, ◌+ℤ◌, ℕ, zero, suc, ℤ, Bool, cond, List, [], ◌∷◌, ◌++◌, length, map, take, slice_index_or, Option, Some, None, refl, sym, ap, ◌∙◌, subst, arith, add-one, append_assoc, length-append}
use Rattle.std.proofs.lemmas.Int.{ints}
use Rattle.std.proofs.lemmas.List.Sums.{sum_by-append}
use Rattle.std.specs.List.{count_by, range_with_len}
use Rattle.std.proofs.lemmas.List.{append-nil}
use Rattle.std.proofs.lemmas.Grind.{flat_map-append}
use Rattle.dp_consequence.specs.Demands.{sum_of}
use Rattle.dp_core.specs.Moment.{Moment}
use Rattle.dp_core.specs.Voting.{ballot}
use Rattle.dp_core.specs.declared.event.Event.{Event}
use Rattle.dp_plant.specs.declared.frames.Frame.{Frame}
use Rattle.dp_plant.specs.declared.plant.Plant.{Plant}
use Rattle.dp_plant.specs.declared.voting.Ballot.{Ballot}
use Rattle.dp_plant.specs.declared.voting.Ballot.TheVariants.{Fresh, Held, Zero}
use Rattle.dp_report.specs.declared.block.Block.{Block}
use Rattle.dp_script.specs.declared.timed_act.TimedAct.{TimedAct}
use Rattle.dp_app.specs.declared.tally.Tally.{Tally}
use Rattle.dp_app.specs.Acting.{cycle_events}
use Rattle.dp_app.specs.Blocks.{block_at, blocks}
use Rattle.dp_app.specs.Playing.{HasCounted, IsTallyOf}
use Rattle.dp_app.specs.Tally.{IsEmptyTally, IsTallyWithin, ballots_in, is_fresh, is_held, is_zero, tally_of, voted_force}

-- ---- one more ballot

count_more : (test : Ballot → Bool) (bs : List Ballot) (b : Ballot) → count_by test (bs ++ b ∷ []) ≡ count_by test bs + count_by test (b ∷ [])
count_more test bs b = sum_by-append (λ x. cond (test x) 1 0) bs (b ∷ [])

sum_more : (bs : List Ballot) (b : Ballot) → sum_of (map voted_force (bs ++ b ∷ [])) ≡ sum_of (map voted_force bs) +ℤ voted_force b
sum_more [] b = omega (arith, ints)
sum_more (x ∷ xs) b = omega (arith, ints, sum_more xs b)

abbrev tally : ℕ → ℕ → ℕ → ℤ → Tally
tally f h z s = record { fresh = f; held = h; zero = z; sum = s }

same_tally : {f g h i z y : ℕ} {s t : ℤ} → f ≡ g → h ≡ i → z ≡ y → s ≡ t → tally f h z s ≡ tally g i y t
same_tally {f} {g} {h} {i} {z} {y} {s} {t} a b c d =
    ap (λ (n : ℕ). tally n h z s) a ∙ ap (λ (n : ℕ). tally g n z s) b ∙ ap (λ (n : ℕ). tally g i n s) c ∙ ap (λ (x : ℤ). tally g i y x) d

-- the tally that was kept, with one more ballot
module _ (t : Tally) (bs : List Ballot) (is : t ≡ tally_of bs) where
  fresh_is : t.fresh ≡ count_by is_fresh bs
  fresh_is = ap (λ (u : Tally). u.fresh) is

  held_is : t.held ≡ count_by is_held bs
  held_is = ap (λ (u : Tally). u.held) is

  zero_is : t.zero ≡ count_by is_zero bs
  zero_is = ap (λ (u : Tally). u.zero) is

  sum_is : t.sum ≡ sum_of (map voted_force bs)
  sum_is = ap (λ (u : Tally). u.sum) is

  pub fresh_more : (force : ℤ) → tally (t.fresh + 1) t.held t.zero (t.sum +ℤ force) ≡ tally_of (bs ++ Fresh force ∷ [])
  fresh_more force =
      let b = Fresh force in
      same_tally (omega (arith, fresh_is, count_more is_fresh bs b)) (omega (arith, held_is, count_more is_held bs b))
      (omega (arith, zero_is, count_more is_zero bs b)) (omega (arith, ints, sum_is, sum_more bs b))

  pub held_more : (force : ℤ) → tally t.fresh (t.held + 1) t.zero (t.sum +ℤ force) ≡ tally_of (bs ++ Held force ∷ [])
  held_more force =
      let b = Held force in
      same_tally (omega (arith, fresh_is, count_more is_fresh bs b)) (omega (arith, held_is, count_more is_held bs b))
      (omega (arith, zero_is, count_more is_zero bs b)) (omega (arith, ints, sum_is, sum_more bs b))

  pub zero_more : tally t.fresh t.held (t.zero + 1) t.sum ≡ tally_of (bs ++ Zero ∷ [])
  zero_more =
      same_tally (omega (arith, fresh_is, count_more is_fresh bs Zero)) (omega (arith, held_is, count_more is_held bs Zero))
      (omega (arith, zero_is, count_more is_zero bs Zero)) (omega (arith, ints, sum_is, sum_more bs Zero))

-- the next of a list
take_item : (xs : List Ballot) (i : ℕ) (d : Ballot) → i < length xs → take (suc i) xs ≡ take i xs ++ slice_index_or xs i d ∷ []
take_item [] i d lt = absurd (omega arith)
take_item (y ∷ ys) zero d lt = refl
take_item (y ∷ ys) (suc i) d lt = ap (λ (l : List Ballot). y ∷ l) (take_item ys i d (omega arith))

ballots_next : (bs xs : List Ballot) (i : ℕ) (d : Ballot) → i < length xs → (bs ++ take i xs) ++ slice_index_or xs i d ∷ [] ≡ bs ++ take (i + 1) xs
ballots_next bs xs i d lt =
    append_assoc bs (take i xs) (slice_index_or xs i d ∷ [])
    ∙ ap (λ (l : List Ballot). bs ++ l) (sym (take_item xs i d lt) ∙ ap (λ (n : ℕ). take n xs) (sym (add-one i)))

pub next_counted : (bs xs : List Ballot) (i : ℕ) (d : Ballot) (u : Tally) → i < length xs → u ≡ tally_of ((bs ++ take i xs) ++ slice_index_or xs i d ∷ [])
    → u ≡ tally_of (bs ++ take (i + 1) xs)
next_counted bs xs i d u lt is = is ∙ ap tally_of (ballots_next bs xs i d lt)

-- ---- the ballots of one more block

ballots_more : (bs : List Block) (b : Block) → ballots_in (bs ++ b ∷ []) ≡ ballots_in bs ++ b.ballots.items
ballots_more bs b =
    flat_map-append (λ (x : Block). x.ballots.items) bs (b ∷ []) ∙ ap (λ (l : List Ballot). ballots_in bs ++ l) (append-nil b.ballots.items)

within_more : (n m : ℕ) (t : Tally) → n ≤ m → IsTallyWithin n t → IsTallyWithin m t
within_more n m t le h = record {
  fresh = omega (arith, h.fresh, le);
  held = omega (arith, h.held, le);
  zero = omega (arith, h.zero, le);
  least = omega (arith, ints, h.least, le);
  most = omega (arith, ints, h.most, le);
}

pub tally_next : (bs : List Block) (b : Block) (ballots : List Ballot) (t u : Tally) → b.ballots.items ≡ ballots → length ballots ≤ 12 → IsTallyOf bs t
    → ((xs : List Ballot) → t ≡ tally_of xs → u ≡ tally_of (xs ++ ballots))
    → ((n : ℕ) → IsTallyWithin n t → IsTallyWithin (n + length ballots) u) → IsTallyOf (bs ++ b ∷ []) u
tally_next bs b ballots t u is few h value within = record {
  value =
      value (ballots_in bs) h.value
      ∙ ap tally_of (ap (λ (l : List Ballot). ballots_in bs ++ l) (sym is) ∙ sym (ballots_more bs b));
  within =
      within_more (length bs * 12 + length ballots) (length (bs ++ b ∷ []) * 12) u
      (omega (arith, few, length-append bs (b ∷ []))) (within (length bs * 12) h.within);
}

-- ---- of what was played

pub blocks_length : (p : Plant) (script : List TimedAct) (fs : List Frame) (es : List Event) → length (blocks p script fs es) ≡ length fs
unfolding blocks
blocks_length p script [] es = refl
blocks_length p script (f ∷ fs) es = ap suc (blocks_length p script fs (cycle_events p script f es))

pub ballots_at : (n cycle : ℕ) (h : List Moment) → (block_at n cycle h).ballots.items ≡ map (λ k. ballot k h) (range_with_len 0 n)
unfolding block_at
ballots_at n cycle h = refl

-- none is counted
pub no_tally : (t : Option Tally) (bs : List Block) → t ≡ None → HasCounted t bs
no_tally None bs is = tt
no_tally (Some t) bs is = absurd cc

pub some_tally : (o : Option Tally) (t : Tally) (bs : List Block) → o ≡ Some t → HasCounted o bs → IsTallyOf bs t
some_tally o t bs is h = subst (λ (q : Option Tally). HasCounted q bs) is h

-- nothing was counted yet
pub none_counted : (p : Plant) (script : List TimedAct) (o : Option Tally) → IsEmptyTally o → HasCounted o (blocks p script [] [])
unfolding blocks
none_counted p script (Some t) h = record { value = h.0; within = h.1 }
none_counted p script None h = tt
