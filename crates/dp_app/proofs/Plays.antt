-- One more act, voter or frame of what is played.
use Rattle.std.proofs.Common.{◌≡◌, ℕ, ◌+◌, List, [], ◌∷◌, ◌++◌, take, Some, slice_get, refl, ap, ◌∙◌, add-one}
use Rattle.dp_plant.specs.declared.frames.Frame.{Frame}
use Rattle.dp_plant.specs.declared.plant.Plant.{Plant}
use Rattle.dp_core.specs.declared.event.Event.{Event}
use Rattle.dp_core.specs.declared.event.Event.TheVariants.{Run, Vote, Wire}
use Rattle.dp_core.specs.Several.{order_events}
use Rattle.dp_script.specs.declared.act.Act.{Act}
use Rattle.dp_script.specs.declared.timed_act.TimedAct.{TimedAct}
use Rattle.dp_script.specs.Acts.{usual_acts}
use Rattle.dp_app.specs.Acting.{act_events, cycle_events, events_of_acts, play_events, vote_events, voters}
use Rattle.dp_app.specs.Blocks.{block_of, blocks}
use Rattle.dp_app.proofs.Lists.{take_next}

pub voted_next : (n : ℕ) (es : List Event) → vote_events (n + 1) es ≡ Vote n ∷ vote_events n es
unfolding vote_events
voted_next n es = ap (λ (m : ℕ). vote_events m es) (add-one n)

pub voted_none : (es : List Event) → vote_events 0 es ≡ es
unfolding vote_events
voted_none es = refl

module _ (p : Plant) (cycle : ℕ) where
  acted_append : (xs ys : List Act) (es : List Event) → events_of_acts p cycle (xs ++ ys) es ≡ events_of_acts p cycle ys (events_of_acts p cycle xs es)
  unfolding events_of_acts
  acted_append [] ys es = refl
  acted_append (x ∷ xs) ys es = acted_append xs ys (act_events p cycle x es)

  acted_one : (x : Act) (es : List Event) → events_of_acts p cycle (x ∷ []) es ≡ act_events p cycle x es
  unfolding events_of_acts
  acted_one x es = refl

  pub acted_none : (es : List Event) → events_of_acts p cycle [] es ≡ es
  unfolding events_of_acts
  acted_none es = refl

  pub acted_next : (acts : List Act) (i : ℕ) (x : Act) (es : List Event) → slice_get acts i ≡ Some x
      → events_of_acts p cycle (take (i + 1) acts) es ≡ act_events p cycle x (events_of_acts p cycle (take i acts) es)
  acted_next acts i x es e =
      ap (λ (l : List Act). events_of_acts p cycle l es) (take_next acts i x e)
      ∙ acted_append (take i acts) (x ∷ []) es
      ∙ acted_one x (events_of_acts p cycle (take i acts) es)

  -- the usual acts behind a frame: each computer runs, and the orders of each go to all voters
  pub acted_usual : (f : Frame) (es : List Event) → events_of_acts p cycle usual_acts (Wire f ∷ es)
      ≡ order_events 2 (voters p) (order_events 1 (voters p) (order_events 0 (voters p) (Run 2 ∷ Run 1 ∷ Run 0 ∷ Wire f ∷ es)))
  unfolding events_of_acts act_events
  acted_usual f es = refl

module _ (p : Plant) (script : List TimedAct) where
  pub played_append : (fs gs : List Frame) (es : List Event) → play_events p script (fs ++ gs) es ≡ play_events p script gs (play_events p script fs es)
  unfolding play_events
  played_append [] gs es = refl
  played_append (f ∷ fs) gs es = played_append fs gs (cycle_events p script f es)

  pub played_none : (es : List Event) → es ≡ play_events p script [] es
  unfolding play_events
  played_none es = refl

  played_one : (f : Frame) (es : List Event) → play_events p script (f ∷ []) es ≡ cycle_events p script f es
  unfolding play_events
  played_one f es = refl

  pub played_next : (fs : List Frame) (f : Frame) (es : List Event) → play_events p script (fs ++ f ∷ []) es ≡ cycle_events p script f (play_events p script fs es)
  played_next fs f es = played_append fs (f ∷ []) es ∙ played_one f (play_events p script fs es)

  pub blocks_append : (fs gs : List Frame) (es : List Event) → blocks p script (fs ++ gs) es ≡ blocks p script fs es ++ blocks p script gs (play_events p script fs es)
  unfolding blocks play_events
  blocks_append [] gs es = refl
  blocks_append (f ∷ fs) gs es = ap (λ l. block_of p f.cycle (cycle_events p script f es) ∷ l) (blocks_append fs gs (cycle_events p script f es))
