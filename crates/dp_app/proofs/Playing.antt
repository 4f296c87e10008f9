-- One more cycle of what has been played, and what is written of it.
use Rattle.std.proofs.Common.{◌≡◌, ℕ, Bool, true, false, is_none, ◌+◌, List, [], ◌∷◌, ◌++◌, refl, sym, ap, ◌∙◌, subst, length-append}
use Rattle.std.proofs.lemmas.List.{append-nil}
use Rattle.std.proofs.lemmas.Grind.{flat_map-append}
use Rattle.dp_plant.specs.declared.frames.Frame.{Frame}
use Rattle.dp_plant.specs.declared.plant.Plant.{Plant}
use Rattle.dp_core.specs.History.{history}
use Rattle.dp_core.specs.declared.event.Event.{Event}
use Rattle.dp_report.specs.declared.block.Block.{Block}
use Rattle.dp_core.specs.Mode.{cycles_begun}
use Rattle.dp_core.specs.Represents.{Represents}
use Rattle.dp_report.specs.Block.{block_text}
use Rattle.dp_script.specs.declared.timed_act.TimedAct.{TimedAct}
use Rattle.dp_app.specs.declared.player.Player.{Player}
use Rattle.dp_app.specs.Acting.{cycle_events, play_events}
use Rattle.dp_app.specs.Blocks.{block_of, blocks, text_of}
use Rattle.dp_app.specs.Playing.{HasCounted, HasPlayed, text_played, text_told}
use Rattle.dp_app.proofs.PlayedFrames.{begun_played}
use Rattle.dp_app.proofs.Plays.{blocks_append, played_next}

-- ---- what is written of blocks

told_append : (w : Bool) (bs cs : List Block) → text_told w (bs ++ cs) ≡ text_told w bs ++ text_told w cs
told_append true bs cs = flat_map-append block_text bs cs
told_append false bs cs = refl

told_none : (w : Bool) → text_told w [] ≡ []
told_none true = refl
told_none false = refl

no_blocks : (p : Plant) (script : List TimedAct) → blocks p script [] [] ≡ []
unfolding blocks
no_blocks p script = refl

block_one : (p : Plant) (script : List TimedAct) (f : Frame) (es : List Event) → blocks p script (f ∷ []) es ≡ block_of p f.cycle (cycle_events p script f es) ∷ []
unfolding blocks
block_one p script f es = refl

module _ (p : Plant) (script : List TimedAct) (w : Bool) where
  -- the next frame is that of the cycle that is counted next
  pub next_cycle : (x : Player) (fs : List Frame) → HasPlayed p script w x fs → x.world.cycles_begun ≡ x.count
  next_cycle x fs h =
      h.represents.cycles ∙ ap (λ (q : Plant). cycles_begun (history q (play_events p script fs []))) h.world
      ∙ begun_played p script fs ∙ sym h.count

  pub played_more : (x y : Player) (fs : List Frame) (f : Frame) → HasPlayed p script w x fs
      → y.plant ≡ x.plant → y.script ≡ x.script → is_none y.tally ≡ is_none x.tally → y.world.plant ≡ p
      → Represents (cycle_events p script f (play_events p script fs [])) y.world → y.count ≡ x.count + 1
      → HasCounted y.tally (blocks p script (fs ++ f ∷ []) [])
      → HasPlayed p script w y (fs ++ f ∷ [])
  played_more x y fs f h plant same kind world r more counted = record {
    plant = plant ∙ h.plant;
    script_is = same ∙ h.script_is;
    writes_is = kind ∙ h.writes_is;
    world = world;
    represents = subst (λ l. Represents l y.world) (sym (played_next p script fs f [])) r;
    count = more ∙ ap (λ (m : ℕ). m + 1) h.count ∙ sym (length-append fs (f ∷ []));
    counted = counted;
  }

  text_append : (fs gs : List Frame) → text_played p script w (fs ++ gs)
      ≡ text_played p script w fs ++ text_told w (blocks p script gs (play_events p script fs []))
  text_append fs gs =
      ap (text_told w) (blocks_append p script fs gs [])
      ∙ told_append w (blocks p script fs []) (blocks p script gs (play_events p script fs []))

  -- what is written of some frames begins that of more
  pub text_grows : (fs gs all : List Frame) → fs ++ gs ≡ all
      → (rest : List ℕ) × (text_played p script w fs ++ rest ≡ text_played p script w all)
  text_grows fs gs all is =
      (text_told w (blocks p script gs (play_events p script fs [])), sym (text_append fs gs) ∙ ap (text_played p script w) is)

  pub text_none : text_played p script w [] ≡ []
  text_none = ap (text_told w) (no_blocks p script) ∙ told_none w

module _ (p : Plant) (script : List TimedAct) (fs : List Frame) (f : Frame) where
  abbrev next_block : Block
  next_block = block_of p f.cycle (cycle_events p script f (play_events p script fs []))

  -- the blocks of one frame more
  pub blocks_next : blocks p script (fs ++ f ∷ []) [] ≡ blocks p script fs [] ++ next_block ∷ []
  blocks_next = blocks_append p script fs (f ∷ []) [] ∙ ap (λ (bs : List Block). blocks p script fs [] ++ bs) (block_one p script f (play_events p script fs []))

  -- and what is written of it: its text, or nothing
  pub text_next : (w : Bool) → w ≡ true → text_played p script w (fs ++ f ∷ []) ≡ text_played p script w fs ++ block_text next_block
  text_next true is =
      ap text_of blocks_next ∙ flat_map-append block_text (blocks p script fs []) (next_block ∷ [])
      ∙ ap (λ (l : List ℕ). text_played p script true fs ++ l) (append-nil (block_text next_block))
  text_next false is = absurd cc

  pub text_same : (w : Bool) → w ≡ false → text_played p script w fs ≡ text_played p script w (fs ++ f ∷ [])
  text_same true is = absurd cc
  text_same false is = refl
