-- What has been played and shown so far.
use Rattle.std.specs.Prelude.{◌≡◌, ◌*◌, ℕ, Bool, true, false, List, [], length, Option, Some, None, is_none}
use Rattle.std.specs.Io.KnownBytes.{Appends}
use Rattle.dp_plant.specs.declared.frames.Frame.{Frame}
use Rattle.dp_plant.specs.declared.plant.Plant.{Plant}
use Rattle.dp_core.specs.Represents.{Represents}
use Rattle.dp_report.specs.declared.block.Block.{Block}
use Rattle.dp_script.specs.declared.timed_act.TimedAct.{TimedAct}
use Rattle.dp_shell.specs.Taken.{AppendsCut}
use Rattle.dp_app.specs.declared.player.Player.{Player}
use Rattle.dp_app.specs.declared.tally.Tally.{Tally}
use Rattle.dp_app.specs.Acting.{play_events}
use Rattle.dp_app.specs.Blocks.{blocks, text_of}
use Rattle.dp_app.specs.Tally.{IsTallyWithin, ballots_in, tally_of}

-- the tally of the ballots of these blocks, of twelve thrusters at most
pub record IsTallyOf (bs : List Block) (t : Tally) : Type 0 where
  pub value : t ≡ tally_of (ballots_in bs)
  pub within : IsTallyWithin (length bs * 12) t

-- where there is a tally it is that of the blocks
abbrev pub HasCounted : Option Tally → List Block → Type 0
HasCounted (Some t) bs = IsTallyOf bs t
HasCounted None bs = Unit {0}

-- the player has played these frames on this plant with this script, one cycle each; it writes their
-- text, or counts their ballots
pub record HasPlayed (p : Plant) (script : List TimedAct) (writes : Bool) (x : Player)
    (fs : List Frame) : Type 0 where
  pub plant : x.plant ≡ p
  pub script_is : x.script ≡ script
  pub writes_is : is_none x.tally ≡ writes
  pub world : x.world.plant ≡ p
  pub represents : Represents (play_events p script fs []) x.world
  pub count : x.count ≡ length fs
  pub counted : HasCounted x.tally (blocks p script fs [])

-- it has played some frames on its plant with its script
abbrev pub IsPlaying : Player → Type 0
IsPlaying x = (fs : List Frame) × HasPlayed x.plant x.script (is_none x.tally) x fs

-- what is written of blocks: their text, or nothing where their ballots are counted
abbrev pub text_told : Bool → List Block → List ℕ
text_told true bs = text_of bs
text_told false bs = []

-- what is written of the cycles of these frames
abbrev pub text_played : Plant → List TimedAct → Bool → List Frame → List ℕ
text_played p script writes fs = text_told writes (blocks p script fs [])

-- the player has played these frames, and the sink has taken their text since it had taken `start`
pub record HasShown (p : Plant) (script : List TimedAct) (writes : Bool)
    (start taken : Option (List ℕ)) (x : Player) (fs : List Frame) : Type 0 where
  pub frames : HasPlayed p script writes x fs
  pub text : Appends start taken (text_played p script writes fs)

-- who had played and shown the frames `before` has played and shown `after`
abbrev pub Shows : Player → Player → Option (List ℕ) → Option (List ℕ) → List Frame → List Frame
    → Type 0
Shows old new old_taken new_taken before after =
    (p : Plant) (script : List TimedAct) (writes : Bool) (start : Option (List ℕ))
    → HasShown p script writes start old_taken old before
    → HasShown p script writes start new_taken new after

-- who had played and shown the frames `before` stopped while the text of `after` was written
abbrev pub StopsShowing : Player → Option (List ℕ) → Option (List ℕ) → List Frame → List Frame
    → Type 0
StopsShowing old old_taken new_taken before after =
    (p : Plant) (script : List TimedAct) (writes : Bool) (start : Option (List ℕ))
    → HasShown p script writes start old_taken old before
    → AppendsCut start new_taken (text_played p script writes after)
