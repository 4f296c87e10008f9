-- What one more event does to the frames, and that faults of a history are those of its past as well.
use Rattle.std.proofs.Common.{List, [], refl, ◌++◌, ◌∷◌, ◌≡◌, ℕ, ℤ}
use Rattle.arrayvec.specs.ArrayVec.{ArrayVec}
use Rattle.dp_core.proofs.Moments.{moment}
use Rattle.dp_core.proofs.Trajectories.{frames-kept}
use Rattle.dp_core.specs.Faulty.{AtMostOneFaulty}
use Rattle.dp_core.specs.History.{history}
use Rattle.dp_core.specs.Mode.{frames}
use Rattle.dp_core.specs.Moment.{frame_of}
use Rattle.dp_core.specs.declared.event.Event.{Event}
use Rattle.dp_core.specs.declared.event.Event.TheVariants.{Lie, Order, Restart, Run, Say, Skew, Stop, Tell, Upgrade, Vote, Wire}
use Rattle.dp_plant.specs.declared.frames.Frame.{Frame}
use Rattle.dp_plant.specs.declared.place.Place.{Place}
use Rattle.dp_plant.specs.declared.plant.Plant.{Plant}

-- ---- the frames are those of the Wires, in order

pub frames-wire : (p : Plant) (f : Frame) (es : List Event) → frames (history p (Wire f ∷ es)) ≡ frames (history p es) ++ f ∷ []
unfolding history frames frame_of
frames-wire p f es = refl

-- an event that is no Wire
pub frames-other : (p : Plant) (e : Event) (es : List Event) → frame_of e ≡ [] → frames (history p (e ∷ es)) ≡ frames (history p es)
unfolding history
frames-other p e es n = frames-kept (moment p (history p es) e) (history p es) n

pub frames-run : (p : Plant) (c : ℕ) (es : List Event) → frames (history p (Run c ∷ es)) ≡ frames (history p es)
unfolding frame_of
frames-run p c es = frames-other p (Run c) es refl

pub frames-order : (p : Plant) (a k : ℕ) (es : List Event) → frames (history p (Order a k ∷ es)) ≡ frames (history p es)
unfolding frame_of
frames-order p a k es = frames-other p (Order a k) es refl

pub frames-vote : (p : Plant) (k : ℕ) (es : List Event) → frames (history p (Vote k ∷ es)) ≡ frames (history p es)
unfolding frame_of
frames-vote p k es = frames-other p (Vote k) es refl

pub frames-skew : (p : Plant) (c : ℕ) (at : Place) (es : List Event) → frames (history p (Skew c at ∷ es)) ≡ frames (history p es)
unfolding frame_of
frames-skew p c at es = frames-other p (Skew c at) es refl

pub frames-say : (p : Plant) (a k cycle : ℕ) (force : ℤ) (es : List Event) → frames (history p (Say a k cycle force ∷ es)) ≡ frames (history p es)
unfolding frame_of
frames-say p a k cycle force es = frames-other p (Say a k cycle force) es refl

pub frames-stop : (p : Plant) (c : ℕ) (es : List Event) → frames (history p (Stop c ∷ es)) ≡ frames (history p es)
unfolding frame_of
frames-stop p c es = frames-other p (Stop c) es refl

pub frames-tell : (p : Plant) (a c : ℕ) (es : List Event) → frames (history p (Tell a c ∷ es)) ≡ frames (history p es)
unfolding frame_of
frames-tell p a c es = frames-other p (Tell a c) es refl

pub frames-lie : (p : Plant) (a c : ℕ) (bytes : ArrayVec ℕ) (es : List Event) → frames (history p (Lie a c bytes ∷ es)) ≡ frames (history p es)
unfolding frame_of
frames-lie p a c bytes es = frames-other p (Lie a c bytes) es refl

pub frames-restart : (p : Plant) (c : ℕ) (es : List Event) → frames (history p (Restart c ∷ es)) ≡ frames (history p es)
unfolding frame_of
frames-restart p c es = frames-other p (Restart c) es refl

pub frames-upgrade : (p : Plant) (c : ℕ) (es : List Event) → frames (history p (Upgrade c ∷ es)) ≡ frames (history p es)
unfolding frame_of
frames-upgrade p c es = frames-other p (Upgrade c) es refl

-- ---- at most one faulty computer in any cycle: so it was before the later events too

pub faulty-before : (p : Plant) (later earlier : List Event) → AtMostOneFaulty (history p (later ++ earlier)) → AtMostOneFaulty (history p earlier)
unfolding history AtMostOneFaulty
faulty-before p [] earlier one = one
faulty-before p (e ∷ later) earlier one = faulty-before p later earlier one.0
