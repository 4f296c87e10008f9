-- The frames that a history of what is played has heard are those that were played.
use Rattle.std.proofs.Common.{◌≡◌, ℕ, zero, suc, Bool, true, false, cond, nat_lt, List, [], ◌∷◌, ◌++◌, length, refl, sym, ap, ◌∙◌, append_assoc}
use Rattle.std.proofs.lemmas.List.{append-nil}
use Rattle.dp_plant.specs.declared.frames.Frame.{Frame}
use Rattle.dp_plant.specs.declared.plant.Plant.{Plant}
use Rattle.dp_core.specs.declared.event.Event.{Event}
use Rattle.dp_core.specs.declared.event.Event.TheVariants as event
use Rattle.dp_core.specs.History.{history}
use Rattle.dp_core.specs.Mode.{cycles_begun, frames, mode}
use Rattle.dp_core.specs.Shown.{spelling_at}
use Rattle.dp_exchange.specs.ComputerState.{is_live}
use Rattle.dp_plant.specs.declared.place.Place.{Place}
use Rattle.dp_core.proofs.HistoryLemmas.{frames-lie, frames-order, frames-restart, frames-run, frames-say, frames-skew, frames-stop, frames-tell, frames-upgrade, frames-vote, frames-wire}
use Rattle.dp_script.specs.declared.act.Act.{Act}
use Rattle.dp_script.specs.declared.act.Act.TheVariants.{Run, Order, Orders, Tell, Skew, Say, Lie, Junk, Stop, Restart, Upgrade}
use Rattle.dp_script.specs.declared.timed_act.TimedAct.{TimedAct}
use Rattle.dp_script.specs.TimedActs.{acts_at}
use Rattle.dp_core.specs.Several.{order_events}
use Rattle.dp_app.specs.Acting.{act_events, cycle_events, events_of_acts, lie_events, place_of, play_events, vote_events, voters}

frames_ordered : (p : Plant) (c n : ℕ) (es : List Event) → frames (history p (order_events c n es)) ≡ frames (history p es)
unfolding order_events
frames_ordered p c zero es = refl
frames_ordered p c (suc n) es = frames-order p c n (order_events c n es) ∙ frames_ordered p c n es

frames_voted : (p : Plant) (n : ℕ) (es : List Event) → frames (history p (vote_events n es)) ≡ frames (history p es)
unfolding vote_events
frames_voted p zero es = refl
frames_voted p (suc n) es = frames-vote p n (vote_events n es) ∙ frames_voted p n es

frames_if : (p : Plant) (b : Bool) (e : Event) (es : List Event) → frames (history p (e ∷ es)) ≡ frames (history p es)
    → frames (history p (cond b (e ∷ es) es)) ≡ frames (history p es)
frames_if p true e es same = same
frames_if p false e es same = refl

frames_lied : (p : Plant) (a b : ℕ) (at : Place) (es : List Event) → frames (history p (lie_events p a b at es)) ≡ frames (history p es)
unfolding lie_events
frames_lied p a b at es =
    frames_if p (is_live (mode a (history p es))) (event.Lie a b (record { items = spelling_at p a (history p es) at })) es
    (frames-lie p a b (record { items = spelling_at p a (history p es) at }) es)

frames_acted : (p : Plant) (cycle : ℕ) (act : Act) (es : List Event) → frames (history p (act_events p cycle act es)) ≡ frames (history p es)
unfolding act_events
frames_acted p cycle (Run c) es = frames-run p c es
frames_acted p cycle (Order c k) es = frames_if p (nat_lt k (voters p)) (event.Order c k) es (frames-order p c k es)
frames_acted p cycle (Orders c) es = frames_ordered p c (voters p) es
frames_acted p cycle (Tell a b) es = frames-tell p a b es
frames_acted p cycle (Skew c at) es = frames-skew p c (place_of at) es
frames_acted p cycle (Say c k force) es = frames_if p (nat_lt k (voters p)) (event.Say c k cycle force) es (frames-say p c k cycle force es)
frames_acted p cycle (Lie a b at) es = frames_lied p a b (place_of at) es
frames_acted p cycle (Junk a b bytes) es = frames-lie p a b (record { items = bytes.items }) es
frames_acted p cycle (Stop c) es = frames-stop p c es
frames_acted p cycle (Restart c) es = frames-restart p c es
frames_acted p cycle (Upgrade c) es = frames-upgrade p c es

frames_all : (p : Plant) (cycle : ℕ) (acts : List Act) (es : List Event) → frames (history p (events_of_acts p cycle acts es)) ≡ frames (history p es)
unfolding events_of_acts
frames_all p cycle [] es = refl
frames_all p cycle (act ∷ acts) es = frames_all p cycle acts (act_events p cycle act es) ∙ frames_acted p cycle act es

frames_cycled : (p : Plant) (script : List TimedAct) (f : Frame) (es : List Event) → frames (history p (cycle_events p script f es)) ≡ frames (history p es) ++ f ∷ []
unfolding cycle_events
frames_cycled p script f es =
    let heard = event.Wire f ∷ es in
    frames_voted p (voters p) (events_of_acts p f.cycle (acts_at f.cycle script) heard)
    ∙ frames_all p f.cycle (acts_at f.cycle script) heard
    ∙ frames-wire p f es

frames_after : (p : Plant) (script : List TimedAct) (fs : List Frame) (es : List Event) → frames (history p (play_events p script fs es)) ≡ frames (history p es) ++ fs
unfolding play_events
frames_after p script [] es = sym (append-nil (frames (history p es)))
frames_after p script (f ∷ fs) es =
    frames_after p script fs (cycle_events p script f es)
    ∙ ap (λ (l : List Frame). l ++ fs) (frames_cycled p script f es)
    ∙ append_assoc (frames (history p es)) (f ∷ []) fs

none_heard : (p : Plant) → frames (history p []) ≡ []
unfolding history frames
none_heard p = refl

pub frames_played : (p : Plant) (script : List TimedAct) (fs : List Frame) → frames (history p (play_events p script fs [])) ≡ fs
frames_played p script fs = frames_after p script fs [] ∙ ap (λ (l : List Frame). l ++ fs) (none_heard p)

pub begun_played : (p : Plant) (script : List TimedAct) (fs : List Frame) → cycles_begun (history p (play_events p script fs [])) ≡ length fs
begun_played p script fs = ap length (frames_played p script fs)
