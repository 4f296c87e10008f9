-- Where no computer's name was used for a force, what a voter holds of a computer is of its own trajectory.
use Rattle.std.proofs.Common.{Bool, List, None, Some, [], ap, false, if◌then◌else◌, inl, inr, refl, subst, true, ℕ, ℤ, ◌&&◌, ◌||◌, ◌∙◌, ◌∷◌, ◌≡◌, length}
use Rattle.std.proofs.lemmas.Bool.{and_parts, or_parts}
use Rattle.dp_core.proofs.Moments.{IsTaken-from_order, moment}
use Rattle.dp_core.proofs.OwnForces.{issue-own_force}
use Rattle.dp_core.proofs.Soundness.{no_frame-no_wire}
use Rattle.dp_core.proofs.Trajectories.{frames-kept}
use Rattle.dp_core.specs.History.{history, seen_of}
use Rattle.dp_core.specs.Moment.{frame_of, is_fault, is_order, is_wire, saw_taken}
use Rattle.dp_core.specs.OwnForce.{IsOwnForce, is_said, is_say}
use Rattle.dp_core.specs.Voting.{force_said, message_in, taken_force}
use Rattle.dp_core.specs.declared.event.Event.{Event}
use Rattle.dp_core.specs.declared.event.Event.TheVariants.{Order, Say}
use Rattle.dp_plant.specs.declared.plant.Plant.{Plant}

-- an order that is a fault of its sender is a force that it says
say-of_fault : (k a : ℕ) (e : Event) → is_order a k e ≡ true → is_fault a e ≡ true → is_say a k e ≡ true
unfolding is_order is_fault is_say
say-of_fault k a (Say d j cycle f) o e = o
say-of_fault k a (Order d j) o e = cc
say-of_fault k a _ o e = cc

-- one event more, which brings no frame
own-later : (p : Plant) (k a : ℕ) (e : Event) (es : List Event) (f : ℤ) → frame_of e ≡ [] → IsOwnForce p k a es f → IsOwnForce p k a (e ∷ es) f
unfolding history
own-later p k a e es f none own = record {
  later = e ∷ own.later;
  earlier = own.earlier;
  parts = ap (λ xs. e ∷ xs) own.parts;
  live = own.live;
  frame = own.frame;
  waited = own.waited;
  issue = own.issue;
  issued = own.issued;
  of_cycle = ap length (frames-kept (moment p (history p es) e) (history p es) none) ∙ own.of_cycle;
  is = own.is;
}

taken-own : (p : Plant) (k a : ℕ) (e : Event) (es : List Event) (f : ℤ) → (is_order a k e && saw_taken (seen_of p (history p es) e)) ≡ true → is_say a k e ≡ false → force_said (message_in (history p es) e) ≡ Some f → IsOwnForce p k a es f
unfolding force_said
taken-own p k a e es f o unsaid said =
    let h = history p es in
    let t = IsTaken-from_order p k a h e o in
    let same : t.0.force ≡ f = (let says = t.1.says in let it = rw says at said in cc) in
    elim t.1.from_issue [
      | inl lies ↦ (let order = (and_parts (is_order a k e) (saw_taken (seen_of p h e)) o).0 in let say = say-of_fault k a e order lies in absurd cc)
      | inr x ↦ subst (IsOwnForce p k a es) same (issue-own_force p k a es t.0 x t.1.now)
    ]

-- by whether the newest event begins a cycle, and whether it is an order that was taken
held-by : (p : Plant) (k a : ℕ) (e : Event) (es : List Event) (f : ℤ) (w o : Bool) → is_wire e ≡ w → (is_order a k e && saw_taken (seen_of p (history p es) e)) ≡ o → ((is_said k a (history p es) ≡ false) → (taken_force k a (history p es) ≡ Some f) → IsOwnForce p k a es f) → (if w then false else (is_say a k e || is_said k a (history p es))) ≡ false → (if w then None else (if o then force_said (message_in (history p es) e) else taken_force k a (history p es))) ≡ Some f → IsOwnForce p k a (e ∷ es) f
held-by p k a e es f true o ew eo ih s t = absurd cc
held-by p k a e es f false true ew eo ih s t =
    let apart = or_parts (is_say a k e) (is_said k a (history p es)) s in
    own-later p k a e es f (no_frame-no_wire e ew) (taken-own p k a e es f eo apart.0 t)
held-by p k a e es f false false ew eo ih s t =
    let apart = or_parts (is_say a k e) (is_said k a (history p es)) s in
    own-later p k a e es f (no_frame-no_wire e ew) (ih apart.1 t)

pub held-own : (p : Plant) (k a : ℕ) (es : List Event) (f : ℤ) → is_said k a (history p es) ≡ false → taken_force k a (history p es) ≡ Some f → IsOwnForce p k a es f
unfolding history is_said taken_force
held-own p k a [] f s t = absurd cc
held-own p k a (e ∷ es) f s t =
    held-by p k a e es f (is_wire e) (is_order a k e && saw_taken (seen_of p (history p es) e)) refl refl (held-own p k a es f)
    s t
