-- Two computers that aren't faulty and whose issues were delivered make the ballot fresh.
use Rattle.std.proofs.Common.{Bool, List, None, Option, Some, [], ap, arith, eqb, false, if◌then◌else◌, inl, inr, is_some, refl, subst, suc, sym, true, zero, ℕ, ℤ, ◌&&◌, ◌<◌, ◌∙◌, ◌∷◌, ◌≡◌, ◌≤ℤ◌, ◌⊎◌}
use Rattle.std.proofs.lemmas.Bool.{and_parts, eq-eqb, eqb-true, or_cases}
use Rattle.std.proofs.lemmas.Int.{ints}
use Rattle.std.specs.Prelude.{int_lt, slice_get}
use Rattle.dp_core.proofs.FreshBallots.{same-force}
use Rattle.dp_core.proofs.Cycles.{reference_issue-step}
use Rattle.dp_core.proofs.Moments.{IsMessage-of, IsTaken-from_order, moment}
use Rattle.dp_core.proofs.Soundness.{IsReference, Sound, not_faulty_at, not_faulty_earlier, not_skewed, sound}
use Rattle.dp_core.specs.Faulty.{AtMostOneFaulty, is_faulty_in_cycle}
use Rattle.dp_core.specs.History.{history, seen_of}
use Rattle.dp_core.specs.Mode.{cycles_begun, frames}
use Rattle.dp_core.specs.Moment.{Moment, is_order, is_wire, saw_taken}
use Rattle.dp_core.specs.Trajectory.{last_issue}
use Rattle.dp_core.specs.Voting.{Message, agreed_force, answer, answer_if, ballot, force_said, given_ballot, high_of, is_delivered, is_delivery, is_ready, low_of, message_in, message_of, taken_force}
use Rattle.dp_machine.specs.Reference.{reference_issue}
use Rattle.dp_machine.specs.Run.{own_setpoints}
use Rattle.dp_machine.specs.Step.{step_of}
use Rattle.dp_machine.specs.declared.issue.Issue.{Issue}
use Rattle.dp_machine.specs.declared.state.State.{State}
use Rattle.dp_core.specs.declared.event.Event.{Event}
use Rattle.dp_core.specs.declared.event.Event.TheVariants.{Order}
use Rattle.dp_plant.specs.declared.frames.Frame.{Frame}
use Rattle.dp_plant.specs.declared.plant.Plant.{Plant}
use Rattle.dp_plant.specs.declared.voting.Ballot.{Ballot}
use Rattle.dp_plant.specs.declared.voting.Ballot.TheVariants.{Fresh}
use Rattle.dp_voter.specs.Laws.{OfTwo, TwoRightAreFresh}
use Rattle.dp_voter.specs.Orders.{IsWithin}
use Rattle.dp_voter.specs.declared.order.Took.TheVariants.{Repeated, Taken}

-- each force of an issue lies within its thruster's limits
unfoldable pub IsLimited : Plant → Type 0
IsLimited p = (s : State) (f : Frame) (x : Issue) (k : ℕ) (g : ℤ) → (step_of p s f).issue ≡ x → slice_get x.forces.items k ≡ Some g → IsWithin (low_of p k) (high_of p k) g

reference-limited : (p : Plant) (lim : IsLimited p) (fs : List Frame) (n : ℕ) (x : Issue) (k : ℕ) (g : ℤ) → reference_issue p (own_setpoints p) fs n ≡ Some x → slice_get x.forces.items k ≡ Some g → IsWithin (low_of p k) (high_of p k) g
unfolding IsLimited
reference-limited p lim fs n x k g e at =
    let t = reference_issue-step p (own_setpoints p) fs n x e in
    lim t.0 t.1 x k g t.2 at

not_below : (x y : ℤ) → y ≤ℤ x → int_lt x y ≡ false
not_below x y e = grind (arith, ints)

taken_or_again : (p : Plant) (k a : ℕ) (h : List Moment) (b : Message) (again : Bool) → cycles_begun h ≡ suc b.cycle → given_ballot k h ≡ None → IsWithin (low_of p k) (high_of p k) b.force → is_some (taken_force k a h) ≡ again → answer p k a h b ≡ (if again then Repeated else Taken)
unfolding answer
taken_or_again p k a h b again n g fits t =
    let e : eqb (cycles_begun h) (suc b.cycle) ≡ true = eq-eqb (cycles_begun h) (suc b.cycle) n in
    let low = not_below b.force (low_of p k) fits.above in
    let high = not_below (high_of p k) b.force fits.below in
    rw (e, g, low, high, t)

-- what is taken stays
taken-stays : (p : Plant) (k a : ℕ) (h : List Moment) (e : Event) (o : Bool) → is_wire e ≡ false → (is_order a k e && saw_taken (seen_of p h e)) ≡ o → (o ≡ true → is_some (force_said (message_in h e)) ≡ true) → is_some (taken_force k a h) ≡ true → is_some (taken_force k a (moment p h e ∷ h)) ≡ true
unfolding taken_force
taken-stays p k a h e true w o b t = rw (w, o) (b refl)
taken-stays p k a h e false w o b t = rw (w, o) t

taken-new : (p : Plant) (k a : ℕ) (h : List Moment) (b : Message) → message_of k (last_issue a h) ≡ Some b → cycles_begun h ≡ suc b.cycle → given_ballot k h ≡ None → IsWithin (low_of p k) (high_of p k) b.force → is_some (taken_force k a (moment p h (Order a k) ∷ h)) ≡ true
unfolding taken_force is_wire is_order seen_of message_in force_said answer_if saw_taken
taken-new p k a h b l n g fits = by (is_some (taken_force k a h)) refl
  where
    by : (again : Bool) → is_some (taken_force k a h) ≡ again → is_some (taken_force k a (moment p h (Order a k) ∷ h)) ≡ true
    by true e = (let t = taken_or_again p k a h b true n g fits e in let q : eqb a a ≡ true = eq-eqb a a refl in let r : eqb k k ≡ true = eq-eqb k k refl in rw (q, r, l, t, e))
    by false e = (let t = taken_or_again p k a h b false n g fits e in let q : eqb a a ≡ true = eq-eqb a a refl in let r : eqb k k ≡ true = eq-eqb k k refl in rw (q, r, l, t))

record IsReady (n : ℕ) (o : Option Message) (g : Option Ballot) : Type 0 where
  message : Message
  is : o ≡ Some message
  now : n ≡ suc message.cycle
  before_vote : g ≡ None

IsReady-from_test : (n : ℕ) (o : Option Message) (g : Option Ballot) → is_ready o n g ≡ true → IsReady n o g
unfolding is_ready
IsReady-from_test n (Some x) None e = record { message = x; is = refl; now = eqb-true n (suc x.cycle) e; before_vote = refl }
IsReady-from_test n (Some x) (Some b) e = cc
IsReady-from_test n None g e = cc

delivered-now : (p : Plant) (k a : ℕ) (h : List Moment) (e : Event) → IsLimited p → Sound p h → is_faulty_in_cycle a h ≡ false → is_delivery a k e ≡ true → IsReady (cycles_begun h) (message_of k (last_issue a h)) (given_ballot k h) → is_some (taken_force k a (moment p h e ∷ h)) ≡ true
unfolding is_delivery
delivered-now p k a h (Order b j) lim ok s o r =
    let ends = and_parts (eqb b a) (eqb j k) o in
    let m = IsMessage-of k (last_issue a h) r.message r.is in
    let alone = (ok.computers a).issue m.issue (not_skewed a h (not_faulty_at a h s)) m.is in
    let fits = reference-limited p lim (frames h) m.issue.cycle m.issue k r.message.force alone m.force in
    let t = taken-new p k a h r.message r.is r.now r.before_vote fits in
    let u = subst (λ i. is_some (taken_force k a (moment p h (Order i k) ∷ h)) ≡ true) (sym (eqb-true b a ends.0)) t in
    subst (λ i. is_some (taken_force k a (moment p h (Order b i) ∷ h)) ≡ true) (sym (eqb-true j k ends.1)) u
delivered-now p k a h _ lim ok s o r = cc

says-some : (p : Plant) (k a : ℕ) (h : List Moment) (e : Event) → (is_order a k e && saw_taken (seen_of p h e)) ≡ true → is_some (force_said (message_in h e)) ≡ true
unfolding force_said
says-some p k a h e o = (let t = (IsTaken-from_order p k a h e o).1.says in rw t)

delivered-cases : (k a : ℕ) (m : Moment) (h : List Moment) (w : Bool) → is_wire m.event ≡ w → is_delivered k a (m ∷ h) ≡ true → (w ≡ false) × (((is_delivery a k m.event && is_ready (message_of k (last_issue a h)) (cycles_begun h) (given_ballot k h)) ≡ true) ⊎ (is_delivered k a h ≡ true))
unfolding is_delivered
delivered-cases k a m h true e s = let t = rw e at s in cc
delivered-cases k a m h false e s = let t = rw e at s in (refl, or_cases (is_delivery a k m.event && is_ready (message_of k (last_issue a h)) (cycles_begun h) (given_ballot k h)) (is_delivered k a h) t)

pub delivered-taken : (p : Plant) (lim : IsLimited p) (es : List Event) (k a : ℕ) → AtMostOneFaulty (history p es) → is_faulty_in_cycle a (history p es) ≡ false → is_delivered k a (history p es) ≡ true → is_some (taken_force k a (history p es)) ≡ true
unfolding history is_delivered AtMostOneFaulty
delivered-taken p lim [] k a one s v = cc
delivered-taken p lim (e ∷ es) k a one s v =
    let h = history p es in
    let m = moment p h e in
    let t = delivered-cases k a m h (is_wire e) refl v in
    let before = not_faulty_earlier a m h t.0 s in
    elim t.1 [
      | inl u ↦ (let parts = and_parts (is_delivery a k e) (is_ready (message_of k (last_issue a h)) (cycles_begun h) (given_ballot k h)) u in
          delivered-now p k a h e lim (sound p es one.0) before parts.0 (IsReady-from_test (cycles_begun h) (message_of k (last_issue a h)) (given_ballot k h) parts.1))
      | inr u ↦ taken-stays p k a h e (is_order a k e && saw_taken (seen_of p h e)) t.0 refl (λ q. says-some p k a h e q) (delivered-taken p lim es k a one.0 before u)
    ]

-- ---- the ballot

some-value : (o : Option ℤ) → is_some o ≡ true → (f : ℤ) × (o ≡ Some f)
some-value (Some f) e = (f, refl)
some-value None e = cc

-- the force that was taken of a computer whose issue was delivered
force-delivered : (p : Plant) (lim : IsLimited p) (es : List Event) (k a : ℕ) → AtMostOneFaulty (history p es) → is_faulty_in_cycle a (history p es) ≡ false → is_delivered k a (history p es) ≡ true → (f : ℤ) × (taken_force k a (history p es) ≡ Some f) × IsReference p (frames (history p es)) k f
force-delivered p lim es k a one s v =
    let t = some-value (taken_force k a (history p es)) (delivered-taken p lim es k a one s v) in
    (t.0, t.1, (sound p es one).orders k a t.0 s t.1)

-- two of them
pub two-delivered : (p : Plant) (lim : IsLimited p) (es : List Event) (k a b : ℕ) → AtMostOneFaulty (history p es) → is_faulty_in_cycle a (history p es) ≡ false → is_faulty_in_cycle b (history p es) ≡ false → is_delivered k a (history p es) ≡ true → is_delivered k b (history p es) ≡ true → (f : ℤ) × (taken_force k a (history p es) ≡ Some f) × (taken_force k b (history p es) ≡ Some f) × IsReference p (frames (history p es)) k f
two-delivered p lim es k a b one sa sb va vb =
    let x = force-delivered p lim es k a one sa va in
    let y = force-delivered p lim es k b one sb vb in
    let same = same-force p (frames (history p es)) k y.0 x.0 y.2 x.2 in
    (x.0, x.1, y.1 ∙ ap Some same, x.2)

-- which two of the three
pub data Pair (a b : ℕ) : Type 0 where
  FirstTwo : a ≡ 0 → b ≡ 1 → Pair a b
  OuterTwo : a ≡ 0 → b ≡ 2 → Pair a b
  LastTwo : a ≡ 1 → b ≡ 2 → Pair a b

pair_of : (a b : ℕ) → a < b → b < 3 → Pair a b
pair_of zero (suc zero) l m = FirstTwo refl refl
pair_of zero (suc (suc zero)) l m = OuterTwo refl refl
pair_of (suc zero) (suc (suc zero)) l m = LastTwo refl refl
pair_of a zero l m = absurd (omega arith)
pair_of (suc a) (suc zero) l m = absurd (omega arith)
pair_of (suc (suc a)) (suc (suc zero)) l m = absurd (omega arith)
pair_of a (suc (suc (suc b))) l m = absurd (omega arith)

of_two : (k a b : ℕ) (h : List Moment) (f : ℤ) → Pair a b → taken_force k a h ≡ Some f → taken_force k b h ≡ Some f → OfTwo (λ order. order ≡ Some f) (taken_force k 0 h) (taken_force k 1 h) (taken_force k 2 h)
of_two k a b h f (FirstTwo ea eb) ta tb = inl (subst (λ i. taken_force k i h ≡ Some f) ea ta, subst (λ i. taken_force k i h ≡ Some f) eb tb)
of_two k a b h f (OuterTwo ea eb) ta tb = inr (inl (subst (λ i. taken_force k i h ≡ Some f) ea ta, subst (λ i. taken_force k i h ≡ Some f) eb tb))
of_two k a b h f (LastTwo ea eb) ta tb = inr (inr (subst (λ i. taken_force k i h ≡ Some f) ea ta, subst (λ i. taken_force k i h ≡ Some f) eb tb))

pub delivered-fresh : (right : TwoRightAreFresh) (p : Plant) (lim : IsLimited p) (es : List Event) (k a b : ℕ) → AtMostOneFaulty (history p es) → a < b → b < 3 → is_faulty_in_cycle a (history p es) ≡ false → is_faulty_in_cycle b (history p es) ≡ false → is_delivered k a (history p es) ≡ true → is_delivered k b (history p es) ≡ true → given_ballot k (history p es) ≡ None → (f : ℤ) × (ballot k (history p es) ≡ Fresh f) × IsReference p (frames (history p es)) k f
unfolding ballot agreed_force
delivered-fresh right p lim es k a b one l m sa sb va vb g =
    let h = history p es in
    let t = two-delivered p lim es k a b one sa sb va vb in
    let fresh = right t.0 (taken_force k 0 h) (taken_force k 1 h) (taken_force k 2 h) (of_two k a b h t.0 (pair_of a b l m) t.1 t.2) in
    (t.0, rw (g, fresh), t.3)
