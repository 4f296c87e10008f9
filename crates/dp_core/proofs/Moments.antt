-- What the moment of an event is to a computer.
use Rattle.std.proofs.Common.{Bool, List, None, Option, Some, [], ap, cond, eqb, false, inl, inr, is_some, not, refl, subst, suc, sym, true, ℕ, ℤ, ◌&&◌, ◌-◌, ◌||◌, ◌∙◌, ◌≡◌, ◌≤◌, ◌⊎◌}
use Rattle.std.proofs.lemmas.Bool.{and_from, and_parts, eq-eqb, eqb-true, false≢true, ltb-false, not-false, or_parts}
use Rattle.std.specs.Option.{option_map}
use Rattle.std.specs.Prelude.{Result, Ok, Err, int_lt, nat_lt, slice_get}
use Rattle.dp_exchange.specs.ComputerState.{is_live}
use Rattle.dp_exchange.specs.Offers.{is_confirmed}
use Rattle.dp_exchange.specs.declared.answers.Offer.{Offer}
use Rattle.dp_exchange.specs.declared.answers.Offer.TheVariants.{Adopted, Kept as OfferKept, TooNew, TooOld}
use Rattle.dp_core.specs.HeldOffers.{held_offers, offered}
use Rattle.arrayvec.specs.ArrayVec.{ArrayVec}
use Rattle.dp_core.specs.History.{answer_in, answer_over, answer_to_offer, answer_to_read, answer_to_run, answer_to_state, seen_of}
use Rattle.dp_core.specs.Mode.{cycles_begun, frames, mode, oldest}
use Rattle.dp_core.specs.Moment.{Moment, frame_of, is_adoption, is_base, is_break, is_end, is_fault, is_interruption, is_offer, is_offer_to, is_order, is_restart, is_run, is_skew, is_stop, is_upgrade, is_wire, issue_at, place_of_skew, saw_adoption, saw_fit, saw_issue, saw_overrun, saw_skew, saw_taken, sender}
use Rattle.dp_core.specs.Trajectory.{frames_done, last_issue, trajectory}
use Rattle.dp_core.specs.Voting.{Message, answer, answer_if, given_ballot, high_of, low_of, message_in, message_of, taken_force}
use Rattle.dp_core.specs.declared.event.Seen.TheVariants.{Offered as SeenOffered, Ran as SeenRan, Sent as SeenSent}
use Rattle.dp_machine.specs.Step.{step_of}
use Rattle.dp_machine.specs.declared.issue.Issue.{Issue}
use Rattle.dp_machine.specs.declared.state.State.{State}
use Rattle.dp_core.specs.declared.event.Event.{Event}
use Rattle.dp_core.specs.declared.event.Event.TheVariants.{Lie, Order, Run, Say, Skew, Tell}
use Rattle.dp_plant.specs.declared.frames.Frame.{Frame}
use Rattle.dp_plant.specs.declared.place.Place.{Place}
use Rattle.dp_plant.specs.declared.plant.Plant.{Plant}
use Rattle.dp_plant.specs.declared.voting.Mode.{Mode}
use Rattle.dp_plant.specs.declared.voting.Mode.TheVariants.{Aligning, Live, Off}
use Rattle.dp_voter.specs.declared.order.Took.TheVariants.{Repeated, Stale, Taken, Unfit}

abbrev pub moment : Plant → List Moment → Event → Moment
moment p h e = record { event = e; seen = seen_of p h e }

-- ---- a Run

pub record IsRun (p : Plant) (c : ℕ) (h : List Moment) (e : Event) (x : Issue) : Type 0 where
  pub live : mode c h ≡ Live
  pub frame : Frame
  pub waited : slice_get (frames h) (frames_done p c h) ≡ Some frame
  pub issued : (step_of p (trajectory p c h) frame).issue ≡ x
  pub quiet_break : is_break c (moment p h e) ≡ false
  pub no_base : is_base c (moment p h e) ≡ false
  pub no_frame : frame_of e ≡ []

issue-is : (y x : Issue) → Some y ≡ Some x → y ≡ x
issue-is y x e = cc

over-facts : (p : Plant) (s : State) (o : Option Frame) (x : Issue) → saw_issue (SeenRan (answer_over p s o)) ≡ Some x → (f : Frame) × (o ≡ Some f) × ((step_of p s f).issue ≡ x)
unfolding saw_issue answer_over
over-facts p s None x h = cc
over-facts p s (Some f) x h = (f, refl, issue-is (step_of p s f).issue x h)

record RunOver (p : Plant) (c : ℕ) (h : List Moment) (x : Issue) : Type 0 where
  live : mode c h ≡ Live
  frame : Frame
  waited : slice_get (frames h) (frames_done p c h) ≡ Some frame
  issued : (step_of p (trajectory p c h) frame).issue ≡ x

run-facts : (p : Plant) (c : ℕ) (h : List Moment) (m : Mode) (x : Issue) → mode c h ≡ m → saw_issue (SeenRan (answer_to_run p c h m)) ≡ Some x → RunOver p c h x
unfolding saw_issue answer_to_run
run-facts p c h Off x e s = cc
run-facts p c h Aligning x e s = cc
run-facts p c h Live x e s =
    let t = over-facts p (trajectory p c h) (slice_get (frames h) (frames_done p c h)) x s in
    record { live = e; frame = t.0; waited = t.1; issued = t.2 }

-- a Run is no break and no skew of any computer
pub run-no_break : (p : Plant) (c d : ℕ) (h : List Moment) → is_break c (moment p h (Run d)) ≡ false
unfolding is_break is_interruption is_end is_stop is_restart is_upgrade saw_overrun seen_of
run-no_break p c d h = refl

pub run-no_base : (p : Plant) (c d : ℕ) (h : List Moment) → is_base c (moment p h (Run d)) ≡ false
unfolding is_base is_adoption is_offer_to is_skew place_of_skew
run-no_base p c d h = refl

run-is : (p : Plant) (c d : ℕ) (h : List Moment) (x : Issue) (b : Bool) → eqb d c ≡ b → cond b (saw_issue (seen_of p h (Run d))) None ≡ Some x → IsRun p c h (Run d) x
unfolding frame_of seen_of
run-is p c d h x false e s = cc
run-is p c d h x true e s =
    let same : c ≡ d = sym (eqb-true d c e) in
    let t = run-facts p c h (mode c h) x refl (rw same s) in
    record {
      live = t.live;
      frame = t.frame;
      waited = t.waited;
      issued = t.issued;
      quiet_break = run-no_break p c d h;
      no_base = run-no_base p c d h;
      no_frame = refl;
    }

pub IsRun-from_issue : (p : Plant) (c : ℕ) (h : List Moment) (e : Event) (x : Issue) → issue_at c (moment p h e) ≡ Some x → IsRun p c h e x
unfolding issue_at is_run
IsRun-from_issue p c h (Run d) x s = run-is p c d h x (eqb d c) refl s
IsRun-from_issue p c h _ x s = cc

-- ---- a Skew

pub record IsSkew (p : Plant) (c : ℕ) (h : List Moment) (e : Event) : Type 0 where
  pub live : mode c h ≡ Live
  pub is_fault : is_fault c e ≡ true
  pub no_frame : frame_of e ≡ []
  pub no_wire : is_wire e ≡ false
  pub quiet_break : (d : ℕ) → is_break d (moment p h e) ≡ false
  pub quiet_issue : (d : ℕ) → issue_at d (moment p h e) ≡ None

is_live-true : (m : Mode) → is_live m ≡ true → m ≡ Live
is_live-true Live e = refl
is_live-true _ e = cc

skew_is : (c d : ℕ) (at : Place) (b : Bool) → eqb d c ≡ b → is_some (cond b (Some at) None) ≡ true → d ≡ c
skew_is c d at true e s = eqb-true d c e
skew_is c d at false e s = cc

pub IsSkew-from_skew : (p : Plant) (c : ℕ) (h : List Moment) (e : Event) → is_skew c (moment p h e) ≡ true → IsSkew p c h e
unfolding is_interruption is_restart is_upgrade is_skew place_of_skew seen_of saw_skew is_fault frame_of is_wire is_break is_end is_stop saw_overrun issue_at is_run
IsSkew-from_skew p c h (Skew d at) s =
    let both = and_parts (is_some (cond (eqb d c) (Some at) None)) (is_live (mode d h)) s in
    let same = skew_is c d at (eqb d c) refl both.0 in
    record {
      live = subst (λ x. mode x h ≡ Live) same (is_live-true (mode d h) both.1);
      is_fault = eq-eqb d c same;
      no_frame = refl;
      no_wire = refl;
      quiet_break = λ _. refl;
      quiet_issue = λ _. refl;
    }
IsSkew-from_skew p c h _ s = cc

-- ---- an offer

-- an event that is an offer, and nothing else to any computer
pub record IsOffer (p : Plant) (h : List Moment) (e : Event) : Type 0 where
  pub no_frame : frame_of e ≡ []
  pub no_wire : is_wire e ≡ false
  pub quiet_break : (d : ℕ) → is_break d (moment p h e) ≡ false
  pub quiet_skew : (d : ℕ) → is_skew d (moment p h e) ≡ false
  pub quiet_issue : (d : ℕ) → issue_at d (moment p h e) ≡ None

pub IsOffer-tell : (p : Plant) (h : List Moment) (a d : ℕ) → IsOffer p h (Tell a d)
unfolding is_interruption is_restart is_upgrade is_skew place_of_skew seen_of frame_of is_wire is_break is_end is_stop saw_overrun issue_at is_run
IsOffer-tell p h a d = record { no_frame = refl; no_wire = refl; quiet_break = λ _. refl; quiet_skew = λ _. refl; quiet_issue = λ _. refl }

pub IsOffer-lie : (p : Plant) (h : List Moment) (a d : ℕ) (bytes : ArrayVec ℕ) → IsOffer p h (Lie a d bytes)
unfolding is_interruption is_restart is_upgrade is_skew place_of_skew seen_of frame_of is_wire is_break is_end is_stop saw_overrun issue_at is_run
IsOffer-lie p h a d bytes = record { no_frame = refl; no_wire = refl; quiet_break = λ _. refl; quiet_skew = λ _. refl; quiet_issue = λ _. refl }

-- which tests an offer that fits passed
fit_tests : (new old both : Bool) (x y : Offer) → saw_fit (SeenOffered (Some x)) ≡ false → saw_fit (SeenOffered (Some y)) ≡ false → saw_fit (SeenOffered (Some (cond new x (cond old y (cond both Adopted OfferKept))))) ≡ true → (new ≡ false) × (old ≡ false)
fit_tests true old both x y ex ey e = absurd (false≢true (sym ex ∙ e))
fit_tests false true both x y ex ey e = absurd (false≢true (sym ey ∙ e))
fit_tests false false both x y ex ey e = (refl, refl)

adoption_tests : (new old both : Bool) (x y : Offer) → saw_adoption (SeenOffered (Some x)) ≡ false → saw_adoption (SeenOffered (Some y)) ≡ false → saw_adoption (SeenOffered (Some (cond new x (cond old y (cond both Adopted OfferKept))))) ≡ true → both ≡ true
unfolding saw_adoption
adoption_tests true old both x y ex ey e = absurd (false≢true (sym ex ∙ e))
adoption_tests false true both x y ex ey e = absurd (false≢true (sym ey ∙ e))
adoption_tests false false true x y ex ey e = refl
adoption_tests false false false x y ex ey e = cc

-- computer c is aligning, and reads this state of an offer, which fits
pub record IsFit (p : Plant) (c : ℕ) (h : List Moment) (s : State) : Type 0 where
  pub aligning : mode c h ≡ Aligning
  pub not_new : s.count ≤ cycles_begun h
  pub not_old : oldest c h ≤ s.count

fit_state : (p : Plant) (c a : ℕ) (h : List Moment) (s : State) → mode c h ≡ Aligning → saw_fit (SeenOffered (Some (answer_to_state p c a h s))) ≡ true → IsFit p c h s
unfolding saw_fit answer_to_state
fit_state p c a h s m e =
    let tests = fit_tests (nat_lt (cycles_begun h) s.count) (nat_lt s.count (oldest c h)) (is_confirmed (held_offers p c h) a s) (TooNew s.count (cycles_begun h)) (TooOld s.count (oldest c h)) refl refl e in
    record {
      aligning = m;
      not_new = ltb-false (cycles_begun h) s.count tests.0;
      not_old = ltb-false s.count (oldest c h) tests.1;
    }

fit_in : (p : Plant) (c a : ℕ) (h : List Moment) (r : Result State ℕ) (m : Mode) → mode c h ≡ m → saw_fit (SeenOffered (Some (answer_in p c a h r m))) ≡ true → (s : State) × (r ≡ Ok s) × IsFit p c h s
unfolding saw_fit answer_in answer_to_read
fit_in p c a h r Live e f = cc
fit_in p c a h r Off e f = cc
fit_in p c a h (Ok s) Aligning e f = (s, refl, fit_state p c a h s e f)
fit_in p c a h (Err place) Aligning e f = cc

fit_offer : (p : Plant) (c a : ℕ) (h : List Moment) (o : Option (Result State ℕ)) → saw_fit (SeenOffered (answer_to_offer p c a h o)) ≡ true → (s : State) × (o ≡ Some (Ok s)) × IsFit p c h s
unfolding saw_fit answer_to_offer
fit_offer p c a h None f = cc
fit_offer p c a h (Some r) f = (let t = fit_in p c a h r (mode c h) refl f in (t.0, ap Some t.1, t.2))

-- an offer of a to c that fits
pub record IsFitOffer (p : Plant) (c a : ℕ) (h : List Moment) (e : Event) (s : State) : Type 0 where
  pub is_offer : is_offer a c e ≡ true
  pub brings : offered p h e ≡ Some (Ok s)
  pub fits : IsFit p c h s
  pub only : IsOffer p h e

fit-parts : (p : Plant) (c a b d : ℕ) (h : List Moment) (e : Event) → IsOffer p h e → is_offer a c e ≡ (eqb b a && eqb d c) → seen_of p h e ≡ SeenOffered (answer_to_offer p d b h (offered p h e)) → (is_offer a c e && saw_fit (seen_of p h e)) ≡ true → (s : State) × IsFitOffer p c a h e s
fit-parts p c a b d h e only is seen f =
    let both = and_parts (is_offer a c e) (saw_fit (seen_of p h e)) f in
    let ends = and_parts (eqb b a) (eqb d c) (sym is ∙ both.0) in
    let t = fit_offer p d b h (offered p h e) (ap saw_fit (sym seen) ∙ both.1) in
    let on : IsFit p c h t.0 = subst (λ x. IsFit p x h t.0) (eqb-true d c ends.1) t.2 in
    (t.0, record { is_offer = both.0; brings = t.1; fits = on; only = only })

pub IsFitOffer-from_fit : (p : Plant) (c a : ℕ) (h : List Moment) (e : Event) → (is_offer a c e && saw_fit (seen_of p h e)) ≡ true → (s : State) × IsFitOffer p c a h e s
unfolding is_offer seen_of
IsFitOffer-from_fit p c a h (Tell b d) f = fit-parts p c a b d h (Tell b d) (IsOffer-tell p h b d) refl refl f
IsFitOffer-from_fit p c a h (Lie b d bytes) f = fit-parts p c a b d h (Lie b d bytes) (IsOffer-lie p h b d bytes) refl refl f
IsFitOffer-from_fit p c a h _ f = cc

-- ---- an adoption

pub adoption-fit : (o : Option Offer) → saw_adoption (SeenOffered o) ≡ true → saw_fit (SeenOffered o) ≡ true
unfolding saw_fit saw_adoption
adoption-fit (Some Adopted) e = refl
adoption-fit _ e = cc

confirmed_in : (p : Plant) (c a : ℕ) (h : List Moment) (s : State) (m : Mode) → saw_adoption (SeenOffered (Some (answer_in p c a h (Ok s) m))) ≡ true → is_confirmed (held_offers p c h) a s ≡ true
unfolding saw_adoption answer_in answer_to_read answer_to_state
confirmed_in p c a h s Live f = cc
confirmed_in p c a h s Off f = cc
confirmed_in p c a h s Aligning f = adoption_tests (nat_lt (cycles_begun h) s.count) (nat_lt s.count (oldest c h)) (is_confirmed (held_offers p c h) a s) (TooNew s.count (cycles_begun h)) (TooOld s.count (oldest c h)) refl refl f

confirmed_offer : (p : Plant) (c a : ℕ) (h : List Moment) (o : Option (Result State ℕ)) (s : State) → o ≡ Some (Ok s) → saw_adoption (SeenOffered (answer_to_offer p c a h o)) ≡ true → is_confirmed (held_offers p c h) a s ≡ true
unfolding answer_to_offer
confirmed_offer p c a h o s e f = confirmed_in p c a h s (mode c h) (ap (λ q. saw_adoption (SeenOffered (answer_to_offer p c a h q))) (sym e) ∙ f)

-- an offer of its sender to c that c adopts
pub record IsAdoption (p : Plant) (c : ℕ) (h : List Moment) (e : Event) (s : State) : Type 0 where
  pub offer : IsFitOffer p c (sender e) h e s
  pub confirmed : is_confirmed (held_offers p c h) (sender e) s ≡ true

adoption-parts : (p : Plant) (c d : ℕ) (h : List Moment) (e : Event) → is_offer (sender e) c e ≡ (eqb (sender e) (sender e) && eqb d c) → seen_of p h e ≡ SeenOffered (answer_to_offer p d (sender e) h (offered p h e)) → (eqb d c && saw_adoption (seen_of p h e)) ≡ true → (s : State) × IsAdoption p c h e s
adoption-parts p c d h e is seen f =
    let both = and_parts (eqb d c) (saw_adoption (seen_of p h e)) f in
    let adopts : saw_adoption (SeenOffered (answer_to_offer p d (sender e) h (offered p h e))) ≡ true = ap saw_adoption (sym seen) ∙ both.1 in
    let fits : saw_fit (seen_of p h e) ≡ true = ap saw_fit seen ∙ adoption-fit (answer_to_offer p d (sender e) h (offered p h e)) adopts in
    let offers : is_offer (sender e) c e ≡ true = is ∙ and_from (eqb (sender e) (sender e)) (eqb d c) (eq-eqb (sender e) (sender e) refl) both.0 in
    let t = IsFitOffer-from_fit p c (sender e) h e (and_from (is_offer (sender e) c e) (saw_fit (seen_of p h e)) offers fits) in
    let by_c : saw_adoption (SeenOffered (answer_to_offer p c (sender e) h (offered p h e))) ≡ true = subst (λ x. saw_adoption (SeenOffered (answer_to_offer p x (sender e) h (offered p h e))) ≡ true) (eqb-true d c both.0) adopts in
    (t.0, record { offer = t.1; confirmed = confirmed_offer p c (sender e) h (offered p h e) t.0 t.1.brings by_c })

pub IsAdoption-from_adoption : (p : Plant) (c : ℕ) (h : List Moment) (e : Event) → is_adoption c (moment p h e) ≡ true → (s : State) × IsAdoption p c h e s
unfolding is_adoption is_offer_to is_offer seen_of sender
IsAdoption-from_adoption p c h (Tell a d) f = adoption-parts p c d h (Tell a d) refl refl f
IsAdoption-from_adoption p c h (Lie a d bytes) f = adoption-parts p c d h (Lie a d bytes) refl refl f
IsAdoption-from_adoption p c h _ f = cc

-- ---- an order that is taken

took_tests : (stale low high again : Bool) (n : ℕ) (x y : ℤ) → saw_taken (SeenSent (Some (cond stale (Stale n) (cond low (Unfit x) (cond high (Unfit y) (cond again Repeated Taken)))))) ≡ true → stale ≡ false
unfolding saw_taken
took_tests false low high again n x y e = refl
took_tests true low high again n x y e = cc

took_cycle : (p : Plant) (k a : ℕ) (h : List Moment) (b : Message) → saw_taken (SeenSent (Some (answer p k a h b))) ≡ true → (cycles_begun h ≡ suc b.cycle) × (is_some (given_ballot k h) ≡ false)
unfolding answer
took_cycle p k a h b s =
    let t = took_tests (not (eqb (cycles_begun h) (suc b.cycle)) || is_some (given_ballot k h)) (int_lt b.force (low_of p k)) (int_lt (high_of p k) b.force) (is_some (taken_force k a h)) (cycles_begun h - 1) (low_of p k) (high_of p k) s in
    let parts = or_parts (not (eqb (cycles_begun h) (suc b.cycle))) (is_some (given_ballot k h)) t in
    (eqb-true (cycles_begun h) (suc b.cycle) (not-false (eqb (cycles_begun h) (suc b.cycle)) parts.0), parts.1)

-- an issue's message comes of its force
pub record IsMessage (k : ℕ) (o : Option Issue) (b : Message) : Type 0 where
  pub issue : Issue
  pub is : o ≡ Some issue
  pub cycle : b.cycle ≡ issue.cycle
  pub force : slice_get issue.forces.items k ≡ Some b.force

message_by_force : (k : ℕ) (x : Issue) (b : Message) (o : Option ℤ) → slice_get x.forces.items k ≡ o → option_map (λ f. record { cycle = x.cycle; force = f }) o ≡ Some b → IsMessage k (Some x) b
message_by_force k x b None e s = cc
message_by_force k x b (Some f) e s =
    let m : Message = record { cycle = x.cycle; force = f } in
    let same : m ≡ b = cc in
    subst (IsMessage k (Some x)) same (record { issue = x; is = refl; cycle = refl; force = e })

pub IsMessage-of : (k : ℕ) (o : Option Issue) (b : Message) → message_of k o ≡ Some b → IsMessage k o b
unfolding message_of
IsMessage-of k None b e = cc
IsMessage-of k (Some x) b e = message_by_force k x b (slice_get x.forces.items k) refl e

pub record IsTaken (k a : ℕ) (h : List Moment) (e : Event) (b : Message) : Type 0 where
  pub says : message_in h e ≡ Some b
  pub now : cycles_begun h ≡ suc b.cycle
  pub before_vote : is_some (given_ballot k h) ≡ false
  pub no_frame : frame_of e ≡ []
  pub no_wire : is_wire e ≡ false
  pub from_issue : (is_fault a e ≡ true) ⊎ IsMessage k (last_issue a h) b

taken_order : (p : Plant) (k a : ℕ) (h : List Moment) (o : Option Message) → saw_taken (SeenSent (answer_if p k a h o)) ≡ true → (b : Message) × (o ≡ Some b) × (saw_taken (SeenSent (Some (answer p k a h b))) ≡ true)
unfolding saw_taken answer_if
taken_order p k a h None s = cc
taken_order p k a h (Some b) s = (b, refl, s)

pub IsTaken-from_order : (p : Plant) (k a : ℕ) (h : List Moment) (e : Event) → (is_order a k e && saw_taken (seen_of p h e)) ≡ true → (b : Message) × IsTaken k a h e b
unfolding is_order seen_of message_in frame_of is_wire is_fault
IsTaken-from_order p k a h (Order d j) s =
    let both = and_parts (eqb d a && eqb j k) (saw_taken (SeenSent (answer_if p j d h (message_of j (last_issue d h))))) s in
    let ends = and_parts (eqb d a) (eqb j k) both.0 in
    let same_a = eqb-true d a ends.0 in
    let same_k = eqb-true j k ends.1 in
    let t = taken_order p j d h (message_of j (last_issue d h)) both.1 in
    let cy = took_cycle p j d h t.0 t.2 in
    let from : IsMessage j (last_issue d h) t.0 = IsMessage-of j (last_issue d h) t.0 t.1 in
    let to_k : IsMessage k (last_issue d h) t.0 = subst (λ i. IsMessage i (last_issue d h) t.0) same_k from in (
      t.0,
      record {
        says = t.1;
        now = cy.0;
        before_vote = subst (λ x. is_some (given_ballot x h) ≡ false) same_k cy.1;
        no_frame = refl;
        no_wire = refl;
        from_issue = inr (subst (λ i. IsMessage k (last_issue i h) t.0) same_a to_k);
      },
    )
IsTaken-from_order p k a h (Say d j cycle f) s =
    let both = and_parts (eqb d a && eqb j k) (saw_taken (SeenSent (Some (answer p j d h (record { cycle = cycle; force = f }))))) s in
    let ends = and_parts (eqb d a) (eqb j k) both.0 in
    let same_k = eqb-true j k ends.1 in
    let cy = took_cycle p j d h (record { cycle = cycle; force = f }) both.1 in (
      record { cycle = cycle; force = f },
      record {
        says = refl;
        now = cy.0;
        before_vote = subst (λ x. is_some (given_ballot x h) ≡ false) same_k cy.1;
        no_frame = refl;
        no_wire = refl;
        from_issue = inl ends.0;
      },
    )
IsTaken-from_order p k a h _ s = cc

-- ---- what a moment is to a computer

pub data Kind (c : ℕ) (m : Moment) : Type 0 where
  Broke : is_break c m ≡ true → Kind c m
  Adopts : is_break c m ≡ false → is_adoption c m ≡ true → Kind c m
  Skews : is_break c m ≡ false → is_adoption c m ≡ false → is_skew c m ≡ true → Kind c m
  Runs : is_break c m ≡ false → is_base c m ≡ false → (x : Issue) → issue_at c m ≡ Some x → Kind c m
  Quiet : is_break c m ≡ false → is_base c m ≡ false → issue_at c m ≡ None → Kind c m

kind_by : (c : ℕ) (m : Moment) (b a s : Bool) (i : Option Issue) → is_break c m ≡ b → is_adoption c m ≡ a → is_skew c m ≡ s → issue_at c m ≡ i → Kind c m
unfolding is_base
kind_by c m true a s i eb ea es ei = Broke eb
kind_by c m false true s i eb ea es ei = Adopts eb ea
kind_by c m false false true i eb ea es ei = Skews eb ea es
kind_by c m false false false (Some x) eb ea es ei = Runs eb (rw (ea, es)) x ei
kind_by c m false false false None eb ea es ei = Quiet eb (rw (ea, es)) ei

pub kind : (c : ℕ) (m : Moment) → Kind c m
kind c m = kind_by c m (is_break c m) (is_adoption c m) (is_skew c m) (issue_at c m) refl refl refl refl
