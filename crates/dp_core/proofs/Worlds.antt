-- A world represents one more event.
use Rattle.dp_core.specs.Mode as modes
use Rattle.std.proofs.Common.{Bool, List, None, Option, Some, [], ap, arith, cond, eqb, false, get_or, if◌then◌else◌, inl, inr, length, map, refl, set, subst, suc, sym, true, zero, ℕ, ℤ, ◌&&◌, ◌+◌, ◌<◌, ◌∙◌, ◌∷◌, ◌≡◌, ◌≤◌}
use Rattle.std.proofs.lemmas.Bool.{and_left, and_right, ne_eqb}
use Rattle.std.specs.List.{refill}
use Rattle.std.specs.Option.{option_map}
use Rattle.std.specs.Prelude.{slice_get}
use Rattle.arrayvec.specs.ArrayVec.{ArrayVec}
use Rattle.dp_codec.specs.Spelling.{IsSoftware, state_read}
use Rattle.dp_exchange.specs.Offers.{told_state}
use Rattle.dp_exchange.specs.declared.answers.Offer.{Offer}
use Rattle.dp_machine.specs.declared.state.State.{State}
use Rattle.dp_exchange.proofs.Counts.{mode_of-control}
use Rattle.dp_core.proofs.Computers.{IsNothing, computer-first, computer-wire, computer-kept, computer-run, computer-skew, computer-stop, wire_answer-represents, order-nothing, run-other, run_answer-represents, say-nothing, skew-other, skew_answer-represents, stop-other, vote-nothing, wire-cycles}
use Rattle.dp_core.proofs.Exchanges.{computer-lie, computer-restart, computer-tell, computer-upgrade, lie-other, lie-read, offer_answer-represents, restart-other, tell-answer-represents, tell-other, upgrade-other}
use Rattle.dp_core.proofs.Lists.{below-get, changed-alike, changed-each, changed-length, changed-read, changed-same, get-below, map-at, map-length, read-at, three-of}
use Rattle.dp_core.proofs.Moments.{moment}
use Rattle.dp_core.proofs.Trajectories.{frames-kept, within}
use Rattle.dp_core.proofs.Voters.{IsNoVote, IsOrderOf-order, IsOrderOf-say, answer-represents, ballot-represents, fresh_is_last, voter-begun, voter-first, voter-kept, voter-ordered, voter-voted}
use Rattle.dp_exchange.specs.ComputerState.{ComputerState, Control, InControl, SwitchedOff, ToAlign, after_offer, after_restart, after_run, after_skew, after_stop, after_upgrade, after_wire, first_computer, is_live, mode_of, offer_answer, offered_by, run_answer, skew_answer, told_text, wire_answer}
use Rattle.dp_core.specs.CycleAlarms.{alarms_in, cycle_alarms}
use Rattle.dp_core.specs.HeldOffers.{offered}
use Rattle.dp_core.specs.History.{answer_in, answer_to_offer, answer_to_run, answers_to_wire, history, seen_of}
use Rattle.dp_core.specs.Mode.{cycles_begun, frames}
use Rattle.dp_core.specs.Moment.{Moment, ballot_at, frame_of, is_order, is_upgrade, is_vote, is_wire, saw_taken}
use Rattle.dp_core.specs.Offered.{offer_by}
use Rattle.dp_core.specs.Represents.{ComputerRepresents, Represents, VoterRepresents}
use Rattle.dp_core.specs.Trajectory.{last_issue, trajectory}
use Rattle.dp_core.specs.Voting.{Message, answer, answer_if, ballot, high_of, low_of, message_of, taken_forces}
use Rattle.dp_core.specs.WorldState.{IsAllowed, WorldState, after, after_order, after_tell, after_told, change_at, last_of, text_answer, told_answer, voter_of, with_text}
use Rattle.dp_core.specs.Several.{order_events, sent, sent_by}
use Rattle.dp_core.specs.WorldView.{IsInStep}
use Rattle.dp_exchange.specs.declared.answers.Heard.{Heard}
use Rattle.dp_exchange.specs.declared.answers.Ran.{Ran}
use Rattle.dp_core.specs.declared.event.Seen.TheVariants.{Done as SeenDone, Heard as SeenHeard, Offered as SeenOffered, Ran as SeenRan, Sent as SeenSent, Skewed as SeenSkewed, Voted as SeenVoted}
use Rattle.dp_machine.specs.declared.issue.Issue.{Issue}
use Rattle.dp_core.specs.declared.event.Event.{Event}
use Rattle.dp_core.specs.declared.event.Event.TheVariants.{Lie, Order, Restart, Run, Say, Skew, Stop, Tell, Upgrade, Vote, Wire}
use Rattle.dp_plant.specs.declared.frames.Frame.{Frame}
use Rattle.dp_plant.specs.declared.place.Place.{Place}
use Rattle.dp_plant.specs.declared.plant.Plant.{Plant}
use Rattle.dp_plant.specs.declared.thrusters.Thruster.{Thruster}
use Rattle.dp_plant.specs.declared.voting.Ballot.{Ballot}
use Rattle.dp_plant.specs.declared.voting.Mode.{Mode}
use Rattle.dp_voter.specs.Ballots.{ballot_of as voter_ballot, voted}
use Rattle.dp_voter.specs.Orders.{answer_of, ordered}
use Rattle.dp_voter.specs.VoterState.{VoterState, begun, new_voter}
use Rattle.dp_voter.specs.declared.order.Took.{Took}

-- ---- in code

pub say-is : (x y : VoterState) (from cycle : ℕ) (g f : ℤ) (r : Took) → g ≡ f → y ≡ ordered x from g r → r ≡ answer_of x from cycle g → y ≡ ordered x from f (answer_of x from cycle f)
say-is x y from cycle g f r same e a = e ∙ (ap (ordered x from g) a ∙ ap (λ z. ordered x from z (answer_of x from cycle z)) same)

pub said-is : (x v : VoterState) (from cycle : ℕ) (g f : ℤ) (r : Took) → g ≡ f → r ≡ answer_of x from cycle g → x ≡ v → r ≡ answer_of v from cycle f
said-is x v from cycle g f r same a e = a ∙ (ap (λ z. answer_of x from cycle z) same ∙ ap (λ y. answer_of y from cycle f) e)

-- ---- one of the computers, or of the voters, changes

module _ (es : List Event) (w : WorldState) (e : Event) (r : Represents es w) where
  computers_changed : (k : ℕ) (change : ComputerState → ComputerState)
      → ((x : ComputerState) → ComputerRepresents w.plant k (history w.plant es) x → ComputerRepresents w.plant k (moment w.plant (history w.plant es) e ∷ history w.plant es) (change x))
      → ((j : ℕ) → eqb k j ≡ false → IsNothing j (moment w.plant (history w.plant es) e))
      → (c : ℕ) (x : ComputerState) → slice_get (change_at w.computers k change) c ≡ Some x → ComputerRepresents w.plant c (moment w.plant (history w.plant es) e ∷ history w.plant es) x
  computers_changed k change own others =
      let h = history w.plant es in
      let m = moment w.plant h e in
      changed-each (λ c x. ComputerRepresents w.plant c h x) (λ c x. ComputerRepresents w.plant c (m ∷ h) x) w.computers k change own
      (λ c x n s. computer-kept w.plant c m h x (others c (ne_eqb k c (λ q. n (sym q)))) (within w.plant es) s) r.computers

  computers_kept : ((j : ℕ) → IsNothing j (moment w.plant (history w.plant es) e)) → (c : ℕ) (x : ComputerState) → slice_get w.computers c ≡ Some x → ComputerRepresents w.plant c (moment w.plant (history w.plant es) e ∷ history w.plant es) x
  computers_kept all c x at = computer-kept w.plant c (moment w.plant (history w.plant es) e) (history w.plant es) x (all c) (within w.plant es) (r.computers c x at)

  voters_changed : (k : ℕ) (change : VoterState → VoterState)
      → ((v : VoterState) → VoterRepresents w.plant k (history w.plant es) v → VoterRepresents w.plant k (moment w.plant (history w.plant es) e ∷ history w.plant es) (change v))
      → ((j : ℕ) → (j ≡ k → ⊥) → IsNoVote j (moment w.plant (history w.plant es) e))
      → (j : ℕ) (v : VoterState) → slice_get (change_at w.voters k change) j ≡ Some v → VoterRepresents w.plant j (moment w.plant (history w.plant es) e ∷ history w.plant es) v
  voters_changed k change own others =
      let h = history w.plant es in
      let m = moment w.plant h e in
      changed-each (λ j v. VoterRepresents w.plant j h v) (λ j v. VoterRepresents w.plant j (m ∷ h) v) w.voters k change own
      (λ j v n s. voter-kept w.plant j m h v (others j n) s) r.voters

  voters_kept : ((j : ℕ) → IsNoVote j (moment w.plant (history w.plant es) e)) → (k : ℕ) (v : VoterState) → slice_get w.voters k ≡ Some v → VoterRepresents w.plant k (moment w.plant (history w.plant es) e ∷ history w.plant es) v
  voters_kept all k v at = voter-kept w.plant k (moment w.plant (history w.plant es) e) (history w.plant es) v (all k) (r.voters k v at)

  cycles_kept : frame_of e ≡ [] → w.cycles_begun ≡ cycles_begun (moment w.plant (history w.plant es) e ∷ history w.plant es)
  cycles_kept n = r.cycles ∙ ap length (sym (frames-kept (moment w.plant (history w.plant es) e) (history w.plant es) n))

-- ---- what is nothing to a voter

no-vote : (p : Plant) (h : List Moment) (e : Event) (k : ℕ) → is_wire e ≡ false → frame_of e ≡ [] → ((a : ℕ) → is_order a k e ≡ false) → is_vote k e ≡ false → IsNoVote k (moment p h e)
unfolding ballot_at
no-vote p h e k wire frame order vote = record {
  no_wire = wire;
  no_frame = frame;
  no_order = λ a. and_left (is_order a k e) (saw_taken (seen_of p h e)) (order a);
  no_ballot = rw vote refl;
}

vote-of_another : (p : Plant) (k j : ℕ) (h : List Moment) → (j ≡ k → ⊥) → IsNoVote j (moment p h (Vote k))
unfolding is_wire frame_of is_order ballot_at is_vote
vote-of_another p k j h n = record { no_wire = refl; no_frame = refl; no_order = λ a. refl; no_ballot = (let e : eqb k j ≡ false = ne_eqb k j (λ q. n (sym q)) in rw e) }

order-to_another : (p : Plant) (a k j : ℕ) (h : List Moment) → (j ≡ k → ⊥) → IsNoVote j (moment p h (Order a k))
unfolding is_wire frame_of is_order ballot_at is_vote
order-to_another p a k j h n = record {
  no_wire = refl;
  no_frame = refl;
  no_order = λ d. and_left (eqb a d && eqb k j) (saw_taken (seen_of p h (Order a k))) (and_right (eqb a d) (eqb k j) (ne_eqb k j (λ q. n (sym q))));
  no_ballot = refl;
}

say-to_another : (p : Plant) (a k j n : ℕ) (f : ℤ) (h : List Moment) → (j ≡ k → ⊥) → IsNoVote j (moment p h (Say a k n f))
unfolding is_wire frame_of is_order ballot_at is_vote
say-to_another p a k j n f h ne = record {
  no_wire = refl;
  no_frame = refl;
  no_order = λ d. and_left (eqb a d && eqb k j) (saw_taken (seen_of p h (Say a k n f))) (and_right (eqb a d) (eqb k j) (ne_eqb k j (λ q. ne (sym q))));
  no_ballot = refl;
}

-- an order of a computer that says nothing to the voter
order-of_none : (p : Plant) (a k : ℕ) (h : List Moment) → message_of k (last_issue a h) ≡ None → IsNoVote k (moment p h (Order a k))
unfolding is_wire frame_of ballot_at is_vote seen_of answer_if saw_taken
order-of_none p a k h l = record {
  no_wire = refl;
  no_frame = refl;
  no_order = λ d. and_right (is_order d k (Order a k)) (saw_taken (seen_of p h (Order a k))) (rw l);
  no_ballot = refl;
}

voter-sent : (p : Plant) (k a : ℕ) (h : List Moment) (o : Option Message) (v : VoterState) → a < 3 → message_of k (last_issue a h) ≡ o → VoterRepresents p k h v → VoterRepresents p k (moment p h (Order a k) ∷ h) (after_order a o v)
voter-sent p k a h None v a3 l s = voter-kept p k (moment p h (Order a k)) h v (order-of_none p a k h l) s
voter-sent p k a h (Some x) v a3 l s = voter-ordered p k a h (Order a k) x v a3 (IsOrderOf-order p k a h x l) s

-- the last issue of a computer of three
pub last-represents : (es : List Event) (w : WorldState) (a : ℕ) → a < 3 → Represents es w → last_of (slice_get w.computers a) ≡ last_issue a (history w.plant es)
last-represents es w a a3 r =
    let three = r.three in
    let t = get-below w.computers a (omega arith) in
    ap last_of t.1 ∙ (r.computers a t.0 t.1).last

pub alarms-represent : (es : List Event) (w : WorldState) (a : ℕ) → a < 3 → Represents es w → alarms_in w.cycles_begun (last_of (slice_get w.computers a)) ≡ cycle_alarms a (history w.plant es)
unfolding cycle_alarms
alarms-represent es w a less r = ap (λ n. alarms_in n (last_of (slice_get w.computers a))) r.cycles ∙ ap (alarms_in (cycles_begun (history w.plant es))) (last-represents es w a less r)

-- ---- one more event

pub after-plant : (w : WorldState) (e : Event) → (after w e).plant ≡ w.plant
unfolding after
after-plant w (Wire f) = refl
after-plant w (Run c) = refl
after-plant w (Order a k) = refl
after-plant w (Vote k) = refl
after-plant w (Skew c at) = refl
after-plant w (Say a k n f) = refl
after-plant w (Stop c) = refl
after-plant w (Tell a c) = refl
after-plant w (Lie a c bytes) = refl
after-plant w (Restart c) = refl
after-plant w (Upgrade c) = refl

wire-represents : (es : List Event) (w : WorldState) (f : Frame) → Represents es w → Represents (Wire f ∷ es) (after w (Wire f))
unfolding after history
wire-represents es w f r =
    let p = w.plant in
    let h = history p es in
    let m = moment p h (Wire f) in
    let three = r.three in
    record {
      computers = λ c x e. (
          let t = map-at w.computers c (λ x. after_wire x f) x e in
          let below = below-get w.computers c t.before t.stood in
          subst (ComputerRepresents p c (m ∷ h)) t.is (computer-wire p c h f t.before (omega arith) (within p es) (r.computers c t.before t.stood)));
      three = map-length w.computers (λ x. after_wire x f) ∙ r.three;
      voters = λ k v e. (
          let t = map-at w.voters k (λ v. begun v w.cycles_begun) v e in
          subst (VoterRepresents p k (m ∷ h)) t.is (subst (λ n. VoterRepresents p k (m ∷ h) (begun t.before n)) (sym r.cycles) (voter-begun p k h f t.before (r.voters k t.before t.stood))));
      thrusters = map-length w.voters (λ v. begun v w.cycles_begun) ∙ r.thrusters;
      cycles = ap (λ n. n + 1) r.cycles ∙ sym (wire-cycles p h f);
    }

-- an event that changes one of the computers, and is nothing to the voters
one-represents : (es : List Event) (w : WorldState) (e : Event) (c : ℕ) (change : ComputerState → ComputerState)
    → is_wire e ≡ false → frame_of e ≡ [] → ((a k : ℕ) → is_order a k e ≡ false) → ((k : ℕ) → is_vote k e ≡ false)
    → ((x : ComputerState) → ComputerRepresents w.plant c (history w.plant es) x → ComputerRepresents w.plant c (moment w.plant (history w.plant es) e ∷ history w.plant es) (change x))
    → ((j : ℕ) → eqb c j ≡ false → IsNothing j (moment w.plant (history w.plant es) e))
    → Represents es w → Represents (e ∷ es) (record w { computers = change_at w.computers c change })
unfolding history
one-represents es w e c change wire frame order vote own others r = record {
  computers = computers_changed es w e r c change own others;
  three = changed-length w.computers c change ∙ r.three;
  voters = voters_kept es w e r (λ k. no-vote w.plant (history w.plant es) e k wire frame (λ a. order a k) (vote k));
  thrusters = r.thrusters;
  cycles = cycles_kept es w e r frame;
}

run-represents : (es : List Event) (w : WorldState) (c : ℕ) → Represents es w → Represents (Run c ∷ es) (after w (Run c))
unfolding after is_wire frame_of is_order is_vote
run-represents es w c r =
    let h = history w.plant es in
    one-represents es w (Run c) c after_run refl refl (λ a k. refl) (λ k. refl)
    (λ x s. computer-run w.plant c h x (within w.plant es) s) (λ j e. run-other w.plant j c h e) r

stop-represents : (es : List Event) (w : WorldState) (c : ℕ) → Represents es w → Represents (Stop c ∷ es) (after w (Stop c))
unfolding after is_wire frame_of is_order is_vote
stop-represents es w c r =
    let h = history w.plant es in
    one-represents es w (Stop c) c after_stop refl refl (λ a k. refl) (λ k. refl)
    (λ x s. computer-stop w.plant c h x s) (λ j e. stop-other w.plant j c h e) r

restart-represents : (es : List Event) (w : WorldState) (c : ℕ) → Represents es w → Represents (Restart c ∷ es) (after w (Restart c))
unfolding after is_wire frame_of is_order is_vote
restart-represents es w c r =
    let p = w.plant in
    let h = history p es in
    one-represents es w (Restart c) c (λ x. after_restart x w.cycles_begun) refl refl (λ a k. refl) (λ k. refl)
    (λ x s. subst (λ n. ComputerRepresents p c (moment p h (Restart c) ∷ h) (after_restart x n)) (sym r.cycles) (computer-restart p c h x s))
    (λ j e. restart-other p j c h e) r

upgrade-represents : (es : List Event) (w : WorldState) (c : ℕ) → Represents es w → Represents (Upgrade c ∷ es) (after w (Upgrade c))
unfolding after is_wire frame_of is_order is_vote
upgrade-represents es w c r =
    let p = w.plant in
    let h = history p es in
    one-represents es w (Upgrade c) c (λ x. after_upgrade x w.cycles_begun) refl refl (λ a k. refl) (λ k. refl)
    (λ x s. subst (λ n. ComputerRepresents p c (moment p h (Upgrade c) ∷ h) (after_upgrade x n)) (sym r.cycles) (computer-upgrade p c h x s))
    (λ j e. upgrade-other p j c h e) r

lie-represents : (es : List Event) (w : WorldState) (a c : ℕ) (bytes : ArrayVec ℕ) → a < 3 → Represents es w → Represents (Lie a c bytes ∷ es) (after w (Lie a c bytes))
unfolding after is_wire frame_of is_order is_vote
lie-represents es w a c bytes a3 r =
    let p = w.plant in
    let h = history p es in
    one-represents es w (Lie a c bytes) c (λ x. after_offer x a (offered_by x bytes.items)) refl refl (λ b k. refl) (λ k. refl)
    (λ x s. computer-lie p c a bytes h x a3 (within p es) s) (λ j e. lie-other p j a c bytes h e) r

tell-represents_by : (es : List Event) (w : WorldState) (a c : ℕ) (y : ComputerState) → a < 3 → slice_get w.computers a ≡ Some y → Represents es w → Represents (Tell a c ∷ es) (record w { computers = change_at w.computers c (after_tell a (Some y)) })
unfolding is_wire frame_of is_order is_vote
tell-represents_by es w a c y a3 at r =
    let p = w.plant in
    let h = history p es in
    one-represents es w (Tell a c) c (after_tell a (Some y)) refl refl (λ b k. refl) (λ k. refl)
    (λ x s. computer-tell p c a h y x a3 (within p es) (r.computers a y at) s) (λ j e. tell-other p j a c h e) r

tell-represents : (es : List Event) (w : WorldState) (a c : ℕ) → a < 3 → Represents es w → Represents (Tell a c ∷ es) (after w (Tell a c))
unfolding after
tell-represents es w a c a3 r =
    let three = r.three in
    let y = get-below w.computers a (omega arith) in
    subst (λ o. Represents (Tell a c ∷ es) (record w { computers = change_at w.computers c (after_tell a o) })) (sym y.1) (tell-represents_by es w a c y.0 a3 y.1 r)

skew-represents : (es : List Event) (w : WorldState) (c : ℕ) (at : Place) → Represents es w → Represents (Skew c at ∷ es) (after w (Skew c at))
unfolding after is_wire frame_of is_order is_vote
skew-represents es w c at r =
    let h = history w.plant es in
    one-represents es w (Skew c at) c (λ x. after_skew x at) refl refl (λ a k. refl) (λ k. refl)
    (λ x s. computer-skew w.plant c at h x (within w.plant es) s) (λ j e. skew-other w.plant j c at h e) r

vote-represents : (es : List Event) (w : WorldState) (k : ℕ) → Represents es w → Represents (Vote k ∷ es) (after w (Vote k))
unfolding after history frame_of
vote-represents es w k r =
    let p = w.plant in
    let h = history p es in
    record {
      computers = computers_kept es w (Vote k) r (λ c. vote-nothing p c k h);
      three = r.three;
      voters = voters_changed es w (Vote k) r k voted (λ v s. voter-voted p k h v (fresh_is_last p k es) s) (λ j n. vote-of_another p k j h n);
      thrusters = changed-length w.voters k voted ∙ r.thrusters;
      cycles = cycles_kept es w (Vote k) r refl;
    }

say-represents : (es : List Event) (w : WorldState) (a k n : ℕ) (f : ℤ) → a < 3 → Represents es w → Represents (Say a k n f ∷ es) (after w (Say a k n f))
unfolding after history frame_of
say-represents es w a k n f a3 r =
    let p = w.plant in
    let h = history p es in
    let change : VoterState → VoterState = λ v. ordered v a f (answer_of v a n f) in
    record {
      computers = computers_kept es w (Say a k n f) r (λ c. say-nothing p c a k n f h);
      three = r.three;
      voters = voters_changed es w (Say a k n f) r k change (λ v s. voter-ordered p k a h (Say a k n f) (record { cycle = n; force = f }) v a3 (IsOrderOf-say p k a n f h) s) (λ j ne. say-to_another p a k j n f h ne);
      thrusters = changed-length w.voters k change ∙ r.thrusters;
      cycles = cycles_kept es w (Say a k n f) r refl;
    }

order-represents_by : (es : List Event) (w : WorldState) (a k : ℕ) (o : Option Message) → a < 3 → message_of k (last_issue a (history w.plant es)) ≡ o → Represents es w → Represents (Order a k ∷ es) (record w { voters = change_at w.voters k (after_order a o) })
unfolding history frame_of
order-represents_by es w a k o a3 l r =
    let p = w.plant in
    let h = history p es in
    let change : VoterState → VoterState = after_order a o in
    record {
      computers = computers_kept es w (Order a k) r (λ c. order-nothing p c a k h);
      three = r.three;
      voters = voters_changed es w (Order a k) r k change (λ v s. voter-sent p k a h o v a3 l s) (λ j ne. order-to_another p a k j h ne);
      thrusters = changed-length w.voters k change ∙ r.thrusters;
      cycles = cycles_kept es w (Order a k) r refl;
    }

pub after-represents : (es : List Event) (w : WorldState) (e : Event) → IsAllowed w e → Represents es w → Represents (e ∷ es) (after w e)
unfolding after
after-represents es w (Wire f) i r = wire-represents es w f r
after-represents es w (Run c) i r = run-represents es w c r
after-represents es w (Order a k) i r = order-represents_by es w a k (message_of k (last_of (slice_get w.computers a))) i.0 (ap (message_of k) (sym (last-represents es w a i.0 r))) r
after-represents es w (Vote k) i r = vote-represents es w k r
after-represents es w (Skew c at) i r = skew-represents es w c at r
after-represents es w (Say a k n f) i r = say-represents es w a k n f i.0 r
after-represents es w (Stop c) i r = stop-represents es w c r
after-represents es w (Tell a c) i r = tell-represents es w a c i.0 r
after-represents es w (Lie a c bytes) i r = lie-represents es w a c bytes i.0 r
after-represents es w (Restart c) i r = restart-represents es w c r
after-represents es w (Upgrade c) i r = upgrade-represents es w c r

-- ---- a voter stands for each thruster

pub below-voters : (w now : WorldState) (k : ℕ) → w ≡ now → length w.voters ≡ length w.plant.thrusters.items → k < length now.plant.thrusters.items → k < length w.voters
below-voters w now k same each l = subst (λ n. k < n) (sym each) (subst (λ (v : WorldState). k < length v.plant.thrusters.items) (sym same) l)

voter-there : (es : List Event) (w : WorldState) (k : ℕ) → k < length w.plant.thrusters.items → Represents es w → (v : VoterState) × (slice_get w.voters k ≡ Some v)
voter-there es w k l r = get-below w.voters k (below-voters w w k refl r.thrusters l)

-- ---- what each event is answered

pub wire-answers : (es : List Event) (w : WorldState) → Represents es w → map wire_answer w.computers ≡ answers_to_wire w.plant (history w.plant es)
wire-answers es w r =
    let p = w.plant in
    let h = history p es in
    let t = three-of w.computers r.three in
    let x = r.computers 0 t.first (ap (λ xs. slice_get xs 0) t.are) in
    let y = r.computers 1 t.second (ap (λ xs. slice_get xs 1) t.are) in
    let z = r.computers 2 t.third (ap (λ xs. slice_get xs 2) t.are) in
    ap (map wire_answer) t.are ∙ rw (wire_answer-represents p 0 h t.first x, wire_answer-represents p 1 h t.second y, wire_answer-represents p 2 h t.third z)

-- what a computer answers is what the moments say, where each that represents them answers so
pub one-answer : (es : List Event) (w : WorldState) (c : ℕ) {A : Type 0} (answer : ComputerState → A) (told a : A) → c < 3 → Represents es w
    → ((x : ComputerState) → ComputerRepresents w.plant c (history w.plant es) x → answer x ≡ told) → ((x : ComputerState) → slice_get w.computers c ≡ Some x → a ≡ answer x) → a ≡ told
one-answer es w c answer told a c3 r says is =
    let three = r.three in
    let t = get-below w.computers c (omega arith) in
    is t.0 t.1 ∙ says t.0 (r.computers c t.0 t.1)

pub run-answer : (es : List Event) (w : WorldState) (c : ℕ) (a : Ran) → c < 3 → Represents es w → ((x : ComputerState) → slice_get w.computers c ≡ Some x → a ≡ run_answer x) → a ≡ answer_to_run w.plant c (history w.plant es) (modes.mode c (history w.plant es))
run-answer es w c a c3 r is = one-answer es w c run_answer _ a c3 r (run_answer-represents w.plant c (history w.plant es)) is

pub skew-answer : (es : List Event) (w : WorldState) (c : ℕ) (a : Bool) → c < 3 → Represents es w → ((x : ComputerState) → slice_get w.computers c ≡ Some x → a ≡ skew_answer x) → a ≡ is_live (modes.mode c (history w.plant es))
skew-answer es w c a c3 r is = one-answer es w c skew_answer _ a c3 r (skew_answer-represents w.plant c (history w.plant es)) is

pub lie-answer : (es : List Event) (w : WorldState) (a c : ℕ) (bytes : List ℕ) (o : Offer) → c < 3 → Represents es w → ((x : ComputerState) → slice_get w.computers c ≡ Some x → o ≡ offer_answer x a (offered_by x bytes))
    → o ≡ answer_in w.plant c a (history w.plant es) (state_read w.plant (modes.software c (history w.plant es)) bytes) (modes.mode c (history w.plant es))
lie-answer es w a c bytes o c3 r is =
    let h = history w.plant es in
    one-answer es w c (λ x. offer_answer x a (offered_by x bytes)) _ o c3 r
    (λ x s. ap (offer_answer x a) (lie-read w.plant c bytes h x s) ∙ offer_answer-represents w.plant c a h (state_read w.plant (modes.software c h) bytes) x s) is

-- ---- what is told, by its text

-- the software of a computer is 1 or 2
software-known : (c : ℕ) (h : List Moment) → IsSoftware (modes.software c h)
unfolding modes.software
software-known c [] = inl refl
software-known c (m ∷ h) = by (is_upgrade c m.event) refl (software-known c h)
  where
    by : (b : Bool) → is_upgrade c m.event ≡ b → IsSoftware (modes.software c h) → IsSoftware (if is_upgrade c m.event then 2 else modes.software c h)
    by true e i = rw e (inr refl)
    by false e i = rw e i

-- the text is read as the state that is told
abbrev pub IsRead : ComputerState → Type 0
IsRead y = (software : ℕ) (s : State) → IsSoftware software → y.control ≡ InControl s → state_read y.plant software (told_text y) ≡ told_state software y.software s

module _ (a : ℕ) (y x : ComputerState) (same : x.plant ≡ y.plant) (known : IsSoftware x.software) (read : IsRead y) where
  text-read : (s : State) → y.control ≡ InControl s → offered_by x (told_text y) ≡ told_state x.software y.software s
  text-read s e = ap (λ p. state_read p x.software (told_text y)) same ∙ read x.software s known e

  text-told : (k : Control) → y.control ≡ k → with_text a (Some y) x ≡ after_told a y.software k x
  unfolding after_told
  text-told (InControl s) e = subst (λ z. cond (is_live (mode_of z)) (after_offer x a (offered_by x (told_text y))) x ≡ after_offer x a (told_state x.software y.software s)) (sym e) (ap (after_offer x a) (text-read s e))
  text-told ToAlign e = subst (λ z. cond (is_live (mode_of z)) (after_offer x a (offered_by x (told_text y))) x ≡ x) (sym e) refl
  text-told SwitchedOff e = subst (λ z. cond (is_live (mode_of z)) (after_offer x a (offered_by x (told_text y))) x ≡ x) (sym e) refl

  text-answered : (k : Control) → y.control ≡ k → text_answer a (Some y) (Some x) ≡ told_answer a y.software k x
  unfolding told_answer
  text-answered (InControl s) e = subst (λ z. cond (is_live (mode_of z)) (Some (offer_answer x a (offered_by x (told_text y)))) None ≡ Some (offer_answer x a (told_state x.software y.software s))) (sym e) (ap (λ r. Some (offer_answer x a r)) (text-read s e))
  text-answered ToAlign e = subst (λ z. cond (is_live (mode_of z)) (Some (offer_answer x a (offered_by x (told_text y)))) None ≡ None) (sym e) refl
  text-answered SwitchedOff e = subst (λ z. cond (is_live (mode_of z)) (Some (offer_answer x a (offered_by x (told_text y)))) None ≡ None) (sym e) refl

module _ (es : List Event) (w : WorldState) (a c : ℕ) (a3 : a < 3) (c3 : c < 3) (r : Represents es w) (read : (y : ComputerState) → slice_get w.computers a ≡ Some y → IsRead y) where
  pub tell-is : record w { computers = change_at w.computers c (with_text a (slice_get w.computers a)) } ≡ after w (Tell a c)
  unfolding after
  tell-is =
      let three = r.three in
      let y = get-below w.computers a (omega arith) in
      let x = get-below w.computers c (omega arith) in
      let ry = r.computers a y.0 y.1 in
      let rx = r.computers c x.0 x.1 in
      let known : IsSoftware x.0.software = subst IsSoftware (sym rx.software) (software-known c (history w.plant es)) in
      let is = text-told a y.0 x.0 (rx.plant ∙ sym ry.plant) known (read y.0 y.1) y.0.control refl in
      ap (λ xs. record w { computers = xs }) (subst (λ o. change_at w.computers c (with_text a o) ≡ change_at w.computers c (after_tell a o)) (sym y.1) (changed-alike w.computers c x.0 (with_text a (Some y.0)) (after_tell a (Some y.0)) x.1 is))

  pub tell-answered : text_answer a (slice_get w.computers a) (slice_get w.computers c) ≡ answer_to_offer w.plant c a (history w.plant es) (offered w.plant (history w.plant es) (Tell a c))
  tell-answered =
      let three = r.three in
      let y = get-below w.computers a (omega arith) in
      let x = get-below w.computers c (omega arith) in
      let ry = r.computers a y.0 y.1 in
      let rx = r.computers c x.0 x.1 in
      let known : IsSoftware x.0.software = subst IsSoftware (sym rx.software) (software-known c (history w.plant es)) in
      let is = text-answered a y.0 x.0 (rx.plant ∙ sym ry.plant) known (read y.0 y.1) y.0.control refl in
      ap (λ o. text_answer a o (slice_get w.computers c)) y.1 ∙ (ap (text_answer a (Some y.0)) x.1 ∙ (is ∙ tell-answer-represents w.plant c a (history w.plant es) y.0 x.0 ry rx))

pub vote-answer : (es : List Event) (w : WorldState) (k : ℕ) (b : Ballot) → k < length w.plant.thrusters.items → Represents es w → ((v : VoterState) → slice_get w.voters k ≡ Some v → b ≡ voter_ballot v) → b ≡ ballot k (history w.plant es)
vote-answer es w k b l r is =
    let t = voter-there es w k l r in
    is t.0 t.1 ∙ ballot-represents w.plant k (history w.plant es) t.0 (r.voters k t.0 t.1)

pub say-answer : (es : List Event) (w : WorldState) (a k n : ℕ) (g f : ℤ) (o : Took) → a < 3 → k < length w.plant.thrusters.items → g ≡ f → Represents es w → ((v : VoterState) → slice_get w.voters k ≡ Some v → o ≡ answer_of v a n g) → o ≡ answer w.plant k a (history w.plant es) (record { cycle = n; force = f })
say-answer es w a k n g f o a3 l same r is =
    let t = voter-there es w k l r in
    is t.0 t.1 ∙ (answer-represents w.plant k a (history w.plant es) (record { cycle = n; force = g }) t.0 a3 (r.voters k t.0 t.1) ∙ ap (λ z. answer w.plant k a (history w.plant es) (record { cycle = n; force = z })) same)

-- of an order with a message, and of one without
pub order-answer : (es : List Event) (w : WorldState) (a k n : ℕ) (g f : ℤ) (o : Took) → a < 3 → k < length w.plant.thrusters.items → g ≡ f → Some (record { cycle = n; force = f }) ≡ message_of k (last_of (slice_get w.computers a)) → Represents es w → ((v : VoterState) → slice_get w.voters k ≡ Some v → o ≡ answer_of v a n g) → Some o ≡ answer_if w.plant k a (history w.plant es) (message_of k (last_issue a (history w.plant es)))
unfolding answer_if
order-answer es w a k n g f o a3 l same says r is =
    ap Some (say-answer es w a k n g f o a3 l same r is) ∙ ap (answer_if w.plant k a (history w.plant es)) (says ∙ ap (message_of k) (last-represents es w a a3 r))

pub order-none : (es : List Event) (w : WorldState) (a k : ℕ) → a < 3 → None ≡ message_of k (last_of (slice_get w.computers a)) → Represents es w → None ≡ answer_if w.plant k a (history w.plant es) (message_of k (last_issue a (history w.plant es)))
unfolding answer_if
order-none es w a k a3 says r = ap (answer_if w.plant k a (history w.plant es)) (says ∙ ap (message_of k) (last-represents es w a a3 r))

-- ---- a world after an event

pub went-on : (es : List Event) (now new : WorldState) (d : Event) → new ≡ after now d → IsAllowed now d → Represents es now → Represents (d ∷ es) new
went-on es now new d n a r = subst (Represents (d ∷ es)) (sym n) (after-represents es now d a r)

pub plant-kept : (now new : WorldState) (d : Event) → new ≡ after now d → new.plant ≡ now.plant
plant-kept now new d n = ap (λ (w : WorldState). w.plant) n ∙ after-plant now d

pub wire-is : (w : WorldState) (f : Frame) (xs : List ComputerState) (vs : List VoterState) → xs ≡ map (λ x. after_wire x f) w.computers → vs ≡ map (λ v. begun v f.cycle) w.voters → f.cycle ≡ w.cycles_begun
    → record { plant = w.plant; computers = xs; voters = vs; cycles_begun = w.cycles_begun + 1 } ≡ after w (Wire f)
unfolding after
wire-is w f xs vs ex ev ec =
    let voters = ev ∙ ap (λ n. map (λ v. begun v n) w.voters) ec in
    rw (ex, voters)

pub order-unsaid : (now : WorldState) (a k : ℕ) → None ≡ message_of k (last_of (slice_get now.computers a)) → now ≡ after now (Order a k)
unfolding after
order-unsaid now a k says = ap (λ (vs : List VoterState). record now { voters = vs }) (sym (changed-same now.voters k)) ∙ ap (λ (o : Option Message). record now { voters = change_at now.voters k (after_order a o) }) says

pub say-said : (now new : WorldState) (a k n : ℕ) (g f : ℤ) → g ≡ f → new ≡ after now (Say a k n g) → new ≡ after now (Say a k n f)
say-said now new a k n g f same e = e ∙ ap (λ z. after now (Say a k n z)) same

pub order-said : (now new : WorldState) (a k n : ℕ) (g f : ℤ) → g ≡ f → Some (record { cycle = n; force = f }) ≡ message_of k (last_of (slice_get now.computers a)) → new ≡ after now (Say a k n g) → new ≡ after now (Order a k)
unfolding after
order-said now new a k n g f same says e = say-said now new a k n g f same e ∙ ap (λ (o : Option Message). record now { voters = change_at now.voters k (after_order a o) }) says

-- ---- a cycle's frame is heard by all, and each runs

advanced-computers : (xs : List ComputerState) (f : Frame) → length xs ≡ 3 → map (λ x. after_run (after_wire x f)) xs ≡ change_at (change_at (change_at (map (λ x. after_wire x f) xs) 0 after_run) 1 after_run) 2 after_run
advanced-computers [] f e = absurd (omega (arith, e))
advanced-computers (x ∷ []) f e = absurd (omega (arith, e))
advanced-computers (x ∷ y ∷ []) f e = absurd (omega (arith, e))
advanced-computers (x ∷ y ∷ z ∷ []) f e = refl
advanced-computers (x ∷ y ∷ z ∷ u ∷ us) f e = absurd (omega (arith, e))

abbrev pub advanced : WorldState → Frame → WorldState
advanced w f = after (after (after (after w (Wire f)) (Run 0)) (Run 1)) (Run 2)

pub advance-is : (w : WorldState) (f : Frame) (xs : List ComputerState) (vs : List VoterState) → length w.computers ≡ 3 → xs ≡ map (λ x. after_run (after_wire x f)) w.computers → vs ≡ map (λ v. begun v f.cycle) w.voters → f.cycle ≡ w.cycles_begun
    → record { plant = w.plant; computers = xs; voters = vs; cycles_begun = w.cycles_begun + 1 } ≡ advanced w f
unfolding after
advance-is w f xs vs three ex ev ec =
    let voters = ev ∙ ap (λ n. map (λ v. begun v n) w.voters) ec in
    let computers = ex ∙ advanced-computers w.computers f three in
    rw (computers, voters)

pub advanced-represents : (es : List Event) (now new : WorldState) (f : Frame) → new ≡ advanced now f → IsAllowed now (Wire f) → Represents es now → Represents (Run 2 ∷ Run 1 ∷ Run 0 ∷ Wire f ∷ es) new
advanced-represents es now new f n allowed r =
    let w = after now (Wire f) in
    let x = after w (Run 0) in
    let y = after x (Run 1) in
    let heard = after-represents es now (Wire f) allowed r in
    let first = after-represents (Wire f ∷ es) w (Run 0) (omega arith) heard in
    let second = after-represents (Run 0 ∷ Wire f ∷ es) x (Run 1) (omega arith) first in
    let third = after-represents (Run 1 ∷ Run 0 ∷ Wire f ∷ es) y (Run 2) (omega arith) second in
    subst (Represents (Run 2 ∷ Run 1 ∷ Run 0 ∷ Wire f ∷ es)) (sym n) third

-- ---- the orders of a computer to all voters

sent-after : (es : List Event) (w : WorldState) (a : ℕ) (x : Issue) (n : ℕ) → a < 3 → n ≤ length w.plant.thrusters.items → last_of (slice_get w.computers a) ≡ Some x → Represents es w → Represents (order_events a n es) (record w { voters = sent a x n w.voters })
unfolding order_events sent after
sent-after es w a x zero a3 l is r = r
sent-after es w a x (suc n) a3 l is r =
    let so_far = sent-after es w a x n a3 (omega (arith, l)) is r in
    let v = record w { voters = sent a x n w.voters } in
    let next = after-represents (order_events a n es) v (Order a n) (a3, omega (arith, l)) so_far in
    subst (λ (o : Option Issue). Represents (Order a n ∷ order_events a n es) (record v { voters = change_at v.voters n (after_order a (message_of n o)) })) is next

unsent-after : (es : List Event) (w : WorldState) (a n : ℕ) → a < 3 → n ≤ length w.plant.thrusters.items → last_of (slice_get w.computers a) ≡ None → Represents es w → Represents (order_events a n es) w
unfolding order_events message_of
unsent-after es w a zero a3 l is r = r
unsent-after es w a (suc n) a3 l is r =
    let so_far = unsent-after es w a n a3 (omega (arith, l)) is r in
    let same = order-unsaid w a n (sym (ap (message_of n) is)) in
    went-on (order_events a n es) w w (Order a n) same (a3, omega (arith, l)) so_far

pub sent-represents : (es : List Event) (now : WorldState) (a : ℕ) (vs : List VoterState) (o : Option Issue) → a < 3 → last_of (slice_get now.computers a) ≡ o → vs ≡ sent_by a o now.voters → Represents es now → Represents (order_events a (length now.plant.thrusters.items) es) (record now { voters = vs })
sent-represents es now a vs None a3 last is r =
    subst (λ (us : List VoterState). Represents (order_events a (length now.plant.thrusters.items) es) (record now { voters = us })) (sym is) (unsent-after es now a (length now.plant.thrusters.items) a3 (omega arith) last r)
sent-represents es now a vs (Some x) a3 last is r =
    let n = length now.plant.thrusters.items in
    let all : sent a x (length now.voters) now.voters ≡ sent a x n now.voters = ap (λ (m : ℕ). sent a x m now.voters) r.thrusters in
    subst (λ (us : List VoterState). Represents (order_events a n es) (record now { voters = us })) (sym (is ∙ all)) (sent-after es now a x n a3 (omega arith) last r)

-- ---- in code: one voter after another

pub sent-length : (a : ℕ) (x : Issue) (n : ℕ) (vs : List VoterState) → length (sent a x n vs) ≡ length vs
unfolding sent
sent-length a x zero vs = refl
sent-length a x (suc n) vs = changed-length (sent a x n vs) n (after_order a (message_of n (Some x))) ∙ sent-length a x n vs

pub sent-count : (a : ℕ) (o : Option Issue) (vs : List VoterState) → length (sent_by a o vs) ≡ length vs
sent-count a None vs = refl
sent-count a (Some x) vs = sent-length a x (length vs) vs

pub sent-view : (es : List Event) (w now : WorldState) (a : ℕ) (vs : List VoterState) → w ≡ now → a < 3 → vs ≡ sent_by a (last_of (slice_get w.computers a)) w.voters → Represents es now → Represents (order_events a (length now.plant.thrusters.items) es) (record w { voters = vs })
sent-view es w now a vs same a3 is r =
    let old : Represents es w = subst (Represents es) (sym same) r in
    subst (λ (v : WorldState). Represents (order_events a (length v.plant.thrusters.items) es) (record w { voters = vs })) same (sent-represents es w a vs (last_of (slice_get w.computers a)) a3 refl is old)

-- an issue with no force for this voter
pub sent-nothing : (a : ℕ) (x : Issue) (k : ℕ) (vs : List VoterState) → slice_get x.forces.items k ≡ None → vs ≡ change_at vs k (after_order a (message_of k (Some x)))
unfolding message_of
sent-nothing a x k vs none =
    let says : None ≡ message_of k (Some x) = sym (ap (option_map (λ (f : ℤ). record { cycle = x.cycle; force = f })) none) in
    sym (changed-same vs k) ∙ ap (λ (o : Option Message). change_at vs k (after_order a o)) says

-- the voter at k was read, and what it is after the order was written
pub sent-one : (a : ℕ) (x : Issue) (k : ℕ) (vs new : List VoterState) (v y : VoterState) (g f : ℤ) (t : Took) → slice_get x.forces.items k ≡ Some f → k < length vs → v ≡ get_or vs k v → g ≡ f → y ≡ ordered (get_or vs k v) a g t → t ≡ answer_of (get_or vs k v) a x.cycle g → new ≡ set vs k y → new ≡ change_at vs k (after_order a (message_of k (Some x)))
unfolding message_of
sent-one a x k vs new v y g f t there l read same o q written =
    let says : Some (record { cycle = x.cycle; force = f }) ≡ message_of k (Some x) = sym (ap (option_map (λ (z : ℤ). record { cycle = x.cycle; force = z })) there) in
    let y_is = say-is (get_or vs k v) y a x.cycle g f t same o q in
    changed-read vs vs new k v y (after_order a (Some (record { cycle = x.cycle; force = f }))) refl l read y_is written
    ∙ ap (λ (m : Option Message). change_at vs k (after_order a m)) says

pub sent-next : (a : ℕ) (x : Issue) (k : ℕ) (vs now new : List VoterState) → now ≡ sent a x k vs → new ≡ change_at now k (after_order a (message_of k (Some x))) → new ≡ sent a x (k + 1) vs
unfolding sent
sent-next a x k vs now new is e =
    let next : suc k ≡ k + 1 = omega arith in
    subst (λ (n : ℕ). new ≡ sent a x n vs) next (e ∙ ap (λ (us : List VoterState). change_at us k (after_order a (message_of k (Some x)))) is)

pub sent-none_yet : (a : ℕ) (x : Issue) (vs : List VoterState) → vs ≡ sent a x 0 vs
unfolding sent
sent-none_yet a x vs = refl

refilled : (vs us : List VoterState) → length us ≡ length vs → refill (length vs) vs us ≡ us
refilled [] [] e = refl
refilled [] (u ∷ us) e = absurd (omega (arith, e))
refilled (v ∷ vs) [] e = absurd (omega (arith, e))
refilled (v ∷ vs) (u ∷ us) e = ap (λ ws. u ∷ ws) (refilled vs us (omega (arith, e)))

-- the voters as one slice, written back
pub sent-back : (a : ℕ) (x : Issue) (vs us new : List VoterState) → us ≡ sent a x (length vs) vs → new ≡ refill (length vs) vs us → new ≡ sent a x (length vs) vs
sent-back a x vs us new is e =
    let same : length us ≡ length vs = ap length is ∙ sent-length a x (length vs) vs in
    e ∙ (refilled vs us same ∙ is)

-- ---- what is seen of an event

module _ (p : Plant) (h : List Moment) (e : Event) where
  pub seen-wire : (f : Frame) (hs : List Heard) → hs ≡ answers_to_wire p h → e ≡ Wire f → SeenHeard hs ≡ seen_of p h e
  unfolding seen_of
  seen-wire f hs a is = rw is (ap SeenHeard a)

  pub seen-run : (c : ℕ) (o : Ran) → o ≡ answer_to_run p c h (modes.mode c h) → e ≡ Run c → SeenRan o ≡ seen_of p h e
  unfolding seen_of
  seen-run c o a is = rw is (ap SeenRan a)

  pub seen-order : (a k : ℕ) (o : Option Took) → o ≡ answer_if p k a h (message_of k (last_issue a h)) → e ≡ Order a k → SeenSent o ≡ seen_of p h e
  unfolding seen_of
  seen-order a k o q is = rw is (ap SeenSent q)

  pub seen-vote : (k : ℕ) (b : Ballot) → b ≡ ballot k h → e ≡ Vote k → SeenVoted b ≡ seen_of p h e
  unfolding seen_of
  seen-vote k b q is = rw is (ap SeenVoted q)

  pub seen-skew : (c : ℕ) (at : Place) (b : Bool) → b ≡ is_live (modes.mode c h) → e ≡ Skew c at → SeenSkewed b ≡ seen_of p h e
  unfolding seen_of
  seen-skew c at b q is = rw is (ap SeenSkewed q)

  pub seen-say : (a k n : ℕ) (g f : ℤ) (o : Took) → o ≡ answer p k a h (record { cycle = n; force = g }) → g ≡ f → e ≡ Say a k n f → SeenSent (Some o) ≡ seen_of p h e
  unfolding seen_of
  seen-say a k n g f o q same is = rw is (ap (λ t. SeenSent (Some t)) (q ∙ ap (λ z. answer p k a h (record { cycle = n; force = z })) same))

  pub seen-stop : (c : ℕ) → e ≡ Stop c → SeenDone ≡ seen_of p h e
  unfolding seen_of
  seen-stop c is = rw is

  pub seen-tell : (a c : ℕ) (o : Option Offer) → o ≡ answer_to_offer p c a h (offered p h (Tell a c)) → e ≡ Tell a c → SeenOffered o ≡ seen_of p h e
  unfolding seen_of
  seen-tell a c o q is = rw is (ap SeenOffered q)

  pub seen-lie : (a c : ℕ) (bytes : ArrayVec ℕ) (text : List ℕ) (o : Offer) → o ≡ answer_in p c a h (state_read p (modes.software c h) text) (modes.mode c h) → text ≡ bytes.items → e ≡ Lie a c bytes → SeenOffered (Some o) ≡ seen_of p h e
  unfolding seen_of offered offer_by answer_to_offer
  seen-lie a c bytes text o q same is = rw is (ap (λ t. SeenOffered (Some t)) (q ∙ ap (λ z. answer_in p c a h (state_read p (modes.software c h) z) (modes.mode c h)) same))

  pub seen-restart : (c : ℕ) → e ≡ Restart c → SeenDone ≡ seen_of p h e
  unfolding seen_of
  seen-restart c is = rw is

  pub seen-upgrade : (c : ℕ) → e ≡ Upgrade c → SeenDone ≡ seen_of p h e
  unfolding seen_of
  seen-upgrade c is = rw is

-- ---- a new world

same-of_three : {A : Type 0} (y x : A) (c : ℕ) → slice_get (y ∷ y ∷ y ∷ []) c ≡ Some x → y ≡ x
same-of_three y x zero e = cc
same-of_three y x (suc zero) e = cc
same-of_three y x (suc (suc zero)) e = cc
same-of_three y x (suc (suc (suc c))) e = cc

voter-limits : (p : Plant) (k : ℕ) (t : Thruster) → slice_get p.thrusters.items k ≡ Some t → new_voter (low_of p k) (high_of p k) ≡ voter_of t
unfolding low_of high_of
voter-limits p k t e = rw e

pub map-get : {A B : Type 0} (xs : List A) (j : ℕ) (f : A → B) (y : B) → slice_get (map f xs) j ≡ Some y → (x : A) × (slice_get xs j ≡ Some x) × (f x ≡ y)
map-get [] j f y e = cc
map-get (x ∷ xs) zero f y e = (x, refl, cc)
map-get (x ∷ xs) (suc j) f y e = map-get xs j f y e

map-count : {A B : Type 0} (xs : List A) (f : A → B) → length (map f xs) ≡ length xs
map-count [] f = refl
map-count (x ∷ xs) f = (let t = map-count xs f in omega arith)

pub new-represents : (p : Plant) (x y z : ComputerState) (vs : List VoterState) → x ≡ first_computer p → y ≡ first_computer p → z ≡ first_computer p → vs ≡ map voter_of p.thrusters.items → Represents [] (record { plant = p; computers = x ∷ y ∷ z ∷ []; voters = vs; cycles_begun = 0 })
unfolding history frames
new-represents p x y z vs ex ey ez ev = rw (ex, ey, ez, ev) (record {
  computers = λ c x e. subst (ComputerRepresents p c []) (same-of_three (first_computer p) x c e) (computer-first p c);
  three = refl;
  voters = λ k v e. (
      let t = map-get p.thrusters.items k voter_of v e in
      subst (VoterRepresents p k []) (voter-limits p k t.0 t.1 ∙ t.2) (voter-first p k));
  thrusters = map-count p.thrusters.items voter_of;
  cycles = refl;
})

first-in_step : (p : Plant) → IsInStep 0 (first_computer p)
unfolding first_computer
first-in_step p = λ o. refl

first-of_plant : (p : Plant) → (first_computer p).plant ≡ p
unfolding first_computer
first-of_plant p = refl

pub new-of_plant : (p q : Plant) (x y z : ComputerState) → q ≡ p → x ≡ first_computer p → y ≡ first_computer p → z ≡ first_computer p → (c : ℕ) (a : ComputerState) → slice_get (x ∷ y ∷ z ∷ []) c ≡ Some a → a.plant ≡ q
new-of_plant p q x y z eq ex ey ez zero a e = (let same : a ≡ x = cc in ap (λ (w : ComputerState). w.plant) (same ∙ ex) ∙ first-of_plant p ∙ sym eq)
new-of_plant p q x y z eq ex ey ez (suc zero) a e = (let same : a ≡ y = cc in ap (λ (w : ComputerState). w.plant) (same ∙ ey) ∙ first-of_plant p ∙ sym eq)
new-of_plant p q x y z eq ex ey ez (suc (suc zero)) a e = (let same : a ≡ z = cc in ap (λ (w : ComputerState). w.plant) (same ∙ ez) ∙ first-of_plant p ∙ sym eq)
new-of_plant p q x y z eq ex ey ez (suc (suc (suc c))) a e = cc

pub new-in_step : (p : Plant) (x y z : ComputerState) → x ≡ first_computer p → y ≡ first_computer p → z ≡ first_computer p → (c : ℕ) (a : ComputerState) → slice_get (x ∷ y ∷ z ∷ []) c ≡ Some a → IsInStep 0 a
new-in_step p x y z ex ey ez zero a e = (let same : x ≡ a = cc in subst (IsInStep 0) (sym ex ∙ same) (first-in_step p))
new-in_step p x y z ex ey ez (suc zero) a e = (let same : y ≡ a = cc in subst (IsInStep 0) (sym ey ∙ same) (first-in_step p))
new-in_step p x y z ex ey ez (suc (suc zero)) a e = (let same : z ≡ a = cc in subst (IsInStep 0) (sym ez ∙ same) (first-in_step p))
new-in_step p x y z ex ey ez (suc (suc (suc c))) a e = cc

pub new-length : (p : Plant) (vs : List VoterState) → vs ≡ map voter_of p.thrusters.items → length vs ≡ length p.thrusters.items
new-length p vs e = ap length e ∙ map-count p.thrusters.items voter_of

pub copied-represents : (q p : Plant) (x y z : ComputerState) (vs : List VoterState) → q ≡ p → x ≡ first_computer p → y ≡ first_computer p → z ≡ first_computer p → vs ≡ map voter_of p.thrusters.items → Represents [] (record { plant = q; computers = x ∷ y ∷ z ∷ []; voters = vs; cycles_begun = 0 })
copied-represents q p x y z vs e ex ey ez ev = subst (λ r. Represents [] (record { plant = r; computers = x ∷ y ∷ z ∷ []; voters = vs; cycles_begun = 0 })) (sym e) (new-represents p x y z vs ex ey ez ev)

-- ---- what the accessors show

shown : {A : Type 0} (items vs : List A) (k : ℕ) (x : A) → items ≡ vs → k < length items → x ≡ get_or items k x → slice_get vs k ≡ Some x
shown items vs k x e l r = subst (λ xs. slice_get xs k ≡ Some x) e (read-at items k x l r)

pub mode-shown : (es : List Event) (w : WorldState) (items : List ComputerState) (c : ℕ) (x : ComputerState) (m : Mode) → items ≡ w.computers → c < length items → x ≡ get_or items c x → m ≡ mode_of (get_or items c x).control → Represents es w → m ≡ modes.mode c (history w.plant es)
mode-shown es w items c x m e l r is rep =
    let h = history w.plant es in
    is ∙ (ap (λ (y : ComputerState). mode_of y.control) (sym r) ∙ (ap mode_of (rep.computers c x (shown items w.computers c x e l r)).control ∙ mode_of-control (modes.mode c h) (trajectory w.plant c h)))

pub issue-shown : (es : List Event) (w : WorldState) (items : List ComputerState) (c : ℕ) (x : ComputerState) (o : Option Issue) → items ≡ w.computers → c < length items → x ≡ get_or items c x → o ≡ (get_or items c x).last → Represents es w → o ≡ last_issue c (history w.plant es)
issue-shown es w items c x o e l r is rep =
    is ∙ (ap (λ (y : ComputerState). y.last) (sym r) ∙ (rep.computers c x (shown items w.computers c x e l r)).last)

pub held-shown : (es : List Event) (w : WorldState) (items : List VoterState) (k : ℕ) (v : VoterState) (os : List (Option ℤ)) → items ≡ w.voters → k < length items → v ≡ get_or items k v → os ≡ v.orders → Represents es w → os ≡ taken_forces k (history w.plant es)
held-shown es w items k v os e l r is rep = is ∙ (rep.voters k v (shown items w.voters k v e l r)).orders
