-- A voter represents the moments: what each of its calls keeps.
use Rattle.dp_core.specs.Voting as voting
use Rattle.std.proofs.Common.{List, None, Option, Some, [], ap, arith, cond, eqb, false, inl, inr, is_some, length, length-append, min, refl, slice_set, subst, suc, sym, true, unwrap_or, zero, ℕ, ℤ, ◌&&◌, ◌++◌, ◌-◌, ◌<◌, ◌∙◌, ◌∷◌, ◌≡◌}
use Rattle.std.proofs.lemmas.Bool.{and_from, and_left, and_right, cases_Bool, eq-eqb, eqb-true, ne_eqb}
use Rattle.std.specs.Prelude.{nat_le}
use Rattle.dp_core.proofs.Moments.{moment}
use Rattle.dp_core.proofs.Trajectories.{frames-kept}
use Rattle.dp_core.specs.History.{history, seen_of}
use Rattle.dp_core.specs.Mode.{cycles_begun, frames}
use Rattle.dp_core.specs.Moment.{Moment, ballot_at, frame_of, fresh_of, is_order, is_vote, is_wire, saw_ballot, saw_taken}
use Rattle.dp_core.specs.Represents.{VoterRepresents, newest_cycle}
use Rattle.dp_core.specs.Trajectory.{last_issue}
use Rattle.dp_core.specs.Voting.{Message, agreed_force, answer, answer_if, ballot, force_said, given_ballot, high_of, last_fresh, low_of, message_in, message_of, taken_force, unfresh_cycles}
use Rattle.dp_core.specs.declared.event.Seen.TheVariants.{Sent as SeenSent}
use Rattle.std.specs.Option.{option_or}
use Rattle.dp_core.specs.declared.event.Event.{Event}
use Rattle.dp_core.specs.declared.event.Event.TheVariants.{Lie, Order, Restart, Run, Say, Skew, Stop, Tell, Upgrade, Vote, Wire}
use Rattle.dp_plant.specs.declared.frames.Frame.{Frame}
use Rattle.dp_plant.specs.declared.plant.Plant.{Plant}
use Rattle.dp_plant.specs.declared.voting.Ballot.{Ballot}
use Rattle.dp_plant.specs.declared.voting.Ballot.TheVariants.{Fresh, Held, Zero}
use Rattle.dp_voter.specs.Ballots.{agreed_of, ballot_from, ballot_given, ballot_of as voter_ballot, first_ballot, held_forces, voted, voted_after, with_ballot}
use Rattle.dp_voter.specs.Orders.{answer_of, is_cycle, order_of, ordered}
use Rattle.dp_voter.specs.VoterState.{VoterState, begun, new_voter}
use Rattle.dp_voter.specs.declared.order.Took.{Took}
use Rattle.dp_voter.specs.declared.order.Took.TheVariants.{Taken}

-- ---- a new voter

pub voter-first : (p : Plant) (k : ℕ) → VoterRepresents p k [] (new_voter (low_of p k) (high_of p k))
unfolding frames taken_force given_ballot last_fresh unfresh_cycles newest_cycle
voter-first p k = record { low = refl; high = refl; cycle = refl; orders = refl; ballot = refl; last_fresh = refl; run = refl }

-- ---- a Wire

pub voter-begun : (p : Plant) (k : ℕ) (h : List Moment) (f : Frame) (v : VoterState) → VoterRepresents p k h v → VoterRepresents p k (moment p h (Wire f) ∷ h) (begun v (cycles_begun h))
unfolding frames frame_of taken_force given_ballot last_fresh unfresh_cycles newest_cycle ballot_at is_wire is_vote fresh_of
voter-begun p k h f v s =
    let u = s.run in
    let one_more : length (frames h ++ f ∷ []) ≡ suc (length (frames h)) = omega (arith, length-append (frames h) (f ∷ [])) in
    record {
      low = s.low;
      high = s.high;
      cycle = rw one_more;
      orders = refl;
      ballot = refl;
      last_fresh = s.last_fresh;
      run = omega arith;
    }

-- ---- a moment that is nothing to a voter

pub record IsNoVote (k : ℕ) (m : Moment) : Type 0 where
  pub no_wire : is_wire m.event ≡ false
  pub no_frame : frame_of m.event ≡ []
  pub no_order : (a : ℕ) → (is_order a k m.event && saw_taken m.seen) ≡ false
  pub no_ballot : ballot_at k m ≡ None

or-none : (o : Option Ballot) → option_or o None ≡ o
or-none None = refl
or-none (Some b) = refl

pub taken-kept : (k a : ℕ) (m : Moment) (h : List Moment) → is_wire m.event ≡ false → (is_order a k m.event && saw_taken m.seen) ≡ false → taken_force k a (m ∷ h) ≡ taken_force k a h
unfolding taken_force
taken-kept k a m h w o = rw (w, o)

pub given-kept : (k : ℕ) (m : Moment) (h : List Moment) → is_wire m.event ≡ false → ballot_at k m ≡ None → given_ballot k (m ∷ h) ≡ given_ballot k h
unfolding given_ballot
given-kept k m h w b = rw (w, b) (or-none (given_ballot k h))

pub last_fresh-kept : (k : ℕ) (m : Moment) (h : List Moment) → ballot_at k m ≡ None → last_fresh k (m ∷ h) ≡ last_fresh k h
unfolding last_fresh fresh_of
last_fresh-kept k m h b = rw b

pub unfresh-kept : (k : ℕ) (m : Moment) (h : List Moment) → is_wire m.event ≡ false → ballot_at k m ≡ None → unfresh_cycles k (m ∷ h) ≡ unfresh_cycles k h
unfolding unfresh_cycles fresh_of
unfresh-kept k m h w b = rw (w, b)

pub voter-kept : (p : Plant) (k : ℕ) (m : Moment) (h : List Moment) (v : VoterState) → IsNoVote k m → VoterRepresents p k h v → VoterRepresents p k (m ∷ h) v
voter-kept p k m h v n s = record {
  low = s.low;
  high = s.high;
  cycle = rw (frames-kept m h n.no_frame) s.cycle;
  orders = rw (taken-kept k 0 m h n.no_wire (n.no_order 0), taken-kept k 1 m h n.no_wire (n.no_order 1), taken-kept k 2 m h n.no_wire (n.no_order 2)) s.orders;
  ballot = rw (given-kept k m h n.no_wire n.no_ballot) s.ballot;
  last_fresh = rw (last_fresh-kept k m h n.no_ballot) s.last_fresh;
  run = rw (unfresh-kept k m h n.no_wire n.no_ballot) s.run;
}

-- ---- an order

order_of-three : (k a : ℕ) (h : List Moment) → a < 3 → order_of (taken_force k 0 h ∷ taken_force k 1 h ∷ taken_force k 2 h ∷ []) a ≡ taken_force k a h
order_of-three k zero h l = refl
order_of-three k (suc zero) h l = refl
order_of-three k (suc (suc zero)) h l = refl
order_of-three k (suc (suc (suc a))) h l = absurd (omega arith)

eqb-suc : (n c : ℕ) → eqb (suc n) (suc c) ≡ eqb n c
eqb-suc n c = grind arith

cycle-is : (n cycle : ℕ) → is_cycle (newest_cycle n) cycle ≡ eqb n (suc cycle)
unfolding newest_cycle
cycle-is zero cycle = sym (ne_eqb 0 (suc cycle) (λ q. omega arith))
cycle-is (suc n) cycle = sym (eqb-suc n cycle)

cycle-told : (n : ℕ) → unwrap_or (newest_cycle n) 0 ≡ n - 1
unfolding newest_cycle
cycle-told zero = refl
cycle-told (suc n) = omega arith

pub answer-represents : (p : Plant) (k a : ℕ) (h : List Moment) (b : Message) (v : VoterState) → a < 3 → VoterRepresents p k h v → answer_of v a b.cycle b.force ≡ answer p k a h b
unfolding answer
answer-represents p k a h b v l s =
    let o : order_of v.orders a ≡ taken_force k a h = ap (λ xs. order_of xs a) s.orders ∙ order_of-three k a h l in
    let c : is_cycle v.cycle b.cycle ≡ eqb (cycles_begun h) (suc b.cycle) = ap (λ n. is_cycle n b.cycle) s.cycle ∙ cycle-is (cycles_begun h) b.cycle in
    let t : unwrap_or v.cycle 0 ≡ cycles_begun h - 1 = ap (λ n. unwrap_or n 0) s.cycle ∙ cycle-told (cycles_begun h) in
    rw (c, t, s.ballot, s.low, s.high, o)

-- an event that is the order b of a to the voter k
pub record IsOrderOf (p : Plant) (k a : ℕ) (h : List Moment) (e : Event) (b : Message) : Type 0 where
  pub order : is_order a k e ≡ true
  pub others : (d : ℕ) → (d ≡ a → ⊥) → is_order d k e ≡ false
  pub says : message_in h e ≡ Some b
  pub sent : seen_of p h e ≡ SeenSent (Some (answer p k a h b))
  pub no_wire : is_wire e ≡ false
  pub no_frame : frame_of e ≡ []
  pub no_ballot : ballot_at k (moment p h e) ≡ None

taken-now : (p : Plant) (k a : ℕ) (h : List Moment) (e : Event) (b : Message) → IsOrderOf p k a h e b → saw_taken (seen_of p h e) ≡ true → taken_force k a (moment p h e ∷ h) ≡ Some b.force
unfolding taken_force force_said
taken-now p k a h e b o t = rw (o.no_wire, o.order, t, o.says)

taken-other : (p : Plant) (k a d : ℕ) (h : List Moment) (e : Event) (b : Message) → IsOrderOf p k a h e b → (d ≡ a → ⊥) → taken_force k d (moment p h e ∷ h) ≡ taken_force k d h
unfolding taken_force
taken-other p k a d h e b o n = rw (o.no_wire, o.others d n)

set-three : (p : Plant) (k a : ℕ) (h : List Moment) (e : Event) (b : Message) → a < 3 → IsOrderOf p k a h e b → saw_taken (seen_of p h e) ≡ true → slice_set (taken_force k 0 h ∷ taken_force k 1 h ∷ taken_force k 2 h ∷ []) a (Some b.force) ≡ taken_force k 0 (moment p h e ∷ h) ∷ taken_force k 1 (moment p h e ∷ h) ∷ taken_force k 2 (moment p h e ∷ h) ∷ []
set-three p k zero h e b l o t = rw (taken-now p k 0 h e b o t, taken-other p k 0 1 h e b o (λ q. omega arith), taken-other p k 0 2 h e b o (λ q. omega arith))
set-three p k (suc zero) h e b l o t = rw (taken-now p k 1 h e b o t, taken-other p k 1 0 h e b o (λ q. omega arith), taken-other p k 1 2 h e b o (λ q. omega arith))
set-three p k (suc (suc zero)) h e b l o t = rw (taken-now p k 2 h e b o t, taken-other p k 2 0 h e b o (λ q. omega arith), taken-other p k 2 1 h e b o (λ q. omega arith))
set-three p k (suc (suc (suc a))) h e b l o t = absurd (omega arith)

refused-no_order : (p : Plant) (k a : ℕ) (h : List Moment) (e : Event) (b : Message) → IsOrderOf p k a h e b → saw_taken (seen_of p h e) ≡ false → IsNoVote k (moment p h e)
refused-no_order p k a h e b o t = record {
  no_wire = o.no_wire;
  no_frame = o.no_frame;
  no_ballot = o.no_ballot;
  no_order = λ d. and_right (is_order d k e) (saw_taken (seen_of p h e)) t;
}

voter-ordered_by : (p : Plant) (k a : ℕ) (h : List Moment) (e : Event) (b : Message) (v : VoterState) (t : Took) → a < 3 → IsOrderOf p k a h e b → answer p k a h b ≡ t → VoterRepresents p k h v → VoterRepresents p k (moment p h e ∷ h) (ordered v a b.force t)
unfolding saw_taken
voter-ordered_by p k a h e b v Taken l o is s =
    let m = moment p h e in
    let t : saw_taken (seen_of p h e) ≡ true = rw (o.sent, is) in
    record {
      low = s.low;
      high = s.high;
      cycle = rw (frames-kept m h o.no_frame) s.cycle;
      orders = rw s.orders (set-three p k a h e b l o t);
      ballot = rw (given-kept k m h o.no_wire o.no_ballot) s.ballot;
      last_fresh = rw (last_fresh-kept k m h o.no_ballot) s.last_fresh;
      run = rw (unfresh-kept k m h o.no_wire o.no_ballot) s.run;
    }
voter-ordered_by p k a h e b v _ l o is s =
    voter-kept p k (moment p h e) h v (refused-no_order p k a h e b o (rw (o.sent, is))) s

pub voter-ordered : (p : Plant) (k a : ℕ) (h : List Moment) (e : Event) (b : Message) (v : VoterState) → a < 3 → IsOrderOf p k a h e b → VoterRepresents p k h v → VoterRepresents p k (moment p h e ∷ h) (ordered v a b.force (answer_of v a b.cycle b.force))
voter-ordered p k a h e b v l o s = subst (λ t. VoterRepresents p k (moment p h e ∷ h) (ordered v a b.force t)) (sym (answer-represents p k a h b v l s)) (voter-ordered_by p k a h e b v (answer p k a h b) l o refl s)

pub IsOrderOf-say : (p : Plant) (k a cycle : ℕ) (force : ℤ) (h : List Moment) → IsOrderOf p k a h (Say a k cycle force) (record { cycle = cycle; force = force })
unfolding is_order message_in seen_of is_wire frame_of ballot_at is_vote
IsOrderOf-say p k a cycle force h = record {
  order = and_from (eqb a a) (eqb k k) (eq-eqb a a refl) (eq-eqb k k refl);
  others = λ d n. and_left (eqb a d) (eqb k k) (ne_eqb a d (λ q. n (sym q)));
  says = refl;
  sent = refl;
  no_wire = refl;
  no_frame = refl;
  no_ballot = refl;
}

pub IsOrderOf-order : (p : Plant) (k a : ℕ) (h : List Moment) (x : Message) → message_of k (last_issue a h) ≡ Some x → IsOrderOf p k a h (Order a k) x
unfolding is_order message_in seen_of is_wire frame_of ballot_at is_vote answer_if
IsOrderOf-order p k a h x l = record {
  order = and_from (eqb a a) (eqb k k) (eq-eqb a a refl) (eq-eqb k k refl);
  others = λ d n. and_left (eqb a d) (eqb k k) (ne_eqb a d (λ q. n (sym q)));
  says = l;
  sent = rw l;
  no_wire = refl;
  no_frame = refl;
  no_ballot = refl;
}

-- ---- a vote

-- counted up to 6 is as good
few : (o : Option ℤ) (n : ℕ) (last : ℤ) → ballot_from o (min 6 n) last ≡ ballot_from o n last
few (Some f) n last = refl
few None n last = (let e : nat_le (min 6 n) 5 ≡ nat_le n 5 = grind arith in rw e)

first_ballot-represents : (p : Plant) (k : ℕ) (h : List Moment) (v : VoterState) → VoterRepresents p k h v → first_ballot v ≡ ballot_from (agreed_force k h) (unfresh_cycles k h) (last_fresh k h)
unfolding agreed_force
first_ballot-represents p k h v s =
    let a : agreed_of (held_forces v.orders) ≡ agreed_force k h = ap (λ xs. agreed_of (held_forces xs)) s.orders in
    ap (λ o. ballot_from o v.run v.last_fresh) a
    ∙ (ap (λ n. ballot_from (agreed_force k h) n v.last_fresh) s.run
    ∙ (ap (λ f. ballot_from (agreed_force k h) (min 6 (unfresh_cycles k h)) f) s.last_fresh
    ∙ few (agreed_force k h) (unfresh_cycles k h) (last_fresh k h)))

ballot_by : (v : VoterState) (o : Option Ballot) (b : Ballot) → first_ballot v ≡ b → ballot_given v o ≡ unwrap_or o b
ballot_by v None b e = e
ballot_by v (Some a) b e = refl

pub ballot-represents : (p : Plant) (k : ℕ) (h : List Moment) (v : VoterState) → VoterRepresents p k h v → voter_ballot v ≡ ballot k h
unfolding ballot
ballot-represents p k h v s =
    ap (ballot_given v) s.ballot ∙ ballot_by v (given_ballot k h) (ballot_from (agreed_force k h) (unfresh_cycles k h) (last_fresh k h)) (first_ballot-represents p k h v s)

-- a fresh ballot of this cycle is the last fresh one
pub record FreshIsLast (k : ℕ) (h : List Moment) : Type 0 where
  pub last : (f : ℤ) → given_ballot k h ≡ Some (Fresh f) → last_fresh k h ≡ f
  pub none_since : (f : ℤ) → given_ballot k h ≡ Some (Fresh f) → unfresh_cycles k h ≡ 0

-- what a Vote of k gives
vote-gives : (p : Plant) (k : ℕ) (h : List Moment) → ballot_at k (moment p h (Vote k)) ≡ Some (ballot k h)
unfolding ballot_at is_vote saw_ballot seen_of
vote-gives p k h = (let e : eqb k k ≡ true = eq-eqb k k refl in rw e)

pub given-voted : (p : Plant) (k : ℕ) (h : List Moment) (o : Option Ballot) → given_ballot k h ≡ o → given_ballot k (moment p h (Vote k) ∷ h) ≡ Some (ballot k h)
unfolding given_ballot is_wire ballot
given-voted p k h (Some b) g = rw g
given-voted p k h None g = rw (g, vote-gives p k h) (ap Some (rw g))

last_fresh-voted : (p : Plant) (k : ℕ) (h : List Moment) → last_fresh k (moment p h (Vote k) ∷ h) ≡ unwrap_or (fresh_of (Some (ballot k h))) (last_fresh k h)
unfolding last_fresh
last_fresh-voted p k h = rw (vote-gives p k h)

unfresh-voted : (p : Plant) (k : ℕ) (h : List Moment) → unfresh_cycles k (moment p h (Vote k) ∷ h) ≡ cond (is_some (fresh_of (Some (ballot k h)))) 0 (unfresh_cycles k h)
unfolding unfresh_cycles is_wire
unfresh-voted p k h = rw (vote-gives p k h)

fresh-voted : (p : Plant) (k : ℕ) (h : List Moment) → FreshIsLast k (moment p h (Vote k) ∷ h)
unfolding fresh_of
fresh-voted p k h = record {
  last = λ f g. (let e : ballot k h ≡ Fresh f = (let t = given-voted p k h (given_ballot k h) refl in cc) in last_fresh-voted p k h ∙ rw e);
  none_since = λ f g. (let e : ballot k h ≡ Fresh f = (let t = given-voted p k h (given_ballot k h) refl in cc) in unfresh-voted p k h ∙ rw e);
}

fresh-kept : (k : ℕ) (m : Moment) (h : List Moment) → is_wire m.event ≡ false → ballot_at k m ≡ None → FreshIsLast k h → FreshIsLast k (m ∷ h)
fresh-kept k m h w b i = record {
  last = λ f g. last_fresh-kept k m h b ∙ i.last f (sym (given-kept k m h w b) ∙ g);
  none_since = λ f g. unfresh-kept k m h w b ∙ i.none_since f (sym (given-kept k m h w b) ∙ g);
}

fresh-wire : (k : ℕ) (m : Moment) (h : List Moment) → is_wire m.event ≡ true → FreshIsLast k (m ∷ h)
unfolding given_ballot
fresh-wire k m h w = record {
  last = λ f g. (let t = rw w at g in cc);
  none_since = λ f g. (let t = rw w at g in cc);
}

fresh-next : (p : Plant) (k : ℕ) (h : List Moment) (e : Event) → FreshIsLast k h → FreshIsLast k (moment p h e ∷ h)
unfolding is_wire ballot_at is_vote
fresh-next p k h (Wire f) i = fresh-wire k (moment p h (Wire f)) h refl
fresh-next p k h (Vote j) i = elim (cases_Bool (eqb j k)) [
  | inl q ↦ (let same = eqb-true j k q in subst (λ x. FreshIsLast k (moment p h (Vote x) ∷ h)) (sym same) (fresh-voted p k h))
  | inr q ↦ fresh-kept k (moment p h (Vote j)) h refl (rw q) i
]
fresh-next p k h (Run c) i = fresh-kept k (moment p h (Run c)) h refl refl i
fresh-next p k h (Order a j) i = fresh-kept k (moment p h (Order a j)) h refl refl i
fresh-next p k h (Skew c at) i = fresh-kept k (moment p h (Skew c at)) h refl refl i
fresh-next p k h (Say a j cycle force) i = fresh-kept k (moment p h (Say a j cycle force)) h refl refl i
fresh-next p k h (Tell a c) i = fresh-kept k (moment p h (Tell a c)) h refl refl i
fresh-next p k h (Lie a c bytes) i = fresh-kept k (moment p h (Lie a c bytes)) h refl refl i
fresh-next p k h (Stop c) i = fresh-kept k (moment p h (Stop c)) h refl refl i
fresh-next p k h (Restart c) i = fresh-kept k (moment p h (Restart c)) h refl refl i
fresh-next p k h (Upgrade c) i = fresh-kept k (moment p h (Upgrade c)) h refl refl i

pub fresh_is_last : (p : Plant) (k : ℕ) (es : List Event) → FreshIsLast k (history p es)
unfolding history given_ballot
fresh_is_last p k [] = record { last = λ f g. cc; none_since = λ f g. cc }
fresh_is_last p k (e ∷ es) = fresh-next p k (history p es) e (fresh_is_last p k es)

vote-cycle : (p : Plant) (k : ℕ) (h : List Moment) (v : VoterState) → VoterRepresents p k h v → v.cycle ≡ newest_cycle (cycles_begun (moment p h (Vote k) ∷ h))
unfolding frame_of
vote-cycle p k h v s = rw (frames-kept (moment p h (Vote k)) h refl) s.cycle

vote-orders : (p : Plant) (k : ℕ) (h : List Moment) (v : VoterState) → VoterRepresents p k h v → v.orders ≡ taken_force k 0 (moment p h (Vote k) ∷ h) ∷ taken_force k 1 (moment p h (Vote k) ∷ h) ∷ taken_force k 2 (moment p h (Vote k) ∷ h) ∷ []
unfolding is_wire is_order
vote-orders p k h v s =
    let m = moment p h (Vote k) in
    rw (taken-kept k 0 m h refl refl, taken-kept k 1 m h refl refl, taken-kept k 2 m h refl refl) s.orders

-- the first vote
vote-first : (p : Plant) (k : ℕ) (h : List Moment) (v : VoterState) (b : Ballot) → ballot k h ≡ b → VoterRepresents p k h v → VoterRepresents p k (moment p h (Vote k) ∷ h) (with_ballot v b)
unfolding fresh_of
vote-first p k h v (Fresh f) e s = record {
  low = s.low;
  high = s.high;
  cycle = vote-cycle p k h v s;
  orders = vote-orders p k h v s;
  ballot = rw (given-voted p k h (given_ballot k h) refl, e);
  last_fresh = rw (last_fresh-voted p k h, e);
  run = rw (unfresh-voted p k h, e);
}
vote-first p k h v (Held f) e s = record {
  low = s.low;
  high = s.high;
  cycle = vote-cycle p k h v s;
  orders = vote-orders p k h v s;
  ballot = rw (given-voted p k h (given_ballot k h) refl, e);
  last_fresh = rw (last_fresh-voted p k h, e) s.last_fresh;
  run = rw (unfresh-voted p k h, e) s.run;
}
vote-first p k h v Zero e s = record {
  low = s.low;
  high = s.high;
  cycle = vote-cycle p k h v s;
  orders = vote-orders p k h v s;
  ballot = rw (given-voted p k h (given_ballot k h) refl, e);
  last_fresh = rw (last_fresh-voted p k h, e) s.last_fresh;
  run = rw (unfresh-voted p k h, e) s.run;
}

-- a vote that comes again
again-last : (p : Plant) (k : ℕ) (h : List Moment) (b : Ballot) → given_ballot k h ≡ Some b → ballot k h ≡ b → FreshIsLast k h → last_fresh k (moment p h (Vote k) ∷ h) ≡ last_fresh k h
unfolding fresh_of
again-last p k h (Fresh f) g e i = rw (last_fresh-voted p k h, e) (sym (i.last f g))
again-last p k h _ g e i = rw (last_fresh-voted p k h, e)

again-unfresh : (p : Plant) (k : ℕ) (h : List Moment) (b : Ballot) → given_ballot k h ≡ Some b → ballot k h ≡ b → FreshIsLast k h → unfresh_cycles k (moment p h (Vote k) ∷ h) ≡ unfresh_cycles k h
unfolding fresh_of
again-unfresh p k h (Fresh f) g e i = rw (unfresh-voted p k h, e) (sym (i.none_since f g))
again-unfresh p k h _ g e i = rw (unfresh-voted p k h, e)

vote-again : (p : Plant) (k : ℕ) (h : List Moment) (v : VoterState) (b : Ballot) → given_ballot k h ≡ Some b → FreshIsLast k h → VoterRepresents p k h v → VoterRepresents p k (moment p h (Vote k) ∷ h) v
unfolding ballot
vote-again p k h v b g i s =
    let same : voting.ballot k h ≡ b = rw g in
    record {
      low = s.low;
      high = s.high;
      cycle = vote-cycle p k h v s;
      orders = vote-orders p k h v s;
      ballot = s.ballot ∙ (g ∙ (ap Some (sym same) ∙ sym (given-voted p k h (given_ballot k h) refl)));
      last_fresh = rw (again-last p k h b g same i) s.last_fresh;
      run = rw (again-unfresh p k h b g same i) s.run;
    }

ballot-due : (k : ℕ) (h : List Moment) → given_ballot k h ≡ None → ballot k h ≡ ballot_from (agreed_force k h) (unfresh_cycles k h) (last_fresh k h)
unfolding ballot
ballot-due k h g = rw g

voted_by : (p : Plant) (k : ℕ) (h : List Moment) (v : VoterState) (o : Option Ballot) → given_ballot k h ≡ o → FreshIsLast k h → VoterRepresents p k h v → VoterRepresents p k (moment p h (Vote k) ∷ h) (voted_after v o)
voted_by p k h v (Some b) g i s = vote-again p k h v b g i s
voted_by p k h v None g i s =
    let due : first_ballot v ≡ ballot k h = first_ballot-represents p k h v s ∙ sym (ballot-due k h g) in
    subst (λ b. VoterRepresents p k (moment p h (Vote k) ∷ h) (with_ballot v b)) (sym due) (vote-first p k h v (ballot k h) refl s)

pub voter-voted : (p : Plant) (k : ℕ) (h : List Moment) (v : VoterState) → FreshIsLast k h → VoterRepresents p k h v → VoterRepresents p k (moment p h (Vote k) ∷ h) (voted v)
voter-voted p k h v i s = subst (λ o. VoterRepresents p k (moment p h (Vote k) ∷ h) (voted_after v o)) (sym s.ballot) (voted_by p k h v (given_ballot k h) refl i s)
