-- A computer represents the moments: what offers, restarts and upgrades keep.
use Rattle.dp_core.specs.Mode as modes
use Rattle.std.proofs.Common.{Bool, List, None, Some, [], ap, arith, cond, drop, eqb, false, length, length-drop, refl, slice_set, subst, suc, sym, true, zero, ℕ, ◌&&◌, ◌+◌, ◌-◌, ◌<◌, ◌∙◌, ◌∷◌, ◌≡◌, ◌≤◌}
use Rattle.std.proofs.lemmas.Bool.{and_from, and_left, and_right, eq-eqb, ne_eqb, or_from}
use Rattle.std.proofs.lemmas.List.{drop-drop}
use Rattle.std.specs.Prelude.{Err, Ok, Result, nat_lt}
use Rattle.arrayvec.specs.ArrayVec.{ArrayVec}
use Rattle.circular_buffer.specs.Buffer.{keep_last}
use Rattle.dp_codec.specs.Spelling.{state_read}
use Rattle.dp_exchange.specs.ComputerState.{ComputerState, InControl, after_offer, after_restart, after_state, after_upgrade, control_in, is_live, offer_answer, offer_answer_in, offer_in, oldest, state_answer, with_offer}
use Rattle.dp_exchange.specs.Offers.{is_confirmed, told_state}
use Rattle.dp_exchange.specs.declared.answers.Offer.{Offer}
use Rattle.dp_exchange.specs.declared.answers.Offer.TheVariants.{Adopted, Kept as OfferKept, TooNew, TooOld}
use Rattle.dp_machine.specs.declared.state.State.{State}
use Rattle.dp_core.proofs.Computers.{IsNothing, at_break-broken, computer-kept, computer-kept_but_offers, oldest-below, offers-broken}
use Rattle.dp_core.proofs.Moments.{IsAdoption-from_adoption, IsOffer, IsOffer-lie, IsOffer-tell, moment}
use Rattle.dp_core.proofs.Searches.{held_offer-kept, held_offer-now, last_issue-broken, last_issue-quiet, mode-adopted, mode-broken, software-kept, software-quiet, steps-quiet}
use Rattle.dp_core.proofs.Trajectories.{Within, done-adopted, frames-kept, trajectory-adopted}
use Rattle.dp_core.specs.HeldOffers.{held_offer, held_offers, offered}
use Rattle.dp_core.specs.History.{answer_in, answer_to_offer, answer_to_read, answer_to_state, seen_of}
use Rattle.dp_core.specs.Mode.{cycles_begun, frames, oldest_since}
use Rattle.dp_core.specs.Moment.{Moment, frame_of, is_adoption, is_base, is_break, is_end, is_interruption, is_offer, is_offer_to, is_restart, is_run, is_skew, place_of_skew, is_stop, is_upgrade, is_wire, issue_at, saw_adoption, saw_fit, saw_overrun, sender}
use Rattle.dp_core.specs.Offered.{offer_by, state_in}
use Rattle.dp_core.specs.Represents.{ComputerRepresents}
use Rattle.dp_core.specs.Trajectory.{trajectory}
use Rattle.dp_core.specs.WorldState.{after_told, told_answer}
use Rattle.dp_core.specs.declared.event.Event.{Event}
use Rattle.dp_core.specs.declared.event.Event.TheVariants.{Lie, Restart, Tell, Upgrade}
use Rattle.dp_core.specs.declared.event.Seen.TheVariants.{Offered as SeenOffered}
use Rattle.dp_plant.specs.declared.frames.Frame.{Frame}
use Rattle.dp_plant.specs.declared.plant.Plant.{Plant}
use Rattle.dp_plant.specs.declared.voting.Mode.{Mode}
use Rattle.dp_plant.specs.declared.voting.Mode.TheVariants.{Aligning, Live, Off}

-- ---- a computer that is started again

-- a moment at which c is started again
record IsStart (c : ℕ) (m : Moment) : Type 0 where
  no_frame : frame_of m.event ≡ []
  breaks : is_break c m ≡ true
  no_end : is_end c m ≡ false
  no_overrun : saw_overrun c m.seen ≡ false
  no_issue : issue_at c m ≡ None

drop-length : {A : Type 0} (xs : List A) (n : ℕ) → n ≡ length xs → drop n xs ≡ []
drop-length [] zero e = refl
drop-length [] (suc n) e = refl
drop-length (x ∷ xs) zero e = absurd (omega arith)
drop-length (x ∷ xs) (suc n) e = drop-length xs n (omega arith)

oldest-started : (c : ℕ) (m : Moment) (h : List Moment) → is_break c m ≡ true → saw_overrun c m.seen ≡ false → modes.oldest c (m ∷ h) ≡ cycles_begun (m ∷ h)
unfolding modes.oldest oldest_since
oldest-started c m h b o = rw (at_break-broken c m h b, o) (omega arith)

started : (p : Plant) (c : ℕ) (m : Moment) (h : List Moment) (x : ComputerState) (n : ℕ) → IsStart c m → modes.software c (m ∷ h) ≡ n → ComputerRepresents p c h x → ComputerRepresents p c (m ∷ h) (record (after_restart x (cycles_begun h)) { software = n })
unfolding after_restart
started p c m h x n t v s =
    let al : modes.mode c (m ∷ h) ≡ Aligning = mode-broken c m h t.breaks ∙ rw t.no_end in
    record {
      plant = s.plant;
      control = ap (λ z. control_in z (trajectory p c (m ∷ h))) (sym al);
      next = λ o. ap length (sym (frames-kept m h t.no_frame));
      waits_live = λ l. (let y = sym al ∙ l in cc);
      waits_aligning = λ l. sym (drop-length (frames (m ∷ h)) (modes.oldest c (m ∷ h)) (oldest-started c m h t.breaks t.no_overrun));
      offers = sym (offers-broken p c m h t.breaks);
      software = sym v;
      last = rw (last_issue-broken c m h t.breaks);
      steps = rw (steps-quiet c m h t.no_issue) s.steps;
    }

restart-starts : (p : Plant) (c : ℕ) (h : List Moment) → IsStart c (moment p h (Restart c))
unfolding frame_of is_break is_interruption is_end is_stop is_restart saw_overrun seen_of issue_at is_run
restart-starts p c h = (let e : eqb c c ≡ true = eq-eqb c c refl in record { no_frame = refl; breaks = rw e; no_end = refl; no_overrun = refl; no_issue = refl })

restart-no_upgrade : (c d : ℕ) → is_upgrade c (Restart d) ≡ false
unfolding is_upgrade
restart-no_upgrade c d = refl

pub computer-restart : (p : Plant) (c : ℕ) (h : List Moment) (x : ComputerState) → ComputerRepresents p c h x → ComputerRepresents p c (moment p h (Restart c) ∷ h) (after_restart x (cycles_begun h))
unfolding after_restart
computer-restart p c h x s =
    let m = moment p h (Restart c) in
    started p c m h x x.software (restart-starts p c h) (software-kept c m h (restart-no_upgrade c c) ∙ sym s.software) s

upgrade-starts : (p : Plant) (c : ℕ) (h : List Moment) → IsStart c (moment p h (Upgrade c))
unfolding frame_of is_break is_interruption is_end is_stop is_restart is_upgrade saw_overrun seen_of issue_at is_run
upgrade-starts p c h = (let e : eqb c c ≡ true = eq-eqb c c refl in record { no_frame = refl; breaks = rw e; no_end = refl; no_overrun = refl; no_issue = refl })

software-upgraded : (p : Plant) (c : ℕ) (h : List Moment) → modes.software c (moment p h (Upgrade c) ∷ h) ≡ 2
unfolding modes.software is_upgrade
software-upgraded p c h = (let e : eqb c c ≡ true = eq-eqb c c refl in rw e)

pub computer-upgrade : (p : Plant) (c : ℕ) (h : List Moment) (x : ComputerState) → ComputerRepresents p c h x → ComputerRepresents p c (moment p h (Upgrade c) ∷ h) (after_upgrade x (cycles_begun h))
unfolding after_upgrade
computer-upgrade p c h x s = started p c (moment p h (Upgrade c)) h x 2 (upgrade-starts p c h) (software-upgraded p c h) s

pub restart-other : (p : Plant) (c d : ℕ) (h : List Moment) → eqb d c ≡ false → IsNothing c (moment p h (Restart d))
unfolding frame_of is_wire is_break is_interruption is_end is_stop is_restart is_upgrade is_run saw_overrun seen_of is_base is_adoption is_offer_to is_skew place_of_skew issue_at is_offer
restart-other p c d h e = record { no_frame = refl; no_wire = refl; no_break = rw e; no_base = refl; no_issue = refl; no_offer = λ a. refl }

pub upgrade-other : (p : Plant) (c d : ℕ) (h : List Moment) → eqb d c ≡ false → IsNothing c (moment p h (Upgrade d))
unfolding frame_of is_wire is_break is_interruption is_end is_stop is_restart is_upgrade is_run saw_overrun seen_of is_base is_adoption is_offer_to is_skew place_of_skew issue_at is_offer
upgrade-other p c d h e = record { no_frame = refl; no_wire = refl; no_break = rw e; no_base = refl; no_issue = refl; no_offer = λ a. refl }

-- ---- an offer that is nothing to a computer

unkept-base : (p : Plant) (c : ℕ) (h : List Moment) (e : Event) → IsOffer p h e → (is_offer_to c e && saw_adoption (seen_of p h e)) ≡ false → is_base c (moment p h e) ≡ false
unfolding is_base is_adoption
unkept-base p c h e o n = or_from (is_adoption c (moment p h e)) (is_skew c (moment p h e)) n (o.quiet_skew c)

unkept : (p : Plant) (c : ℕ) (h : List Moment) (e : Event) → IsOffer p h e → (is_offer_to c e && saw_adoption (seen_of p h e)) ≡ false → ((a : ℕ) → (is_offer a c e && saw_fit (seen_of p h e)) ≡ false) → IsNothing c (moment p h e)
unkept p c h e o adopts fits = record {
  no_frame = o.no_frame;
  no_wire = o.no_wire;
  no_break = o.quiet_break c;
  no_base = unkept-base p c h e o adopts;
  no_issue = o.quiet_issue c;
  no_offer = fits;
}

-- one that doesn't fit
refused : (p : Plant) (c : ℕ) (h : List Moment) (e : Event) → IsOffer p h e → saw_adoption (seen_of p h e) ≡ false → saw_fit (seen_of p h e) ≡ false → IsNothing c (moment p h e)
refused p c h e o a f =
    unkept p c h e o (and_right (is_offer_to c e) (saw_adoption (seen_of p h e)) a) (λ d. and_right (is_offer d c e) (saw_fit (seen_of p h e)) f)

pub tell-other : (p : Plant) (c a d : ℕ) (h : List Moment) → eqb d c ≡ false → IsNothing c (moment p h (Tell a d))
unfolding is_offer is_offer_to
tell-other p c a d h e =
    unkept p c h (Tell a d) (IsOffer-tell p h a d) (and_left (eqb d c) (saw_adoption (seen_of p h (Tell a d))) e)
    (λ b. and_left (eqb a b && eqb d c) (saw_fit (seen_of p h (Tell a d))) (and_right (eqb a b) (eqb d c) e))

pub lie-other : (p : Plant) (c a d : ℕ) (bytes : ArrayVec ℕ) (h : List Moment) → eqb d c ≡ false → IsNothing c (moment p h (Lie a d bytes))
unfolding is_offer is_offer_to
lie-other p c a d bytes h e =
    unkept p c h (Lie a d bytes) (IsOffer-lie p h a d bytes) (and_left (eqb d c) (saw_adoption (seen_of p h (Lie a d bytes))) e)
    (λ b. and_left (eqb a b && eqb d c) (saw_fit (seen_of p h (Lie a d bytes))) (and_right (eqb a b) (eqb d c) e))

-- ---- an offer that fits

-- an event that is an offer of a to c, of what is read
pub record IsOfferTo (p : Plant) (c a : ℕ) (h : List Moment) (e : Event) (r : Result State ℕ) : Type 0 where
  pub only : IsOffer p h e
  pub own : is_offer a c e ≡ true
  pub others : (d : ℕ) → (d ≡ a → ⊥) → is_offer d c e ≡ false
  pub to : is_offer_to c e ≡ true
  pub brings : offered p h e ≡ Some r
  pub seen : seen_of p h e ≡ SeenOffered (Some (answer_in p c a h r (modes.mode c h)))

held-now : (p : Plant) (c a : ℕ) (h : List Moment) (e : Event) (s : State) → IsOfferTo p c a h e (Ok s) → saw_fit (seen_of p h e) ≡ true → held_offer p c a (moment p h e ∷ h) ≡ Some s
unfolding state_in
held-now p c a h e s o f =
    held_offer-now c (moment p h e) h p a o.only.no_wire (o.only.quiet_break c) (and_from (is_offer a c e) (saw_fit (seen_of p h e)) o.own f) ∙ ap state_in o.brings

held-other : (p : Plant) (c a d : ℕ) (h : List Moment) (e : Event) (s : State) → IsOfferTo p c a h e (Ok s) → (d ≡ a → ⊥) → held_offer p c d (moment p h e ∷ h) ≡ held_offer p c d h
held-other p c a d h e s o n =
    held_offer-kept c (moment p h e) h p d o.only.no_wire (o.only.quiet_break c) (and_left (is_offer d c e) (saw_fit (seen_of p h e)) (o.others d n))

held-set : (p : Plant) (c a : ℕ) (h : List Moment) (e : Event) (s : State) → a < 3 → IsOfferTo p c a h e (Ok s) → saw_fit (seen_of p h e) ≡ true → slice_set (held_offers p c h) a (Some s) ≡ held_offers p c (moment p h e ∷ h)
held-set p c zero h e s l o f = rw (held-now p c 0 h e s o f, held-other p c 0 1 h e s o (λ q. omega arith), held-other p c 0 2 h e s o (λ q. omega arith))
held-set p c (suc zero) h e s l o f = rw (held-now p c 1 h e s o f, held-other p c 1 0 h e s o (λ q. omega arith), held-other p c 1 2 h e s o (λ q. omega arith))
held-set p c (suc (suc zero)) h e s l o f = rw (held-now p c 2 h e s o f, held-other p c 2 0 h e s o (λ q. omega arith), held-other p c 2 1 h e s o (λ q. omega arith))
held-set p c (suc (suc (suc a))) h e s l o f = absurd (omega arith)

-- one that is kept
offer-kept : (p : Plant) (c a : ℕ) (h : List Moment) (e : Event) (s : State) (x : ComputerState) → a < 3 → IsOfferTo p c a h e (Ok s) → saw_fit (seen_of p h e) ≡ true → saw_adoption (seen_of p h e) ≡ false → Within p h → ComputerRepresents p c h x → ComputerRepresents p c (moment p h e ∷ h) (with_offer x a s false)
unfolding with_offer
offer-kept p c a h e s x l o f n w r =
    let m = moment p h e in
    let b = o.only.quiet_break c in
    let k = unkept-base p c h e o.only (and_right (is_offer_to c e) (saw_adoption (seen_of p h e)) n) in
    let t = computer-kept_but_offers p c m h x o.only.no_frame b k (o.only.quiet_issue c) w r in
    t (slice_set x.offers a (Some s)) (ap (λ os. slice_set os a (Some s)) r.offers ∙ held-set p c a h e s l o f)

-- the frames that the state hasn't seen
waits-left : (fs : List Frame) (o count : ℕ) → o ≤ count → count ≤ length fs → keep_last (length fs - count) (drop o fs) ≡ drop count fs
waits-left fs o count l m =
    let n : length (drop o fs) - (length fs - count) ≡ count - o = (let d = length-drop o fs in omega arith) in
    let same : o + (count - o) ≡ count = omega arith in
    rw n (drop-drop (count - o) o fs ∙ ap (λ k. drop k fs) same)

-- one that is adopted
offer-adopted : (p : Plant) (c a : ℕ) (h : List Moment) (e : Event) (s : State) (x : ComputerState) → a < 3 → IsOfferTo p c a h e (Ok s) → saw_fit (seen_of p h e) ≡ true → saw_adoption (seen_of p h e) ≡ true → ComputerRepresents p c h x → ComputerRepresents p c (moment p h e ∷ h) (with_offer x a s true)
unfolding with_offer is_adoption
offer-adopted p c a h e s x l o f y r =
    let m = moment p h e in
    let b = o.only.quiet_break c in
    let i = o.only.quiet_issue c in
    let ad : is_adoption c m ≡ true = and_from (is_offer_to c e) (saw_adoption (seen_of p h e)) o.to y in
    let t = IsAdoption-from_adoption p c h e ad in
    let same : t.0 ≡ s = (let q = t.1.offer.brings in let z = o.brings in cc) in
    let fits = t.1.offer.fits in
    let live = mode-adopted c m h b ad in
    let fs = frames-kept m h o.only.no_frame in
    let next : x.next ≡ cycles_begun h = r.next (λ off. (let al = fits.aligning in cc)) in
    let came : s.count ≤ cycles_begun h = (let n = fits.not_new in subst (λ (z : State). z.count ≤ cycles_begun h) same n) in
    let old : modes.oldest c h ≤ s.count = (let n = fits.not_old in subst (λ (z : State). modes.oldest c h ≤ z.count) same n) in
    record {
      plant = r.plant;
      control = ap InControl (sym (trajectory-adopted p c h e t.0 b ad t.1 ∙ same)) ∙ ap (λ z. control_in z (trajectory p c (m ∷ h))) (sym live);
      next = λ off. rw fs next;
      waits_live = λ q. rw (next, r.waits_aligning fits.aligning, fs, done-adopted p c h e t.0 b ad t.1, same) (waits-left (frames h) (modes.oldest c h) s.count old came);
      waits_aligning = λ q. (let z = sym live ∙ q in cc);
      offers = ap (λ os. slice_set os a (Some s)) r.offers ∙ held-set p c a h e s l o f;
      software = r.software ∙ sym (software-quiet c m h b);
      last = rw (last_issue-quiet c m h b i) r.last;
      steps = rw (steps-quiet c m h i) r.steps;
    }

-- ---- any offer

-- by what the tests of a state say
state_by : (p : Plant) (c a : ℕ) (h : List Moment) (e : Event) (s : State) (x : ComputerState) (new old both : Bool) (y z : Offer) → a < 3 → IsOfferTo p c a h e (Ok s) → saw_fit (SeenOffered (Some y)) ≡ false → saw_adoption (SeenOffered (Some y)) ≡ false → saw_fit (SeenOffered (Some z)) ≡ false → saw_adoption (SeenOffered (Some z)) ≡ false
    → seen_of p h e ≡ SeenOffered (Some (cond new y (cond old z (cond both Adopted OfferKept)))) → Within p h → ComputerRepresents p c h x → ComputerRepresents p c (moment p h e ∷ h) (cond new x (cond old x (with_offer x a s both)))
unfolding saw_fit saw_adoption
state_by p c a h e s x true old both y z l o fy ay fz az q w r = computer-kept p c (moment p h e) h x (refused p c h e o.only (ap saw_adoption q ∙ ay) (ap saw_fit q ∙ fy)) w r
state_by p c a h e s x false true both y z l o fy ay fz az q w r = computer-kept p c (moment p h e) h x (refused p c h e o.only (ap saw_adoption q ∙ az) (ap saw_fit q ∙ fz)) w r
state_by p c a h e s x false false false y z l o fy ay fz az q w r = offer-kept p c a h e s x l o (ap saw_fit q) (ap saw_adoption q) w r
state_by p c a h e s x false false true y z l o fy ay fz az q w r = offer-adopted p c a h e s x l o (ap saw_fit q) (ap saw_adoption q) r

-- what an aligning computer tests
record IsTested (p : Plant) (c : ℕ) (h : List Moment) (x : ComputerState) : Type 0 where
  next : x.next ≡ cycles_begun h
  oldest : oldest x ≡ modes.oldest c h
  offers : x.offers ≡ held_offers p c h

IsTested-aligning : (p : Plant) (c : ℕ) (h : List Moment) (x : ComputerState) → modes.mode c h ≡ Aligning → ComputerRepresents p c h x → IsTested p c h x
IsTested-aligning p c h x al r =
    let next : x.next ≡ cycles_begun h = r.next (λ off. (let z = sym al ∙ off in cc)) in
    let waits : length x.waits ≡ cycles_begun h - modes.oldest c h = ap length (r.waits_aligning al) ∙ length-drop (modes.oldest c h) (frames h) in
    let below = oldest-below c h in
    record { next = next; oldest = omega arith; offers = r.offers }

state-aligning : (p : Plant) (c a : ℕ) (h : List Moment) (e : Event) (s : State) (x : ComputerState) → a < 3 → modes.mode c h ≡ Aligning → IsOfferTo p c a h e (Ok s) → Within p h → ComputerRepresents p c h x → ComputerRepresents p c (moment p h e ∷ h) (after_state x a s)
unfolding after_state answer_in answer_to_read answer_to_state saw_fit saw_adoption
state-aligning p c a h e s x l al o w r =
    let t = IsTested-aligning p c h x al r in
    let seen : seen_of p h e ≡ SeenOffered (Some (answer_in p c a h (Ok s) Aligning)) = o.seen ∙ ap (λ m. SeenOffered (Some (answer_in p c a h (Ok s) m))) al in
    let by = state_by p c a h e s x (nat_lt (cycles_begun h) s.count) (nat_lt s.count (modes.oldest c h)) (is_confirmed (held_offers p c h) a s) (TooNew s.count (cycles_begun h)) (TooOld s.count (modes.oldest c h)) l o refl refl refl refl seen w r in
    subst (λ n. ComputerRepresents p c (moment p h e ∷ h) (cond (nat_lt n s.count) x (cond (nat_lt s.count (oldest x)) x (with_offer x a s (is_confirmed x.offers a s))))) (sym t.next)
    (subst (λ n. ComputerRepresents p c (moment p h e ∷ h) (cond (nat_lt (cycles_begun h) s.count) x (cond (nat_lt s.count n) x (with_offer x a s (is_confirmed x.offers a s))))) (sym t.oldest)
    (subst (λ os. ComputerRepresents p c (moment p h e ∷ h) (cond (nat_lt (cycles_begun h) s.count) x (cond (nat_lt s.count (modes.oldest c h)) x (with_offer x a s (is_confirmed os a s))))) (sym t.offers) by))

offer_mode : (p : Plant) (c a : ℕ) (h : List Moment) (e : Event) (r : Result State ℕ) (x : ComputerState) (m : Mode) → a < 3 → modes.mode c h ≡ m → IsOfferTo p c a h e r → Within p h → ComputerRepresents p c h x → ComputerRepresents p c (moment p h e ∷ h) (offer_in x a r (control_in m (trajectory p c h)))
unfolding offer_in answer_in answer_to_read saw_fit saw_adoption
offer_mode p c a h e (Ok s) x Aligning l al o w t = state-aligning p c a h e s x l al o w t
offer_mode p c a h e (Err place) x Aligning l al o w t =
    let seen = o.seen ∙ ap (λ m. SeenOffered (Some (answer_in p c a h (Err place) m))) al in
    computer-kept p c (moment p h e) h x (refused p c h e o.only (ap saw_adoption seen) (ap saw_fit seen)) w t
offer_mode p c a h e (Ok s) x Live l al o w t =
    let seen = o.seen ∙ ap (λ m. SeenOffered (Some (answer_in p c a h (Ok s) m))) al in
    computer-kept p c (moment p h e) h x (refused p c h e o.only (ap saw_adoption seen) (ap saw_fit seen)) w t
offer_mode p c a h e (Err place) x Live l al o w t =
    let seen = o.seen ∙ ap (λ m. SeenOffered (Some (answer_in p c a h (Err place) m))) al in
    computer-kept p c (moment p h e) h x (refused p c h e o.only (ap saw_adoption seen) (ap saw_fit seen)) w t
offer_mode p c a h e (Ok s) x Off l al o w t =
    let seen = o.seen ∙ ap (λ m. SeenOffered (Some (answer_in p c a h (Ok s) m))) al in
    computer-kept p c (moment p h e) h x (refused p c h e o.only (ap saw_adoption seen) (ap saw_fit seen)) w t
offer_mode p c a h e (Err place) x Off l al o w t =
    let seen = o.seen ∙ ap (λ m. SeenOffered (Some (answer_in p c a h (Err place) m))) al in
    computer-kept p c (moment p h e) h x (refused p c h e o.only (ap saw_adoption seen) (ap saw_fit seen)) w t

pub computer-offer : (p : Plant) (c a : ℕ) (h : List Moment) (e : Event) (r : Result State ℕ) (x : ComputerState) → a < 3 → IsOfferTo p c a h e r → Within p h → ComputerRepresents p c h x → ComputerRepresents p c (moment p h e ∷ h) (after_offer x a r)
unfolding after_offer
computer-offer p c a h e r x l o w s = subst (λ z. ComputerRepresents p c (moment p h e ∷ h) (offer_in x a r z)) (sym s.control) (offer_mode p c a h e r x (modes.mode c h) l refl o w s)

-- what an offer is answered

answer_mode : (p : Plant) (c a : ℕ) (h : List Moment) (r : Result State ℕ) (x : ComputerState) (m : Mode) → modes.mode c h ≡ m → ComputerRepresents p c h x → offer_answer_in x a r (control_in m (trajectory p c h)) ≡ answer_in p c a h r m
unfolding offer_answer_in answer_in answer_to_read answer_to_state state_answer
answer_mode p c a h (Ok s) x Aligning al t =
    let k = IsTested-aligning p c h x al t in
    rw (k.oldest, k.next, k.offers)
answer_mode p c a h (Err place) x Aligning al t = refl
answer_mode p c a h (Ok s) x Live al t = refl
answer_mode p c a h (Err place) x Live al t = refl
answer_mode p c a h (Ok s) x Off al t = refl
answer_mode p c a h (Err place) x Off al t = refl

pub offer_answer-represents : (p : Plant) (c a : ℕ) (h : List Moment) (r : Result State ℕ) (x : ComputerState) → ComputerRepresents p c h x → offer_answer x a r ≡ answer_in p c a h r (modes.mode c h)
unfolding offer_answer
offer_answer-represents p c a h r x t = ap (offer_answer_in x a r) t.control ∙ answer_mode p c a h r x (modes.mode c h) refl t

-- ---- a Lie

IsOfferTo-lie : (p : Plant) (c a : ℕ) (bytes : ArrayVec ℕ) (h : List Moment) → IsOfferTo p c a h (Lie a c bytes) (state_read p (modes.software c h) bytes.items)
unfolding is_offer is_offer_to offered offer_by sender seen_of answer_to_offer
IsOfferTo-lie p c a bytes h = record {
  only = IsOffer-lie p h a c bytes;
  own = and_from (eqb a a) (eqb c c) (eq-eqb a a refl) (eq-eqb c c refl);
  others = λ d n. and_left (eqb a d) (eqb c c) (ne_eqb a d (λ q. n (sym q)));
  to = eq-eqb c c refl;
  brings = refl;
  seen = refl;
}

pub lie-read : (p : Plant) (c : ℕ) (bytes : List ℕ) (h : List Moment) (x : ComputerState) → ComputerRepresents p c h x → state_read x.plant x.software bytes ≡ state_read p (modes.software c h) bytes
lie-read p c bytes h x s = ap (λ q. state_read q x.software bytes) s.plant ∙ ap (λ n. state_read p n bytes) s.software

pub computer-lie : (p : Plant) (c a : ℕ) (bytes : ArrayVec ℕ) (h : List Moment) (x : ComputerState) → a < 3 → Within p h → ComputerRepresents p c h x → ComputerRepresents p c (moment p h (Lie a c bytes) ∷ h) (after_offer x a (state_read x.plant x.software bytes.items))
computer-lie p c a bytes h x l w s =
    subst (λ r. ComputerRepresents p c (moment p h (Lie a c bytes) ∷ h) (after_offer x a r)) (sym (lie-read p c bytes.items h x s))
    (computer-offer p c a h (Lie a c bytes) (state_read p (modes.software c h) bytes.items) x l (IsOfferTo-lie p c a bytes h) w s)

-- ---- a Tell

told-live : (p : Plant) (c a : ℕ) (h : List Moment) → modes.mode a h ≡ Live → offered p h (Tell a c) ≡ Some (told_state (modes.software c h) (modes.software a h) (trajectory p a h))
unfolding offered offer_by sender
told-live p c a h e = rw e

told-not_live : (p : Plant) (c a : ℕ) (h : List Moment) (m : Mode) → is_live m ≡ false → modes.mode a h ≡ m → offered p h (Tell a c) ≡ None
unfolding offered offer_by sender
told-not_live p c a h m n e = rw (e, n)

tell-seen : (p : Plant) (c a : ℕ) (h : List Moment) (r : Result State ℕ) → offered p h (Tell a c) ≡ Some r → seen_of p h (Tell a c) ≡ SeenOffered (Some (answer_in p c a h r (modes.mode c h)))
unfolding seen_of answer_to_offer
tell-seen p c a h r b = ap (λ o. SeenOffered (answer_to_offer p c a h o)) b

IsOfferTo-tell : (p : Plant) (c a : ℕ) (h : List Moment) (r : Result State ℕ) → offered p h (Tell a c) ≡ Some r → IsOfferTo p c a h (Tell a c) r
unfolding is_offer is_offer_to
IsOfferTo-tell p c a h r b = record {
  only = IsOffer-tell p h a c;
  own = and_from (eqb a a) (eqb c c) (eq-eqb a a refl) (eq-eqb c c refl);
  others = λ d n. and_left (eqb a d) (eqb c c) (ne_eqb a d (λ q. n (sym q)));
  to = eq-eqb c c refl;
  brings = b;
  seen = tell-seen p c a h r b;
}

untold : (p : Plant) (c a : ℕ) (h : List Moment) → offered p h (Tell a c) ≡ None → seen_of p h (Tell a c) ≡ SeenOffered None
unfolding seen_of answer_to_offer
untold p c a h b = ap (λ o. SeenOffered (answer_to_offer p c a h o)) b

tell-nothing : (p : Plant) (c a : ℕ) (h : List Moment) → offered p h (Tell a c) ≡ None → IsNothing c (moment p h (Tell a c))
unfolding saw_fit saw_adoption
tell-nothing p c a h b = refused p c h (Tell a c) (IsOffer-tell p h a c) (ap saw_adoption (untold p c a h b)) (ap saw_fit (untold p c a h b))

tell_mode : (p : Plant) (c a : ℕ) (h : List Moment) (x : ComputerState) (m : Mode) → a < 3 → modes.mode a h ≡ m → Within p h → ComputerRepresents p c h x → ComputerRepresents p c (moment p h (Tell a c) ∷ h) (after_told a (modes.software a h) (control_in m (trajectory p a h)) x)
unfolding after_told
tell_mode p c a h x Live l e w s =
    let r = told_state (modes.software c h) (modes.software a h) (trajectory p a h) in
    subst (λ n. ComputerRepresents p c (moment p h (Tell a c) ∷ h) (after_offer x a (told_state n (modes.software a h) (trajectory p a h)))) (sym s.software)
    (computer-offer p c a h (Tell a c) r x l (IsOfferTo-tell p c a h r (told-live p c a h e)) w s)
tell_mode p c a h x Aligning l e w s = computer-kept p c (moment p h (Tell a c)) h x (tell-nothing p c a h (told-not_live p c a h Aligning refl e)) w s
tell_mode p c a h x Off l e w s = computer-kept p c (moment p h (Tell a c)) h x (tell-nothing p c a h (told-not_live p c a h Off refl e)) w s

pub computer-tell : (p : Plant) (c a : ℕ) (h : List Moment) (y x : ComputerState) → a < 3 → Within p h → ComputerRepresents p a h y → ComputerRepresents p c h x → ComputerRepresents p c (moment p h (Tell a c) ∷ h) (after_told a y.software y.control x)
computer-tell p c a h y x l w t s =
    subst (λ n. ComputerRepresents p c (moment p h (Tell a c) ∷ h) (after_told a n y.control x)) (sym t.software)
    (subst (λ z. ComputerRepresents p c (moment p h (Tell a c) ∷ h) (after_told a (modes.software a h) z x)) (sym t.control)
    (tell_mode p c a h x (modes.mode a h) l refl w s))

-- what a Tell is answered

told_answer-mode : (p : Plant) (c a : ℕ) (h : List Moment) (x : ComputerState) (m : Mode) → modes.mode a h ≡ m → ComputerRepresents p c h x → told_answer a (modes.software a h) (control_in m (trajectory p a h)) x ≡ answer_to_offer p c a h (offered p h (Tell a c))
unfolding told_answer answer_to_offer
told_answer-mode p c a h x Live e s =
    let r = told_state (modes.software c h) (modes.software a h) (trajectory p a h) in
    ap (λ n. Some (offer_answer x a (told_state n (modes.software a h) (trajectory p a h)))) s.software
    ∙ (ap Some (offer_answer-represents p c a h r x s)
    ∙ ap (answer_to_offer p c a h) (sym (told-live p c a h e)))
told_answer-mode p c a h x Aligning e s = ap (answer_to_offer p c a h) (sym (told-not_live p c a h Aligning refl e))
told_answer-mode p c a h x Off e s = ap (answer_to_offer p c a h) (sym (told-not_live p c a h Off refl e))

pub tell-answer-represents : (p : Plant) (c a : ℕ) (h : List Moment) (y x : ComputerState) → ComputerRepresents p a h y → ComputerRepresents p c h x → told_answer a y.software y.control x ≡ answer_to_offer p c a h (offered p h (Tell a c))
tell-answer-represents p c a h y x t s =
    ap (λ n. told_answer a n y.control x) t.software
    ∙ (ap (λ z. told_answer a (modes.software a h) z x) t.control
    ∙ told_answer-mode p c a h x (modes.mode a h) refl s)
