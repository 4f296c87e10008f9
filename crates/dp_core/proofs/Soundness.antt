-- With at most one faulty computer in each cycle, what a computer that isn't faulty has, and what a voter took of it, is that of the
-- reference run.
use Rattle.std.proofs.Common.{Bool, List, None, Option, Some, [], ap, arith, cond, eqb, false, if◌then◌else◌, inl, inr, is_some, length, not, refl, subst, suc, sym, take, true, zero, ℕ, ℤ, ◌&&◌, ◌+◌, ◌-◌, ◌∙◌, ◌∷◌, ◌≡◌, ◌≤◌, ◌⊎◌, ◌||◌}
use Rattle.std.proofs.lemmas.Bool.{and_parts, cases_Bool, eqb-false, eqb-true, false≢true, not-true, or_cases, or_from, or_parts}
use Rattle.std.specs.Prelude.{Err, Ok, nat_le, slice_get}
use Rattle.dp_plant.specs.declared.frames.Frame.{Frame}
use Rattle.dp_core.proofs.Cycles.{issue-cycle, reference_issue-at, reference_issue-grown, reference_state-grown, reference_state-step}
use Rattle.dp_core.proofs.Moments.{Adopts, Broke, IsAdoption, IsAdoption-from_adoption, IsFitOffer, IsFitOffer-from_fit, IsRun-from_issue, IsSkew-from_skew, IsTaken-from_order, Kind, Quiet, Runs, Skews, kind, moment}
use Rattle.dp_exchange.proofs.Equality.{same-eq}
use Rattle.dp_core.proofs.Searches.{faulty-kept, last_issue-broken, last_issue-quiet, last_issue-run, mode-quiet, no_base-parts, skewed-kept}
use Rattle.dp_core.proofs.Trajectories.{Within, broken-not_live, done-adopted, done-quiet, done-run, frames-kept, frames-more, trajectory-adopted, trajectory-count, trajectory-quiet, trajectory-run, within}
use Rattle.dp_core.specs.Faulty.{AtMostOneFaulty, is_faulty, is_faulty_in_cycle, is_skewed}
use Rattle.dp_core.specs.HeldOffers.{held_offer, held_offers, offered}
use Rattle.dp_core.specs.History.{history, seen_of}
use Rattle.dp_core.specs.Mode.{cycles_begun, frames, mode, since_break}
use Rattle.dp_core.specs.Offered.{offer_by, state_in}
use Rattle.dp_core.specs.Moment.{Moment, frame_of, is_break, is_end, is_fault, is_interruption, is_offer, is_order, is_restart, is_skew, is_stop, is_upgrade, is_wire, place_of_skew, saw_fit, saw_overrun, saw_skew, saw_taken, sender}
use Rattle.dp_core.specs.Trajectory.{base, frames_done, last_issue, runs, trajectory}
use Rattle.dp_core.specs.Voting.{Message, force_said, message_in, taken_force}
use Rattle.dp_machine.specs.Reference.{force_in, force_of, reference_issue, reference_state}
use Rattle.dp_machine.specs.Run.{own_setpoints, run_on, run_over}
use Rattle.dp_machine.specs.Step.{first_state, step_of}
use Rattle.dp_machine.specs.declared.issue.Issue.{Issue}
use Rattle.dp_machine.specs.declared.state.State.{State}
use Rattle.dp_core.specs.declared.event.Event.{Event}
use Rattle.dp_core.specs.declared.event.Event.TheVariants.{Lie, Order, Say, Skew, Tell, Wire}
use Rattle.dp_plant.specs.declared.place.Place.{Place}
use Rattle.dp_plant.specs.declared.plant.Plant.{Plant}
use Rattle.dp_plant.specs.declared.voting.Mode.{Mode}
use Rattle.dp_plant.specs.declared.voting.Mode.TheVariants.{Live}
use Rattle.dp_exchange.specs.ComputerState.{is_live}
use Rattle.dp_exchange.specs.Offers.{is_confirmed, offers_same, told_state}

-- f is the reference run's force of the last cycle
abbrev pub IsReference : Plant → List Frame → ℕ → ℤ → Type 0
IsReference p fs k f = force_of p (own_setpoints p) fs (length fs - 1) k ≡ Some f

-- a computer that wasn't skewed since its last break has the reference run's state and issue
pub record IsSound (p : Plant) (c : ℕ) (h : List Moment) : Type 0 where
  pub state : mode c h ≡ Live → is_skewed c h ≡ false → trajectory p c h ≡ reference_state p (own_setpoints p) (take (frames_done p c h) (frames h))
  pub issue : (x : Issue) → is_skewed c h ≡ false → last_issue c h ≡ Some x → reference_issue p (own_setpoints p) (frames h) x.cycle ≡ Some x

-- a state of the reference run, after frames that came
pub record IsOfReference (p : Plant) (fs : List Frame) (s : State) : Type 0 where
  pub is : s ≡ reference_state p (own_setpoints p) (take s.count fs)
  pub came : s.count ≤ length fs

pub record Sound (p : Plant) (h : List Moment) : Type 0 where
  pub computers : (c : ℕ) → IsSound p c h
  pub offers : (c a : ℕ) (s : State) → is_faulty_in_cycle a h ≡ false → held_offer p c a h ≡ Some s → IsOfReference p (frames h) s
  pub orders : (k a : ℕ) (f : ℤ) → is_faulty_in_cycle a h ≡ false → taken_force k a h ≡ Some f → IsReference p (frames h) k f

pub issue-force : (p : Plant) (fs : List Frame) (n k : ℕ) (x : Issue) (f : ℤ) → reference_issue p (own_setpoints p) fs n ≡ Some x → slice_get x.forces.items k ≡ Some f → force_of p (own_setpoints p) fs n k ≡ Some f
unfolding force_of force_in
issue-force p fs n k x f i e = rw i e

-- ---- faulty

-- a computer that isn't faulty after a moment that is no break of it wasn't before, and this moment is no fault of it
not_faulty_before : (c : ℕ) (m : Moment) (h : List Moment) → is_break c m ≡ false → is_faulty c (m ∷ h) ≡ false → (is_fault c m.event ≡ false) × (is_faulty c h ≡ false)
not_faulty_before c m h b a = or_parts (is_fault c m.event) (is_faulty c h) (sym (faulty-kept c m h b) ∙ a)

not_faulty_now : (c : ℕ) (m : Moment) (h : List Moment) → is_faulty_in_cycle c (m ∷ h) ≡ false → is_faulty c (m ∷ h) ≡ false
unfolding is_faulty_in_cycle
not_faulty_now c m h s = (or_parts (is_faulty c (m ∷ h)) (if is_wire m.event then false else is_faulty_in_cycle c h) s).0

pub not_faulty_earlier : (c : ℕ) (m : Moment) (h : List Moment) → is_wire m.event ≡ false → is_faulty_in_cycle c (m ∷ h) ≡ false → is_faulty_in_cycle c h ≡ false
unfolding is_faulty_in_cycle
not_faulty_earlier c m h w s =
    let t = (or_parts (is_faulty c (m ∷ h)) (if is_wire m.event then false else is_faulty_in_cycle c h) s).1 in
    rw w at t

-- a computer that isn't faulty in a cycle isn't now
pub not_faulty_at : (c : ℕ) (h : List Moment) → is_faulty_in_cycle c h ≡ false → is_faulty c h ≡ false
unfolding is_faulty_in_cycle is_faulty since_break
not_faulty_at c [] s = refl
not_faulty_at c (m ∷ h) s = not_faulty_now c m h s

pub no_frame-no_wire : (e : Event) → is_wire e ≡ false → frame_of e ≡ []
unfolding is_wire frame_of
no_frame-no_wire (Wire f) w = cc
no_frame-no_wire _ w = refl

-- ---- skewed

not_skewed_before : (c : ℕ) (m : Moment) (h : List Moment) → is_break c m ≡ false → is_skewed c (m ∷ h) ≡ false → (is_skew c m ≡ false) × (is_skewed c h ≡ false)
not_skewed_before c m h b a = or_parts (is_skew c m) (is_skewed c h) (sym (skewed-kept c m h b) ∙ a)

place-fault : (c d : ℕ) (at : Place) (b : Bool) → eqb d c ≡ b → is_some (cond b (Some at) None) ≡ true → eqb d c ≡ true
place-fault c d at true e s = e
place-fault c d at false e s = cc

skew-fault : (c : ℕ) (e : Event) → is_some (place_of_skew c e) ≡ true → is_fault c e ≡ true
unfolding place_of_skew is_fault
skew-fault c (Skew d at) s = place-fault c d at (eqb d c) refl s
skew-fault c _ s = cc

no_skew-no_fault : (c : ℕ) (m : Moment) (b : Bool) → is_skew c m ≡ b → is_fault c m.event ≡ false → b ≡ false
unfolding is_skew
no_skew-no_fault c m false e f = refl
no_skew-no_fault c m true e f = absurd (false≢true (sym f ∙ skew-fault c m.event (and_parts (is_some (place_of_skew c m.event)) (saw_skew m.seen) e).0))

-- a computer that isn't faulty isn't skewed
pub not_skewed : (c : ℕ) (h : List Moment) → is_faulty c h ≡ false → is_skewed c h ≡ false
unfolding is_faulty is_skewed since_break
not_skewed c [] a = refl
not_skewed c (m ∷ h) a = at (is_break c m) refl (not_skewed c h)
  where
    at : (b : Bool) → is_break c m ≡ b → (is_faulty c h ≡ false → is_skewed c h ≡ false) → is_skewed c (m ∷ h) ≡ false
    at true e ih = rw e
    at false e ih =
        let t = not_faulty_before c m h e a in
        skewed-kept c m h e ∙ or_from (is_skew c m) (is_skewed c h) (no_skew-no_fault c m (is_skew c m) refl t.0) (ih t.1)

-- ---- states

-- an adopted state is the reference run's
unfoldable pub AdoptsReference : (p : Plant) (c : ℕ) (h : List Moment) (e : Event) → Type 0
AdoptsReference p c h e = (s : State) → IsAdoption p c h e s → s ≡ reference_state p (own_setpoints p) (take s.count (frames h))

state_by : (p : Plant) (h : List Moment) (e : Event) (c : ℕ) → Kind c (moment p h e) → Within p h → AdoptsReference p c h e → IsSound p c h → mode c (moment p h e ∷ h) ≡ Live → is_skewed c (moment p h e ∷ h) ≡ false → trajectory p c (moment p h e ∷ h) ≡ reference_state p (own_setpoints p) (take (frames_done p c (moment p h e ∷ h)) (frames (moment p h e ∷ h)))
unfolding Within AdoptsReference
state_by p h e c (Broke b) w adopts ok l a = absurd (broken-not_live c (moment p h e) h b l)
state_by p h e c (Adopts b ad) w adopts ok l a =
    let m = moment p h e in
    let t = IsAdoption-from_adoption p c h e ad in
    rw (trajectory-adopted p c h e t.0 b ad t.1, done-adopted p c h e t.0 b ad t.1, frames-kept m h t.1.offer.only.no_frame) (adopts t.0 t.1)
state_by p h e c (Skews b ad s) w adopts ok l a =
    absurd (false≢true (sym (not_skewed_before c (moment p h e) h b a).0 ∙ s))
state_by p h e c (Runs b s x i) w adopts ok l a =
    let m = moment p h e in
    let r = IsRun-from_issue p c h e x i in
    let was = ok.state r.live (not_skewed_before c m h b a).1 in
    let step = reference_state-step p (own_setpoints p) (frames h) (frames_done p c h) r.frame r.waited in
    let next : trajectory p c (m ∷ h) ≡ reference_state p (own_setpoints p) (take (frames_done p c h + 1) (frames h)) = trajectory-run p c m h x r.frame b s i r.no_frame r.waited ∙ (ap (λ (t : State). (step_of p t r.frame).next) was ∙ sym step) in
    rw (done-run p c m h x b s i, frames-kept m h r.no_frame) next
state_by p h e c (Quiet b s i) w adopts ok l a =
    let m = moment p h e in
    let live = sym (mode-quiet c m h b (no_base-parts c m s).0) ∙ l in
    let was = ok.state live (not_skewed_before c m h b a).1 in
    let g = reference_state-grown p (own_setpoints p) (frames h) (frame_of e) (frames_done p c h) (w c live) in
    rw (trajectory-quiet p c m h b s i (w c live), done-quiet p c m h b s i, frames-more m h) (was ∙ sym g)

-- ---- issues

-- a moment that leaves the last issue
issue_kept : (p : Plant) (h : List Moment) (e : Event) (c : ℕ) → IsSound p c h → (x : Issue) → is_break c (moment p h e) ≡ false → is_skewed c (moment p h e ∷ h) ≡ false → last_issue c (moment p h e ∷ h) ≡ last_issue c h → last_issue c (moment p h e ∷ h) ≡ Some x → reference_issue p (own_setpoints p) (frames (moment p h e ∷ h)) x.cycle ≡ Some x
issue_kept p h e c ok x b a same l =
    let m = moment p h e in
    let t = ok.issue x (not_skewed_before c m h b a).1 (sym same ∙ l) in
    rw (frames-more m h) (reference_issue-grown p (own_setpoints p) (frames h) (frame_of e) x.cycle x t)

issue_by : (p : Plant) (h : List Moment) (e : Event) (c : ℕ) → Kind c (moment p h e) → Within p h → IsSound p c h → (x : Issue) → is_skewed c (moment p h e ∷ h) ≡ false → last_issue c (moment p h e ∷ h) ≡ Some x → reference_issue p (own_setpoints p) (frames (moment p h e ∷ h)) x.cycle ≡ Some x
unfolding Within
issue_by p h e c (Broke b) w ok x a l = (let t = last_issue-broken c (moment p h e) h b in cc)
issue_by p h e c (Runs b s y i) w ok x a l =
    let m = moment p h e in
    let r = IsRun-from_issue p c h e y i in
    let was = ok.state r.live (not_skewed_before c m h b a).1 in
    let same : y ≡ x = (let t = last_issue-run c m h y b i in cc) in
    let cycle : y.cycle ≡ frames_done p c h = issue-cycle p p.setpoint (trajectory p c h) r.frame y r.issued ∙ trajectory-count p c h (w c r.live) in
    let at = reference_issue-at p (own_setpoints p) (frames h) (frames_done p c h) r.frame r.waited in
    let by_y : reference_issue p (own_setpoints p) (frames h) y.cycle ≡ Some y = ap (reference_issue p (own_setpoints p) (frames h)) cycle ∙ (at ∙ (ap (λ (t : State). Some (step_of p t r.frame).issue) (sym was) ∙ ap Some r.issued)) in
    rw (frames-kept m h r.no_frame) (subst (λ z. reference_issue p (own_setpoints p) (frames h) z.cycle ≡ Some z) same by_y)
issue_by p h e c (Quiet b s i) w ok x a l = issue_kept p h e c ok x b a (last_issue-quiet c (moment p h e) h b i) l
issue_by p h e c (Skews b ad s) w ok x a l =
    issue_kept p h e c ok x b a (last_issue-quiet c (moment p h e) h b ((IsSkew-from_skew p c h e s).quiet_issue c)) l
issue_by p h e c (Adopts b ad) w ok x a l =
    let t = IsAdoption-from_adoption p c h e ad in
    issue_kept p h e c ok x b a (last_issue-quiet c (moment p h e) h b (t.1.offer.only.quiet_issue c)) l

-- one computer stays sound
pub sound-step : (p : Plant) (c : ℕ) (h : List Moment) (e : Event) → Within p h → AdoptsReference p c h e → IsSound p c h → IsSound p c (moment p h e ∷ h)
sound-step p c h e w adopts ok = record {
  state = λ l a. state_by p h e c (kind c (moment p h e)) w adopts ok l a;
  issue = λ x a l. issue_by p h e c (kind c (moment p h e)) w ok x a l;
}

-- ---- offers

reference-grown : (p : Plant) (m : Moment) (h : List Moment) (s : State) → frame_of m.event ≡ [] → IsOfReference p (frames h) s → IsOfReference p (frames (m ∷ h)) s
reference-grown p m h s n r = subst (λ fs. IsOfReference p fs s) (sym (frames-kept m h n)) r

told-known : (known : Bool) (place : ℕ) (t s : State) → cond known (Ok t) (Err place) ≡ Ok s → t ≡ s
told-known true place t s e = cc
told-known false place t s e = cc

told-live : (b : ℕ) (h : List Moment) (m : Mode) (own other : ℕ) (t s : State) → mode b h ≡ m → cond (is_live m) (Some (told_state own other t)) None ≡ Some (Ok s) → (mode b h ≡ Live) × (t ≡ s)
unfolding told_state
told-live b h Live own other t s e f = (e, told-known (nat_le other own) 0 t s cc)
told-live b h _ own other t s e f = cc

-- what a computer that isn't lying tells is its own state
tell-state : (p : Plant) (c a : ℕ) (h : List Moment) (e : Event) (s : State) → is_offer a c e ≡ true → is_fault a e ≡ false → offered p h e ≡ Some (Ok s) → (mode a h ≡ Live) × (trajectory p a h ≡ s)
unfolding is_offer is_fault offered offer_by sender
tell-state p c a h (Tell b d) s o n t =
    let same = eqb-true b a (and_parts (eqb b a) (eqb d c) o).0 in
    subst (λ i. (mode i h ≡ Live) × (trajectory p i h ≡ s)) same (told-live b h (mode b h) _ _ (trajectory p b h) s refl t)
tell-state p c a h (Lie b d bytes) s o n t = absurd (false≢true (sym n ∙ (and_parts (eqb b a) (eqb d c) o).0))
tell-state p c a h _ s o n t = cc

told-reference : (p : Plant) (c a : ℕ) (h : List Moment) (e : Event) (s : State) → Within p h → Sound p h → is_faulty a (moment p h e ∷ h) ≡ false → IsFitOffer p c a h e s → IsOfReference p (frames h) s
unfolding Within
told-reference p c a h e s w ok n t =
    let before = not_faulty_before a (moment p h e) h (t.only.quiet_break a) n in
    let own = tell-state p c a h e s t.is_offer before.0 t.brings in
    let is = (ok.computers a).state own.0 (not_skewed a h before.1) in
    let count : s.count ≡ frames_done p a h = ap (λ (x : State). x.count) (sym own.1) ∙ trajectory-count p a h (w a own.0) in
    record {
      is = sym own.1 ∙ (is ∙ ap (λ n. reference_state p (own_setpoints p) (take n (frames h))) (sym count));
      came = (let l = w a own.0 in omega arith);
    }

held-cases : (p : Plant) (c a : ℕ) (m : Moment) (h : List Moment) (w f : Bool) (s : State) → (is_wire m.event || is_break c m) ≡ w → (is_offer a c m.event && saw_fit m.seen) ≡ f → held_offer p c a (m ∷ h) ≡ Some s → (w ≡ false) × (((f ≡ true) × (state_in (offered p h m.event) ≡ Some s)) ⊎ (held_offer p c a h ≡ Some s))
unfolding held_offer
held-cases p c a m h true f s ew ef t = let u = rw ew at t in cc
held-cases p c a m h false true s ew ef t = let u = rw (ew, ef) at t in (refl, inl (refl, u))
held-cases p c a m h false false s ew ef t = let u = rw (ew, ef) at t in (refl, inr u)

offers_next : (p : Plant) (h : List Moment) (e : Event) → Within p h → Sound p h → (c a : ℕ) (s : State) → is_faulty_in_cycle a (moment p h e ∷ h) ≡ false → held_offer p c a (moment p h e ∷ h) ≡ Some s → IsOfReference p (frames (moment p h e ∷ h)) s
unfolding state_in
offers_next p h e w ok c a s n t =
    let m = moment p h e in
    let u = held-cases p c a m h (is_wire e || is_break c m) (is_offer a c e && saw_fit m.seen) s refl refl t in
    let no_wire = (or_parts (is_wire e) (is_break c m) u.0).0 in
    reference-grown p m h s (no_frame-no_wire e no_wire) (elim u.1 [
      | inl v ↦ (
          let fit = IsFitOffer-from_fit p c a h e v.0 in
          let same : fit.0 ≡ s = (let x = ap state_in fit.1.brings in let y = v.1 in cc) in
          subst (IsOfReference p (frames h)) same (told-reference p c a h e fit.0 w ok (not_faulty_now a m h n) fit.1))
      | inr v ↦ ok.offers c a s (not_faulty_earlier a m h no_wire n) v
    ])

-- ---- an adoption

-- another computer offered the same state
pub IsOther : Plant → ℕ → ℕ → List Moment → State → Type 0
IsOther p c a h s = (b : ℕ) × ((b ≡ a → ⊥) × (held_offer p c b h ≡ Some s))

offers_same-equal : (o : Option State) (s : State) → offers_same o s ≡ true → o ≡ Some s
unfolding offers_same
offers_same-equal None s e = cc
offers_same-equal (Some t) s e = ap Some (same-eq t s e)

other-at : (p : Plant) (c a b : ℕ) (h : List Moment) (s : State) → (not (eqb b a) && offers_same (held_offer p c b h) s) ≡ true → IsOther p c a h s
unfolding IsOther
other-at p c a b h s e =
    let t = and_parts (not (eqb b a)) (offers_same (held_offer p c b h) s) e in
    (b, (eqb-false b a (not-true (eqb b a) t.0), offers_same-equal (held_offer p c b h) s t.1))

confirmed-other : (p : Plant) (c a : ℕ) (h : List Moment) (s : State) → is_confirmed (held_offers p c h) a s ≡ true → IsOther p c a h s
unfolding is_confirmed
confirmed-other p c a h s e =
    let at = λ (b : ℕ). not (eqb b a) && offers_same (held_offer p c b h) s in
    elim (or_cases (at 0) (at 1 || (at 2 || false)) e) [
      | inl u ↦ other-at p c a 0 h s u
      | inr u ↦ elim (or_cases (at 1) (at 2 || false) u) [
        | inl v ↦ other-at p c a 1 h s v
        | inr v ↦ elim (or_cases (at 2) false v) [ inl x ↦ other-at p c a 2 h s x | inr x ↦ absurd (false≢true x) ]
      ]
    ]

-- of the two computers that offered it one isn't faulty in this cycle
pub adopted-reference : (p : Plant) (c : ℕ) (h : List Moment) (e : Event) (s : State) → Within p h → Sound p h → AtMostOneFaulty (moment p h e ∷ h) → IsAdoption p c h e s → IsOfReference p (frames h) s
unfolding AtMostOneFaulty IsOther
adopted-reference p c h e s w ok one t =
    let m = moment p h e in
    let o = confirmed-other p c (sender e) h s t.confirmed in
    elim (cases_Bool (is_faulty_in_cycle (sender e) (m ∷ h))) [
      | inr u ↦ told-reference p c (sender e) h e s w ok (not_faulty_now (sender e) m h u) t.offer
      | inl u ↦ elim (cases_Bool (is_faulty_in_cycle o.0 (m ∷ h))) [
        | inr v ↦ ok.offers c o.0 s (not_faulty_earlier o.0 m h t.offer.only.no_wire v) o.1.1
        | inl v ↦ absurd (o.1.0 (one.1 o.0 (sender e) v u))
      ]
    ]

-- ---- orders

pub taken-cases : (k a : ℕ) (m : Moment) (h : List Moment) (w o : Bool) (f : ℤ) → is_wire m.event ≡ w → (is_order a k m.event && saw_taken m.seen) ≡ o → taken_force k a (m ∷ h) ≡ Some f → (w ≡ false) × (((o ≡ true) × (force_said (message_in h m.event) ≡ Some f)) ⊎ (taken_force k a h ≡ Some f))
unfolding taken_force
taken-cases k a m h true o f ew eo t = let u = rw ew at t in cc
taken-cases k a m h false true f ew eo t = let u = rw (ew, eo) at t in (refl, inl (refl, u))
taken-cases k a m h false false f ew eo t = let u = rw (ew, eo) at t in (refl, inr u)

pub said-force : (h : List Moment) (e : Event) (b : Message) (f : ℤ) → message_in h e ≡ Some b → force_said (message_in h e) ≡ Some f → f ≡ b.force
unfolding force_said
said-force h e b f t u = let v = rw t at u in cc

pub order-no_break : (p : Plant) (k a c : ℕ) (h : List Moment) (e : Event) → (is_order a k e && saw_taken (seen_of p h e)) ≡ true → is_break c (moment p h e) ≡ false
unfolding is_order is_break is_interruption is_end is_stop is_restart is_upgrade saw_overrun seen_of
order-no_break p k a c h (Order d j) s = refl
order-no_break p k a c h (Say d j cycle f) s = refl
order-no_break p k a c h _ s = cc

orders_next : (p : Plant) (h : List Moment) (e : Event) → Sound p h → (k a : ℕ) (f : ℤ) → is_faulty_in_cycle a (moment p h e ∷ h) ≡ false → taken_force k a (moment p h e ∷ h) ≡ Some f → IsReference p (frames (moment p h e ∷ h)) k f
orders_next p h e ok k a f s t =
    let m = moment p h e in
    let u = taken-cases k a m h (is_wire e) (is_order a k e && saw_taken (seen_of p h e)) f refl refl t in
    let same = frames-kept m h (no_frame-no_wire e u.0) in
    let r : IsReference p (frames h) k f = elim u.1 [
      | inl v ↦ (
          let i = IsTaken-from_order p k a h e v.0 in
          let n = not_faulty_before a m h (order-no_break p k a a h e v.0) (not_faulty_now a m h s) in
          let is : f ≡ i.0.force = said-force h e i.0 f i.1.says v.1 in
          elim i.1.from_issue [
            | inl lies ↦ absurd (false≢true (sym n.0 ∙ lies))
            | inr x ↦ (
                let alone = (ok.computers a).issue x.issue (not_skewed a h n.1) x.is in
                let at : x.issue.cycle ≡ cycles_begun h - 1 = (let now = i.1.now in let cy = x.cycle in omega arith) in
                let here = subst (λ n. reference_issue p (own_setpoints p) (frames h) n ≡ Some x.issue) at alone in
                issue-force p (frames h) (cycles_begun h - 1) k x.issue f here (x.force ∙ ap Some (sym is)))
          ])
      | inr v ↦ ok.orders k a f (not_faulty_earlier a m h u.0 s) v
    ] in
    subst (λ fs. IsReference p fs k f) (sym same) r

-- ---- every list of events

sound_next : (p : Plant) (h : List Moment) (e : Event) → Within p h → Sound p h → AtMostOneFaulty (moment p h e ∷ h) → Sound p (moment p h e ∷ h)
unfolding AdoptsReference
sound_next p h e w ok one = record {
  computers = λ c. sound-step p c h e w (λ s t. (adopted-reference p c h e s w ok one t).is) (ok.computers c);
  offers = offers_next p h e w ok;
  orders = orders_next p h e ok;
}

first-trajectory : (p : Plant) (n : ℕ) → run_on p (own_setpoints p) [] (first_state p) 0 ≡ reference_state p (own_setpoints p) (take n [])
unfolding run_on run_over reference_state
first-trajectory p zero = refl
first-trajectory p (suc n) = refl

first-sound : (p : Plant) (c : ℕ) → IsSound p c []
unfolding frames trajectory frames_done base runs last_issue
first-sound p c = record { state = λ l a. first-trajectory p ((first_state p).count + 0); issue = λ x a l. cc }

pub sound : (p : Plant) (es : List Event) → AtMostOneFaulty (history p es) → Sound p (history p es)
unfolding history held_offer taken_force AtMostOneFaulty
sound p [] one = record {
  computers = first-sound p;
  offers = λ c a s n t. cc;
  orders = λ k a f s t. cc;
}
sound p (e ∷ es) one = sound_next p (history p es) e (within p es) (sound p es one.0) one
