-- A computer represents the moments: what each of its calls keeps.
use Rattle.dp_core.specs.Mode as modes
use Rattle.dp_core.specs.Trajectory as trajectories
use Rattle.std.proofs.Common.{Bool, List, None, Option, Some, [], ap, arith, cond, drop, eqb, false, if◌then◌else◌, length, length-append, length-drop, max, min, refl, subst, suc, sym, true, unwrap_or, zero, ℕ, ℤ, ◌&&◌, ◌++◌, ◌+◌, ◌-◌, ◌<◌, ◌∙◌, ◌∷◌, ◌≡◌, ◌≤◌, ◌||◌}
use Rattle.std.proofs.lemmas.Bool.{eq-eqb, eqb-true}
use Rattle.std.proofs.lemmas.List.{drop-append-le, drop-drop}
use Rattle.std.specs.Prelude.{slice_get, ◌^◌}
use Rattle.circular_buffer.specs.Buffer.{keep_last}
use Rattle.dp_machine.specs.Machine.{one_more}
use Rattle.dp_machine.specs.Run.{own_setpoints}
use Rattle.dp_machine.specs.Step.{first_state, rest_in, step_of}
use Rattle.dp_machine.specs.declared.state.State.{State}
use Rattle.dp_exchange.proofs.Counts.{mode_of-control}
use Rattle.dp_core.proofs.Cycles.{run_on-empty}
use Rattle.dp_core.proofs.Moments.{IsSkew-from_skew, moment, run-no_base, run-no_break}
use Rattle.dp_core.proofs.Searches.{held_offer-gone, held_offer-kept, last_issue-broken, last_issue-quiet, last_issue-run, mode-broken, mode-quiet, no_base-parts, software-kept, software-quiet, steps-quiet, steps-run}
use Rattle.dp_core.proofs.Trajectories.{Within, cycles-grow, done-quiet, done-run, done-skewed, frames-kept, trajectory-quiet, trajectory-run, trajectory-skewed}
use Rattle.dp_exchange.specs.ComputerState.{ComputerState, Control, InControl, after_run, after_skew, after_step, after_stop, after_wire, control_in, first_computer, is_live, mode_of, oldest_answer, run_answer, run_answer_in, run_in, run_over_oldest, skew_answer, skew_in, wire_answer, wire_answer_in, wire_in, with_frame, with_overrun}
use Rattle.dp_exchange.specs.Offers.{no_offers}
use Rattle.dp_core.specs.HeldOffers.{held_offer, held_offers}
use Rattle.dp_core.specs.History.{answer_over, answer_to_run, answer_to_wire, seen_of}
use Rattle.dp_core.specs.Mode.{at_break, broken_mode, cycles_begun, frames, oldest, oldest_since, since_break}
use Rattle.dp_core.specs.Moment.{Moment, frame_of, is_adoption, is_base, is_break, is_end, is_interruption, is_offer, is_offer_to, is_overrun, is_restart, is_run, is_skew, is_stop, is_upgrade, is_wire, issue_at, place_of_skew, saw_fit, saw_issue, saw_overrun, saw_skew}
use Rattle.dp_core.specs.Represents.{ComputerRepresents}
use Rattle.dp_core.specs.Trajectory.{base, frames_done, last_issue, runs, trajectory}
use Rattle.dp_exchange.specs.declared.answers.Ran.{Ran}
use Rattle.dp_exchange.specs.declared.answers.Ran.TheVariants.{Aligning as RanAligning, Idle as RanIdle, Issued as RanIssued, Off as RanOff}
use Rattle.dp_core.specs.declared.event.Event.TheVariants.{Order, Run, Say, Skew, Stop, Vote, Wire}
use Rattle.dp_core.specs.declared.event.Seen.TheVariants.{Ran as SeenRan}
use Rattle.dp_plant.specs.Vectors.{zero_place}
use Rattle.dp_plant.specs.declared.frames.Frame.{Frame}
use Rattle.dp_plant.specs.declared.place.Place.{Place}
use Rattle.dp_plant.specs.declared.plant.Plant.{Plant}
use Rattle.dp_plant.specs.declared.voting.Mode.{Mode}
use Rattle.dp_plant.specs.declared.voting.Mode.TheVariants.{Aligning, Live, Off}

-- ---- the control of a computer

pub control-same : (m : Mode) (s t : State) → (m ≡ Live → s ≡ t) → control_in m s ≡ control_in m t
control-same Live s t e = ap InControl (e refl)
control-same Aligning s t e = refl
control-same Off s t e = refl

-- where the mode stays, and the state of a live one
pub control-kept : (x : Control) (m n : Mode) (s t : State) → n ≡ m → (m ≡ Live → t ≡ s) → x ≡ control_in m s → x ≡ control_in n t
control-kept x m n s t same e is = is ∙ (control-same m s t (λ l. sym (e l)) ∙ ap (λ k. control_in k t) (sym same))

-- ---- a new computer

drop-nothing : (n : ℕ) (fs : List Frame) → fs ≡ [] → fs ≡ drop n fs
drop-nothing zero fs e = refl
drop-nothing (suc n) [] e = refl
drop-nothing (suc n) (f ∷ fs) e = cc

pub computer-first : (p : Plant) (c : ℕ) → ComputerRepresents p c [] (first_computer p)
unfolding first_computer modes.mode broken_mode at_break since_break frames frames_done base runs trajectory last_issue trajectories.steps held_offer modes.software
computer-first p c = record {
  plant = refl;
  control = ap InControl (sym (run_on-empty p (own_setpoints p) (first_state p) 0));
  next = λ o. refl;
  waits_live = λ l. drop-nothing ((first_state p).count + 0) [] refl;
  waits_aligning = λ l. cc;
  offers = refl;
  software = refl;
  last = refl;
  steps = refl;
}

-- ---- the oldest frame that waits

at_break-cycles : (c : ℕ) (h : List Moment) → cycles_begun (at_break c h) ≤ cycles_begun h
unfolding at_break
at_break-cycles c [] = omega arith
at_break-cycles c (m ∷ h) = by (is_break c m) refl (at_break-cycles c h)
  where
    by : (b : Bool) → is_break c m ≡ b → cycles_begun (at_break c h) ≤ cycles_begun h → cycles_begun (if is_break c m then m ∷ h else at_break c h) ≤ cycles_begun (m ∷ h)
    by true e i = rw e (omega arith)
    by false e i = (let g = cycles-grow m h in rw e (omega arith))

oldest_since-below : (c : ℕ) (b : List Moment) (n : ℕ) → cycles_begun b ≤ n → oldest_since c b n ≤ n
unfolding oldest_since
oldest_since-below c [] n l = omega arith
oldest_since-below c (m ∷ h) n l = by (saw_overrun c m.seen) refl
  where
    by : (o : Bool) → saw_overrun c m.seen ≡ o → (if saw_overrun c m.seen then n - 16 else max (cycles_begun (m ∷ h)) (n - 16)) ≤ n
    by true e = rw e (omega arith)
    by false e = rw e (omega arith)

pub oldest-below : (c : ℕ) (h : List Moment) → oldest c h ≤ cycles_begun h
unfolding oldest
oldest-below c h = oldest_since-below c (at_break c h) (cycles_begun h) (at_break-cycles c h)

oldest_since-more : (c : ℕ) (b : List Moment) (n : ℕ) → cycles_begun b ≤ n → oldest_since c b (n + 1) ≡ oldest_since c b n + (n - oldest_since c b n + 1 - 16)
unfolding oldest_since
oldest_since-more c [] n l = omega arith
oldest_since-more c (m ∷ h) n l = by (saw_overrun c m.seen) refl
  where
    by : (o : Bool) → saw_overrun c m.seen ≡ o → (if saw_overrun c m.seen then n + 1 - 16 else max (cycles_begun (m ∷ h)) (n + 1 - 16)) ≡ (if saw_overrun c m.seen then n - 16 else max (cycles_begun (m ∷ h)) (n - 16)) + (n - (if saw_overrun c m.seen then n - 16 else max (cycles_begun (m ∷ h)) (n - 16)) + 1 - 16)
    by true e = rw e (omega arith)
    by false e = rw e (omega arith)

at_break-quiet : (c : ℕ) (m : Moment) (h : List Moment) → is_break c m ≡ false → at_break c (m ∷ h) ≡ at_break c h
unfolding at_break
at_break-quiet c m h b = rw b

pub at_break-broken : (c : ℕ) (m : Moment) (h : List Moment) → is_break c m ≡ true → at_break c (m ∷ h) ≡ m ∷ h
unfolding at_break
at_break-broken c m h b = rw b

pub oldest-quiet : (c : ℕ) (m : Moment) (h : List Moment) → is_break c m ≡ false → frame_of m.event ≡ [] → oldest c (m ∷ h) ≡ oldest c h
unfolding oldest
oldest-quiet c m h b n = rw (at_break-quiet c m h b, frames-kept m h n)

-- ---- the offers

offers-gone : (p : Plant) (c : ℕ) (m : Moment) (h : List Moment) → (is_wire m.event || is_break c m) ≡ true → held_offers p c (m ∷ h) ≡ no_offers
offers-gone p c m h g = rw (held_offer-gone c m h p 0 g, held_offer-gone c m h p 1 g, held_offer-gone c m h p 2 g)

pub offers-broken : (p : Plant) (c : ℕ) (m : Moment) (h : List Moment) → is_break c m ≡ true → held_offers p c (m ∷ h) ≡ no_offers
offers-broken p c m h b = offers-gone p c m h (by (is_wire m.event))
  where
    by : (w : Bool) → (w || is_break c m) ≡ true
    by true = refl
    by false = b

offers-kept : (p : Plant) (c : ℕ) (m : Moment) (h : List Moment) → is_wire m.event ≡ false → is_break c m ≡ false → ((a : ℕ) → (is_offer a c m.event && saw_fit m.seen) ≡ false) → held_offers p c (m ∷ h) ≡ held_offers p c h
offers-kept p c m h w b o =
    rw (held_offer-kept c m h p 0 w b (o 0), held_offer-kept c m h p 1 w b (o 1), held_offer-kept c m h p 2 w b (o 2))

-- ---- a moment that is nothing to a computer

pub record IsNothing (c : ℕ) (m : Moment) : Type 0 where
  pub no_frame : frame_of m.event ≡ []
  pub no_wire : is_wire m.event ≡ false
  pub no_break : is_break c m ≡ false
  pub no_base : is_base c m ≡ false
  pub no_issue : issue_at c m ≡ None
  pub no_offer : (a : ℕ) → (is_offer a c m.event && saw_fit m.seen) ≡ false

-- one that is nothing but for the offers
pub computer-kept_but_offers : (p : Plant) (c : ℕ) (m : Moment) (h : List Moment) (x : ComputerState) → frame_of m.event ≡ [] → is_break c m ≡ false → is_base c m ≡ false → issue_at c m ≡ None → Within p h → ComputerRepresents p c h x → (os : List (Option State)) → os ≡ held_offers p c (m ∷ h) → ComputerRepresents p c (m ∷ h) (record x { offers = os })
unfolding Within
computer-kept_but_offers p c m h x no_frame b k i w s os e =
    let same = mode-quiet c m h b (no_base-parts c m k).0 in
    let fs = frames-kept m h no_frame in
    record {
      plant = s.plant;
      control = control-kept x.control _ _ _ _ same (λ l. trajectory-quiet p c m h b k i (w c l)) s.control;
      next = λ o. rw fs (s.next (λ q. o (same ∙ q)));
      waits_live = λ l. rw (fs, done-quiet p c m h b k i) (s.waits_live (sym same ∙ l));
      waits_aligning = λ l. rw (fs, oldest-quiet c m h b no_frame) (s.waits_aligning (sym same ∙ l));
      offers = e;
      software = s.software ∙ sym (software-quiet c m h b);
      last = rw (last_issue-quiet c m h b i) s.last;
      steps = rw (steps-quiet c m h i) s.steps;
    }

pub computer-kept : (p : Plant) (c : ℕ) (m : Moment) (h : List Moment) (x : ComputerState) → IsNothing c m → Within p h → ComputerRepresents p c h x → ComputerRepresents p c (m ∷ h) x
computer-kept p c m h x n w s =
    computer-kept_but_offers p c m h x n.no_frame n.no_break n.no_base n.no_issue w s x.offers (s.offers ∙ sym (offers-kept p c m h n.no_wire n.no_break n.no_offer))

-- ---- a Stop

stop-ends : (p : Plant) (c : ℕ) (h : List Moment) → is_end c (moment p h (Stop c)) ≡ true
unfolding is_end is_stop
stop-ends p c h = (let e : eqb c c ≡ true = eq-eqb c c refl in rw e)

end-breaks : (c : ℕ) (m : Moment) → is_end c m ≡ true → is_break c m ≡ true
unfolding is_break
end-breaks c m e = rw e

end-mode : (c : ℕ) (m : Moment) (h : List Moment) → is_end c m ≡ true → modes.mode c (m ∷ h) ≡ Off
end-mode c m h e = mode-broken c m h (end-breaks c m e) ∙ rw e

stop-no_upgrade : (p : Plant) (c d : ℕ) (h : List Moment) → is_upgrade c (Stop d) ≡ false
unfolding is_upgrade
stop-no_upgrade p c d h = refl

pub computer-stop : (p : Plant) (c : ℕ) (h : List Moment) (x : ComputerState) → ComputerRepresents p c h x → ComputerRepresents p c (moment p h (Stop c) ∷ h) (after_stop x)
unfolding after_stop issue_at is_run
computer-stop p c h x s =
    let m = moment p h (Stop c) in
    let b = end-breaks c m (stop-ends p c h) in
    let off = end-mode c m h (stop-ends p c h) in
    record {
      plant = s.plant;
      control = ap (λ z. control_in z (trajectory p c (m ∷ h))) (sym off);
      next = λ o. absurd (o off);
      waits_live = λ l. cc;
      waits_aligning = λ l. cc;
      offers = sym (offers-broken p c m h b);
      software = s.software ∙ sym (software-kept c m h (stop-no_upgrade p c c h));
      last = rw (last_issue-broken c m h b);
      steps = rw (steps-quiet c m h refl) s.steps;
    }

-- ---- a Run

drop-one_more : {A : Type 0} (n : ℕ) (xs : List A) (x : A) → slice_get xs n ≡ Some x → drop n xs ≡ x ∷ drop (suc n) xs
drop-one_more n [] x e = cc
drop-one_more zero (y ∷ ys) x e = (let same : y ≡ x = cc in ap (λ z. z ∷ ys) same)
drop-one_more (suc n) (y ∷ ys) x e = drop-one_more n ys x e

drop-none_left : {A : Type 0} (n : ℕ) (xs : List A) → slice_get xs n ≡ None → drop n xs ≡ []
drop-none_left zero [] e = refl
drop-none_left (suc n) [] e = refl
drop-none_left zero (y ∷ ys) e = cc
drop-none_left (suc n) (y ∷ ys) e = drop-none_left n ys e

run-issue : (p : Plant) (c : ℕ) (h : List Moment) (m : Mode) → modes.mode c h ≡ m → issue_at c (moment p h (Run c)) ≡ saw_issue (SeenRan (answer_to_run p c h m))
unfolding issue_at is_run seen_of
run-issue p c h m e = (let q : eqb c c ≡ true = eq-eqb c c refl in rw (q, e))

run-nothing : (p : Plant) (c : ℕ) (h : List Moment) → issue_at c (moment p h (Run c)) ≡ None → IsNothing c (moment p h (Run c))
unfolding frame_of is_wire is_offer
run-nothing p c h i = record {
  no_frame = refl;
  no_wire = refl;
  no_offer = λ a. refl;
  no_break = run-no_break p c c h;
  no_base = run-no_base p c c h;
  no_issue = i;
}

one_more-limit : (n m limit : ℕ) → n ≡ min m limit → min (n + 1) limit ≡ min (m + 1) limit
one_more-limit n m limit e = rw e (grind arith)

one_more-is : (n m : ℕ) → n ≡ min m (2 ^ 64 - 1) → one_more n ≡ min (m + 1) (2 ^ 64 - 1)
one_more-is n m e = one_more-limit n m (2 ^ 64 - 1) e

run_live : (p : Plant) (c : ℕ) (h : List Moment) (f : Frame) → slice_get (frames h) (frames_done p c h) ≡ Some f → answer_to_run p c h Live ≡ RanIssued (step_of p (trajectory p c h) f).issue
unfolding answer_to_run answer_over
run_live p c h f o = rw o

run_step : (p : Plant) (c : ℕ) (h : List Moment) (x : ComputerState) (f : Frame) → modes.mode c h ≡ Live → slice_get (frames h) (frames_done p c h) ≡ Some f → ComputerRepresents p c h x → ComputerRepresents p c (moment p h (Run c) ∷ h) (after_step x (drop (suc (frames_done p c h)) (frames h)) (step_of p (trajectory p c h) f))
unfolding after_step saw_issue frame_of is_wire is_offer
run_step p c h x f l e s =
    let m = moment p h (Run c) in
    let t = step_of p (trajectory p c h) f in
    let i : issue_at c m ≡ Some t.issue = run-issue p c h Live l ∙ ap (λ (a : Ran). saw_issue (SeenRan a)) (run_live p c h f e) in
    let b = run-no_break p c c h in
    let k = run-no_base p c c h in
    let same = mode-quiet c m h b (no_base-parts c m k).0 in
    let fs = frames-kept m h refl in
    let more : frames_done p c h + 1 ≡ suc (frames_done p c h) = omega arith in
    record {
      plant = s.plant;
      control = ap InControl (sym (trajectory-run p c m h t.issue f b k i refl e)) ∙ ap (λ z. control_in z (trajectory p c (m ∷ h))) (sym (same ∙ l));
      next = λ o. rw fs (s.next (λ z. o (same ∙ z)));
      waits_live = λ z. rw (fs, done-run p c m h t.issue b k i, more);
      waits_aligning = λ z. (let u = sym same ∙ z in cc);
      offers = s.offers ∙ sym (offers-kept p c m h refl b (λ a. refl));
      software = s.software ∙ sym (software-quiet c m h b);
      last = rw (last_issue-run c m h t.issue b i);
      steps = rw (steps-run c m h t.issue i) (one_more-is x.steps (trajectories.steps c h) s.steps);
    }

none_waits : (p : Plant) (c : ℕ) (h : List Moment) → slice_get (frames h) (frames_done p c h) ≡ None → answer_to_run p c h Live ≡ RanIdle
unfolding answer_to_run answer_over
none_waits p c h e = rw e

idle-nothing : (p : Plant) (c : ℕ) (h : List Moment) (m : Mode) (a : Ran) → modes.mode c h ≡ m → answer_to_run p c h m ≡ a → saw_issue (SeenRan a) ≡ None → IsNothing c (moment p h (Run c))
idle-nothing p c h m a l r i = run-nothing p c h (run-issue p c h m l ∙ (ap (λ (a : Ran). saw_issue (SeenRan a)) r ∙ i))

run_waits : (p : Plant) (c : ℕ) (h : List Moment) (x : ComputerState) (o : Option Frame) → modes.mode c h ≡ Live → slice_get (frames h) (frames_done p c h) ≡ o → Within p h → ComputerRepresents p c h x → ComputerRepresents p c (moment p h (Run c) ∷ h) (run_over_oldest x (trajectory p c h) (drop (frames_done p c h) (frames h)))
unfolding run_over_oldest saw_issue
run_waits p c h x (Some f) l e w s =
    let rest = drop (suc (frames_done p c h)) (frames h) in
    subst (λ ws. ComputerRepresents p c (moment p h (Run c) ∷ h) (run_over_oldest x (trajectory p c h) ws)) (sym (drop-one_more (frames_done p c h) (frames h) f e))
    (subst (λ q. ComputerRepresents p c (moment p h (Run c) ∷ h) (after_step x rest (step_of q (trajectory p c h) f))) (sym s.plant)
    (run_step p c h x f l e s))
run_waits p c h x None l e w s =
    subst (λ ws. ComputerRepresents p c (moment p h (Run c) ∷ h) (run_over_oldest x (trajectory p c h) ws)) (sym (drop-none_left (frames_done p c h) (frames h) e))
    (computer-kept p c (moment p h (Run c)) h x (idle-nothing p c h Live RanIdle l (none_waits p c h e) refl) w s)

run_mode : (p : Plant) (c : ℕ) (h : List Moment) (x : ComputerState) (m : Mode) → modes.mode c h ≡ m → Within p h → ComputerRepresents p c h x → ComputerRepresents p c (moment p h (Run c) ∷ h) (run_in x (control_in m (trajectory p c h)))
unfolding run_in answer_to_run saw_issue
run_mode p c h x Live l w s = subst (λ q. ComputerRepresents p c (moment p h (Run c) ∷ h) (run_over_oldest x (trajectory p c h) q)) (sym (s.waits_live l)) (run_waits p c h x (slice_get (frames h) (frames_done p c h)) l refl w s)
run_mode p c h x Aligning l w s = computer-kept p c (moment p h (Run c)) h x (idle-nothing p c h Aligning RanAligning l refl refl) w s
run_mode p c h x Off l w s = computer-kept p c (moment p h (Run c)) h x (idle-nothing p c h Off RanOff l refl refl) w s

pub computer-run : (p : Plant) (c : ℕ) (h : List Moment) (x : ComputerState) → Within p h → ComputerRepresents p c h x → ComputerRepresents p c (moment p h (Run c) ∷ h) (after_run x)
unfolding after_run
computer-run p c h x w s = subst (λ z. ComputerRepresents p c (moment p h (Run c) ∷ h) (run_in x z)) (sym s.control) (run_mode p c h x (modes.mode c h) refl w s)

-- what a Run is answered

oldest_waits : (p : Plant) (c : ℕ) (h : List Moment) (x : ComputerState) (o : Option Frame) → slice_get (frames h) (frames_done p c h) ≡ o → ComputerRepresents p c h x → oldest_answer x (trajectory p c h) (drop (frames_done p c h) (frames h)) ≡ answer_over p (trajectory p c h) o
unfolding oldest_answer answer_over
oldest_waits p c h x (Some f) e s = ap (oldest_answer x (trajectory p c h)) (drop-one_more (frames_done p c h) (frames h) f e) ∙ ap (λ q. RanIssued (step_of q (trajectory p c h) f).issue) s.plant
oldest_waits p c h x None e s = ap (oldest_answer x (trajectory p c h)) (drop-none_left (frames_done p c h) (frames h) e)

run_answer-mode : (p : Plant) (c : ℕ) (h : List Moment) (x : ComputerState) (m : Mode) → modes.mode c h ≡ m → ComputerRepresents p c h x → run_answer_in x (control_in m (trajectory p c h)) ≡ answer_to_run p c h m
unfolding run_answer_in answer_to_run
run_answer-mode p c h x Live l s = ap (oldest_answer x (trajectory p c h)) (s.waits_live l) ∙ oldest_waits p c h x (slice_get (frames h) (frames_done p c h)) refl s
run_answer-mode p c h x Aligning l s = refl
run_answer-mode p c h x Off l s = refl

pub run_answer-represents : (p : Plant) (c : ℕ) (h : List Moment) (x : ComputerState) → ComputerRepresents p c h x → run_answer x ≡ answer_to_run p c h (modes.mode c h)
unfolding run_answer
run_answer-represents p c h x s = ap (run_answer_in x) s.control ∙ run_answer-mode p c h x (modes.mode c h) refl s

-- ---- a Wire

answer_at : (p : Plant) (c : ℕ) (h : List Moment) (f : Frame) → c < 3 → saw_overrun c (seen_of p h (Wire f)) ≡ is_overrun (Some (answer_to_wire p c h (modes.mode c h)))
unfolding saw_overrun seen_of
answer_at p zero h f l = refl
answer_at p (suc zero) h f l = refl
answer_at p (suc (suc zero)) h f l = refl
answer_at p (suc (suc (suc c))) h f l = absurd (omega arith)

wire-breaks : (p : Plant) (c : ℕ) (h : List Moment) (f : Frame) → c < 3 → is_break c (moment p h (Wire f)) ≡ is_overrun (Some (answer_to_wire p c h (modes.mode c h)))
unfolding is_break is_interruption is_end is_stop is_restart is_upgrade
wire-breaks p c h f l = answer_at p c h f l

pub wire-cycles : (p : Plant) (h : List Moment) (f : Frame) → cycles_begun (moment p h (Wire f) ∷ h) ≡ cycles_begun h + 1
unfolding frames frame_of
wire-cycles p h f = (let l = length-append (frames h) (f ∷ []) in omega arith)

wire-frames : (p : Plant) (h : List Moment) (f : Frame) → frames (moment p h (Wire f) ∷ h) ≡ frames h ++ f ∷ []
unfolding frames frame_of
wire-frames p h f = refl

-- the newest sixteen, with one more frame
newest-more : (fs : List Frame) (o : ℕ) (f : Frame) → o ≤ length fs → keep_last 16 (drop o fs ++ f ∷ []) ≡ drop (o + (length fs - o + 1 - 16)) (fs ++ f ∷ [])
newest-more fs o f l =
    let n : length (drop o fs ++ f ∷ []) ≡ length fs - o + 1 = (let a = length-append (drop o fs) (f ∷ []) in let b = length-drop o fs in omega arith) in
    rw (n, ← drop-append-le o fs (f ∷ []) l) (drop-drop (length fs - o + 1 - 16) o (fs ++ f ∷ []))

oldest-wire : (p : Plant) (c : ℕ) (h : List Moment) (f : Frame) → is_break c (moment p h (Wire f)) ≡ false → oldest c (moment p h (Wire f) ∷ h) ≡ oldest c h + (cycles_begun h - oldest c h + 1 - 16)
unfolding oldest
oldest-wire p c h f b = rw (at_break-quiet c (moment p h (Wire f)) h b, wire-cycles p h f) (oldest_since-more c (at_break c h) (cycles_begun h) (at_break-cycles c h))

oldest-overrun : (p : Plant) (c : ℕ) (h : List Moment) (f : Frame) → is_break c (moment p h (Wire f)) ≡ true → saw_overrun c (seen_of p h (Wire f)) ≡ true → oldest c (moment p h (Wire f) ∷ h) ≡ cycles_begun h + 1 - 16
unfolding oldest oldest_since
oldest-overrun p c h f b over = rw (at_break-broken c (moment p h (Wire f)) h b, over, wire-cycles p h f)

wire-no_base : (p : Plant) (c : ℕ) (h : List Moment) (f : Frame) → is_base c (moment p h (Wire f)) ≡ false
unfolding is_base is_adoption is_offer_to is_skew place_of_skew
wire-no_base p c h f = refl

wire-no_issue : (p : Plant) (c : ℕ) (h : List Moment) (f : Frame) → issue_at c (moment p h (Wire f)) ≡ None
unfolding issue_at is_run
wire-no_issue p c h f = refl

wire-no_upgrade : (c : ℕ) (f : Frame) → is_upgrade c (Wire f) ≡ false
unfolding is_upgrade
wire-no_upgrade c f = refl

wire-offers : (p : Plant) (c : ℕ) (h : List Moment) (f : Frame) → held_offers p c (moment p h (Wire f) ∷ h) ≡ no_offers
unfolding is_wire
wire-offers p c h f = offers-gone p c (moment p h (Wire f)) h refl

-- a Wire that is no overrun of c
wire_quiet : (p : Plant) (c : ℕ) (h : List Moment) (f : Frame) (x : ComputerState) (ws : List Frame) → is_break c (moment p h (Wire f)) ≡ false → (modes.mode c h ≡ Off → ⊥) → (modes.mode c h ≡ Live → ws ≡ x.waits ++ f ∷ []) → (modes.mode c h ≡ Aligning → ws ≡ keep_last 16 (x.waits ++ f ∷ [])) → Within p h → ComputerRepresents p c h x → ComputerRepresents p c (moment p h (Wire f) ∷ h) (record x { next = x.next + 1; waits = ws; offers = no_offers })
unfolding Within
wire_quiet p c h f x ws b off live aligning w s =
    let m = moment p h (Wire f) in
    let k = wire-no_base p c h f in
    let i = wire-no_issue p c h f in
    let same = mode-quiet c m h b (no_base-parts c m k).0 in
    record {
      plant = s.plant;
      control = control-kept x.control _ _ _ _ same (λ l. trajectory-quiet p c m h b k i (w c l)) s.control;
      next = λ o. (let u = s.next off in let v = wire-cycles p h f in omega arith);
      waits_live = λ q. live (sym same ∙ q) ∙ rw (wire-frames p h f, done-quiet p c m h b k i, s.waits_live (sym same ∙ q)) (sym (drop-append-le (frames_done p c h) (frames h) (f ∷ []) (w c (sym same ∙ q))));
      waits_aligning = λ q. aligning (sym same ∙ q) ∙ rw (wire-frames p h f, oldest-wire p c h f b, s.waits_aligning (sym same ∙ q)) (newest-more (frames h) (oldest c h) f (oldest-below c h));
      offers = sym (wire-offers p c h f);
      software = s.software ∙ sym (software-kept c m h (wire-no_upgrade c f));
      last = rw (last_issue-quiet c m h b i) s.last;
      steps = rw (steps-quiet c m h i) s.steps;
    }

-- an overrun of c
wire_overrun : (p : Plant) (c : ℕ) (h : List Moment) (f : Frame) (x : ComputerState) → is_break c (moment p h (Wire f)) ≡ true → saw_overrun c (seen_of p h (Wire f)) ≡ true → modes.mode c h ≡ Live → cycles_begun h - frames_done p c h ≡ 16 → Within p h → ComputerRepresents p c h x → ComputerRepresents p c (moment p h (Wire f) ∷ h) (with_overrun x f)
unfolding is_end is_stop Within
wire_overrun p c h f x b over live full w s =
    let m = moment p h (Wire f) in
    let al : modes.mode c (m ∷ h) ≡ Aligning = mode-broken c m h b in
    let n = wire-cycles p h f in
    let wd = w c live in
    let first : frames_done p c h + (cycles_begun h - frames_done p c h + 1 - 16) ≡ cycles_begun h + 1 - 16 = omega arith in
    record {
      plant = s.plant;
      control = ap (λ z. control_in z (trajectory p c (m ∷ h))) (sym al);
      next = λ q. (let u = s.next (λ z. (let y = sym live ∙ z in cc)) in omega arith);
      waits_live = λ q. (let y = sym al ∙ q in cc);
      waits_aligning = λ q. rw (wire-frames p h f, oldest-overrun p c h f b over, s.waits_live live) (newest-more (frames h) (frames_done p c h) f wd ∙ ap (λ k. drop k (frames h ++ f ∷ [])) first);
      offers = sym (wire-offers p c h f);
      software = s.software ∙ sym (software-kept c m h (wire-no_upgrade c f));
      last = rw (last_issue-broken c m h b);
      steps = rw (steps-quiet c m h (wire-no_issue p c h f)) s.steps;
    }

wire_live : (p : Plant) (c : ℕ) (h : List Moment) (f : Frame) (x : ComputerState) (full : Bool) → c < 3 → eqb (cycles_begun h - frames_done p c h) 16 ≡ full → modes.mode c h ≡ Live → Within p h → ComputerRepresents p c h x → ComputerRepresents p c (moment p h (Wire f) ∷ h) (cond full (with_overrun x f) (with_frame x f))
unfolding answer_to_wire is_overrun
wire_live p c h f x true c3 e l w s =
    let b : is_break c (moment p h (Wire f)) ≡ true = wire-breaks p c h f c3 ∙ rw (l, e) in
    let o : saw_overrun c (seen_of p h (Wire f)) ≡ true = answer_at p c h f c3 ∙ rw (l, e) in
    wire_overrun p c h f x b o l (eqb-true (cycles_begun h - frames_done p c h) 16 e) w s
wire_live p c h f x false c3 e l w s =
    let b : is_break c (moment p h (Wire f)) ≡ false = wire-breaks p c h f c3 ∙ rw (l, e) in
    wire_quiet p c h f x (x.waits ++ f ∷ []) b (λ o. (let t = sym l ∙ o in cc)) (λ _. refl) (λ a. (let t = sym l ∙ a in cc)) w s

wire_off : (p : Plant) (c : ℕ) (h : List Moment) (f : Frame) (x : ComputerState) → is_break c (moment p h (Wire f)) ≡ false → modes.mode c h ≡ Off → ComputerRepresents p c h x → ComputerRepresents p c (moment p h (Wire f) ∷ h) (record x { offers = no_offers })
wire_off p c h f x b off s =
    let m = moment p h (Wire f) in
    let i = wire-no_issue p c h f in
    let same = mode-quiet c m h b (no_base-parts c m (wire-no_base p c h f)).0 in
    record {
      plant = s.plant;
      control = control-kept x.control _ _ _ _ same (λ l. (let y = sym off ∙ l in cc)) s.control;
      next = λ o. absurd (o (same ∙ off));
      waits_live = λ q. (let y = sym off ∙ (sym same ∙ q) in cc);
      waits_aligning = λ q. (let y = sym off ∙ (sym same ∙ q) in cc);
      offers = sym (wire-offers p c h f);
      software = s.software ∙ sym (software-kept c m h (wire-no_upgrade c f));
      last = rw (last_issue-quiet c m h b i) s.last;
      steps = rw (steps-quiet c m h i) s.steps;
    }

waits-length : (p : Plant) (c : ℕ) (h : List Moment) (x : ComputerState) → modes.mode c h ≡ Live → ComputerRepresents p c h x → length x.waits ≡ cycles_begun h - frames_done p c h
waits-length p c h x l s = ap length (s.waits_live l) ∙ length-drop (frames_done p c h) (frames h)

wire_mode : (p : Plant) (c : ℕ) (h : List Moment) (f : Frame) (x : ComputerState) (m : Mode) → c < 3 → modes.mode c h ≡ m → Within p h → ComputerRepresents p c h x → ComputerRepresents p c (moment p h (Wire f) ∷ h) (wire_in x f (control_in m (trajectory p c h)))
unfolding wire_in answer_to_wire is_overrun
wire_mode p c h f x Live c3 l w s =
    subst (λ q. ComputerRepresents p c (moment p h (Wire f) ∷ h) (cond (eqb q 16) (with_overrun x f) (with_frame x f))) (sym (waits-length p c h x l s)) (wire_live p c h f x (eqb (cycles_begun h - frames_done p c h) 16) c3 refl l w s)
wire_mode p c h f x Aligning c3 l w s =
    let b : is_break c (moment p h (Wire f)) ≡ false = wire-breaks p c h f c3 ∙ rw l in
    wire_quiet p c h f x (keep_last 16 (x.waits ++ f ∷ [])) b (λ o. (let t = sym l ∙ o in cc)) (λ a. (let t = sym l ∙ a in cc)) (λ _. refl) w s
wire_mode p c h f x Off c3 l w s = wire_off p c h f x (wire-breaks p c h f c3 ∙ rw l) l s

pub computer-wire : (p : Plant) (c : ℕ) (h : List Moment) (f : Frame) (x : ComputerState) → c < 3 → Within p h → ComputerRepresents p c h x → ComputerRepresents p c (moment p h (Wire f) ∷ h) (after_wire x f)
unfolding after_wire
computer-wire p c h f x c3 w s = subst (λ z. ComputerRepresents p c (moment p h (Wire f) ∷ h) (wire_in x f z)) (sym s.control) (wire_mode p c h f x (modes.mode c h) c3 refl w s)

-- what a Wire is answered

wire_answer-mode : (p : Plant) (c : ℕ) (h : List Moment) (x : ComputerState) (m : Mode) → modes.mode c h ≡ m → ComputerRepresents p c h x → wire_answer_in x (control_in m (trajectory p c h)) ≡ answer_to_wire p c h m
unfolding wire_answer_in answer_to_wire
wire_answer-mode p c h x Live l s = rw (waits-length p c h x l s)
wire_answer-mode p c h x Aligning l s = refl
wire_answer-mode p c h x Off l s = refl

pub wire_answer-represents : (p : Plant) (c : ℕ) (h : List Moment) (x : ComputerState) → ComputerRepresents p c h x → wire_answer x ≡ answer_to_wire p c h (modes.mode c h)
unfolding wire_answer
wire_answer-represents p c h x s = ap (wire_answer_in x) s.control ∙ wire_answer-mode p c h x (modes.mode c h) refl s

-- ---- a Skew

skew-no_adoption : (p : Plant) (c d : ℕ) (at : Place) (h : List Moment) → is_adoption c (moment p h (Skew d at)) ≡ false
unfolding is_adoption is_offer_to
skew-no_adoption p c d at h = refl

skew_live : (p : Plant) (c : ℕ) (at : Place) (h : List Moment) (x : ComputerState) → is_skew c (moment p h (Skew c at)) ≡ true → Within p h → ComputerRepresents p c h x → ComputerRepresents p c (moment p h (Skew c at) ∷ h) (record x { control = InControl (rest_in (trajectory p c h) at) })
unfolding Within place_of_skew is_offer
skew_live p c at h x k w s =
    let m = moment p h (Skew c at) in
    let t = IsSkew-from_skew p c h (Skew c at) k in
    let a = skew-no_adoption p c c at h in
    let b = t.quiet_break c in
    let i = t.quiet_issue c in
    let same = mode-quiet c m h b a in
    let fs = frames-kept m h t.no_frame in
    let place : at ≡ unwrap_or (place_of_skew c (Skew c at)) zero_place = (let e : eqb c c ≡ true = eq-eqb c c refl in rw e) in
    record {
      plant = s.plant;
      control = ap InControl (ap (rest_in (trajectory p c h)) place ∙ sym (trajectory-skewed p c m h b a k)) ∙ ap (λ z. control_in z (trajectory p c (m ∷ h))) (sym (same ∙ t.live));
      next = λ o. rw fs (s.next (λ q. o (same ∙ q)));
      waits_live = λ q. rw (fs, done-skewed p c m h b a k (w c t.live)) (s.waits_live t.live);
      waits_aligning = λ q. (let u = sym same ∙ q in let v = t.live in cc);
      offers = s.offers ∙ sym (offers-kept p c m h t.no_wire b (λ d. refl));
      software = s.software ∙ sym (software-quiet c m h b);
      last = rw (last_issue-quiet c m h b i) s.last;
      steps = rw (steps-quiet c m h i) s.steps;
    }

skew_own : (p : Plant) (c : ℕ) (at : Place) (h : List Moment) (m : Mode) → modes.mode c h ≡ m → is_skew c (moment p h (Skew c at)) ≡ is_live m
unfolding is_skew place_of_skew saw_skew seen_of
skew_own p c at h m e = (let q : eqb c c ≡ true = eq-eqb c c refl in rw (q, e))

skew-nothing : (p : Plant) (c d : ℕ) (at : Place) (h : List Moment) → is_skew c (moment p h (Skew d at)) ≡ false → IsNothing c (moment p h (Skew d at))
unfolding frame_of is_wire is_break is_interruption is_end is_stop is_restart is_upgrade is_run saw_overrun seen_of issue_at is_offer is_base is_adoption is_offer_to
skew-nothing p c d at h e = record { no_frame = refl; no_wire = refl; no_break = refl; no_base = e; no_issue = refl; no_offer = λ a. refl }

skew_mode : (p : Plant) (c : ℕ) (at : Place) (h : List Moment) (x : ComputerState) (m : Mode) → modes.mode c h ≡ m → Within p h → ComputerRepresents p c h x → ComputerRepresents p c (moment p h (Skew c at) ∷ h) (skew_in x at (control_in m (trajectory p c h)))
unfolding skew_in
skew_mode p c at h x Live e w s = skew_live p c at h x (skew_own p c at h Live e) w s
skew_mode p c at h x Aligning e w s = computer-kept p c (moment p h (Skew c at)) h x (skew-nothing p c c at h (skew_own p c at h Aligning e)) w s
skew_mode p c at h x Off e w s = computer-kept p c (moment p h (Skew c at)) h x (skew-nothing p c c at h (skew_own p c at h Off e)) w s

pub computer-skew : (p : Plant) (c : ℕ) (at : Place) (h : List Moment) (x : ComputerState) → Within p h → ComputerRepresents p c h x → ComputerRepresents p c (moment p h (Skew c at) ∷ h) (after_skew x at)
unfolding after_skew
computer-skew p c at h x w s = subst (λ z. ComputerRepresents p c (moment p h (Skew c at) ∷ h) (skew_in x at z)) (sym s.control) (skew_mode p c at h x (modes.mode c h) refl w s)

pub skew_answer-represents : (p : Plant) (c : ℕ) (h : List Moment) (x : ComputerState) → ComputerRepresents p c h x → skew_answer x ≡ is_live (modes.mode c h)
unfolding skew_answer
skew_answer-represents p c h x s = ap (λ z. is_live (mode_of z)) s.control ∙ ap is_live (mode_of-control (modes.mode c h) (trajectory p c h))

-- ---- events of others

no_skew-other : (p : Plant) (c d : ℕ) (at : Place) (h : List Moment) → eqb d c ≡ false → is_skew c (moment p h (Skew d at)) ≡ false
unfolding is_skew place_of_skew
no_skew-other p c d at h e = rw e

pub skew-other : (p : Plant) (c d : ℕ) (at : Place) (h : List Moment) → eqb d c ≡ false → IsNothing c (moment p h (Skew d at))
skew-other p c d at h e = skew-nothing p c d at h (no_skew-other p c d at h e)

pub run-other : (p : Plant) (c d : ℕ) (h : List Moment) → eqb d c ≡ false → IsNothing c (moment p h (Run d))
unfolding frame_of is_wire is_break is_interruption is_end is_stop is_restart is_upgrade is_run saw_overrun seen_of is_base is_adoption is_offer_to is_skew place_of_skew issue_at is_offer
run-other p c d h e = record { no_frame = refl; no_wire = refl; no_break = refl; no_base = refl; no_issue = rw e; no_offer = λ a. refl }

pub stop-other : (p : Plant) (c d : ℕ) (h : List Moment) → eqb d c ≡ false → IsNothing c (moment p h (Stop d))
unfolding frame_of is_wire is_break is_interruption is_end is_stop is_restart is_upgrade is_run saw_overrun seen_of is_base is_adoption is_offer_to is_skew place_of_skew issue_at is_offer
stop-other p c d h e = record { no_frame = refl; no_wire = refl; no_break = rw e; no_base = refl; no_issue = refl; no_offer = λ a. refl }

pub order-nothing : (p : Plant) (c a k : ℕ) (h : List Moment) → IsNothing c (moment p h (Order a k))
unfolding frame_of is_wire is_break is_interruption is_end is_stop is_restart is_upgrade is_run saw_overrun seen_of is_base is_adoption is_offer_to is_skew place_of_skew issue_at is_offer
order-nothing p c a k h = record { no_frame = refl; no_wire = refl; no_break = refl; no_base = refl; no_issue = refl; no_offer = λ a. refl }

pub say-nothing : (p : Plant) (c a k n : ℕ) (f : ℤ) (h : List Moment) → IsNothing c (moment p h (Say a k n f))
unfolding frame_of is_wire is_break is_interruption is_end is_stop is_restart is_upgrade is_run saw_overrun seen_of is_base is_adoption is_offer_to is_skew place_of_skew issue_at is_offer
say-nothing p c a k n f h = record { no_frame = refl; no_wire = refl; no_break = refl; no_base = refl; no_issue = refl; no_offer = λ a. refl }

pub vote-nothing : (p : Plant) (c k : ℕ) (h : List Moment) → IsNothing c (moment p h (Vote k))
unfolding frame_of is_wire is_break is_interruption is_end is_stop is_restart is_upgrade is_run saw_overrun seen_of is_base is_adoption is_offer_to is_skew place_of_skew issue_at is_offer
vote-nothing p c k h = record { no_frame = refl; no_wire = refl; no_break = refl; no_base = refl; no_issue = refl; no_offer = λ a. refl }
