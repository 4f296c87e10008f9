-- The last issue of a computer is one of its own trajectory.
use Rattle.std.proofs.Common.{Bool, List, None, Option, Some, [], ap, eqb, false, if◌then◌else◌, inl, inr, refl, subst, suc, sym, true, ℕ, ℤ, ◌&&◌, ◌++◌, ◌∙◌, ◌∷◌, ◌≡◌}
use Rattle.std.proofs.lemmas.Bool.{and_from, eq-eqb, eqb-true}
use Rattle.dp_core.proofs.Moments.{IsMessage, IsRun, IsRun-from_issue, IsTaken-from_order, moment}
use Rattle.dp_core.proofs.Searches.{last_issue-broken, last_issue-quiet, last_issue-run}
use Rattle.dp_core.specs.History.{history, seen_of}
use Rattle.dp_core.specs.Mode.{cycles_begun}
use Rattle.dp_core.specs.Moment.{Moment, is_break, is_fault, is_order, is_run, is_wire, issue_at, saw_issue, saw_taken}
use Rattle.dp_core.specs.OwnForce.{IsOwnForce}
use Rattle.dp_core.specs.Trajectory.{last_issue}
use Rattle.dp_core.specs.Voting.{Message, answer_if, force_said, message_in, message_of, taken_force}
use Rattle.dp_core.specs.declared.event.Seen.TheVariants.{Sent as SeenSent}
use Rattle.dp_machine.specs.declared.issue.Issue.{Issue}
use Rattle.dp_core.specs.declared.event.Event.{Event}
use Rattle.dp_core.specs.declared.event.Event.TheVariants.{Order, Run}
use Rattle.dp_plant.specs.declared.plant.Plant.{Plant}
use Rattle.dp_voter.specs.declared.order.Took.{Took}
use Rattle.dp_voter.specs.declared.order.Took.TheVariants.{Repeated, Stale, Taken, Unfit}

pub record IsOwnIssue (p : Plant) (c : ℕ) (es : List Event) (x : Issue) : Type 0 where
  pub later : List Event
  pub earlier : List Event
  pub parts : es ≡ later ++ Run c ∷ earlier
  pub run : IsRun p c (history p earlier) (Run c) x

run-itself : (p : Plant) (c : ℕ) (h : List Moment) (e : Event) (x : Issue) → issue_at c (moment p h e) ≡ Some x → e ≡ Run c
unfolding issue_at is_run
run-itself p c h (Run d) x i = by (eqb d c) refl i
  where
    by : (b : Bool) → eqb d c ≡ b → (if b then saw_issue (seen_of p h (Run d)) else None) ≡ Some x → Run d ≡ Run c
    by true e i = ap Run (eqb-true d c e)
    by false e i = cc
run-itself p c h _ x i = cc

own_by : (p : Plant) (c : ℕ) (e : Event) (es : List Event) (x : Issue) (b : Bool) (i : Option Issue) → is_break c (moment p (history p es) e) ≡ b → issue_at c (moment p (history p es) e) ≡ i → (last_issue c (history p es) ≡ Some x → IsOwnIssue p c es x) → last_issue c (moment p (history p es) e ∷ history p es) ≡ Some x → IsOwnIssue p c (e ∷ es) x
own_by p c e es x true i eb ei ih l = (let t = last_issue-broken c (moment p (history p es) e) (history p es) eb in cc)
own_by p c e es x false None eb ei ih l =
    let o = ih (sym (last_issue-quiet c (moment p (history p es) e) (history p es) eb ei) ∙ l) in
    record { later = e ∷ o.later; earlier = o.earlier; parts = ap (λ xs. e ∷ xs) o.parts; run = o.run }
own_by p c e es x false (Some y) eb ei ih l =
    let same : y ≡ x = (let t = last_issue-run c (moment p (history p es) e) (history p es) y eb ei in cc) in
    let it = run-itself p c (history p es) e x (ei ∙ ap Some same) in
    record {
      later = [];
      earlier = es;
      parts = ap (λ d. d ∷ es) it;
      run = subst (λ d. IsRun p c (history p es) d x) it (IsRun-from_issue p c (history p es) e x (ei ∙ ap Some same));
    }

last_issue-own : (p : Plant) (c : ℕ) (es : List Event) (x : Issue) → last_issue c (history p es) ≡ Some x → IsOwnIssue p c es x
unfolding history last_issue
last_issue-own p c [] x l = cc
last_issue-own p c (e ∷ es) x l = own_by p c e es x (is_break c (moment p (history p es) e)) (issue_at c (moment p (history p es) e)) refl refl (last_issue-own p c es x) l

sent-taken : (o : Option Took) → SeenSent o ≡ SeenSent (Some Taken) → saw_taken (SeenSent o) ≡ true
unfolding saw_taken
sent-taken (Some Taken) e = refl
sent-taken (Some (Stale n)) e = cc
sent-taken (Some (Unfit n)) e = cc
sent-taken (Some Repeated) e = cc
sent-taken None e = cc

order-taken : (p : Plant) (k a : ℕ) (h : List Moment) → seen_of p h (Order a k) ≡ SeenSent (Some Taken) → (is_order a k (Order a k) && saw_taken (seen_of p h (Order a k))) ≡ true
unfolding is_order seen_of
order-taken p k a h s =
    and_from (eqb a a && eqb k k) (saw_taken (seen_of p h (Order a k))) (and_from (eqb a a) (eqb k k) (eq-eqb a a refl) (eq-eqb k k refl)) (sent-taken (answer_if p k a h (message_of k (last_issue a h))) s)

taken-by_order : (p : Plant) (k a : ℕ) (h : List Moment) (b : Message) → seen_of p h (Order a k) ≡ SeenSent (Some Taken) → message_in h (Order a k) ≡ Some b → taken_force k a (moment p h (Order a k) ∷ h) ≡ Some b.force
unfolding taken_force is_wire force_said
taken-by_order p k a h b s y = rw (order-taken p k a h s, y)

order-no_fault : (a b k : ℕ) → is_fault a (Order b k) ≡ true → ⊥
unfolding is_fault
order-no_fault a b k e = cc

-- what the last issue of a computer says to a voter is its own force
pub issue-own_force : (p : Plant) (k a : ℕ) (es : List Event) (b : Message) → IsMessage k (last_issue a (history p es)) b → cycles_begun (history p es) ≡ suc b.cycle → IsOwnForce p k a es b.force
issue-own_force p k a es b x now =
    let own = last_issue-own p a es x.issue x.is in
    record {
      later = own.later;
      earlier = own.earlier;
      parts = own.parts;
      live = own.run.live;
      frame = own.run.frame;
      waited = own.run.waited;
      issue = x.issue;
      issued = own.run.issued;
      of_cycle = now ∙ ap suc x.cycle;
      is = x.force;
    }

pub own-force : (p : Plant) (k a : ℕ) (es : List Event) → seen_of p (history p es) (Order a k) ≡ SeenSent (Some Taken) → (f : ℤ) × (taken_force k a (history p (Order a k ∷ es)) ≡ Some f) × IsOwnForce p k a es f
unfolding history
own-force p k a es s =
    let h = history p es in
    let t = IsTaken-from_order p k a h (Order a k) (order-taken p k a h s) in (
      t.0.force,
      taken-by_order p k a h t.0 s t.1.says,
      elim t.1.from_issue [
        | inl lies ↦ absurd (order-no_fault a a k lies)
        | inr x ↦ issue-own_force p k a es t.0 x t.1.now
      ],
    )
