-- With at most one faulty computer in each cycle, a fresh ballot is the reference run's force.
use Rattle.std.proofs.Common.{Bool, List, None, Option, Some, [], arith, cond, eqb, false, inl, inr, refl, subst, sym, true, ℕ, ℤ, ◌∙◌, ◌∷◌, ◌≡◌, ◌⊎◌}
use Rattle.std.proofs.lemmas.Bool.{eqb-true}
use Rattle.std.specs.Prelude.{nat_le}
use Rattle.dp_core.proofs.Moments.{moment}
use Rattle.dp_core.proofs.Soundness.{IsReference, Sound, no_frame-no_wire, sound}
use Rattle.dp_core.proofs.Trajectories.{frames-kept}
use Rattle.dp_core.specs.Faulty.{AtMostOneFaulty, is_faulty_in_cycle}
use Rattle.dp_core.specs.History.{history, seen_of}
use Rattle.dp_core.specs.Mode.{frames}
use Rattle.dp_core.specs.Moment.{Moment, ballot_at, is_vote, is_wire, saw_ballot}
use Rattle.dp_core.specs.Voting.{agreed_force, ballot, given_ballot, last_fresh, taken_force, unfresh_cycles}
use Rattle.dp_core.specs.declared.event.Event.{Event}
use Rattle.dp_core.specs.declared.event.Event.TheVariants.{Vote}
use Rattle.dp_plant.specs.declared.frames.Frame.{Frame}
use Rattle.dp_plant.specs.declared.plant.Plant.{Plant}
use Rattle.dp_plant.specs.declared.voting.Ballot.{Ballot}
use Rattle.dp_plant.specs.declared.voting.Ballot.TheVariants.{Fresh}
use Rattle.dp_voter.specs.Ballots.{agreed_of, ballot_from, held_forces}
use Rattle.dp_voter.specs.Laws.{FreshIsRight, IsIfTaken}

pub same-force : (p : Plant) (fs : List Frame) (k : ℕ) (f g : ℤ) → IsReference p fs k f → IsReference p fs k g → f ≡ g
same-force p fs k f g a b = cc

-- what is taken of a computer that isn't faulty in this cycle is the reference run's force
IsTrusted : Plant → List Frame → ℕ → Bool → Option ℤ → Type 0
IsTrusted p fs k lies t = lies ≡ false → (f : ℤ) → t ≡ Some f → IsReference p fs k f

-- ---- the force that is right, if there is one

-- two orders of computers that aren't faulty, of which the first was taken
if_taken : (p : Plant) (fs : List Frame) (k : ℕ) (g : ℤ) (y : Option ℤ) → IsReference p fs k g → ((f : ℤ) → y ≡ Some f → IsReference p fs k f) → IsIfTaken g y
if_taken p fs k g None r t = tt
if_taken p fs k g (Some f) r t = same-force p fs k f g (t f refl) r

-- two that are trusted, of which one was taken: its force is the reference run's, and is right of both
pub record AreRight (p : Plant) (fs : List Frame) (k : ℕ) (x y : Option ℤ) : Type 0 where
  pub force : ℤ
  pub reference : IsReference p fs k force
  pub first : IsIfTaken force x
  pub second : IsIfTaken force y

right_of : (p : Plant) (fs : List Frame) (k : ℕ) (x y : Option ℤ) → ((f : ℤ) → x ≡ Some f → IsReference p fs k f) → ((f : ℤ) → y ≡ Some f → IsReference p fs k f) → ((x ≡ None) × (y ≡ None)) ⊎ AreRight p fs k x y
right_of p fs k None None tx ty = inl (refl, refl)
right_of p fs k (Some f) y tx ty = inr (record { force = f; reference = tx f refl; first = refl; second = if_taken p fs k f y (tx f refl) ty })
right_of p fs k None (Some g) tx ty = inr (record { force = g; reference = ty g refl; first = tt; second = refl })

none_agreed : (z : Option ℤ) (f : ℤ) → agreed_of (held_forces (None ∷ None ∷ z ∷ [])) ≡ Some f → ⊥
none_agreed None f s = cc
none_agreed (Some g) f s = cc

none_agreed-ends : (y : Option ℤ) (f : ℤ) → agreed_of (held_forces (None ∷ y ∷ None ∷ [])) ≡ Some f → ⊥
none_agreed-ends None f s = cc
none_agreed-ends (Some g) f s = cc

none_agreed-last : (x : Option ℤ) (f : ℤ) → agreed_of (held_forces (x ∷ None ∷ None ∷ [])) ≡ Some f → ⊥
none_agreed-last None f s = cc
none_agreed-last (Some g) f s = cc

first_two : (right : FreshIsRight) (p : Plant) (fs : List Frame) (k : ℕ) (x y z : Option ℤ) (f : ℤ) → ((x ≡ None) × (y ≡ None)) ⊎ AreRight p fs k x y → agreed_of (held_forces (x ∷ y ∷ z ∷ [])) ≡ Some f → IsReference p fs k f
first_two right p fs k x y z f (inl n) s = absurd (none_agreed z f (rw (n.0, n.1) at s))
first_two right p fs k x y z f (inr r) s = subst (IsReference p fs k) (sym (right r.force f x y z (inl (r.first, r.second)) s)) r.reference

outer_two : (right : FreshIsRight) (p : Plant) (fs : List Frame) (k : ℕ) (x y z : Option ℤ) (f : ℤ) → ((x ≡ None) × (z ≡ None)) ⊎ AreRight p fs k x z → agreed_of (held_forces (x ∷ y ∷ z ∷ [])) ≡ Some f → IsReference p fs k f
outer_two right p fs k x y z f (inl n) s = absurd (none_agreed-ends y f (rw (n.0, n.1) at s))
outer_two right p fs k x y z f (inr r) s = subst (IsReference p fs k) (sym (right r.force f x y z (inr (inl (r.first, r.second))) s)) r.reference

last_two : (right : FreshIsRight) (p : Plant) (fs : List Frame) (k : ℕ) (x y z : Option ℤ) (f : ℤ) → ((y ≡ None) × (z ≡ None)) ⊎ AreRight p fs k y z → agreed_of (held_forces (x ∷ y ∷ z ∷ [])) ≡ Some f → IsReference p fs k f
last_two right p fs k x y z f (inl n) s = absurd (none_agreed-last x f (rw (n.0, n.1) at s))
last_two right p fs k x y z f (inr r) s = subst (IsReference p fs k) (sym (right r.force f x y z (inr (inr (r.first, r.second))) s)) r.reference

agreed-force : (right : FreshIsRight) (p : Plant) (fs : List Frame) (k : ℕ) (a b c : Bool) (x y z : Option ℤ) (f : ℤ) → IsTrusted p fs k a x → IsTrusted p fs k b y → IsTrusted p fs k c z → (a ≡ true → b ≡ true → ⊥) → (a ≡ true → c ≡ true → ⊥) → (b ≡ true → c ≡ true → ⊥) → agreed_of (held_forces (x ∷ y ∷ z ∷ [])) ≡ Some f → IsReference p fs k f
unfolding IsTrusted
agreed-force right p fs k true true c x y z f ta tb tc ab ac bc s = absurd (ab refl refl)
agreed-force right p fs k true false true x y z f ta tb tc ab ac bc s = absurd (ac refl refl)
agreed-force right p fs k false true true x y z f ta tb tc ab ac bc s = absurd (bc refl refl)
agreed-force right p fs k false false c x y z f ta tb tc ab ac bc s = first_two right p fs k x y z f (right_of p fs k x y (ta refl) (tb refl)) s
agreed-force right p fs k false true false x y z f ta tb tc ab ac bc s = outer_two right p fs k x y z f (right_of p fs k x z (ta refl) (tc refl)) s
agreed-force right p fs k true false false x y z f ta tb tc ab ac bc s = last_two right p fs k x y z f (right_of p fs k y z (tb refl) (tc refl)) s

pub one_is_faulty : (h : List Moment) (c d : ℕ) → AtMostOneFaulty h → is_faulty_in_cycle c h ≡ true → is_faulty_in_cycle d h ≡ true → c ≡ d
unfolding AtMostOneFaulty is_faulty_in_cycle
one_is_faulty [] c d one s t = cc
one_is_faulty (m ∷ h) c d one s t = one.1 c d s t

-- what the first vote of a cycle gives, if it is fresh
vote-force : (right : FreshIsRight) (p : Plant) (h : List Moment) (k : ℕ) (f : ℤ) → Sound p h → AtMostOneFaulty h → agreed_force k h ≡ Some f → IsReference p (frames h) k f
unfolding IsTrusted agreed_force
vote-force right p h k f ok one s =
    agreed-force right p (frames h) k (is_faulty_in_cycle 0 h) (is_faulty_in_cycle 1 h) (is_faulty_in_cycle 2 h) (taken_force k 0 h) (taken_force k 1 h) (taken_force k 2 h) f
    (λ n g t. ok.orders k 0 g n t) (λ n g t. ok.orders k 1 g n t) (λ n g t. ok.orders k 2 g n t)
    (λ u v. (let e = one_is_faulty h 0 1 one u v in absurd (omega arith)))
    (λ u v. (let e = one_is_faulty h 0 2 one u v in absurd (omega arith)))
    (λ u v. (let e = one_is_faulty h 1 2 one u v in absurd (omega arith)))
    s

ballot_from-fresh : (o : Option ℤ) (n : ℕ) (last f : ℤ) (few : Bool) → nat_le n 5 ≡ few → ballot_from o n last ≡ Fresh f → o ≡ Some f
ballot_from-fresh (Some g) n last f few e s = cc
ballot_from-fresh None n last f true e s = let t = rw e at s in cc
ballot_from-fresh None n last f false e s = let t = rw e at s in cc

voted-first : (p : Plant) (h : List Moment) (e : Event) (k : ℕ) (b : Ballot) → given_ballot k h ≡ None → ballot_at k (moment p h e) ≡ Some b → b ≡ ballot_from (agreed_force k h) (unfresh_cycles k h) (last_fresh k h)
unfolding ballot_at is_vote saw_ballot seen_of ballot
voted-first p h (Vote j) k b g s = vote_at (eqb j k) refl s
  where
    vote_at : (same : Bool) → eqb j k ≡ same → cond same (Some (ballot j h)) None ≡ Some b → b ≡ ballot_from (agreed_force k h) (unfresh_cycles k h) (last_fresh k h)
    vote_at false q t = cc
    vote_at true q t =
        let jk = eqb-true j k q in
        let u : ballot k h ≡ b = (let v : ballot j h ≡ b = cc in subst (λ i. ballot i h ≡ b) jk v) in
        let w : ballot k h ≡ ballot_from (agreed_force k h) (unfresh_cycles k h) (last_fresh k h) = rw g in
        sym u ∙ w
voted-first p h _ k b g s = cc

pub given-cases : (k : ℕ) (m : Moment) (h : List Moment) (w : Bool) (o : Option Ballot) (b : Ballot) → is_wire m.event ≡ w → given_ballot k h ≡ o → given_ballot k (m ∷ h) ≡ Some b → (w ≡ false) × ((o ≡ Some b) ⊎ ((o ≡ None) × (ballot_at k m ≡ Some b)))
unfolding given_ballot
given-cases k m h true o b ew eo s = let t = rw ew at s in cc
given-cases k m h false (Some a) b ew eo s = let t = rw (ew, eo) at s in (refl, inl t)
given-cases k m h false None b ew eo s = let t = rw (ew, eo) at s in (refl, inr (refl, t))

-- a fresh ballot of this cycle is the reference run's force
pub given-force : (right : FreshIsRight) (p : Plant) (es : List Event) (k : ℕ) (f : ℤ) → AtMostOneFaulty (history p es) → given_ballot k (history p es) ≡ Some (Fresh f) → IsReference p (frames (history p es)) k f
unfolding history AtMostOneFaulty given_ballot
given-force right p [] k f one s = cc
given-force right p (e ∷ es) k f one s =
    let h = history p es in
    let m = moment p h e in
    let t = given-cases k m h (is_wire e) (given_ballot k h) (Fresh f) refl refl s in
    let same = frames-kept m h (no_frame-no_wire e t.0) in
    let r : IsReference p (frames h) k f = elim t.1 [
      | inl u ↦ given-force right p es k f one.0 u
      | inr u ↦ (
          let b = voted-first p h e k (Fresh f) u.0 u.1 in
          let fresh = ballot_from-fresh (agreed_force k h) (unfresh_cycles k h) (last_fresh k h) f (nat_le (unfresh_cycles k h) 5) refl (sym b) in
          vote-force right p h k f (sound p es one.0) one.0 fresh)
    ] in
    subst (λ fs. IsReference p fs k f) (sym same) r
