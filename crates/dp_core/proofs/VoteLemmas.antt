-- What a Vote changes: the ballot that it gives is given from then on, and all else stays.
use Rattle.std.proofs.Common.{List, None, Some, [], ap, eqb, false, inl, inr, map, refl, subst, sym, ℕ, ◌++◌, ◌∙◌, ◌∷◌, ◌≡◌}
use Rattle.std.proofs.lemmas.Bool.{cases_Bool, eqb-true}
use Rattle.dp_core.proofs.Computers.{vote-nothing}
use Rattle.dp_core.proofs.HistoryLemmas.{frames-vote}
use Rattle.dp_core.proofs.Moments.{moment}
use Rattle.dp_core.proofs.Searches.{mode-quiet, no_base-parts}
use Rattle.dp_core.proofs.Voters.{given-kept, given-voted, last_fresh-kept, taken-kept, unfresh-kept}
use Rattle.dp_core.specs.History.{history}
use Rattle.dp_core.specs.Mode.{frames, mode}
use Rattle.dp_core.specs.Moment.{Moment, ballot_at, is_order, is_vote, is_wire}
use Rattle.dp_core.specs.Voting.{agreed_force, ballot, given_ballot, last_fresh, taken_force, unfresh_cycles}
use Rattle.dp_core.specs.declared.event.Event.{Event}
use Rattle.dp_core.specs.declared.event.Event.TheVariants.{Vote}
use Rattle.dp_plant.specs.declared.plant.Plant.{Plant}
use Rattle.dp_plant.specs.declared.voting.Ballot.{Ballot}

-- ---- what it gives

-- the ballot that is given is the ballot
pub ballot-given : (k : ℕ) (h : List Moment) (b : Ballot) → given_ballot k h ≡ Some b → ballot k h ≡ b
unfolding ballot
ballot-given k h b g = rw g

pub given-vote : (p : Plant) (k : ℕ) (es : List Event) → given_ballot k (history p (Vote k ∷ es)) ≡ Some (ballot k (history p es))
unfolding history
given-vote p k es = given-voted p k (history p es) (given_ballot k (history p es)) refl

-- ---- what stays

no_ballot : (p : Plant) (h : List Moment) (j k : ℕ) → eqb j k ≡ false → ballot_at k (moment p h (Vote j)) ≡ None
unfolding ballot_at is_vote
no_ballot p h j k n = rw n

pub taken-vote : (p : Plant) (j k a : ℕ) (es : List Event) → taken_force k a (history p (Vote j ∷ es)) ≡ taken_force k a (history p es)
unfolding history is_wire is_order
taken-vote p j k a es = taken-kept k a (moment p (history p es) (Vote j)) (history p es) refl refl

agreed-vote : (p : Plant) (j k : ℕ) (es : List Event) → agreed_force k (history p (Vote j ∷ es)) ≡ agreed_force k (history p es)
unfolding agreed_force
agreed-vote p j k es = rw (taken-vote p j k 0 es, taken-vote p j k 1 es, taken-vote p j k 2 es)

-- a Vote of another
given-vote_of_another : (p : Plant) (j k : ℕ) (es : List Event) → eqb j k ≡ false → given_ballot k (history p (Vote j ∷ es)) ≡ given_ballot k (history p es)
unfolding history is_wire
given-vote_of_another p j k es n =
    let h = history p es in
    given-kept k (moment p h (Vote j)) h refl (no_ballot p h j k n)

unfresh-vote_of_another : (p : Plant) (j k : ℕ) (es : List Event) → eqb j k ≡ false → unfresh_cycles k (history p (Vote j ∷ es)) ≡ unfresh_cycles k (history p es)
unfolding history is_wire
unfresh-vote_of_another p j k es n =
    let h = history p es in
    unfresh-kept k (moment p h (Vote j)) h refl (no_ballot p h j k n)

last_fresh-vote_of_another : (p : Plant) (j k : ℕ) (es : List Event) → eqb j k ≡ false → last_fresh k (history p (Vote j ∷ es)) ≡ last_fresh k (history p es)
unfolding history
last_fresh-vote_of_another p j k es n =
    let h = history p es in
    last_fresh-kept k (moment p h (Vote j)) h (no_ballot p h j k n)

ballot-vote_of_another : (p : Plant) (j k : ℕ) (es : List Event) → eqb j k ≡ false → ballot k (history p (Vote j ∷ es)) ≡ ballot k (history p es)
unfolding ballot
ballot-vote_of_another p j k es n = rw (given-vote_of_another p j k es n, agreed-vote p j k es, unfresh-vote_of_another p j k es n, last_fresh-vote_of_another p j k es n)

-- the first vote gives the ballot, and a later one the same
pub ballot-vote : (p : Plant) (j k : ℕ) (es : List Event) → ballot k (history p (Vote j ∷ es)) ≡ ballot k (history p es)
ballot-vote p j k es = elim (cases_Bool (eqb j k)) [
  | inl q ↦ (
      let own = ballot-given k (history p (Vote k ∷ es)) (ballot k (history p es)) (given-vote p k es) in
      subst (λ i. ballot k (history p (Vote i ∷ es)) ≡ ballot k (history p es)) (sym (eqb-true j k q)) own)
  | inr q ↦ ballot-vote_of_another p j k es q
]

-- what is given stays given
pub given-stays : (p : Plant) (j k : ℕ) (es : List Event) (b : Ballot) → given_ballot k (history p es) ≡ Some b → given_ballot k (history p (Vote j ∷ es)) ≡ Some b
given-stays p j k es b g = elim (cases_Bool (eqb j k)) [
  | inl q ↦ (
      let own = given-vote p k es ∙ ap Some (ballot-given k (history p es) b g) in
      subst (λ i. given_ballot k (history p (Vote i ∷ es)) ≡ Some b) (sym (eqb-true j k q)) own)
  | inr q ↦ given-vote_of_another p j k es q ∙ g
]

pub mode-vote : (p : Plant) (j c : ℕ) (es : List Event) → mode c (history p (Vote j ∷ es)) ≡ mode c (history p es)
unfolding history
mode-vote p j c es =
    let h = history p es in
    let n = vote-nothing p c j h in
    mode-quiet c (moment p h (Vote j)) h n.no_break (no_base-parts c (moment p h (Vote j)) n.no_base).0

-- ---- any number of Votes, of any voters

pub frames-votes : (p : Plant) (js : List ℕ) (es : List Event) → frames (history p (map Vote js ++ es)) ≡ frames (history p es)
frames-votes p [] es = refl
frames-votes p (j ∷ js) es = frames-vote p j (map Vote js ++ es) ∙ frames-votes p js es

pub taken-votes : (p : Plant) (js : List ℕ) (k a : ℕ) (es : List Event) → taken_force k a (history p (map Vote js ++ es)) ≡ taken_force k a (history p es)
taken-votes p [] k a es = refl
taken-votes p (j ∷ js) k a es = taken-vote p j k a (map Vote js ++ es) ∙ taken-votes p js k a es

pub ballot-votes : (p : Plant) (js : List ℕ) (k : ℕ) (es : List Event) → ballot k (history p (map Vote js ++ es)) ≡ ballot k (history p es)
ballot-votes p [] k es = refl
ballot-votes p (j ∷ js) k es = ballot-vote p j k (map Vote js ++ es) ∙ ballot-votes p js k es

pub given-votes : (p : Plant) (js : List ℕ) (k : ℕ) (es : List Event) (b : Ballot) → given_ballot k (history p es) ≡ Some b → given_ballot k (history p (map Vote js ++ es)) ≡ Some b
given-votes p [] k es b g = g
given-votes p (j ∷ js) k es b g = given-stays p j k (map Vote js ++ es) b (given-votes p js k es b g)

pub mode-votes : (p : Plant) (js : List ℕ) (c : ℕ) (es : List Event) → mode c (history p (map Vote js ++ es)) ≡ mode c (history p es)
mode-votes p [] c es = refl
mode-votes p (j ∷ js) c es = mode-vote p j c (map Vote js ++ es) ∙ mode-votes p js c es
