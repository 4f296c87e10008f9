-- The ballots of all voters stay while the others vote.
use Rattle.std.proofs.Common.{◌≡◌, ℕ, zero, suc, ◌<◌, List, ◌∷◌, Some, refl, sym, ap, ◌∙◌, subst, arith, inl, inr}
use Rattle.std.proofs.lemmas.Bool.{cases_lt}
use Rattle.dp_plant.specs.declared.plant.Plant.{Plant}
use Rattle.dp_core.specs.declared.event.Event.{Event}
use Rattle.dp_core.specs.declared.event.Event.TheVariants.{Vote}
use Rattle.dp_core.specs.History.{history}
use Rattle.dp_core.specs.Voting.{ballot, given_ballot}
use Rattle.dp_core.proofs.VoteLemmas.{ballot-vote, given-stays, given-vote}
use Rattle.dp_app.specs.Acting.{vote_events}

-- the votes of the first voters change no voter's ballot and no order that it took
pub ballot_voted : (p : Plant) (k n : ℕ) (es : List Event) → ballot k (history p (vote_events n es)) ≡ ballot k (history p es)
unfolding vote_events
ballot_voted p k zero es = refl
ballot_voted p k (suc n) es = ballot-vote p n k (vote_events n es) ∙ ballot_voted p k n es

-- each of the first voters has given its ballot
given_at : (p : Plant) (n k : ℕ) (es : List Event) → k < n → given_ballot k (history p (vote_events n es)) ≡ Some (ballot k (history p es))
unfolding vote_events
given_at p zero k es lt = absurd (omega arith)
given_at p (suc n) k es lt = elim (cases_lt k n) [
  | inl less ↦ given-stays p n k (vote_events n es) (ballot k (history p es)) (given_at p n k es less)
  | inr other ↦ last (let e : k ≡ n = omega arith in e)
]
  where
    last : k ≡ n → given_ballot k (history p (Vote n ∷ vote_events n es)) ≡ Some (ballot k (history p es))
    last e =
        subst (λ (j : ℕ). given_ballot k (history p (Vote j ∷ vote_events n es)) ≡ Some (ballot k (history p es))) e
        (given-vote p k (vote_events n es) ∙ ap Some (ballot_voted p k n es))

pub given_voted : (p : Plant) (n k : ℕ) (es : List Event) → k < n → given_ballot k (history p (vote_events n es)) ≡ Some (ballot k (history p (vote_events n es)))
given_voted p n k es lt = given_at p n k es lt ∙ ap Some (sym (ballot_voted p k n es))
