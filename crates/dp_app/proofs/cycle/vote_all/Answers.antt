use Rattle.std.proofs.Common.{◌≡◌, ◌++◌, ◌∷◌, [], ℕ, List, map, sym, ap, subst, ◌∙◌, arith, rules}
use Rattle.std.specs.List.{range_with_len}
use Rattle.dp_plant.specs.declared.plant.Plant.{Plant}
use Rattle.dp_plant.specs.declared.voting.Ballot.{Ballot}
use Rattle.dp_core.specs.declared.event.Event.{Event}
use Rattle.dp_core.specs.History.{history}
use Rattle.dp_core.specs.Represents.{Represents}
use Rattle.dp_core.specs.Voting.{ballot}
use Rattle.dp_app.specs.Acting.{vote_events, voters}
use Rattle.dp_app.proofs.Lists.{map_next, map_same}
use Rattle.dp_app.proofs.Plays.{voted_next, voted_none}
use Rattle.dp_app.proofs.Votes.{ballot_voted}
use Rattle.dp_app.proofs.cycle.vote_all.Goals as goal

pub loop-k-init : goal.loop-k-init
loop-k-init c = record {
  represents = λ es r. subst (λ (l : List Event). Represents l c.args.world.now) (sym (voted_none es)) r;
  ballots = λ es r. search rules;
  count = search rules;
  plant = c.requires.plant;
}

pub loop-k-preserved : goal.loop-k-preserved
loop-k-preserved c =
    let p = c.args.plant.now in
    let i = c.loop-k.invariant in
    record {
      represents = λ es r. subst (λ (l : List Event). Represents l c.vote.new.self) (sym (voted_next c.loop-k.k es)) (c.vote.ensures.represents _ (i.represents es r));
      ballots = λ es r.
          let asked : c.vote.result ≡ ballot c.loop-k.k (history p es) =
          c.vote.ensures.ballot (vote_events c.loop-k.k es) (i.represents es r)
          ∙ ap (λ (q : Plant). ballot c.loop-k.k (history q (vote_events c.loop-k.k es))) i.plant ∙ ballot_voted p c.loop-k.k c.loop-k.k es in
          c.push.ensures.items ∙ ap (λ (l : List Ballot). l ++ c.vote.result ∷ []) (i.ballots es r)
          ∙ ap (λ (b : Ballot). map (λ k. ballot k (history p es)) (range_with_len 0 c.loop-k.k) ++ b ∷ []) asked
          ∙ sym (map_next (λ k. ballot k (history p es)) c.loop-k.k);
      count = search rules;
      plant = c.vote.ensures.plant ∙ i.plant;
    }

pub returns-clause-represents : goal.returns-clause-represents
returns-clause-represents c =
    let end : c.loop-k.k ≡ voters c.args.plant.now = omega (arith, c.voters_of-k-end.ensures.value) in
    λ es r. subst (λ (n : ℕ). Represents (vote_events n es) c.loop-k.world) end (c.loop-k.invariant.represents es r)

pub returns-clause-ballots : goal.returns-clause-ballots
returns-clause-ballots c =
    let p = c.args.plant.now in
    let n = voters p in
    let end : c.loop-k.k ≡ n = omega (arith, c.voters_of-k-end.ensures.value) in
    λ es r. c.loop-k.invariant.ballots es r
    ∙ ap (λ (m : ℕ). map (λ k. ballot k (history p es)) (range_with_len 0 m)) end
    ∙ map_same (λ k. ballot k (history p es)) (λ k. ballot k (history p (vote_events n es))) (λ k. sym (ballot_voted p k n es)) (range_with_len 0 n)
