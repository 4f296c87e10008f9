use Rattle.std.proofs.Common.{◌∙◌, ◌<◌, List, ap, length, rules, set, subst, sym}
use Rattle.arrayvec.proofs.ArrayVecLemmas.{items-with_items}
use Rattle.dp_core.specs.WorldState.{WorldState, after}
use Rattle.dp_core.specs.WorldView.{world_of}
use Rattle.dp_core.specs.declared.event.Event.TheVariants.{Vote}
use Rattle.dp_voter.specs.Ballots.{ballot_of, voted}
use Rattle.dp_voter.specs.VoterState.{VoterState}
use Rattle.dp_core.proofs.Lists.{changed-read, read-is}
use Rattle.dp_core.proofs.Worlds.{below-voters, vote-answer, went-on}
use Rattle.dp_core.proofs.world.World.vote.Goals as goal

pub returns-clause-represents : goal.returns-clause-represents
unfolding after
returns-clause-represents c = λ es r.
    let k = c.args.voter in
    let i = c.self.inside in
    let lt : k < length i.voters.items = below-voters (world_of i) c.args.self.now k c.self.view_is c.self.invariant.voters c.requires in
    let items = items-with_items i.voters (set c.deref_mut.result.now k c.vote.new.self) (search rules) in
    went-on es c.args.self.now _ (Vote k)
    (ap (λ (vs : List VoterState). record (world_of i) { voters = vs }) (changed-read c.deref_mut.result.now i.voters.items _ k c.index-deref_mut-voter.result c.vote.new.self voted c.deref_mut.ensures.value lt c.index-deref_mut-voter.is c.vote.ensures.voted items)
    ∙ ap (λ w. after w (Vote k)) c.self.view_is) c.requires r

pub returns-clause-ballot : goal.returns-clause-ballot
returns-clause-ballot c = λ es r.
    let k = c.args.voter in
    let i = c.self.inside in
    let same = c.deref_mut.ensures.value ∙ ap (λ (w : WorldState). w.voters) c.self.view_is in
    let lt : k < length c.deref_mut.result.now = subst (λ vs. k < length vs) (sym c.deref_mut.ensures.value) (below-voters (world_of i) c.args.self.now k c.self.view_is c.self.invariant.voters c.requires) in
    vote-answer es c.args.self.now k c.vote.result c.requires r
    (λ v s. c.vote.ensures.ballot ∙ ap ballot_of (read-is c.deref_mut.result.now c.args.self.now.voters k c.index-deref_mut-voter.result v same lt c.index-deref_mut-voter.is s))
