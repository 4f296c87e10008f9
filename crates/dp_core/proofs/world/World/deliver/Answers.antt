use Rattle.std.proofs.Common.{◌∙◌, ◌<◌, List, ap, length, rules, set, subst, sym}
use Rattle.std.proofs.Math.Facts.{to_z-of_z}
use Rattle.arrayvec.proofs.ArrayVecLemmas.{items-with_items}
use Rattle.dp_core.specs.WorldState.{WorldState, after}
use Rattle.dp_core.specs.WorldView.{world_of}
use Rattle.dp_core.specs.declared.event.Event.TheVariants.{Say}
use Rattle.dp_voter.specs.Orders.{answer_of, ordered}
use Rattle.dp_voter.specs.VoterState.{VoterState}
use Rattle.dp_core.proofs.Lists.{changed-read, read-is}
use Rattle.dp_core.proofs.Worlds.{below-voters, said-is, say-is}
use Rattle.dp_core.proofs.world.World.deliver.Goals as goal

pub returns-clause-new : goal.returns-clause-new
unfolding after
returns-clause-new c =
    let k = c.args.voter in
    let i = c.self.inside in
    let lt : k < length i.voters.items = below-voters (world_of i) c.args.self.now k c.self.view_is c.self.invariant.voters c.requires.voter in
    let items = items-with_items i.voters (set c.deref_mut.result.now k c.order.new.self) (search rules) in
    let x = c.index-deref_mut-voter.result in
    let answer = c.order.ensures.answer in
    let taken_force = c.order.ensures.taken in
    ap (λ (vs : List VoterState). record (world_of i) { voters = vs }) (changed-read c.deref_mut.result.now i.voters.items _ k x c.order.new.self (λ v. ordered v c.args.from c.args.force (answer_of v c.args.from c.args.cycle c.args.force)) c.deref_mut.ensures.value lt c.index-deref_mut-voter.is (say-is _ c.order.new.self c.args.from c.args.cycle _ c.args.force c.order.result (to_z-of_z c.ranges.force) taken_force answer) items)
    ∙ ap (λ w. after w (Say c.args.from k c.args.cycle c.args.force)) c.self.view_is

pub returns-clause-answer : goal.returns-clause-answer
returns-clause-answer c = λ v s.
    let k = c.args.voter in
    let i = c.self.inside in
    let same = c.deref_mut.ensures.value ∙ ap (λ (w : WorldState). w.voters) c.self.view_is in
    let lt : k < length c.deref_mut.result.now = subst (λ vs. k < length vs) (sym c.deref_mut.ensures.value) (below-voters (world_of i) c.args.self.now k c.self.view_is c.self.invariant.voters c.requires.voter) in
    said-is _ v c.args.from c.args.cycle _ c.args.force c.order.result (to_z-of_z c.ranges.force) c.order.ensures.answer (read-is c.deref_mut.result.now c.args.self.now.voters k c.index-deref_mut-voter.result v same lt c.index-deref_mut-voter.is s)
