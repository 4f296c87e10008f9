use Rattle.std.proofs.Common.{List, ap, map, subst, ◌∙◌}
use Rattle.std.specs.List.{range_with_len}
use Rattle.dp_core.specs.declared.event.Event.{Event}
use Rattle.dp_core.specs.History.{history}
use Rattle.dp_core.specs.Represents.{Represents}
use Rattle.dp_core.specs.Voting.{ballot}
use Rattle.dp_app.specs.Acting.{voters}
use Rattle.dp_app.proofs.Blocks.{cycled_is}
use Rattle.dp_app.proofs.cycle.play_votes.Goals as goal

pub returns-clause-represents : goal.returns-clause-represents
returns-clause-represents c =
    let p = c.args.plant.now in
    let f = c.args.frame.now in
    λ es r. subst (λ (l : List Event). Represents l c.vote_all.new.world) (cycled_is p c.args.script.now f es)
    (c.vote_all.ensures.represents _ (c.begin_cycle.ensures.represents es r))

pub returns-clause-ballots : goal.returns-clause-ballots
returns-clause-ballots c =
    let p = c.args.plant.now in
    let f = c.args.frame.now in
    λ es r.
    c.vote_all.ensures.ballots _ (c.begin_cycle.ensures.represents es r)
    ∙ ap (λ (l : List Event). map (λ k. ballot k (history p l)) (range_with_len 0 (voters p))) (cycled_is p c.args.script.now f es)
