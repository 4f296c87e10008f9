use Rattle.std.proofs.Common.{◌≡◌, ◌∷◌, [], ap, ◌∙◌}
use Rattle.dp_plant.specs.declared.plant.Plant.{Plant}
use Rattle.dp_core.specs.CycleAlarms.{cycle_alarms}
use Rattle.dp_core.specs.History.{history}
use Rattle.dp_core.specs.Mode.{mode}
use Rattle.dp_report.specs.Agreement.{agreed}
use Rattle.dp_report.specs.Block.{block_text}
use Rattle.dp_app.specs.Acting.{cycle_events, voters}
use Rattle.dp_app.proofs.Blocks.{block_is}
use Rattle.dp_app.proofs.cycle.cycle.Goals as goal

pub returns-clause-block : goal.returns-clause-block
returns-clause-block c =
    let p = c.args.plant.now in
    let f = c.args.frame.now in
    let s = c.args.script.now in
    λ es r.
    let all = cycle_events p s f es in
    let now = c.play_votes.ensures.represents es r in
    let modes : c.modes-block.result ≡ mode 0 (history p all) ∷ mode 1 (history p all) ∷ mode 2 (history p all) ∷ [] =
    c.modes-block.ensures all now
    ∙ ap (λ (q : Plant). mode 0 (history q all) ∷ mode 1 (history q all) ∷ mode 2 (history q all) ∷ []) c.play_votes.ensures.plant in
    let told : c.alarms.result ≡ cycle_alarms 0 (history p all) ∷ cycle_alarms 1 (history p all) ∷ cycle_alarms 2 (history p all) ∷ [] =
    c.alarms.ensures all now
    ∙ ap (λ (q : Plant). cycle_alarms 0 (history q all) ∷ cycle_alarms 1 (history q all) ∷ cycle_alarms 2 (history q all) ∷ []) c.play_votes.ensures.plant in
    c.write_block.ensures
    ∙ ap block_text (block_is (voters p) f.cycle (history p all) c.modes-block.result _ _ c.agree-block.result modes
    (c.play_votes.ensures.ballots es r) (c.hold_all.ensures.held all now) (c.agree-block.ensures ∙ ap agreed told))
