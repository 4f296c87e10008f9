use Rattle.std.proofs.Common.{ap, ◌+◌, ◌∙◌}
use Rattle.dp_guide.specs.Passage.{PassageState}
use Rattle.dp_guide.proofs.Taking.{taken_cycle}
use Rattle.dp_guide.proofs.passage.Passage.next.Goals as goal

pub returns-clause-cycle : goal.returns-clause-cycle
returns-clause-cycle c =
    ap (λ (p : PassageState). p.cycle + 1) c.self.view_is
    ∙ ap (λ (p : PassageState). p.cycle + 1) c.take_move.ensures
    ∙ ap (λ n. n + 1) (taken_cycle c.args.self.now.motion c.args.self.now.waiting c.args.self.now.cycle)
