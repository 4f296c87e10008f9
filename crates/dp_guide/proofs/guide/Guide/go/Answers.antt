use Rattle.std.proofs.Common.{sym, ap, ◌∙◌}
use Rattle.dp_guide.specs.Motion.{is_resting}
use Rattle.dp_guide.proofs.Motions.{headed_kept}
use Rattle.dp_guide.proofs.guide.Guide.go.Goals as goal

pub invariant_of-self : goal.invariant_of-self
invariant_of-self c =
    headed_kept c.self.inside.motion c.args.to.now c.self.invariant c.requires (ap is_resting c.self.view_is ∙ sym c.resting-rests.ensures ∙ c.if-rests.true)
