use Rattle.std.proofs.Common.{refl, ◌∙◌}
use Rattle.dp_guide.proofs.MovesHearing.{heard_skip, heard_entry, heard_fault}
use Rattle.dp_guide.proofs.moves_draft.Draft.hear.Goals as goal

pub returns-in-Ok-None-clause-heard : goal.returns-in-Ok-None-clause-heard
returns-in-Ok-None-clause-heard c = λ before heard.
    heard_skip c.args.self.now _ c.args.line.now before heard (c.in-Ok-None.ensures.said ∙ c.in-Ok-None.field-0-is) (c.in-Ok-None.ensures.fault before heard) refl refl refl

pub returns-in_ok-enter-in-Ok-Some-clause-heard : goal.returns-in_ok-enter-in-Ok-Some-clause-heard
returns-in_ok-enter-in-Ok-Some-clause-heard c = λ before heard.
    heard_entry c.args.self.now _ c.args.line.now before c.in-Ok-Some.next heard (c.in-Ok-Some.ensures.said ∙ c.in-Ok-Some.field-0-is) (c.in-Ok-Some.ensures.fault before heard)
    c.in_ok-enter-in-Ok-Some.ensures.number c.in_ok-enter-in-Ok-Some.ensures.count c.in_ok-enter-in-Ok-Some.ensures.last

pub returns-in-Err-clause-fault : goal.returns-in-Err-clause-fault
returns-in-Err-clause-fault c = λ _ before heard. heard_fault c.args.self.now c.args.line.now before c.in-Err.kind heard (c.in-Err.ensures.fault before heard)
