use Rattle.dp_frame.proofs.ProgressSteps.{last_frame-is}
use Rattle.dp_frame.proofs.progress.Progress.last_frame.Goals as goal

pub returns-then-self-clause-answer : goal.returns-then-self-clause-answer
returns-then-self-clause-answer c = λ lines r none. rw c.if-self.true at (last_frame-is c.args.self.now lines r none)

pub returns-else-self-clause-answer : goal.returns-else-self-clause-answer
returns-else-self-clause-answer c = λ lines r none. rw c.if-self.false at (last_frame-is c.args.self.now lines r none)
