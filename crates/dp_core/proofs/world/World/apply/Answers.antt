-- What each arm answers is what is seen of the event.
use Rattle.std.proofs.Common.{rules}
use Rattle.dp_core.specs.History.{history}
use Rattle.dp_core.proofs.Worlds.{seen-lie, seen-order, seen-restart, seen-run, seen-say, seen-skew, seen-stop, seen-tell, seen-upgrade, seen-vote, seen-wire}
use Rattle.dp_core.proofs.world.World.apply.Goals as goal

pub returns-in-Wire-clause-seen : goal.returns-in-Wire-clause-seen
returns-in-Wire-clause-seen c = λ es r.
    seen-wire c.args.self.now.plant (history c.args.self.now.plant es) c.args.e.now c.in-Wire.f _ (c.wire.ensures.answers es r) (search rules)

pub returns-in-Run-clause-seen : goal.returns-in-Run-clause-seen
returns-in-Run-clause-seen c = λ es r.
    seen-run c.args.self.now.plant (history c.args.self.now.plant es) c.args.e.now _ _ (c.run.ensures.answer es r) (search rules)

pub returns-in-Order-clause-seen : goal.returns-in-Order-clause-seen
returns-in-Order-clause-seen c = λ es r.
    seen-order c.args.self.now.plant (history c.args.self.now.plant es) c.args.e.now _ _ _ (c.order.ensures.answer es r) (search rules)

pub returns-in-Vote-clause-seen : goal.returns-in-Vote-clause-seen
returns-in-Vote-clause-seen c = λ es r.
    seen-vote c.args.self.now.plant (history c.args.self.now.plant es) c.args.e.now _ _ (c.vote.ensures.ballot es r) (search rules)

pub returns-in-Skew-clause-seen : goal.returns-in-Skew-clause-seen
returns-in-Skew-clause-seen c = λ es r.
    seen-skew c.args.self.now.plant (history c.args.self.now.plant es) c.args.e.now _ c.in-Skew.at _ (c.skew.ensures.answer es r) (search rules)

pub returns-in-Say-clause-seen : goal.returns-in-Say-clause-seen
returns-in-Say-clause-seen c = λ es r.
    seen-say c.args.self.now.plant (history c.args.self.now.plant es) c.args.e.now _ _ _ _ c.in-Say.force _ (c.say.ensures.answer es r) (search rules) (search rules)

pub returns-in-Stop-clause-seen : goal.returns-in-Stop-clause-seen
returns-in-Stop-clause-seen c = λ es r.
    seen-stop c.args.self.now.plant (history c.args.self.now.plant es) c.args.e.now c.in-Stop.c (search rules)

pub returns-in-Tell-clause-seen : goal.returns-in-Tell-clause-seen
returns-in-Tell-clause-seen c = λ es r.
    seen-tell c.args.self.now.plant (history c.args.self.now.plant es) c.args.e.now _ _ _ (c.tell.ensures.answer es r) (search rules)

pub returns-in-Lie-clause-seen : goal.returns-in-Lie-clause-seen
returns-in-Lie-clause-seen c = λ es r.
    seen-lie c.args.self.now.plant (history c.args.self.now.plant es) c.args.e.now _ _ c.in-Lie.bytes _ _ (c.lie.ensures.answer es r) (search rules) (search rules)

pub returns-in-Restart-clause-seen : goal.returns-in-Restart-clause-seen
returns-in-Restart-clause-seen c = λ es r.
    seen-restart c.args.self.now.plant (history c.args.self.now.plant es) c.args.e.now c.in-Restart.c (search rules)

pub returns-in-Upgrade-clause-seen : goal.returns-in-Upgrade-clause-seen
returns-in-Upgrade-clause-seen c = λ es r.
    seen-upgrade c.args.self.now.plant (history c.args.self.now.plant es) c.args.e.now c.in-Upgrade.c (search rules)
