use Rattle.std.proofs.Common.{◌+◌, ◌∙◌, refl}
use Rattle.dp_frame.specs.declared.entry.Judged.TheVariants.{Blank, Good, Faulty, TooMany}
use Rattle.dp_frame.specs.declared.fault.Refusal.TheVariants as refusal
use Rattle.dp_frame.specs.Record.{entries}
use Rattle.dp_frame.proofs.ProgressSteps.{ready, represents-blank, answer-blank, represents-good, answer-good, ready-follows, represents-refused, answer-refused}
use Rattle.dp_frame.proofs.progress.Progress.line.Goals as goal

pub returns-in-Blank-clause-represents : goal.returns-in-Blank-clause-represents
returns-in-Blank-clause-represents c = λ lines r.
    represents-blank c.args.self.now lines c.args.line.now c.requires.going (ready c.args.self.now lines c.args.line.now Blank c.requires.going c.in-Blank.ensures.value r)

pub returns-in-Blank-clause-answer : goal.returns-in-Blank-clause-answer
returns-in-Blank-clause-answer c = λ lines r.
    answer-blank c.args.self.now lines c.args.line.now (ready c.args.self.now lines c.args.line.now Blank c.requires.going c.in-Blank.ensures.value r)

pub returns-in-Good-clause-represents : goal.returns-in-Good-clause-represents
returns-in-Good-clause-represents c = λ lines r.
    let y = ready c.args.self.now lines c.args.line.now (Good c.in-Good.entry) c.requires.going c.in-Good.ensures.value r in
    represents-good c.args.self.now lines c.args.line.now c.in-Good.entry c.enter.new.kept c.enter.new.completed c.requires.going y
    (c.enter.ensures.kept (entries c.args.self.now.settings lines) y.keeps.kept (ready-follows c.args.self.now lines c.args.line.now c.in-Good.entry c.requires.sound.readable.step y))

pub returns-in-Good-clause-answer : goal.returns-in-Good-clause-answer
returns-in-Good-clause-answer c = λ lines r.
    let y = ready c.args.self.now lines c.args.line.now (Good c.in-Good.entry) c.requires.going c.in-Good.ensures.value r in
    c.enter.ensures.answer (entries c.args.self.now.settings lines) y.keeps.kept (ready-follows c.args.self.now lines c.args.line.now c.in-Good.entry c.requires.sound.readable.step y)
    ∙ answer-good c.args.self.now lines c.args.line.now c.in-Good.entry y

pub returns-in-Faulty-clause-represents : goal.returns-in-Faulty-clause-represents
returns-in-Faulty-clause-represents c = λ lines r.
    let y = ready c.args.self.now lines c.args.line.now (Faulty c.in-Faulty.kind) c.requires.going c.in-Faulty.ensures.value r in
    rw c.refuse.ensures.refused (represents-refused c.args.self.now lines c.args.line.now (Faulty c.in-Faulty.kind) (refusal.Faulty (c.args.self.now.number + 1) c.in-Faulty.kind) y refl)

pub returns-in-Faulty-clause-answer : goal.returns-in-Faulty-clause-answer
returns-in-Faulty-clause-answer c = λ lines r.
    let y = ready c.args.self.now lines c.args.line.now (Faulty c.in-Faulty.kind) c.requires.going c.in-Faulty.ensures.value r in
    rw c.refuse.ensures.result (answer-refused c.args.self.now lines c.args.line.now (Faulty c.in-Faulty.kind) (refusal.Faulty (c.args.self.now.number + 1) c.in-Faulty.kind) y refl)

pub returns-in-TooMany-clause-represents : goal.returns-in-TooMany-clause-represents
returns-in-TooMany-clause-represents c = λ lines r.
    let y = ready c.args.self.now lines c.args.line.now (TooMany c.in-TooMany.cycle) c.requires.going c.in-TooMany.ensures.value r in
    rw c.refuse-in-TooMany.ensures.refused (represents-refused c.args.self.now lines c.args.line.now (TooMany c.in-TooMany.cycle) (refusal.TooMany (c.args.self.now.number + 1) c.in-TooMany.cycle) y refl)

pub returns-in-TooMany-clause-answer : goal.returns-in-TooMany-clause-answer
returns-in-TooMany-clause-answer c = λ lines r.
    let y = ready c.args.self.now lines c.args.line.now (TooMany c.in-TooMany.cycle) c.requires.going c.in-TooMany.ensures.value r in
    rw c.refuse-in-TooMany.ensures.result (answer-refused c.args.self.now lines c.args.line.now (TooMany c.in-TooMany.cycle) (refusal.TooMany (c.args.self.now.number + 1) c.in-TooMany.cycle) y refl)

pub returns-in-Good-clause-range : goal.returns-in-Good-clause-range
returns-in-Good-clause-range c = (c.enter.ensures.range c.args.self.now.settings.groups c.requires.sound.range c.in-Good.ensures.within).1

pub returns-in-Good-clause-sound : goal.returns-in-Good-clause-sound
returns-in-Good-clause-sound c = record {
  readable = c.requires.sound.readable;
  bounded = c.enter.ensures.bounded c.args.self.now.number c.requires.sound.bounded;
  range = (c.enter.ensures.range c.args.self.now.settings.groups c.requires.sound.range c.in-Good.ensures.within).0;
}
