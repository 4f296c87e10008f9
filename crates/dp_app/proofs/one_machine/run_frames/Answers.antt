use Rattle.std.proofs.Common.{◌≡◌, ℕ, ◌++◌, ◌∷◌, ◌<◌, ◌^◌, ◌+◌, [], List, length, length-append, refl, sym, ◌∙◌, subst, arith, rules}
use Rattle.dp_plant.specs.declared.frames.Frame.{Frame}
use Rattle.dp_shell.specs.{ReadsOnly}
use Rattle.dp_shell.proofs.OneName.{reads_more, reads_none}
use Rattle.dp_stream.specs.declared.next.Next.TheVariants as next
use Rattle.dp_app.proofs.OneRun.{runs_count, runs_more}
use Rattle.dp_app.proofs.ReadPlays.{answered}
use Rattle.dp_app.proofs.one_machine.run_frames.Goals as goal

pub loop-machine-init : goal.loop-machine-init
loop-machine-init g c = record {
  since = reads_none g.F.Shelf.files g.F.Shelf.apart g.F.Shelf.faults c.args.reader.now.name c.args.shelf.now;
  fs = [];
  given = c.requires.given (g.F.Shelf.files c.args.shelf.now);
  same = c.requires.settings;
  name = refl;
  run = c.requires.run;
}

pub step-issue-requires-clause-next : goal.step-issue-requires-clause-next
step-issue-requires-clause-next g c =
    let inv = c.loop-machine.invariant in
    let answer = answered (g.F.Shelf.files c.args.shelf.now) (g.F.Shelf.files c.loop-machine.shelf) c.loop-machine.reader c.next.new.self inv.fs c.in-Ok-Frame.field-0 next.Frame
    inv.since.files c.in-Ok-Frame.field-0-is c.in-Ok-Frame.ensures.answers inv.given in
    rw c.frame.ensures (answer.1 ∙ sym (runs_count c.args.plant.now c.loop-machine.machine inv.fs inv.run))

pub loop-machine-smaller : goal.loop-machine-smaller
loop-machine-smaller g c =
    let inv = c.loop-machine.invariant in
    let files = g.F.Shelf.files c.args.shelf.now in
    let f = c.next.new.self.frame in
    let answer = answered files (g.F.Shelf.files c.loop-machine.shelf) c.loop-machine.reader c.next.new.self inv.fs c.in-Ok-Frame.field-0 next.Frame
    inv.since.files c.in-Ok-Frame.field-0-is c.in-Ok-Frame.ensures.answers inv.given in
    let before = runs_count c.args.plant.now c.loop-machine.machine inv.fs inv.run in
    let more = runs_more c.args.plant.now c.loop-machine.machine c.step-issue.new.self inv.fs f c.step-issue.result inv.run
    (rw c.frame.ensures at c.step-issue.ensures.issued) c.step-issue.ensures.plant in
    let now = runs_count c.args.plant.now c.step-issue.new.self (inv.fs ++ f ∷ []) more in
    omega (arith, before, now, answer.1, answer.2.within.cycle, more_frames inv.fs f)
  where
    more_frames : (fs : List Frame) (f : Frame) → length (fs ++ f ∷ []) ≡ length fs + 1
    more_frames fs f = omega (arith, length-append fs (f ∷ []))

pub loop-machine-preserved : goal.loop-machine-preserved
loop-machine-preserved g c =
    let inv = c.loop-machine.invariant in
    let files = g.F.Shelf.files c.args.shelf.now in
    let f = c.next.new.self.frame in
    let answer = answered files (g.F.Shelf.files c.loop-machine.shelf) c.loop-machine.reader c.next.new.self inv.fs c.in-Ok-Frame.field-0 next.Frame
    inv.since.files c.in-Ok-Frame.field-0-is c.in-Ok-Frame.ensures.answers inv.given in
    record {
      since = reads_more g.F.Shelf.files g.F.Shelf.apart g.F.Shelf.faults c.args.reader.now.name c.args.shelf.now c.loop-machine.shelf c.next.new.shelf inv.since
          (subst (λ (n : List ℕ). ReadsOnly g.F.Shelf.files g.F.Shelf.apart g.F.Shelf.faults n c.loop-machine.shelf c.next.new.shelf) inv.name c.next.ensures.reads);
      fs = inv.fs ++ f ∷ [];
      given = answer.0;
      same = c.next.ensures.settings ∙ inv.same;
      name = c.next.ensures.name ∙ inv.name;
      run = runs_more c.args.plant.now c.loop-machine.machine c.step-issue.new.self inv.fs f c.step-issue.result inv.run
          (rw c.frame.ensures at c.step-issue.ensures.issued) c.step-issue.ensures.plant;
    }
