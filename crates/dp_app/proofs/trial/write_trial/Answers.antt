use Rattle.std.proofs.Common.{◌≡◌, [], ℕ, List, false, subst}
use Rattle.dp_app.specs.Outcome.{play_made, trial_text}
use Rattle.dp_app.specs.Scripts.{script_of}
use Rattle.dp_app.specs.Written.{HasWritten, NoReadFailed}
use Rattle.dp_app.proofs.Showing.{shown_none}
use Rattle.dp_app.proofs.Trials.{summary_is}
use Rattle.dp_app.proofs.trial.write_trial.Goals as goal

pub returns-clause-written : goal.returns-clause-written
returns-clause-written g c =
    let x = c.args.player.now in
    let y = c.play_made.new.player in
    let script = script_of [] in
    let old = g.K.Sink.taken c.args.out.now in
    let new = g.K.Sink.taken c.write_last.new.out in
    let shown = c.play_made.ensures.shows x.plant script false old (shown_none x.plant script false x old c.requires) in
    let text : c.deref.result.now ≡ trial_text (play_made x.plant c.args.number) =
    summary_is x.plant c.args.number y.tally c.deref.result.now y.count shown.frames.count shown.frames.writes_is shown.frames.counted
    (rw c.deref.ensures.0 c.summary_of.ensures) in
    subst (λ (l : List ℕ). HasWritten NoReadFailed [] l c.write_last.result old new) text (c.write_last.ensures.written old [] shown.text)
