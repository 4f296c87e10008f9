use Rattle.std.proofs.Common.{true, ◌≡◌, ◌∙◌, Err, ap, ℕ, List, [], ◌++◌, None, Ok, Result, refl, subst}
use Rattle.dp_plant.specs.declared.frames.Frame.{Frame}
use Rattle.dp_shell.specs.Texts.{Files, text_named}
use Rattle.dp_app.specs.declared.fault.Fault.{Fault}
use Rattle.dp_app.specs.declared.fault.Fault.TheVariants.{Read}
use Rattle.dp_app.specs.declared.fault.File.TheVariants.{Record}
use Rattle.dp_app.specs.declared.streaming.Stop.{Stop}
use Rattle.dp_app.specs.Blocks.{blocks}
use Rattle.dp_app.specs.Causes.{RecordFailed}
use Rattle.dp_app.specs.Outcome.{Task, pieces_in, frames_in, outcome_of, to_replay}
use Rattle.dp_app.specs.Playing.{text_played}
use Rattle.dp_app.specs.Streaming.{PlaysRecord, task_of_player}
use Rattle.dp_app.specs.Written.{HasWritten, NoReadFailed}
use Rattle.dp_app.proofs.Asking.{any_files, each_file}
use Rattle.dp_app.proofs.Endings.{line_announced, stopped_announced, stopped_read, stopped_status, written_more, written_unread}
use Rattle.dp_app.proofs.Outcomes.{out_of, rose_before, status_of}
use Rattle.dp_app.proofs.ReadStops.{begins, cut_of_all, read_no_input, read_no_usage, read_told, read_written}
use Rattle.dp_app.proofs.Showing.{own_played, shown_none}
use Rattle.dp_app.proofs.replay.play.Goals as goal

pub returns-in-Ok-clause-status : goal.returns-in-Ok-clause-status
returns-in-Ok-clause-status g c = λ is.
    let x = c.args.player.now in
    let asked : Files → Result Task Fault = λ told. task_of_player x c.args.record_name.now told in
    let play = c.in-Ok.ensures.plays in
    each_file (g.F.Shelf.files c.args.shelf.now)
    (λ told. asked told ≡ Ok (to_replay (record { plant = x.plant; script = x.script; frames = play.0; fault = c.in-Ok.fault })))
    (λ told. c.finish.result ≡ (outcome_of (asked told)).status)
    (λ told e. c.finish.ensures.status is ∙ status_of x.plant x.script play.0 c.in-Ok.fault (asked told) e) play.1

pub returns-in-Ok-clause-written : goal.returns-in-Ok-clause-written
returns-in-Ok-clause-written g c =
    let x = c.args.player.now in
    let asked : Files → Result Task Fault = λ told. task_of_player x c.args.record_name.now told in
    let play = c.in-Ok.ensures.plays in
    let old = g.K.Sink.taken c.args.out.now in
    let new = g.K.Sink.taken c.finish.new.out in
    let s = c.finish.result in
    let failed = RecordFailed (g.F.Shelf.faults c.args.shelf.now) (g.F.Shelf.faults c.play_record.new.shelf) c.args.record_name.now in
    let shown = play.2 x.plant x.script true old (shown_none x.plant x.script true x old c.requires) in
    let wrote = c.finish.ensures.written old (text_played x.plant x.script true play.0) shown.text in
    each_file (g.F.Shelf.files c.args.shelf.now)
    (λ told. asked told ≡ Ok (to_replay (record { plant = x.plant; script = x.script; frames = play.0; fault = c.in-Ok.fault })))
    (λ told. HasWritten failed (pieces_in (asked told)) (outcome_of (asked told)).text s old new)
    (λ told e.
    let text = out_of x.plant x.script play.0 c.play_record.new.player.count c.in-Ok.fault (asked told) shown.frames.count e in
    written_more NoReadFailed failed (λ file never. absurd never) (pieces_in (asked told)) (outcome_of (asked told)).text s old new
    (written_unread (pieces_in (asked told)) (outcome_of (asked told)).text s old new (subst (λ (l : List ℕ). HasWritten NoReadFailed [] l s old new) text wrote)))
    play.1

pub returns-in-Ok-clause-announced : goal.returns-in-Ok-clause-announced
returns-in-Ok-clause-announced g c =
    let x = c.args.player.now in
    let play = c.in-Ok.ensures.plays in
    let old = g.K.Sink.taken c.args.out.now in
    let shown = play.2 x.plant x.script true old (shown_none x.plant x.script true x old c.requires) in
    c.finish.ensures.announced old (text_played x.plant x.script true play.0) shown.text

pub returns-in-Ok-clause-read : goal.returns-in-Ok-clause-read
returns-in-Ok-clause-read g c = λ e. absurd (c.finish.ensures.read.0 e)

pub returns-in-Ok-clause-write : goal.returns-in-Ok-clause-write
returns-in-Ok-clause-write g c = λ e. rose_before _ _ _ c.in-Ok.ensures.later (c.finish.ensures.write e)

pub returns-in-Err-Read-clause-status : goal.returns-in-Err-Read-clause-status
returns-in-Err-Read-clause-status g c = λ is. absurd (read_no_input _ _ _ c.announce.result c.announce.ensures.ends is)

pub returns-in-Err-Read-clause-written : goal.returns-in-Err-Read-clause-written
returns-in-Err-Read-clause-written g c =
    let x = c.args.player.now in
    let name = c.args.record_name.now in
    let asked : Files → Result Task Fault = λ told. task_of_player x name told in
    let play = subst (λ (e : Stop). PlaysRecord (g.F.Shelf.files c.args.shelf.now) c.args.record_name.now c.args.player.now c.play_record.new.player
    (g.K.Sink.taken c.args.out.now) (g.K.Sink.taken c.play_record.new.out) (Err e)) c.in-Err-Read.field-0-is c.in-Err-Read.ensures.plays in
    let old = g.K.Sink.taken c.args.out.now in
    let mid = g.K.Sink.taken c.play_record.new.out in
    let new = g.K.Sink.taken c.announce.new.out in
    let s = c.announce.result in
    let failed = RecordFailed (g.F.Shelf.faults c.args.shelf.now) (g.F.Shelf.faults c.play_record.new.shelf) name in
    let shown = play.2 x.plant x.script true old (shown_none x.plant x.script true x old c.requires) in
    each_file (g.F.Shelf.files c.args.shelf.now) (λ told. (later : List Frame) × (play.0 ++ later ≡ frames_in (asked told)))
    (λ told. HasWritten failed (pieces_in (asked told)) (outcome_of (asked told)).text s old new)
    (λ told first. read_written x.plant x.script play.0 (asked told) (begins x.plant x.script play.0 (text_named told name) first.0 first.1) old mid new failed s
    (refl, c.in-Err-Read.ensures.read (ap Err c.in-Err-Read.field-0-is)) shown.text c.announce.ensures.ends)
    play.1

pub returns-in-Err-Read-clause-announced : goal.returns-in-Err-Read-clause-announced
returns-in-Err-Read-clause-announced g c =
    let x = c.args.player.now in
    let play = subst (λ (e : Stop). PlaysRecord (g.F.Shelf.files c.args.shelf.now) c.args.record_name.now c.args.player.now c.play_record.new.player
    (g.K.Sink.taken c.args.out.now) (g.K.Sink.taken c.play_record.new.out) (Err e)) c.in-Err-Read.field-0-is c.in-Err-Read.ensures.plays in
    let old = g.K.Sink.taken c.args.out.now in
    let mid = g.K.Sink.taken c.play_record.new.out in
    let new = g.K.Sink.taken c.announce.new.out in
    let shown = play.2 x.plant x.script true old (shown_none x.plant x.script true x old c.requires) in
    line_announced (Read Record) old mid new (text_played x.plant x.script true play.0) c.announce.result (λ e. absurd cc) shown.text c.announce.ensures.ends

pub returns-in-Err-Read-clause-read : goal.returns-in-Err-Read-clause-read
returns-in-Err-Read-clause-read g c = λ e.
    let x = c.args.player.now in
    let play = subst (λ (e : Stop). PlaysRecord (g.F.Shelf.files c.args.shelf.now) c.args.record_name.now c.args.player.now c.play_record.new.player
    (g.K.Sink.taken c.args.out.now) (g.K.Sink.taken c.play_record.new.out) (Err e)) c.in-Err-Read.field-0-is c.in-Err-Read.ensures.plays in
    let old = g.K.Sink.taken c.args.out.now in
    let mid = g.K.Sink.taken c.play_record.new.out in
    let new = g.K.Sink.taken c.announce.new.out in
    let shown = play.2 x.plant x.script true old (shown_none x.plant x.script true x old c.requires) in (
      (refl, c.in-Err-Read.ensures.read (ap Err c.in-Err-Read.field-0-is)),
      Ok (to_replay (record { plant = x.plant; script = x.script; frames = play.0; fault = None })),
      read_told (blocks x.plant x.script play.0 []) old mid new c.announce.result shown.text c.announce.ensures.ends e,
    )

pub returns-in-Err-Read-clause-write : goal.returns-in-Err-Read-clause-write
returns-in-Err-Read-clause-write g c = λ e. rose_before _ _ _ c.in-Err-Read.ensures.later (c.announce.ensures.write e)

pub returns-in-Err-Read-clause-usage : goal.returns-in-Err-Read-clause-usage
returns-in-Err-Read-clause-usage g c = read_no_usage _ _ _ c.announce.result c.announce.ensures.ends

pub returns-in-Err-Write-clause-status : goal.returns-in-Err-Write-clause-status
returns-in-Err-Write-clause-status g c = λ is.
    let x = c.args.player.now in
    any_files (g.F.Shelf.files c.args.shelf.now) (λ told. c.stop.result ≡ (outcome_of (task_of_player x c.args.record_name.now told)).status)
    (λ told. stopped_status c.stop.result _ c.stop.ensures.answers is)

pub returns-in-Err-Write-clause-written : goal.returns-in-Err-Write-clause-written
returns-in-Err-Write-clause-written g c =
    let x = c.args.player.now in
    let name = c.args.record_name.now in
    let asked : Files → Result Task Fault = λ told. task_of_player x name told in
    let play = subst (λ (e : Stop). PlaysRecord (g.F.Shelf.files c.args.shelf.now) c.args.record_name.now c.args.player.now c.play_record.new.player
    (g.K.Sink.taken c.args.out.now) (g.K.Sink.taken c.play_record.new.out) (Err e)) c.in-Err-Write.field-0-is c.in-Err-Write.ensures.plays in
    let old = g.K.Sink.taken c.args.out.now in
    let mid = g.K.Sink.taken c.play_record.new.out in
    let new = g.K.Sink.taken c.stop.new.out in
    let s = c.stop.result in
    let failed = RecordFailed (g.F.Shelf.faults c.args.shelf.now) (g.F.Shelf.faults c.play_record.new.shelf) name in
    let cut = play.2 x.plant x.script true old (shown_none x.plant x.script true x old c.requires) in
    each_file (g.F.Shelf.files c.args.shelf.now) (λ told. (later : List Frame) × (play.0 ++ later ≡ frames_in (asked told)))
    (λ told. HasWritten failed (pieces_in (asked told)) (outcome_of (asked told)).text s old new)
    (λ told first.
    let whole = cut_of_all x.plant x.script play.0 (asked told) (begins x.plant x.script play.0 (text_named told name) first.0 first.1) old mid mid cut in
    written_more NoReadFailed failed (λ file never. absurd never) (pieces_in (asked told)) (outcome_of (asked told)).text s old new
    (written_unread (pieces_in (asked told)) (outcome_of (asked told)).text s old new (c.stop.ensures.written old (outcome_of (asked told)).text whole)))
    play.1

pub returns-in-Err-Write-clause-announced : goal.returns-in-Err-Write-clause-announced
returns-in-Err-Write-clause-announced g c = stopped_announced c.stop.result _ _ c.stop.ensures.answers

pub returns-in-Err-Write-clause-read : goal.returns-in-Err-Write-clause-read
returns-in-Err-Write-clause-read g c = λ e. absurd ((stopped_read c.stop.result c.stop.ensures.answers).0 e)

pub returns-in-Err-Write-clause-usage : goal.returns-in-Err-Write-clause-usage
returns-in-Err-Write-clause-usage g c = (stopped_read c.stop.result c.stop.ensures.answers).1

pub play_record-requires : goal.play_record-requires
play_record-requires g c = own_played c.args.player.now c.requires
