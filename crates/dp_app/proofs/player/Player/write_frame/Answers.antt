use Rattle.std.proofs.Common.{◌≡◌, ◌∷◌, ◌++◌, [], ℕ, List, is_none, sym, ◌∙◌, ap, subst, refl}
use Rattle.std.specs.Io.KnownBytes.{Appends}
use Rattle.dp_shell.specs.Taken.{AppendsCut}
use Rattle.dp_shell.proofs.Taken.{appends_then, cut_after}
use Rattle.dp_app.specs.Playing.{text_played}
use Rattle.dp_app.proofs.Playing.{next_cycle, played_more, text_next}
use Rattle.dp_app.proofs.Results.{on_err, on_ok}
use Rattle.dp_app.proofs.Showing.{shows_own, stops_own}
use Rattle.dp_app.proofs.Tallies.{no_tally}
use Rattle.dp_app.proofs.player.Player.write_frame.Goals as goal

pub cycle-requires-clause-next : goal.cycle-requires-clause-next
cycle-requires-clause-next g c =
    let x = c.args.self.now in
    c.requires.next ∙ sym (next_cycle x.plant x.script (is_none x.tally) x c.requires.playing.0 c.requires.playing.1)

pub returns-clause-ok : goal.returns-clause-ok
returns-clause-ok g c = λ fs.
    let x = c.args.self.now in
    let f = c.args.frame.now in
    let w = is_none x.tally in
    on_ok c.write_all.result _ _
    (λ taken. shows_own x _ _ _ fs (fs ++ f ∷ []) (λ start h. record {
      frames = played_more x.plant x.script w x _ fs f h.frames refl refl refl c.cycle.ensures.plant
          (c.cycle.ensures.represents _ h.frames.represents) refl (no_tally x.tally _ c.requires.writes);
      text =
          let is : text_played x.plant x.script w fs ++ c.deref.result.now ≡ text_played x.plant x.script w (fs ++ f ∷ []) =
          ap (λ (l : List ℕ). text_played x.plant x.script w fs ++ l) (c.deref.ensures.0 ∙ c.cycle.ensures.block _ h.frames.represents)
          ∙ sym (text_next x.plant x.script fs f w (ap is_none c.requires.writes)) in
          subst (λ (l : List ℕ). Appends start (g.K.Sink.taken c.write_all.new.out) l) is
          (appends_then start (g.K.Sink.taken c.args.out.now) (g.K.Sink.taken c.write_all.new.out) _ _ h.text taken);
    }))
    c.write_all.ensures.ok

pub returns-clause-err : goal.returns-clause-err
returns-clause-err g c = λ fs.
    let x = c.args.self.now in
    let f = c.args.frame.now in
    let w = is_none x.tally in
    on_err c.write_all.result _ _
    (λ cut. stops_own x x _ _ fs (fs ++ f ∷ []) (λ start h.
    let is : text_played x.plant x.script w fs ++ c.deref.result.now ≡ text_played x.plant x.script w (fs ++ f ∷ []) =
    ap (λ (l : List ℕ). text_played x.plant x.script w fs ++ l) (c.deref.ensures.0 ∙ c.cycle.ensures.block _ h.frames.represents)
    ∙ sym (text_next x.plant x.script fs f w (ap is_none c.requires.writes)) in
    subst (λ (l : List ℕ). AppendsCut start (g.K.Sink.taken c.write_all.new.out) l) is
    (cut_after start (g.K.Sink.taken c.args.out.now) (g.K.Sink.taken c.write_all.new.out) _ _ h.text cut)))
    c.write_all.ensures.err

pub returns-clause-playing : goal.returns-clause-playing
returns-clause-playing g c =
    let x = c.args.self.now in
    let fs = c.requires.playing.0 in
    let h = c.requires.playing.1 in (
      fs ++ c.args.frame.now ∷ [],
      played_more x.plant x.script (is_none x.tally) x _ fs c.args.frame.now h refl refl refl c.cycle.ensures.plant
          (c.cycle.ensures.represents _ h.represents) refl (no_tally x.tally _ c.requires.writes),
    )
