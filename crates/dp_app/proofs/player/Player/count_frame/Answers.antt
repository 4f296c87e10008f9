use Rattle.std.proofs.Common.{false, ◌∷◌, ◌++◌, ◌*◌, ◌≤◌, [], ℕ, List, is_none, length, sym, ◌∙◌, ap, subst, refl, arith, rules}
use Rattle.std.specs.Io.KnownBytes.{Appends}
use Rattle.dp_report.specs.declared.block.Block.{Block}
use Rattle.dp_core.specs.History.{history}
use Rattle.dp_app.specs.Acting.{cycle_events, play_events, voters}
use Rattle.dp_app.specs.Blocks.{block_of, blocks}
use Rattle.dp_app.specs.Playing.{HasPlayed, IsTallyOf}
use Rattle.dp_app.proofs.Playing.{blocks_next, next_cycle, played_more, text_same}
use Rattle.dp_app.proofs.Showing.{shows_own}
use Rattle.dp_app.proofs.Tallies.{ballots_at, blocks_length, some_tally, tally_next}
use Rattle.dp_app.proofs.player.Player.count_frame.Goals as goal

pub play_votes-requires-clause-next : goal.play_votes-requires-clause-next
play_votes-requires-clause-next c =
    let x = c.args.self.now in
    c.requires.next ∙ sym (next_cycle x.plant x.script (is_none x.tally) x c.requires.playing.0 c.requires.playing.1)

pub with-requires-clause-within : goal.with-requires-clause-within
with-requires-clause-within c =
    let x = c.args.self.now in
    let fs = c.requires.playing.0 in
    let h = c.requires.playing.1 in
    let bs = blocks x.plant x.script fs [] in
    let t = some_tally x.tally c.args.tally bs c.requires.counts h.counted in (
      length bs * 12,
      omega (arith, blocks_length x.plant x.script fs [], h.count, c.requires.next, c.requires.within.within.cycle),
      t.within,
    )

pub returns-clause-shows : goal.returns-clause-shows
returns-clause-shows c = λ taken fs.
    let x = c.args.self.now in
    let f = c.args.frame.now in
    let p = x.plant in
    let s = x.script in
    let few : length c.deref.result.now ≤ 12 = search rules in
    shows_own x _ taken taken fs (fs ++ f ∷ []) (λ start h.
    let es = play_events p s fs [] in
    let bs = blocks p s fs [] in
    let told = ballots_at (voters p) f.cycle (history p (cycle_events p s f es)) ∙ sym (c.play_votes.ensures.ballots es h.frames.represents) ∙ sym c.deref.ensures.0 in
    let t = some_tally x.tally c.args.tally bs c.requires.counts h.frames.counted in
    let more = tally_next bs (block_of p f.cycle (cycle_events p s f es)) c.deref.result.now c.args.tally c.with.result told few t c.with.ensures.value c.with.ensures.within in
    record {
      frames = played_more p s (is_none x.tally) x _ fs f h.frames refl refl (sym (ap is_none c.requires.counts)) c.play_votes.ensures.plant
          (c.play_votes.ensures.represents es h.frames.represents) refl
          (subst (λ (l : List Block). IsTallyOf l c.with.result) (sym (blocks_next p s fs f)) more);
      text = subst (λ (l : List ℕ). Appends start taken l) (text_same p s fs f (is_none x.tally) (ap is_none c.requires.counts)) h.text;
    })

pub returns-clause-playing : goal.returns-clause-playing
returns-clause-playing c =
    let x = c.args.self.now in
    let f = c.args.frame.now in
    let p = x.plant in
    let s = x.script in
    let fs = c.requires.playing.0 in
    let h = subst (λ v. HasPlayed p s v x fs) (ap is_none c.requires.counts) c.requires.playing.1 in
    let few : length c.deref.result.now ≤ 12 = search rules in
    let es = play_events p s fs [] in
    let bs = blocks p s fs [] in
    let told = ballots_at (voters p) f.cycle (history p (cycle_events p s f es)) ∙ sym (c.play_votes.ensures.ballots es h.represents) ∙ sym c.deref.ensures.0 in
    let t = some_tally x.tally c.args.tally bs c.requires.counts h.counted in
    let more = tally_next bs (block_of p f.cycle (cycle_events p s f es)) c.deref.result.now c.args.tally c.with.result told few t c.with.ensures.value c.with.ensures.within in (
      fs ++ f ∷ [],
      played_more p s false x _ fs f h refl refl (sym (ap is_none c.requires.counts)) c.play_votes.ensures.plant
          (c.play_votes.ensures.represents es h.represents) refl
          (subst (λ (l : List Block). IsTallyOf l c.with.result) (sym (blocks_next p s fs f)) more),
    )
