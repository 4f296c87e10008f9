-- How the trajectory of a computer, and the count of its frames, change at an event.
use Rattle.std.proofs.Common.{Bool, List, None, Some, [], ap, append-nil, arith, cond, false, length-append, refl, sym, true, unwrap_or, ℕ, ◌++◌, ◌+◌, ◌∙◌, ◌∷◌, ◌≡◌, ◌≤◌}
use Rattle.std.specs.Prelude.{slice_get}
use Rattle.dp_exchange.proofs.Counts.{first-count, rest-count}
use Rattle.dp_core.proofs.Cycles.{run_on-count, run_on-grown, run_on-none, run_on-step, slice_get-below}
use Rattle.dp_core.proofs.Moments.{Adopts, Broke, IsAdoption, IsAdoption-from_adoption, IsRun-from_issue, IsSkew-from_skew, Kind, Quiet, Runs, Skews, kind, moment}
use Rattle.dp_core.proofs.Searches.{adoption-base, base-adopted, base-quiet, base-skewed, mode-broken, mode-quiet, no_base-parts, runs-base, runs-quiet, runs-run, skew-base}
use Rattle.dp_core.specs.History.{history}
use Rattle.dp_core.specs.Mode.{cycles_begun, frames, mode}
use Rattle.dp_core.specs.Moment.{Moment, frame_of, is_adoption, is_base, is_break, is_end, is_skew, issue_at, place_of_skew}
use Rattle.dp_core.specs.Offered.{state_in}
use Rattle.dp_core.specs.Trajectory.{base, frames_done, runs, trajectory}
use Rattle.dp_core.specs.declared.event.Event.{Event}
use Rattle.dp_machine.specs.Run.{own_setpoints}
use Rattle.dp_machine.specs.Step.{rest_in, step_of}
use Rattle.dp_machine.specs.declared.issue.Issue.{Issue}
use Rattle.dp_machine.specs.declared.state.State.{State}
use Rattle.dp_plant.specs.declared.frames.Frame.{Frame}
use Rattle.dp_plant.specs.Vectors.{zero_place}
use Rattle.dp_plant.specs.declared.plant.Plant.{Plant}
use Rattle.dp_plant.specs.declared.voting.Mode.TheVariants.{Aligning, Live, Off}

-- a live computer has done no more frames than came
unfoldable pub Within : Plant → List Moment → Type 0
Within p h = (c : ℕ) → mode c h ≡ Live → frames_done p c h ≤ cycles_begun h

pub cycles-grow : (m : Moment) (h : List Moment) → cycles_begun h ≤ cycles_begun (m ∷ h)
unfolding frames
cycles-grow m h = omega (arith, length-append (frames h) (frame_of m.event))

pub frames-more : (m : Moment) (h : List Moment) → frames (m ∷ h) ≡ frames h ++ frame_of m.event
unfolding frames
frames-more m h = refl

pub frames-kept : (m : Moment) (h : List Moment) → frame_of m.event ≡ [] → frames (m ∷ h) ≡ frames h
unfolding frames
frames-kept m h e = rw e (append-nil (frames h))

pub broken-not_live : (c : ℕ) (m : Moment) (h : List Moment) → is_break c m ≡ true → mode c (m ∷ h) ≡ Live → ⊥
broken-not_live c m h b l = not_live (is_end c m) (sym (mode-broken c m h b) ∙ l)
  where
    not_live : (s : Bool) → cond s Off Aligning ≡ Live → ⊥
    not_live true e = cc
    not_live false e = cc

-- the trajectory of a computer that adopts starts from the state that it adopts
pub adopted-base : (p : Plant) (c : ℕ) (h : List Moment) (e : Event) (s : State) → is_adoption c (moment p h e) ≡ true → IsAdoption p c h e s → base p c (moment p h e ∷ h) ≡ s
unfolding state_in
adopted-base p c h e s a t =
    base-adopted c (moment p h e) h p a ∙ ap (λ o. unwrap_or (state_in o) (trajectory p c h)) t.offer.brings

within_by : (p : Plant) (h : List Moment) (e : Event) (c : ℕ) → Kind c (moment p h e) → Within p h → mode c (moment p h e ∷ h) ≡ Live → frames_done p c (moment p h e ∷ h) ≤ cycles_begun (moment p h e ∷ h)
unfolding frames_done Within trajectory
within_by p h e c (Broke b) w l = absurd (broken-not_live c (moment p h e) h b l)
within_by p h e c (Adopts b a) w l =
    let m = moment p h e in
    let t = IsAdoption-from_adoption p c h e a in
    let came = t.1.offer.fits.not_new in
    let g = cycles-grow m h in
    rw (adopted-base p c h e t.0 a t.1, runs-base c m h b (adoption-base c m a)) (omega arith)
within_by p h e c (Skews b a s) w l =
    let m = moment p h e in
    let k = IsSkew-from_skew p c h e s in
    let was = w c k.live in
    let g = cycles-grow m h in
    let count = run_on-count p (own_setpoints p) (frames h) (base p c h) (runs c h) was in
    let same = rest-count (trajectory p c h) (unwrap_or (place_of_skew c e) zero_place) in
    rw (base-skewed c m h p a s, runs-base c m h b (skew-base c m a s), same) (omega arith)
within_by p h e c (Runs b s x i) w l =
    let r = IsRun-from_issue p c h e x i in
    let below = slice_get-below (frames h) (frames_done p c h) r.frame r.waited in
    let g = cycles-grow (moment p h e) h in
    rw (base-quiet c (moment p h e) h p s, runs-run c (moment p h e) h x b s i) (omega arith)
within_by p h e c (Quiet b s i) w l =
    let was = w c (sym (mode-quiet c (moment p h e) h b (no_base-parts c (moment p h e) s).0) ∙ l) in
    let g = cycles-grow (moment p h e) h in
    rw (base-quiet c (moment p h e) h p s, runs-quiet c (moment p h e) h b s i) (omega arith)

pub within : (p : Plant) (es : List Event) → Within p (history p es)
unfolding history Within frames_done base runs
within p [] = λ c l. (let z = first-count p in omega arith)
within p (e ∷ es) = λ c l. within_by p (history p es) e c (kind c (moment p (history p es) e)) (within p es) l

-- ---- the trajectory and the count after an event

pub trajectory-count : (p : Plant) (c : ℕ) (h : List Moment) → frames_done p c h ≤ cycles_begun h → (trajectory p c h).count ≡ frames_done p c h
unfolding trajectory frames_done
trajectory-count p c h w = run_on-count p (own_setpoints p) (frames h) (base p c h) (runs c h) w

module _ (p : Plant) (c : ℕ) (m : Moment) (h : List Moment) where
  pub trajectory-quiet : is_break c m ≡ false → is_base c m ≡ false → issue_at c m ≡ None → frames_done p c h ≤ cycles_begun h → trajectory p c (m ∷ h) ≡ trajectory p c h
  unfolding trajectory frames_done frames
  trajectory-quiet b s i w = rw (base-quiet c m h p s, runs-quiet c m h b s i) (run_on-grown p (own_setpoints p) (frames h) (frame_of m.event) (base p c h) (runs c h) w)

  pub done-quiet : is_break c m ≡ false → is_base c m ≡ false → issue_at c m ≡ None → frames_done p c (m ∷ h) ≡ frames_done p c h
  unfolding frames_done
  done-quiet b s i = rw (base-quiet c m h p s, runs-quiet c m h b s i)

  pub trajectory-run : (x : Issue) (f : Frame) → is_break c m ≡ false → is_base c m ≡ false → issue_at c m ≡ Some x → frame_of m.event ≡ [] → slice_get (frames h) (frames_done p c h) ≡ Some f → trajectory p c (m ∷ h) ≡ (step_of p (trajectory p c h) f).next
  unfolding trajectory frames_done
  trajectory-run x f b s i n e = rw (base-quiet c m h p s, runs-run c m h x b s i, frames-kept m h n) (run_on-step p (own_setpoints p) (frames h) (base p c h) (runs c h) f e)

  pub done-run : (x : Issue) → is_break c m ≡ false → is_base c m ≡ false → issue_at c m ≡ Some x → frames_done p c (m ∷ h) ≡ frames_done p c h + 1
  unfolding frames_done
  done-run x b s i = rw (base-quiet c m h p s, runs-run c m h x b s i) (omega arith)

  pub trajectory-skewed : is_break c m ≡ false → is_adoption c m ≡ false → is_skew c m ≡ true → trajectory p c (m ∷ h) ≡ rest_in (trajectory p c h) (unwrap_or (place_of_skew c m.event) zero_place)
  unfolding trajectory
  trajectory-skewed b a s =
      rw (base-skewed c m h p a s, runs-base c m h b (skew-base c m a s)) (run_on-none p (own_setpoints p) (frames (m ∷ h)) (rest_in (trajectory p c h) (unwrap_or (place_of_skew c m.event) zero_place)))

  pub done-skewed : is_break c m ≡ false → is_adoption c m ≡ false → is_skew c m ≡ true → frames_done p c h ≤ cycles_begun h → frames_done p c (m ∷ h) ≡ frames_done p c h
  unfolding frames_done
  done-skewed b a s w =
      let k = trajectory-count p c h w in
      let same = rest-count (trajectory p c h) (unwrap_or (place_of_skew c m.event) zero_place) in
      rw (base-skewed c m h p a s, runs-base c m h b (skew-base c m a s), same) (omega arith)

pub trajectory-adopted : (p : Plant) (c : ℕ) (h : List Moment) (e : Event) (s : State) → is_break c (moment p h e) ≡ false → is_adoption c (moment p h e) ≡ true → IsAdoption p c h e s → trajectory p c (moment p h e ∷ h) ≡ s
unfolding trajectory
trajectory-adopted p c h e s b a t =
    let m = moment p h e in
    rw (adopted-base p c h e s a t, runs-base c m h b (adoption-base c m a)) (run_on-none p (own_setpoints p) (frames (m ∷ h)) s)

pub done-adopted : (p : Plant) (c : ℕ) (h : List Moment) (e : Event) (s : State) → is_break c (moment p h e) ≡ false → is_adoption c (moment p h e) ≡ true → IsAdoption p c h e s → frames_done p c (moment p h e ∷ h) ≡ s.count
unfolding frames_done
done-adopted p c h e s b a t =
    let m = moment p h e in
    rw (adopted-base p c h e s a t, runs-base c m h b (adoption-base c m a)) (omega arith)
