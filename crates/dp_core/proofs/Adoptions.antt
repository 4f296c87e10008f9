-- A computer that adopts a state runs on as the reference run does.
use Rattle.std.proofs.Common.{List, [], false, inl, inr, not, refl, sym, true, ℕ, ◌++◌, ◌∙◌, ◌∷◌, ◌≡◌}
use Rattle.std.proofs.lemmas.Bool.{and_parts, cases_Bool, not-true, or_from, or_parts}
use Rattle.dp_core.proofs.Moments.{Adopts, Broke, IsAdoption-from_adoption, IsSkew-from_skew, Kind, Quiet, Runs, Skews, kind, moment}
use Rattle.dp_core.proofs.Searches.{mode-adopted, mode-quiet, no_base-parts, skewed-broken, skewed-kept}
use Rattle.dp_core.proofs.Soundness.{AdoptsReference, IsSound, sound, sound-step}
use Rattle.dp_core.proofs.Trajectories.{within}
use Rattle.dp_core.specs.Faulty.{AtMostOneFaulty, is_skewed}
use Rattle.dp_core.specs.History.{history}
use Rattle.dp_core.specs.Mode.{mode, since_break}
use Rattle.dp_core.specs.Moment.{Moment, is_adoption, is_break, is_skew}
use Rattle.dp_core.specs.OnReference.{IsOnReference, goes_on, is_disturbed}
use Rattle.dp_core.specs.declared.event.Event.{Event}
use Rattle.dp_plant.specs.declared.plant.Plant.{Plant}
use Rattle.dp_plant.specs.declared.voting.Mode.TheVariants.{Aligning, Live}

-- ---- an aligning computer wasn't skewed since its last break

aligned_by : (p : Plant) (c : ℕ) (h : List Moment) (e : Event) → Kind c (moment p h e) → (mode c h ≡ Aligning → is_skewed c h ≡ false) → mode c (moment p h e ∷ h) ≡ Aligning → is_skewed c (moment p h e ∷ h) ≡ false
aligned_by p c h e (Broke b) ih l = skewed-broken c (moment p h e) h b
aligned_by p c h e (Adopts b a) ih l = (let t = mode-adopted c (moment p h e) h b a in cc)
aligned_by p c h e (Skews b a s) ih l =
    let live = (IsSkew-from_skew p c h e s).live in
    let same = mode-quiet c (moment p h e) h b a in
    cc
aligned_by p c h e (Runs b k x i) ih l =
    let m = moment p h e in
    let parts = no_base-parts c m k in
    skewed-kept c m h b ∙ or_from (is_skew c m) (is_skewed c h) parts.1 (ih (sym (mode-quiet c m h b parts.0) ∙ l))
aligned_by p c h e (Quiet b k i) ih l =
    let m = moment p h e in
    let parts = no_base-parts c m k in
    skewed-kept c m h b ∙ or_from (is_skew c m) (is_skewed c h) parts.1 (ih (sym (mode-quiet c m h b parts.0) ∙ l))

aligning-not_skewed : (p : Plant) (c : ℕ) (es : List Event) → mode c (history p es) ≡ Aligning → is_skewed c (history p es) ≡ false
unfolding history is_skewed since_break
aligning-not_skewed p c [] l = refl
aligning-not_skewed p c (e ∷ es) l = aligned_by p c (history p es) e (kind c (moment p (history p es) e)) (aligning-not_skewed p c es) l

-- ---- from the adoption on

-- live, not skewed, and sound
record RunsOn (p : Plant) (c : ℕ) (h : List Moment) : Type 0 where
  live : mode c h ≡ Live
  not_skewed : is_skewed c h ≡ false
  is_sound : IsSound p c h

RunsOn-adopted : (p : Plant) (c : ℕ) (e : Event) (es : List Event) → AtMostOneFaulty (history p (e ∷ es)) → is_adoption c (moment p (history p es) e) ≡ true → RunsOn p c (history p (e ∷ es))
unfolding history
RunsOn-adopted p c e es one a =
    let h = history p es in
    let m = moment p h e in
    let t = IsAdoption-from_adoption p c h e a in
    let b = t.1.offer.only.quiet_break c in
    record {
      live = mode-adopted c m h b a;
      not_skewed = skewed-kept c m h b ∙ or_from (is_skew c m) (is_skewed c h) (t.1.offer.only.quiet_skew c) (aligning-not_skewed p c es t.1.offer.fits.aligning);
      is_sound = (sound p (e ∷ es) one).computers c;
    }

-- a live computer adopts nothing
none-adopted : (p : Plant) (c : ℕ) (h : List Moment) (e : Event) → mode c h ≡ Live → AdoptsReference p c h e
unfolding AdoptsReference
none-adopted p c h e l = λ s t. (let a = t.offer.fits.aligning in absurd cc)

live-no_adoption : (p : Plant) (c : ℕ) (h : List Moment) (e : Event) → mode c h ≡ Live → is_adoption c (moment p h e) ≡ false
live-no_adoption p c h e l = elim (cases_Bool (is_adoption c (moment p h e))) [
  | inl a ↦ (let t = (IsAdoption-from_adoption p c h e a).1.offer.fits.aligning in absurd cc)
  | inr a ↦ a
]

RunsOn-step : (p : Plant) (c : ℕ) (e : Event) (es : List Event) → is_disturbed c (moment p (history p es) e) ≡ false → RunsOn p c (history p es) → RunsOn p c (history p (e ∷ es))
unfolding history is_disturbed
RunsOn-step p c e es d r =
    let h = history p es in
    let m = moment p h e in
    let parts = or_parts (is_break c m) (is_skew c m) d in
    record {
      live = mode-quiet c m h parts.0 (live-no_adoption p c h e r.live) ∙ r.live;
      not_skewed = skewed-kept c m h parts.0 ∙ or_from (is_skew c m) (is_skewed c h) parts.1 r.not_skewed;
      is_sound = sound-step p c h e (within p es) (none-adopted p c h e r.live) r.is_sound;
    }

RunsOn-later : (p : Plant) (c : ℕ) (later es : List Event) → goes_on p c later es ≡ true → RunsOn p c (history p es) → RunsOn p c (history p (later ++ es))
unfolding goes_on
RunsOn-later p c [] es g r = r
RunsOn-later p c (e ∷ later) es g r =
    let d = is_disturbed c (moment p (history p (later ++ es)) e) in
    let both = and_parts (not d) (goes_on p c later es) g in
    RunsOn-step p c e (later ++ es) (not-true d both.0) (RunsOn-later p c later es both.1 r)

pub adopted-on_reference : (p : Plant) (e : Event) (es : List Event) → AtMostOneFaulty (history p (e ∷ es)) → (c : ℕ) → is_adoption c (moment p (history p es) e) ≡ true → (later : List Event) → goes_on p c later (e ∷ es) ≡ true → IsOnReference p c (history p (later ++ e ∷ es))
adopted-on_reference p e es one c a later g =
    let r = RunsOn-later p c later (e ∷ es) g (RunsOn-adopted p c e es one a) in
    record {
      live = r.live;
      state = r.is_sound.state r.live r.not_skewed;
      issue = λ x l. r.is_sound.issue x r.not_skewed l;
    }
