-- How each search changes at one more moment, by what the moment is to the computer.
use Rattle.std.proofs.Common.{List, None, Some, false, if◌then◌else◌, true, unwrap_or, ℕ, ◌&&◌, ◌+◌, ◌||◌, ◌∷◌, ◌≡◌}
use Rattle.std.proofs.lemmas.Bool.{or_parts}
use Rattle.dp_machine.specs.Step.{rest_in}
use Rattle.dp_machine.specs.declared.issue.Issue.{Issue}
use Rattle.dp_core.specs.Faulty.{is_faulty, is_skewed}
use Rattle.dp_core.specs.HeldOffers.{held_offer, offered}
use Rattle.dp_core.specs.Mode.{at_break, broken_mode, mode, since_break, software}
use Rattle.dp_core.specs.Moment.{Moment, is_adoption, is_base, is_break, is_end, is_fault, is_interruption, is_offer, is_restart, is_skew, is_upgrade, is_wire, issue_at, place_of_skew, saw_fit, saw_overrun}
use Rattle.dp_core.specs.Offered.{state_in}
use Rattle.dp_core.specs.Trajectory.{base, last_issue, runs, state_at_base, steps, trajectory}
use Rattle.dp_plant.specs.Vectors.{zero_place}
use Rattle.dp_plant.specs.declared.plant.Plant.{Plant}
use Rattle.dp_plant.specs.declared.voting.Mode.TheVariants.{Aligning, Live, Off}

-- what is no base is no adoption, and no skew
pub no_base-parts : (c : ℕ) (m : Moment) → is_base c m ≡ false → (is_adoption c m ≡ false) × (is_skew c m ≡ false)
unfolding is_base
no_base-parts c m k = or_parts (is_adoption c m) (is_skew c m) k

pub adoption-base : (c : ℕ) (m : Moment) → is_adoption c m ≡ true → is_base c m ≡ true
unfolding is_base
adoption-base c m a = rw a

pub skew-base : (c : ℕ) (m : Moment) → is_adoption c m ≡ false → is_skew c m ≡ true → is_base c m ≡ true
unfolding is_base
skew-base c m a s = rw (a, s)

-- what is no break is no upgrade
no_break-no_upgrade : (c : ℕ) (m : Moment) → is_break c m ≡ false → is_upgrade c m.event ≡ false
unfolding is_break is_interruption
no_break-no_upgrade c m b =
    let one = or_parts (is_end c m) _ b in
    let two = or_parts (is_restart c m.event) _ one.1 in
    (or_parts (is_upgrade c m.event) (saw_overrun c m.seen) two.1).0

module _ (c : ℕ) (m : Moment) (h : List Moment) where
  pub mode-quiet : is_break c m ≡ false → is_adoption c m ≡ false → mode c (m ∷ h) ≡ mode c h
  unfolding mode at_break since_break
  mode-quiet b a = rw (b, a)

  pub mode-adopted : is_break c m ≡ false → is_adoption c m ≡ true → mode c (m ∷ h) ≡ Live
  unfolding mode since_break
  mode-adopted b a = rw (b, a)

  pub mode-broken : is_break c m ≡ true → mode c (m ∷ h) ≡ (if is_end c m then Off else Aligning)
  unfolding mode at_break since_break broken_mode
  mode-broken b = rw b

  pub software-quiet : is_break c m ≡ false → software c (m ∷ h) ≡ software c h
  unfolding software
  software-quiet b = rw (no_break-no_upgrade c m b)

  pub software-kept : is_upgrade c m.event ≡ false → software c (m ∷ h) ≡ software c h
  unfolding software
  software-kept u = rw u

  pub runs-quiet : is_break c m ≡ false → is_base c m ≡ false → issue_at c m ≡ None → runs c (m ∷ h) ≡ runs c h
  unfolding runs
  runs-quiet b s i = rw (b, s, i)

  pub runs-run : (x : Issue) → is_break c m ≡ false → is_base c m ≡ false → issue_at c m ≡ Some x → runs c (m ∷ h) ≡ runs c h + 1
  unfolding runs
  runs-run x b s i = rw (b, s, i)

  pub runs-base : is_break c m ≡ false → is_base c m ≡ true → runs c (m ∷ h) ≡ 0
  unfolding runs
  runs-base b s = rw (b, s)

  pub base-quiet : (p : Plant) → is_base c m ≡ false → base p c (m ∷ h) ≡ base p c h
  unfolding base
  base-quiet p s = rw s

  pub base-adopted : (p : Plant) → is_adoption c m ≡ true → base p c (m ∷ h) ≡ unwrap_or (state_in (offered p h m.event)) (trajectory p c h)
  unfolding base is_base state_at_base trajectory offered
  base-adopted p a = rw a

  pub base-skewed : (p : Plant) → is_adoption c m ≡ false → is_skew c m ≡ true → base p c (m ∷ h) ≡ rest_in (trajectory p c h) (unwrap_or (place_of_skew c m.event) zero_place)
  unfolding base is_base state_at_base trajectory
  base-skewed p a s = rw (a, s)

  pub last_issue-broken : is_break c m ≡ true → last_issue c (m ∷ h) ≡ None
  unfolding last_issue
  last_issue-broken b = rw b

  pub last_issue-quiet : is_break c m ≡ false → issue_at c m ≡ None → last_issue c (m ∷ h) ≡ last_issue c h
  unfolding last_issue
  last_issue-quiet b i = rw (b, i)

  pub last_issue-run : (x : Issue) → is_break c m ≡ false → issue_at c m ≡ Some x → last_issue c (m ∷ h) ≡ Some x
  unfolding last_issue
  last_issue-run x b i = rw (b, i)

  pub faulty-broken : is_break c m ≡ true → is_faulty c (m ∷ h) ≡ false
  unfolding is_faulty since_break
  faulty-broken b = rw b

  pub faulty-kept : is_break c m ≡ false → is_faulty c (m ∷ h) ≡ (is_fault c m.event || is_faulty c h)
  unfolding is_faulty since_break
  faulty-kept b = rw b

  pub skewed-kept : is_break c m ≡ false → is_skewed c (m ∷ h) ≡ (is_skew c m || is_skewed c h)
  unfolding is_skewed since_break
  skewed-kept b = rw b

  pub skewed-broken : is_break c m ≡ true → is_skewed c (m ∷ h) ≡ false
  unfolding is_skewed since_break
  skewed-broken b = rw b

  pub steps-quiet : issue_at c m ≡ None → steps c (m ∷ h) ≡ steps c h
  unfolding steps
  steps-quiet i = rw i

  pub steps-run : (x : Issue) → issue_at c m ≡ Some x → steps c (m ∷ h) ≡ steps c h + 1
  unfolding steps
  steps-run x i = rw i

  pub held_offer-gone : (p : Plant) (a : ℕ) → (is_wire m.event || is_break c m) ≡ true → held_offer p c a (m ∷ h) ≡ None
  unfolding held_offer
  held_offer-gone p a g = rw g

  pub held_offer-kept : (p : Plant) (a : ℕ) → is_wire m.event ≡ false → is_break c m ≡ false → (is_offer a c m.event && saw_fit m.seen) ≡ false → held_offer p c a (m ∷ h) ≡ held_offer p c a h
  unfolding held_offer
  held_offer-kept p a w b o = rw (w, b, o)

  pub held_offer-now : (p : Plant) (a : ℕ) → is_wire m.event ≡ false → is_break c m ≡ false → (is_offer a c m.event && saw_fit m.seen) ≡ true → held_offer p c a (m ∷ h) ≡ state_in (offered p h m.event)
  unfolding held_offer
  held_offer-now p a w b o = rw (w, b, o)
