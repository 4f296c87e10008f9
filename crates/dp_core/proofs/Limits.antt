-- Each force of an issue lies within its thruster's limits.
use Rattle.std.proofs.Common.{Some, subst, sym, ℕ, ℤ, ◌≡◌}
use Rattle.std.specs.Prelude.{slice_get}
use Rattle.dp_core.proofs.Completeness.{IsLimited}
use Rattle.dp_core.specs.Voting.{high_of, low_of}
use Rattle.dp_alloc.specs.Laws.{IsForceWithin}
use Rattle.dp_alloc.specs.Refusals.{AreAccepted}
use Rattle.dp_machine.specs.Laws.{IssuesAreWithinLimits}
use Rattle.dp_machine.specs.Step.{step_at}
use Rattle.dp_machine.specs.declared.issue.Issue.{Issue}
use Rattle.dp_machine.specs.declared.state.State.{State}
use Rattle.dp_plant.specs.declared.frames.Frame.{Frame}
use Rattle.dp_plant.specs.declared.limits.Setpoint.{Setpoint}
use Rattle.dp_plant.specs.declared.plant.Plant.{Plant}
use Rattle.dp_voter.specs.Orders.{IsWithin}

-- the limits of the thruster are the voter's
voted_within : (p : Plant) (lost k : ℕ) (f : ℤ) → IsForceWithin p lost k f → IsWithin (low_of p k) (high_of p k) f
unfolding low_of high_of
voted_within p lost k f w = rw w.is (record { above = w.within.low; below = w.within.high })

issued_within : (limits : IssuesAreWithinLimits) (p : Plant) → AreAccepted p → (at : Setpoint) (s : State) (f : Frame) (x : Issue) (k : ℕ) (g : ℤ) → (step_at p at s f).issue ≡ x
    → slice_get x.forces.items k ≡ Some g → IsWithin (low_of p k) (high_of p k) g
issued_within limits p accepted at s f x k g e is =
    voted_within p (step_at p at s f).next.lost k g (limits p at s f accepted k g (subst (λ (y : Issue). slice_get y.forces.items k ≡ Some g) (sym e) is))

pub limited : (limits : IssuesAreWithinLimits) (p : Plant) → AreAccepted p → IsLimited p
unfolding IsLimited
limited limits p accepted s f x k g e is = issued_within limits p accepted p.setpoint s f x k g e is
