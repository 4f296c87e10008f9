-- How many frames a state has seen, and the mode of a computer.
use Rattle.std.proofs.Common.{◌≡◌, ◌+◌, true, refl}
use Rattle.dp_plant.specs.declared.frames.Frame.{Frame}
use Rattle.dp_plant.specs.declared.limits.Setpoint.{Setpoint}
use Rattle.dp_plant.specs.declared.place.Place.{Place}
use Rattle.dp_plant.specs.declared.plant.Plant.{Plant}
use Rattle.dp_plant.specs.declared.voting.Mode.{Mode}
use Rattle.dp_plant.specs.declared.voting.Mode.TheVariants.{Live, Aligning, Off}
use Rattle.dp_machine.specs.declared.state.State.{State}
use Rattle.dp_machine.specs.Step.{first_state, rest_in, step_at}
use Rattle.dp_exchange.specs.ComputerState.{control_in, is_live, mode_of}

pub first-count : (p : Plant) → (first_state p).count ≡ 0
unfolding first_state
first-count p = refl

pub rest-count : (s : State) (at : Place) → (rest_in s at).count ≡ s.count
unfolding rest_in
rest-count s at = refl

pub step-count : (p : Plant) (at : Setpoint) (s : State) (f : Frame) → (step_at p at s f).next.count ≡ s.count + 1
unfolding step_at
step-count p at s f = refl

pub mode_of-control : (m : Mode) (s : State) → mode_of (control_in m s) ≡ m
mode_of-control Live s = refl
mode_of-control Aligning s = refl
mode_of-control Off s = refl

pub live-mode : (m : Mode) (s : State) → is_live (mode_of (control_in m s)) ≡ true → m ≡ Live
live-mode Live s e = refl
live-mode Aligning s e = cc
live-mode Off s e = cc
