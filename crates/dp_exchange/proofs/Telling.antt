-- What is told is read by each software that knows the version.
use Rattle.std.proofs.Common.{◌≡◌, ℕ, List, refl, sym, ap, ◌∙◌, arith, inl, inr}
use Rattle.dp_plant.specs.declared.plant.Plant.{Plant}
use Rattle.dp_plant.specs.declared.voting.Mode.TheVariants.{Live}
use Rattle.dp_machine.specs.declared.state.State.{State}
use Rattle.dp_codec.specs.Laws.{SecondIsUnknownToFirst, WrittenIsRead}
use Rattle.dp_codec.specs.Spelling.{IsPlantState, IsSoftware, spelling_of, state_read}
use Rattle.dp_exchange.specs.declared.computer.Computer.TheInside.{Inside}
use Rattle.dp_exchange.specs.ComputerState.{InControl, control_in}
use Rattle.dp_exchange.specs.Offers.{told_state}
use Rattle.dp_exchange.specs.Inside.{computer_state}

in-control : (s t : State) → InControl s ≡ InControl t → s ≡ t
in-control s t e = cc

spelled-by : (p : Plant) → WrittenIsRead p → SecondIsUnknownToFirst → (own other : ℕ) (s : State) → IsSoftware own → IsSoftware other → IsPlantState p s → state_read p own (spelling_of p other s) ≡ told_state own other s
unfolding told_state
spelled-by p law unknown own other s (inl a) (inl b) is = rw (a, b) (law 1 1 s (inl refl) (omega arith) (omega arith) is)
spelled-by p law unknown own other s (inl a) (inr b) is = rw (a, b) (unknown p s)
spelled-by p law unknown own other s (inr a) (inl b) is = rw (a, b) (law 2 1 s (inr refl) (omega arith) (omega arith) is)
spelled-by p law unknown own other s (inr a) (inr b) is = rw (a, b) (law 2 2 s (inr refl) (omega arith) (omega arith) is)

pub told-read : (i : Inside) (text : List ℕ) → i.mode ≡ Live → WrittenIsRead i.machine.plant → SecondIsUnknownToFirst → IsSoftware i.software → IsPlantState i.machine.plant i.machine.state
    → text ≡ spelling_of i.machine.plant i.software i.machine.state
    → (software : ℕ) (s : State) → IsSoftware software → (computer_state i).control ≡ InControl s → state_read i.machine.plant software text ≡ told_state software i.software s
told-read i text live law unknown own is e software s other control =
    let same : i.machine.state ≡ s = in-control i.machine.state s (ap (λ m. control_in m i.machine.state) (sym live) ∙ control) in
    ap (state_read i.machine.plant software) e ∙ spelled-by i.machine.plant law unknown software i.software i.machine.state other own is ∙ ap (told_state software i.software) same
