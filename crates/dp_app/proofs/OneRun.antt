-- One machine over the frames of a record, one after another.
use Rattle.std.proofs.Common.{◌≡◌, ℕ, ◌+◌, List, [], ◌∷◌, ◌++◌, Option, None, Ok, length, refl, sym, ap, ◌∙◌, subst, arith}
use Rattle.dp_machine.specs.declared.issue.Issue.{Issue}
use Rattle.dp_machine.specs.declared.state.State.{State}
use Rattle.dp_machine.specs.Machine.{MachineValue, first_machine}
use Rattle.dp_machine.specs.Reference.{reference_state}
use Rattle.dp_machine.specs.Run.{cycle_at, own_setpoints, run_over}
use Rattle.dp_machine.specs.Step.{Step, first_state, step_at, step_of}
use Rattle.dp_plant.specs.declared.frames.Frame.{Frame}
use Rattle.dp_plant.specs.declared.limits.Setpoint.{Setpoint}
use Rattle.dp_plant.specs.declared.plant.Plant.{Plant}
use Rattle.dp_frame.specs.Represents.{settings_of}
use Rattle.dp_shell.specs.Texts.{Files}
use Rattle.dp_stream.specs.declared.next.End.{End}
use Rattle.dp_stream.specs.declared.next.End.TheVariants as end
use Rattle.dp_stream.specs.Records.{IsRecord}
use Rattle.dp_frame.specs.declared.fault.Refusal.TheVariants as refusal
use Rattle.dp_app.specs.declared.fault.File.TheVariants.{Record}
use Rattle.dp_app.specs.OneMachine.{HasRun, IsStateAfter, RunsRecord}
use Rattle.dp_app.specs.Outcome.{fault_at}

after : (p : Plant) (at : Setpoint) (s : State) (f : Frame) → (step_at p at s f).next.count ≡ s.count + 1
unfolding step_at
after p at s f = refl

first_count : (p : Plant) → (first_state p).count ≡ 0
unfolding first_state
first_count p = refl

module _ (p : Plant) where
  run_append : (s : State) (fs : List Frame) (f : Frame) → run_over p (own_setpoints p) s (fs ++ f ∷ []) ≡ (step_of p (run_over p (own_setpoints p) s fs) f).next
  unfolding run_over
  run_append s [] f = refl
  run_append s (g ∷ fs) f = run_append (cycle_at p (own_setpoints p) s g).next fs f

  run_count : (s : State) (fs : List Frame) → (run_over p (own_setpoints p) s fs).count ≡ s.count + length fs
  unfolding run_over
  run_count s [] = omega arith
  run_count s (f ∷ fs) =
      let a = run_count (cycle_at p (own_setpoints p) s f).next fs in
      let b = after p p.setpoint s f in
      omega arith

  -- none yet
  pub runs_none : (m : MachineValue) → m ≡ first_machine p → HasRun p m []
  unfolding reference_state run_over
  runs_none m is = record { plant = ap (λ (x : MachineValue). x.plant) is; state = ap (λ (x : MachineValue). x.state) is }

  -- as many cycles as frames
  pub runs_count : (m : MachineValue) (fs : List Frame) → HasRun p m fs → m.state.count ≡ length fs
  unfolding reference_state
  runs_count m fs h =
      let a = run_count (first_state p) fs in
      let b = first_count p in
      ap (λ (s : State). s.count) h.state ∙ omega arith

  -- one more
  pub runs_more : (m n : MachineValue) (fs : List Frame) (f : Frame) (issue : Issue) → HasRun p m fs
      → step_of m.plant m.state f ≡ record { issue = issue; next = n.state } → n.plant ≡ m.plant → HasRun p n (fs ++ f ∷ [])
  unfolding reference_state
  runs_more m n fs f issue h step same = record {
    plant = same ∙ h.plant;
    state =
        sym (ap (λ (t : Step). t.next) step) ∙ ap (λ (q : Plant). (step_of q m.state f).next) h.plant
        ∙ ap (λ (s : State). (step_of p s f).next) h.state ∙ sym (run_append (first_state p) fs f);
  }

-- a record without a fault was given whole
whole_end : (e : End) → fault_at Record e ≡ None → e ≡ end.Whole
whole_end end.Whole is = refl
whole_end (end.Refused (refusal.Faulty line kind)) is = absurd cc
whole_end (end.Refused (refusal.TooMany line cycle)) is = absurd cc
whole_end end.Long is = absurd cc

pub state_is : (files : Option Files) (name : List ℕ) (p : Plant) (m : MachineValue) (s : State) (e : End) → RunsRecord files name p m (Ok e) → fault_at Record e ≡ None → s ≡ m.state
    → IsStateAfter files name p s
state_is files name p m s e (fs, is, run) sound same =
    (fs, subst (λ (x : End). IsRecord files name (settings_of p) fs x) (whole_end e sound) is, same ∙ run.state)
