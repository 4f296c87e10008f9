-- What a frame makes of a computer, in each mode.
use Rattle.std.proofs.Common.{◌≡◌, ℕ, ◌+◌, ◌<◌, true, false, ◌==◌, List, [], ◌∷◌, ◌++◌, length, None, Some, refl, sym, ap, ◌∙◌}
use Rattle.circular_buffer.specs.Buffer.{Buffer, buffer, keep_last}
use Rattle.dp_plant.specs.declared.frames.Frame.{Frame}
use Rattle.dp_plant.specs.declared.voting.Mode.TheVariants.{Live, Aligning, Off}
use Rattle.dp_machine.specs.Machine.{MachineValue, one_more}
use Rattle.dp_machine.specs.Step.{step_of}
use Rattle.dp_machine.specs.declared.issue.Issue.{Issue}
use Rattle.dp_exchange.specs.declared.computer.Computer.TheInside.{Inside}
use Rattle.dp_exchange.specs.ComputerState.{after_run, after_step, after_wire, run_in, run_over_oldest, wire_in}
use Rattle.dp_exchange.specs.OfferTexts.{no_texts}
use Rattle.dp_exchange.specs.Inside.{computer_state}
use Rattle.dp_exchange.proofs.Confirmations.{none_offered}
use Rattle.dp_exchange.proofs.Waits.{keep_more, no_items}

pub heard-off : (i : Inside) (f : Frame) (texts : List (List ℕ)) → i.mode ≡ Off → texts ≡ no_texts → computer_state (record i { offers = texts }) ≡ after_wire (computer_state i) f
unfolding after_wire wire_in
heard-off i f texts mode none = rw (mode, none, none_offered i.machine.plant) refl

pub heard-aligning : (i : Inside) (f : Frame) (texts : List (List ℕ)) (waits : Buffer Frame) → i.mode ≡ Aligning → texts ≡ no_texts → i.waits.capacity ≡ 16 → waits ≡ buffer (keep_last i.waits.capacity (i.waits.items ++ f ∷ [])) i.waits.capacity
    → computer_state (record i { waits = waits; next = i.next + 1; offers = texts }) ≡ after_wire (computer_state i) f
unfolding after_wire wire_in
heard-aligning i f texts waits mode none capacity is = rw (is, capacity, mode, none, none_offered i.machine.plant) refl

pub heard-overrun : (i : Inside) (f : Frame) (texts : List (List ℕ)) (waits : Buffer Frame) → i.mode ≡ Live → texts ≡ no_texts → i.waits.capacity ≡ 16 → true ≡ (length i.waits.items == i.waits.capacity) → waits ≡ buffer (keep_last i.waits.capacity (i.waits.items ++ f ∷ [])) i.waits.capacity
    → computer_state (record i { mode = Aligning; waits = waits; next = i.next + 1; offers = texts; last = None }) ≡ after_wire (computer_state i) f
unfolding after_wire wire_in
heard-overrun i f texts waits mode none capacity full is =
    let whole : (length i.waits.items == 16) ≡ true = ap (λ (n : ℕ). length i.waits.items == n) (sym capacity) ∙ sym full in
    rw (is, capacity, mode, none, none_offered i.machine.plant, whole) refl

pub heard-live : (i : Inside) (f : Frame) (texts : List (List ℕ)) (waits : Buffer Frame) → i.mode ≡ Live → texts ≡ no_texts → i.waits.capacity ≡ 16 → length i.waits.items < 16 → false ≡ (length i.waits.items == i.waits.capacity) → waits ≡ buffer (keep_last i.waits.capacity (i.waits.items ++ f ∷ [])) i.waits.capacity
    → computer_state (record i { waits = waits; next = i.next + 1; offers = texts }) ≡ after_wire (computer_state i) f
unfolding after_wire wire_in
heard-live i f texts waits mode none capacity room full is =
    let part : (length i.waits.items == 16) ≡ false = ap (λ (n : ℕ). length i.waits.items == n) (sym capacity) ∙ sym full in
    rw (is, keep_more i.waits f capacity room, mode, none, none_offered i.machine.plant, part) refl

-- what a frame and the step over it make of a live computer in which none waits
pub stepped_over : (i : Inside) (f : Frame) (m : MachineValue) (issue : Issue) (texts : List (List ℕ)) → i.mode ≡ Live → length i.waits.items ≡ 0 → texts ≡ no_texts
    → step_of i.machine.plant i.machine.state f ≡ record { issue = issue; next = m.state } → m.plant ≡ i.machine.plant → m.steps ≡ one_more i.machine.steps
    → computer_state (record i { machine = m; next = i.next + 1; offers = texts; last = Some issue }) ≡ after_run (after_wire (computer_state i) f)
unfolding after_wire wire_in after_run run_in run_over_oldest after_step
stepped_over i f m issue texts mode none forgotten step plant steps =
    rw (no_items i.waits.items none, mode, forgotten, plant, none_offered i.machine.plant, step, steps) refl
