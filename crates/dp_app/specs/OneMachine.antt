-- One machine alone over a record.
use Rattle.std.specs.Prelude.{◌≡◌, ◌⊎◌, ℕ, List, Option, Some, Result, Ok, Err}
use Rattle.dp_frame.specs.Represents.{settings_of}
use Rattle.dp_machine.specs.Machine.{MachineValue}
use Rattle.dp_machine.specs.Reference.{reference_state}
use Rattle.dp_machine.specs.Run.{own_setpoints}
use Rattle.dp_machine.specs.declared.state.State.{State}
use Rattle.dp_plant.specs.declared.frames.Frame.{Frame}
use Rattle.dp_plant.specs.declared.plant.Plant.{Plant}
use Rattle.dp_shell.specs.Faults.{Rose}
use Rattle.dp_shell.specs.Texts.{Files}
use Rattle.dp_shell.specs.declared.shelf.Failed.{Failed}
use Rattle.dp_stream.specs.declared.next.End.{End}
use Rattle.dp_stream.specs.declared.next.End.TheVariants.{Whole}
use Rattle.dp_stream.specs.Records.{IsRecord}
use Rattle.dp_app.specs.declared.fault.Fault.{Fault}
use Rattle.dp_app.specs.declared.fault.Fault.TheVariants.{Memory, Read}
use Rattle.dp_app.specs.declared.fault.File.TheVariants.{Record}
use Rattle.dp_app.specs.Outcome.{fault_at}

-- a machine of this plant was stepped over these frames, at the plant's own setpoint
pub record HasRun (p : Plant) (m : MachineValue) (fs : List Frame) : Type 0 where
  pub plant : m.plant ≡ p
  pub state : m.state ≡ reference_state p (own_setpoints p) fs

-- it was stepped over all frames of the record of this name, which ends so
abbrev pub RunsRecord : Option Files → List ℕ → Plant → MachineValue → Result End Failed → Type 0
RunsRecord files name p m (Ok end) =
    (fs : List Frame) × IsRecord files name (settings_of p) fs end × HasRun p m fs
RunsRecord files name p m (Err e) = Unit {0}

-- this is the state of one computer alone after all frames of the record of this name
abbrev pub IsStateAfter : Option Files → List ℕ → Plant → State → Type 0
IsStateAfter files name p s = (fs : List Frame) × IsRecord files name (settings_of p) fs Whole
    × (s ≡ reference_state p (own_setpoints p) fs)

-- the record of this name has this fault; or a read of it failed, or memory was wanted
abbrev pub HasRecordFault : Option Files → ℕ → ℕ → List ℕ → Plant → Fault → Type 0
HasRecordFault files before now name p fault =
    ((fs : List Frame) × (end : End) × IsRecord files name (settings_of p) fs end
    × (fault_at Record end ≡ Some fault))
    ⊎ ((fault ≡ Read Record) × Rose before now)
    ⊎ (fault ≡ Memory)
