-- Exit codes, and what each status says of a run.
use Rattle.std.specs.Prelude.{ℕ}
use Rattle.dp_app.specs.declared.status.Status.{Status}
use Rattle.dp_app.specs.declared.status.Status.TheVariants as status

abbrev pub code_of : Status → ℕ
code_of status.Ok = 0
code_of status.Usage = 2
code_of status.ReadFault = 3
code_of status.WriteFault = 4
code_of status.BadPlant = 5
code_of status.GainsRefused = 6
code_of status.BadRecord = 7
code_of status.BadScript = 8
code_of status.Memory = 9
code_of status.TooLong = 10

-- all is done, words or files are refused, a read or a write failed, or memory was wanted
pub data Class : Type 0 where
  success : Class
  refusal : Class
  failed_read : Class
  failed_write : Class
  no_memory : Class

abbrev pub class_of : Status → Class
class_of status.Ok = success
class_of status.Usage = refusal
class_of status.ReadFault = failed_read
class_of status.WriteFault = failed_write
class_of status.BadPlant = refusal
class_of status.GainsRefused = refusal
class_of status.BadRecord = refusal
class_of status.BadScript = refusal
class_of status.Memory = no_memory
class_of status.TooLong = refusal

-- words and files give it, whatever faults came
abbrev pub IsGiven : Class → Type 0
IsGiven success = Unit {0}
IsGiven refusal = Unit {0}
IsGiven failed_read = ⊥
IsGiven failed_write = ⊥
IsGiven no_memory = ⊥

abbrev pub IsOfInputs : Status → Type 0
IsOfInputs s = IsGiven (class_of s)
