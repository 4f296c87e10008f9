-- Numbers of faults, and when a failure may be answered.
use Rattle.std.specs.Prelude.{◌≡◌, ◌≢◌, ◌+◌, ◌-◌, ◌^◌, ◌≤◌, ℕ, List, Bool, IsTrue, min, Result, OnErr, IsErrOf}
use Rattle.dp_shell.specs.declared.sink.Trouble.{Trouble}
use Rattle.dp_shell.specs.declared.sink.Trouble.TheVariants.{Failed}

-- the number rose, or stands at 2^64 - 1
abbrev pub Rose : ℕ → ℕ → Type 0
Rose before now = min (before + 1) (2 ^ 64 - 1) ≤ now

-- the number doesn't fall, and an error comes only where it rose
pub record HasCause {T E : Type 0} (before now : ℕ) (result : Result T E) : Type 0 where
  pub later : before ≤ now
  pub failed : OnErr result (Rose before now)

-- the number doesn't fall, and Failed comes only where it rose; want of memory needs no cause
pub record HasWriteCause {T : Type 0} (before now : ℕ) (result : Result T Trouble) : Type 0 where
  pub later : before ≤ now
  pub failed : IsErrOf result Failed → Rose before now

-- each other name that is counted apart keeps its number
abbrev pub OthersStay : (List ℕ → Bool) → List ℕ → (List ℕ → ℕ) → (List ℕ → ℕ) → Type 0
OthersStay apart name before now =
    (other : List ℕ) → IsTrue (apart other) → other ≢ name → now other ≡ before other

-- no name's number falls
abbrev pub NoneFalls : (List ℕ → ℕ) → (List ℕ → ℕ) → Type 0
NoneFalls before now = (name : List ℕ) → before name ≤ now name
