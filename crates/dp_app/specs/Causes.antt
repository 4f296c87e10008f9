-- Why a fault of reading may be answered: the files that a command reads are listed in the order in
-- which it reads them.
use Rattle.std.specs.Prelude.{◌≡◌, ◌≢◌, ◌⊎◌, ℕ, Bool, List, [], ◌∷◌, Option, Ok, IfSome, IsSome, IsTrue}
use Rattle.dp_accept.specs.{GivesPlant, by_own_certificate}
use Rattle.dp_plant.specs.declared.plant.Plant.{Plant as PlantValue}
use Rattle.dp_script.specs.declared.timed_act.TimedAct.{TimedAct}
use Rattle.dp_shell.specs.Faults.{NoneFalls, Rose}
use Rattle.dp_shell.specs.Texts.{Files, text_named}
use Rattle.dp_app.specs.declared.fault.File.{File}
use Rattle.dp_app.specs.declared.fault.File.TheVariants.{Plant, Script, Record, First, Second, Moves}
use Rattle.dp_app.specs.Scripts.{script_in}
use Rattle.dp_app.specs.Words.{FileNamed}

-- a file is there and has no fault that is judged before the next one is read; a record is judged
-- as it is played
abbrev pub Passes : File → Option (List ℕ) → Type 0
Passes Plant text = (p : PlantValue) × GivesPlant by_own_certificate text (Ok p)
Passes Script text = (script : List TimedAct) × (script_in text ≡ Ok script)
Passes Record text = IsSome text
Passes First text = IsSome text
Passes Second text = IsSome text
Passes Moves text = IsSome text

abbrev pub HasPassed : Files → FileNamed → Type 0
HasPassed told f = Passes f.file (text_named told f.name)

-- a read of this file failed, after all files before it had passed
abbrev pub ReadFailed : Option Files → (List ℕ → ℕ) → (List ℕ → ℕ) → List FileNamed → File → Type 0
ReadFailed files before now [] file = ⊥
ReadFailed files before now (f ∷ fs) file =
    ((f.file ≡ file) × Rose (before f.name) (now f.name))
    ⊎ (IfSome files (λ told. HasPassed told f) × ReadFailed files before now fs file)

-- a read of the record of this name failed
abbrev pub RecordFailed : (List ℕ → ℕ) → (List ℕ → ℕ) → List ℕ → File → Type 0
RecordFailed before now name file = (file ≡ Record) × Rose (before name) (now name)

-- a read of one of these files failed
abbrev pub AnyRose : List FileNamed → (List ℕ → ℕ) → (List ℕ → ℕ) → Type 0
AnyRose [] before now = ⊥
AnyRose (f ∷ fs) before now = Rose (before f.name) (now f.name) ⊎ AnyRose fs before now

-- a name is none of these files'
abbrev pub IsNoneOf : List FileNamed → List ℕ → Type 0
IsNoneOf [] name = Unit {0}
IsNoneOf (f ∷ fs) name = (name ≢ f.name) × IsNoneOf fs name

-- each other name that is counted apart keeps its number
abbrev pub OthersKeep : (List ℕ → Bool) → List FileNamed → (List ℕ → ℕ) → (List ℕ → ℕ) → Type 0
OthersKeep apart fs before now =
    (other : List ℕ) → IsTrue (apart other) → IsNoneOf fs other → now other ≡ before other

-- reads of these files leave texts and names, no number falls, and each other name that is counted
-- apart keeps its own
pub record ReadsAmong {S : Type 0} (texts : S → Option Files) (names : S → List ℕ → Bool)
    (numbers : S → List ℕ → ℕ) (fs : List FileNamed) (old new : S) : Type 0 where
  pub files : texts new ≡ texts old
  pub apart : names new ≡ names old
  pub others : OthersKeep (names old) fs (numbers old) (numbers new)
  pub none_falls : NoneFalls (numbers old) (numbers new)
