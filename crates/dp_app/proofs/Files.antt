-- What the files of a command give, from what was read of them.
use Rattle.std.proofs.Common.{◌≡◌, ◌≢◌, ℕ, Bool, List, [], ◌∷◌, Option, Some, None, Err, Ok, Result, IfSome, inl, refl, sym, ap, ◌∙◌, subst, arith}
use Rattle.dp_accept.specs.{GivesPlant, IsOfFile}
use Rattle.dp_accept.specs.declared.refusals.GainsRefusal.{GainsRefusal}
use Rattle.dp_accept.specs.declared.trouble.PlantTrouble.{PlantTrouble}
use Rattle.dp_accept.specs.declared.trouble.PlantTrouble.TheVariants as plant
use Rattle.dp_plant.specs.declared.plant.Plant.{Plant}
use Rattle.dp_shell.specs.Faults.{Rose}
use Rattle.dp_shell.specs.Texts.{Files, text_named}
use Rattle.dp_shell.specs.{ReadsOnly}
use Rattle.dp_app.specs.declared.fault.Fault.{Fault}
use Rattle.dp_app.specs.declared.fault.Fault.TheVariants.{Memory, Read}
use Rattle.dp_app.specs.declared.fault.File.{File}
use Rattle.dp_app.specs.declared.fault.File.TheVariants as file
use Rattle.dp_app.specs.declared.script_file.ScriptTrouble.{ScriptTrouble}
use Rattle.dp_app.specs.declared.script_file.ScriptTrouble.TheVariants as script
use Rattle.dp_app.specs.declared.status.Status.TheVariants as status
use Rattle.dp_app.specs.Causes.{IsNoneOf, ReadFailed, ReadsAmong}
use Rattle.dp_app.specs.Complete.{AsksAlone, AsksNoFile}
use Rattle.dp_app.specs.FaultLines.{fault_status}
use Rattle.dp_app.specs.Outcome.{Asks, AsksFor, Matter, Task, alone, matter_of, on_plant}
use Rattle.dp_app.specs.Scripts.{IsOfScript}
use Rattle.dp_app.specs.Status.{IsOfInputs}
use Rattle.dp_app.specs.Troubles.{plant_fault, script_fault}
use Rattle.dp_app.specs.Words.{Command, FileNamed, files_of, plant_file}
use Rattle.dp_app.proofs.Asking.{any_files, each_file}
use Rattle.dp_app.proofs.Endings.{same_read}
use Rattle.dp_app.proofs.Running.{IsRefusedWith, IsTold, reads_nothing, some_none}

-- ---- trouble, as it is told

plant_read : (why : PlantTrouble) (f : File) → plant_fault why ≡ Read f → (why ≡ plant.Read) × (file.Plant ≡ f)
plant_read plant.Read f e = (refl, same_read file.Plant f e)
plant_read plant.Memory f e = absurd cc
plant_read plant.Long f e = absurd cc
plant_read (plant.Plant why) f e = absurd cc
plant_read (plant.Gains why) f e = absurd cc

plant_given : (why : PlantTrouble) → IsOfInputs (fault_status (plant_fault why)) → IsOfFile why
plant_given plant.Read is = is
plant_given plant.Memory is = is
plant_given plant.Long is = tt
plant_given (plant.Plant why) is = tt
plant_given (plant.Gains why) is = tt

plant_no_usage : (why : PlantTrouble) → fault_status (plant_fault why) ≡ status.Usage → ⊥
plant_no_usage plant.Read e = cc
plant_no_usage plant.Memory e = cc
plant_no_usage plant.Long e = cc
plant_no_usage (plant.Plant why) e = cc
plant_no_usage (plant.Gains why) e = cc

pub script_read : (why : ScriptTrouble) (f : File) → script_fault why ≡ Read f → (why ≡ script.Read) × (file.Script ≡ f)
script_read script.Read f e = (refl, same_read file.Script f e)
script_read script.Memory f e = absurd cc
script_read script.Long f e = absurd cc
script_read (script.Line line kind) f e = absurd cc

pub script_given : (why : ScriptTrouble) → IsOfInputs (fault_status (script_fault why)) → IsOfScript why
script_given script.Read is = is
script_given script.Memory is = is
script_given script.Long is = tt
script_given (script.Line line kind) is = tt

pub script_no_usage : (why : ScriptTrouble) → fault_status (script_fault why) ≡ status.Usage → ⊥
script_no_usage script.Read e = cc
script_no_usage script.Memory e = cc
script_no_usage script.Long e = cc
script_no_usage (script.Line line kind) e = cc

module _ {S : Type 0} (texts : S → Option Files) (names : S → List ℕ → Bool) (numbers : S → List ℕ → ℕ) where
  -- ---- reads of several names

  pub reads_first : (f : FileNamed) (rest : List FileNamed) (a b : S) → ReadsOnly texts names numbers f.name a b → ReadsAmong texts names numbers (f ∷ rest) a b
  reads_first f rest a b h = record {
    files = h.files;
    apart = h.apart;
    others = λ other is ne. h.others other is ne.0;
    none_falls = h.none_falls;
  }

  -- a task alone needs none
  pub alone_told : (a : S) (command : Command) (task : Task) → matter_of command ≡ alone task → files_of command ≡ [] → task.fault ≡ None
      → IsTold texts names numbers (Some command) a a task
  alone_told a command task matter none sound = record {
    asked = any_files (texts a) (λ told. Asks (Some command) told (Ok task)) (λ told. subst (λ (m : Matter). AsksFor m told (Ok task)) (sym matter) refl);
    sound = sound;
    some = some_none command;
    alone = λ x is. subst (λ (m : Matter). AsksAlone m x) matter is;
    keeps = subst (λ (fs : List FileNamed). ReadsAmong texts names numbers fs a a) (sym none) (reads_nothing texts names numbers [] a);
  }

  pub reads_then : (fs : List FileNamed) (name : List ℕ) (a b c : S) → ((other : List ℕ) → IsNoneOf fs other → other ≢ name)
      → ReadsAmong texts names numbers fs a b → ReadsOnly texts names numbers name b c → ReadsAmong texts names numbers fs a c
  reads_then fs name a b c among h k = record {
    files = k.files ∙ h.files;
    apart = k.apart ∙ h.apart;
    others = λ other is ne. k.others other (ap (λ (test : List ℕ → Bool). test other) h.apart ∙ is) (among other ne) ∙ h.others other is ne;
    none_falls = λ other. omega (arith, h.none_falls other, k.none_falls other);
  }

  module _ (old : S) (command : Command) (name : List ℕ) (judge : Plant → Option GainsRefusal) (task : Files → Plant → Result Task Fault)
      (matter : matter_of command ≡ on_plant name judge task) where
    abbrev Keeps : S → Type 0
    Keeps new = ReadsAmong texts names numbers (files_of command) old new

    asks_as : (told : Files) (x : Result Task Fault) → AsksFor (on_plant name judge task) told x → Asks (Some command) told x
    asks_as told x h = subst (λ (m : Matter). AsksFor m told x) (sym matter) h

    never_alone : (x : Result Task Fault) → AsksNoFile (Some command) x → ⊥
    never_alone x h = subst (λ (m : Matter). AsksAlone m x) matter h

    -- its plant's file is refused
    pub plant_refused : (new : S) (rest : List FileNamed) → files_of command ≡ plant_file name ∷ rest → (why : PlantTrouble)
        → (IsOfFile why → IfSome (texts old) (λ told. GivesPlant judge (text_named told name) (Err why)))
        → (why ≡ plant.Read → Rose (numbers old name) (numbers new name)) → Keeps new
        → IsRefusedWith texts names numbers (Some command) old new (plant_fault why)
    plant_refused new rest files why given rose keeps = record {
      asked = λ is.
          each_file (texts old) (λ told. GivesPlant judge (text_named told name) (Err why)) (λ told. Asks (Some command) told (Err (plant_fault why)))
          (λ told h. asks_as told (Err (plant_fault why)) (Err why, h, refl)) (given (plant_given why is));
      usage = λ is. absurd (plant_no_usage why is);
      none = λ h. absurd (some_none command h);
      alone = λ x h. absurd (never_alone x h);
      read = λ f is.
          let both = plant_read why f is in
          subst (λ (fs : List FileNamed). ReadFailed (texts old) (numbers old) (numbers new) fs f) (sym files) (inl (both.1, rose both.0));
      keeps = keeps;
    }

    -- memory was wanted for what follows
    pub memory_refused : (new : S) → Keeps new → IsRefusedWith texts names numbers (Some command) old new Memory
    memory_refused new keeps = record {
      asked = λ is. absurd is;
      usage = λ is. absurd cc;
      none = λ h. absurd (some_none command h);
      alone = λ x h. absurd (never_alone x h);
      read = λ f is. absurd cc;
      keeps = keeps;
    }

    -- it is given, and so is the task on it
    pub task_told : (new : S) (p : Plant) (t : Task) → IfSome (texts old) (λ told. GivesPlant judge (text_named told name) (Ok p)) → ((told : Files) → Ok t ≡ task told p)
        → t.fault ≡ None → Keeps new → IsTold texts names numbers (Some command) old new t
    task_told new p t given is sound keeps = record {
      asked = each_file (texts old) (λ told. GivesPlant judge (text_named told name) (Ok p)) (λ told. Asks (Some command) told (Ok t))
          (λ told h. asks_as told (Ok t) (Ok p, h, is told)) given;
      sound = sound;
      some = some_none command;
      alone = λ x h. absurd (never_alone x h);
      keeps = keeps;
    }
