-- What a run of a command comes to, from what its calls answer.
use Rattle.std.proofs.Common.{◌≡◌, ◌⊎◌, ℕ, Bool, List, [], Option, Some, None, Err, Ok, Result, IfSome, IsNone, inl, inr, refl, sym, ap, ◌∙◌, subst, arith}
use Rattle.dp_shell.specs.Faults.{Rose}
use Rattle.dp_shell.specs.Texts.{Files}
use Rattle.dp_app.specs.declared.fault.Fault.{Fault}
use Rattle.dp_app.specs.declared.fault.Fault.TheVariants.{Usage, Read, Memory}
use Rattle.dp_app.specs.declared.fault.File.{File}
use Rattle.dp_app.specs.declared.status.Status.{Status}
use Rattle.dp_app.specs.declared.status.Status.TheVariants as status
use Rattle.dp_app.specs.Causes.{AnyRose, ReadFailed, ReadsAmong}
use Rattle.dp_app.specs.Complete.{AsksNoFile, IsUnrefused, IsWholeOrMemory}
use Rattle.dp_app.specs.FaultLines.{fault_line, fault_status}
use Rattle.dp_app.specs.Outcome.{Asks, Task, last_status, outcome_of, pieces_in}
use Rattle.dp_app.specs.Running.{Runs}
use Rattle.dp_app.specs.Status.{IsOfInputs}
use Rattle.dp_app.specs.Words.{Command, FileNamed, files_read}
use Rattle.dp_app.specs.Written.{HasWritten, LineEnds, NoReadFailed}
use Rattle.dp_app.proofs.Asking.{any_files, of_asked}
use Rattle.dp_app.proofs.Endings.{end_announced, end_read, end_status, line_status, written_more, written_unread}
use Rattle.dp_app.proofs.Outcomes.{any_rose, given_line, memory_line, refused_announced, refused_no_command, refused_read, refused_usage, refused_written, status_known}
use Rattle.dp_app.proofs.WholeRuns.{whole_run}

-- a command is refused with this fault before anything is written
pub record IsRefusedWith {S : Type 0} (texts : S → Option Files) (names : S → List ℕ → Bool) (numbers : S → List ℕ → ℕ) (c : Option Command) (old new : S)
    (fault : Fault) : Type 0 where
  pub asked : IsOfInputs (fault_status fault) → IfSome (texts old) (λ told. Asks c told (Err fault))
  pub usage : fault_status fault ≡ status.Usage → IsNone c
  pub none : IsNone c → (fault ≡ Usage) ⊎ (fault ≡ Memory)
  pub alone : (x : Result Task Fault) → AsksNoFile c x → ((x ≡ Err fault) × IsOfInputs (fault_status fault)) ⊎ (fault ≡ Memory)
  pub read : (file : File) → fault ≡ Read file → ReadFailed (texts old) (numbers old) (numbers new) (files_read c) file
  pub keeps : ReadsAmong texts names numbers (files_read c) old new

-- it asks for this task, for which no record is read while it is told
pub record IsTold {S : Type 0} (texts : S → Option Files) (names : S → List ℕ → Bool) (numbers : S → List ℕ → ℕ) (c : Option Command) (old new : S)
    (task : Task) : Type 0 where
  pub asked : IfSome (texts old) (λ told. Asks c told (Ok task))
  pub sound : task.fault ≡ None
  pub some : IsNone c → ⊥
  pub alone : (x : Result Task Fault) → AsksNoFile c x → x ≡ Ok task
  pub keeps : ReadsAmong texts names numbers (files_read c) old new

pub some_none : {A : Type 0} (x : A) → IsNone (Some x) → ⊥
some_none x h = cc

-- ---- no file was read yet

pub reads_nothing : {S : Type 0} (texts : S → Option Files) (names : S → List ℕ → Bool) (numbers : S → List ℕ → ℕ) (fs : List FileNamed) (a : S)
    → ReadsAmong texts names numbers fs a a
reads_nothing texts names numbers fs a = record { files = refl; apart = refl; others = λ other is ne. refl; none_falls = λ name. omega arith }

-- the words are no command
pub usage_first : {S : Type 0} (texts : S → Option Files) (names : S → List ℕ → Bool) (numbers : S → List ℕ → ℕ) (a : S)
    → IsRefusedWith texts names numbers None a a Usage
usage_first texts names numbers a = record {
  asked = λ is. any_files (texts a) (λ told. Asks None told (Err Usage)) (λ told. refl);
  usage = λ is. refl;
  none = λ h. inl refl;
  alone = λ x is. inl (is, tt);
  read = λ file is. absurd cc;
  keeps = reads_nothing texts names numbers [] a;
}

-- memory was wanted for them
pub memory_first : {S : Type 0} (texts : S → Option Files) (names : S → List ℕ → Bool) (numbers : S → List ℕ → ℕ) (c : Option Command) (a : S)
    → IsRefusedWith texts names numbers c a a Memory
memory_first texts names numbers c a = record {
  asked = λ is. absurd is;
  usage = λ is. absurd cc;
  none = λ h. inr refl;
  alone = λ x is. inr refl;
  read = λ file is. absurd cc;
  keeps = reads_nothing texts names numbers (files_read c) a;
}

module _ {S T : Type 0} (texts : S → Option Files) (names : S → List ℕ → Bool) (numbers : S → List ℕ → ℕ) (taken : T → Option (List ℕ)) (troubles : T → ℕ)
    (c : Option Command) (old new : S) (before after : T) (s : Status) where
  abbrev Failed : File → Type 0
  Failed file = ReadFailed (texts old) (numbers old) (numbers new) (files_read c) file

  -- the line of the refusal was written, or its writing stopped
  refused_by : (fault : Fault) → IsRefusedWith texts names numbers c old new fault → LineEnds (fault_status fault) (fault_line fault) (taken before) (taken after) s
      → (s ≡ status.WriteFault → Rose (troubles before) (troubles after)) → Runs texts names numbers taken troubles c old new before after s
  refused_by fault h ends wrote = record {
    answers = λ is.
        let e = line_status _ _ _ _ s ends is in
        of_asked (texts old) c (Err fault) (λ (x : Result Task Fault). s ≡ (outcome_of x).status) (h.asked (subst IsOfInputs e is)) e;
    written = refused_written Failed (texts old) c (taken before) (taken after) s fault h.asked h.read ends;
    announced = refused_announced Failed (taken before) (taken after) s fault ends;
    usage = λ is. h.usage (refused_usage Failed (taken before) (taken after) s fault ends is);
    no_command = λ none. refused_no_command Failed (taken before) (taken after) s fault ends (h.none none);
    read = refused_read Failed (taken before) (taken after) s fault ends h.read;
    write = wrote;
    unread = λ x asks. by x (h.alone x asks);
    keeps = h.keeps;
  }
    where
      by : (x : Result Task Fault) → ((x ≡ Err fault) × IsOfInputs (fault_status fault)) ⊎ (fault ≡ Memory)
          → (IsOfInputs s → s ≡ (outcome_of x).status) × HasWritten NoReadFailed [] (outcome_of x).text s (taken before) (taken after)
      by x (inl (e, given)) = (
        λ is. line_status (fault_status fault) (fault_line fault) (taken before) (taken after) s ends is ∙ sym (ap (λ (r : Result Task Fault). (outcome_of r).status) e),
        subst (λ (r : Result Task Fault). HasWritten NoReadFailed [] (outcome_of r).text s (taken before) (taken after)) (sym e)
            (given_line NoReadFailed [] [] (taken before) (taken after) s fault given ends),
      )
      by x (inr e) =
          let told : LineEnds status.Memory (fault_line Memory) (taken before) (taken after) s =
          subst (λ (f : Fault). LineEnds (fault_status f) (fault_line f) (taken before) (taken after) s) e ends in (
            λ is. absurd (subst IsOfInputs (line_status status.Memory (fault_line Memory) (taken before) (taken after) s told is) is),
            memory_line NoReadFailed [] (outcome_of x).text (taken before) (taken after) s told,
          )

  pub refused_runs : (fault told : Fault) → told ≡ fault → IsRefusedWith texts names numbers c old new fault
      → LineEnds (fault_status told) (fault_line told) (taken before) (taken after) s → (s ≡ status.WriteFault → Rose (troubles before) (troubles after))
      → Runs texts names numbers taken troubles c old new before after s
  refused_runs fault told is h ends wrote =
      refused_by told (subst (λ (f : Fault). IsRefusedWith texts names numbers c old new f) (sym is) h) ends wrote

  -- the text of the task was written, or its writing stopped
  pub told_runs : (task : Task) → IsTold texts names numbers c old new task → (s ≡ status.Ok) ⊎ (s ≡ status.WriteFault) ⊎ (s ≡ status.Memory)
      → HasWritten NoReadFailed [] task.text s (taken before) (taken after) → (s ≡ status.WriteFault → Rose (troubles before) (troubles after))
      → Runs texts names numbers taken troubles c old new before after s
  told_runs task h ends text wrote =
      let ok : IsOfInputs s → s ≡ last_status task.fault = λ is. end_status s ends is ∙ sym (ap last_status h.sound) in
      record {
        answers = λ is. of_asked (texts old) c (Ok task) (λ (x : Result Task Fault). s ≡ (outcome_of x).status) h.asked (ok is);
        written = of_asked (texts old) c (Ok task) (λ (x : Result Task Fault). HasWritten Failed (pieces_in x) (outcome_of x).text s (taken before) (taken after)) h.asked
            (written_more NoReadFailed Failed (λ file never. absurd never) task.pieces task.text s (taken before) (taken after)
            (written_unread task.pieces task.text s (taken before) (taken after) text));
        announced = end_announced s (taken before) (taken after) ends;
        usage = λ is. absurd ((end_read s ends).1 is);
        no_command = λ none. absurd (h.some none);
        read = λ is. absurd ((end_read s ends).0 is);
        write = wrote;
        unread = λ x asks.
            let e = h.alone x asks in (
              λ is. ok is ∙ sym (ap (λ (r : Result Task Fault). (outcome_of r).status) e),
              subst (λ (r : Result Task Fault). HasWritten NoReadFailed [] (outcome_of r).text s (taken before) (taken after)) (sym e) text,
            );
        keeps = h.keeps;
      }

  -- ---- where nothing comes between

  module _ (run : Runs texts names numbers taken troubles c old new before after s) where
    pub runs_complete : (AnyRose (files_read c) (numbers old) (numbers new) → ⊥) → (Rose (troubles before) (troubles after) → ⊥) → IsOfInputs s ⊎ (s ≡ status.Memory)
    runs_complete quiet still =
        status_known s
        (λ e. let r = run.read e in quiet (any_rose (texts old) (numbers old) (numbers new) (files_read c) r.0 r.1))
        (λ e. still (run.write e))

    pub runs_whole : IfSome (texts old) (λ told. (x : Result Task Fault) → Asks c told x → IsUnrefused x → (AnyRose (files_read c) (numbers old) (numbers new) → ⊥)
        → (Rose (troubles before) (troubles after) → ⊥) → IsWholeOrMemory (outcome_of x) s (taken before) (taken after))
    runs_whole = whole_run (texts old) c Failed s (taken before) (taken after) _ _ run.answers run.written runs_complete

-- the same of the command that was found
pub runs_as : {S T : Type 0} (texts : S → Option Files) (names : S → List ℕ → Bool) (numbers : S → List ℕ → ℕ) (taken : T → Option (List ℕ)) (troubles : T → ℕ)
    (c d : Option Command) (old new : S) (before after : T) (s : Status) → c ≡ d → Runs texts names numbers taken troubles d old new before after s
    → Runs texts names numbers taken troubles c old new before after s
runs_as texts names numbers taken troubles c d old new before after s is h =
    subst (λ (e : Option Command). Runs texts names numbers taken troubles e old new before after s) (sym is) h
