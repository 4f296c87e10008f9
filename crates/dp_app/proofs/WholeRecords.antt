-- A command that reads its plant and then all of a record before it writes.
use Rattle.std.proofs.Common.{◌≡◌, ℕ, Bool, List, [], ◌∷◌, Option, Some, None, IfSome, IsNone, IsSomeAnd, Ok, Err, Result, inl, inr, refl, sym, ap, ◌∙◌, subst, arith}
use Rattle.dp_accept.specs.{GivesPlant, by_own_certificate, prefix_of}
use Rattle.dp_frame.specs.Represents.{settings_of}
use Rattle.dp_frame.specs.declared.fault.Refusal.TheVariants as refusal
use Rattle.dp_plant.specs.declared.frames.Frame.{Frame}
use Rattle.dp_plant.specs.declared.plant.Plant.{Plant}
use Rattle.dp_shell.specs.Faults.{Rose}
use Rattle.dp_shell.specs.Texts.{Files, text_named}
use Rattle.dp_shell.specs.{ReadsOnly}
use Rattle.dp_stream.specs.declared.next.End.{End}
use Rattle.dp_stream.specs.declared.next.End.TheVariants as end
use Rattle.dp_stream.specs.Records.{IsRead, IsRecord, end_of, record_limit}
use Rattle.dp_app.specs.declared.fault.Fault.{Fault}
use Rattle.dp_app.specs.declared.fault.Fault.TheVariants.{BadRecord, Long, LongCycles, Memory, Read}
use Rattle.dp_app.specs.declared.fault.File.{File}
use Rattle.dp_app.specs.declared.fault.File.TheVariants.{Record}
use Rattle.dp_app.specs.declared.status.Status.{Status}
use Rattle.dp_app.specs.declared.status.Status.TheVariants as status
use Rattle.dp_app.specs.Causes.{HasPassed, ReadFailed, ReadsAmong}
use Rattle.dp_app.specs.Complete.{AsksAlone, AsksNoFile}
use Rattle.dp_app.specs.FaultLines.{fault_status}
use Rattle.dp_app.specs.OneMachine.{HasRecordFault}
use Rattle.dp_app.specs.Outcome.{Asks, AsksFor, Matter, Task, fault_at, matter_of, on_plant, once_read, unless_faulty, with_whole_record}
use Rattle.dp_app.specs.Status.{IsOfInputs}
use Rattle.dp_app.specs.Words.{Command, FileNamed, files_of, plant_file, record_file}
use Rattle.dp_app.proofs.Asking.{both_files, each_file}
use Rattle.dp_app.proofs.Endings.{same_read}
use Rattle.dp_app.proofs.Files.{memory_refused, reads_first, reads_then}
use Rattle.dp_app.proofs.Outcomes.{rose_before}
use Rattle.dp_app.proofs.Running.{IsRefusedWith, IsTold, some_none}

-- ---- a record's own fault is none of a read, nor of the words

some_fault : (a b : Fault) → Some a ≡ Some b → a ≡ b
some_fault a b e = cc

no_usage : (e : End) (fault : Fault) → fault_at Record e ≡ Some fault → fault_status fault ≡ status.Usage → ⊥
no_usage end.Whole fault is u = absurd cc
no_usage (end.Refused (refusal.Faulty line kind)) fault is u =
    let no : status.BadRecord ≡ status.Usage = ap fault_status (some_fault (BadRecord Record line kind) fault is) ∙ u in cc
no_usage (end.Refused (refusal.TooMany line cycle)) fault is u =
    let no : status.TooLong ≡ status.Usage = ap fault_status (some_fault (LongCycles cycle) fault is) ∙ u in cc
no_usage end.Long fault is u =
    let no : status.TooLong ≡ status.Usage = ap fault_status (some_fault (Long Record) fault is) ∙ u in cc

no_read : (e : End) (fault : Fault) (file : File) → fault_at Record e ≡ Some fault → fault ≡ Read file → ⊥
no_read end.Whole fault file is r = absurd cc
no_read (end.Refused (refusal.Faulty line kind)) fault file is r =
    let no : BadRecord Record line kind ≡ Read file = some_fault (BadRecord Record line kind) fault is ∙ r in cc
no_read (end.Refused (refusal.TooMany line cycle)) fault file is r =
    let no : LongCycles cycle ≡ Read file = some_fault (LongCycles cycle) fault is ∙ r in cc
no_read end.Long fault file is r =
    let no : Long Record ≡ Read file = some_fault (Long Record) fault is ∙ r in cc

-- ---- what its text gives

module _ (p : Plant) (task : List Frame → Task) where
  read_whole : (t : Option (List ℕ)) (fs : List Frame) (e : End) → IsSomeAnd t (λ (text : List ℕ). IsRead (settings_of p) text fs e)
      → with_whole_record p task t ≡ unless_faulty (task fs) (fault_at Record e)
  unfolding once_read
  read_whole (Some text) fs e h =
      let f = prefix_of record_limit text in
      ap (λ (gs : List Frame). unless_faulty (task gs) (fault_at Record (end_of (settings_of p) f.text f.goes_on))) (sym h.frames)
      ∙ ap (λ (x : End). unless_faulty (task fs) (fault_at Record x)) (sym h.ending)
  read_whole None fs e h = absurd h

module _ {S : Type 0} (texts : S → Option Files) (names : S → List ℕ → Bool) (numbers : S → List ℕ → ℕ) (command : Command) (plant_name record_name : List ℕ)
    (task : Plant → List Frame → Task)
    (matter : matter_of command ≡ on_plant plant_name by_own_certificate (λ files p. with_whole_record p (task p) (text_named files record_name)))
    (files : files_of command ≡ plant_file plant_name ∷ record_file record_name ∷ []) (old first new : S) (p : Plant)
    (given : IfSome (texts old) (λ told. GivesPlant by_own_certificate (text_named told plant_name) (Ok p)))
    (read_plant : ReadsOnly texts names numbers plant_name old first) (read_record : ReadsOnly texts names numbers record_name first new) where
  abbrev both : List FileNamed
  both = plant_file plant_name ∷ record_file record_name ∷ []

  keeps : ReadsAmong texts names numbers (files_of command) old new
  keeps =
      subst (λ (fs : List FileNamed). ReadsAmong texts names numbers fs old new) (sym files)
      (reads_then texts names numbers both record_name old first new (λ other ne. ne.1.0)
      (reads_first texts names numbers (plant_file plant_name) (record_file record_name ∷ []) old first read_plant) read_record)

  plant_passed : IfSome (texts old) (λ told. HasPassed told (plant_file plant_name))
  plant_passed =
      each_file (texts old) (λ told. GivesPlant by_own_certificate (text_named told plant_name) (Ok p)) (λ told. HasPassed told (plant_file plant_name)) (λ told h. (p, h)) given

  never_alone : (x : Result Task Fault) → AsksNoFile (Some command) x → ⊥
  never_alone x h = subst (λ (m : Matter). AsksAlone m x) matter h

  asks_record : (told : Files) (r : Result Task Fault) → GivesPlant by_own_certificate (text_named told plant_name) (Ok p)
      → with_whole_record p (task p) (text_named told record_name) ≡ r → Asks (Some command) told r
  asks_record told r h is = subst (λ (m : Matter). AsksFor m told r) (sym matter) (Ok p, h, sym is)

  asked : (fs : List Frame) (e : End) → IsRecord (texts first) record_name (settings_of p) fs e
      → IfSome (texts old) (λ told. Asks (Some command) told (unless_faulty (task p fs) (fault_at Record e)))
  asked fs e is =
      both_files (texts old) (λ told. GivesPlant by_own_certificate (text_named told plant_name) (Ok p))
      (λ told. IsSomeAnd (text_named told record_name) (λ (text : List ℕ). IsRead (settings_of p) text fs e))
      (λ told. Asks (Some command) told (unless_faulty (task p fs) (fault_at Record e)))
      (λ told h r. asks_record told (unless_faulty (task p fs) (fault_at Record e)) h (read_whole p (task p) (text_named told record_name) fs e r))
      given (subst (λ (f : Option Files). IsRecord f record_name (settings_of p) fs e) read_plant.files is)

  -- it was read, and the task on its frames is told
  pub record_told : (fs : List Frame) → IsRecord (texts first) record_name (settings_of p) fs end.Whole → (task p fs).fault ≡ None
      → IsTold texts names numbers (Some command) old new (task p fs)
  record_told fs is sound = record {
    asked = asked fs end.Whole is;
    sound = sound;
    some = some_none command;
    alone = λ x h. absurd (never_alone x h);
    keeps = keeps;
  }

  -- it is refused, or could not be read
  of_end : (fs : List Frame) (e : End) (fault : Fault) → IsRecord (texts first) record_name (settings_of p) fs e → fault_at Record e ≡ Some fault
      → IsRefusedWith texts names numbers (Some command) old new fault
  of_end fs e fault is why = record {
    asked = λ inputs. subst (λ (o : Option Fault). IfSome (texts old) (λ told. Asks (Some command) told (unless_faulty (task p fs) o))) why (asked fs e is);
    usage = λ u. absurd (no_usage e fault why u);
    none = λ h. absurd (some_none command h);
    alone = λ x h. absurd (never_alone x h);
    read = λ file r. absurd (no_read e fault file why r);
    keeps = keeps;
  }

  of_read : (fault : Fault) → fault ≡ Read Record → Rose (numbers first record_name) (numbers new record_name)
      → IsRefusedWith texts names numbers (Some command) old new fault
  of_read fault is rose = record {
    asked = λ inputs. absurd (subst (λ (f : Fault). IsOfInputs (fault_status f)) is inputs);
    usage = λ u. absurd (let no : status.ReadFault ≡ status.Usage = sym (ap fault_status is) ∙ u in cc);
    none = λ h. absurd (some_none command h);
    alone = λ x h. absurd (never_alone x h);
    read = λ file r. subst (λ (fs : List FileNamed). ReadFailed (texts old) (numbers old) (numbers new) fs file) (sym files)
        (inr (
          plant_passed,
          inl (
            same_read Record file (sym is ∙ r),
            rose_before (numbers old record_name) (numbers first record_name) (numbers new record_name)
                (read_plant.none_falls record_name) rose,
          ),
        ));
    keeps = keeps;
  }

  pub record_refused : (fault : Fault) → HasRecordFault (texts first) (numbers first record_name) (numbers new record_name) record_name p fault
      → IsRefusedWith texts names numbers (Some command) old new fault
  record_refused fault (inl (fs, e, is, why)) = of_end fs e fault is why
  record_refused fault (inr (inl (is, rose))) = of_read fault is rose
  record_refused fault (inr (inr is)) =
      subst (λ (f : Fault). IsRefusedWith texts names numbers (Some command) old new f) (sym is)
      (memory_refused texts names numbers old command plant_name by_own_certificate (λ told q. with_whole_record q (task q) (text_named told record_name)) matter new keeps)
