-- What a replay comes to: its plant and its script were read, and its record was played.
use Rattle.std.proofs.Common.{◌≡◌, ◌≢◌, ℕ, Bool, List, [], ◌∷◌, Option, Some, Ok, Err, Result, IfSome, inl, inr, sym, ap, ◌∙◌, subst}
use Rattle.dp_accept.specs.{GivesPlant, by_own_certificate}
use Rattle.dp_plant.specs.declared.plant.Plant.{Plant}
use Rattle.dp_script.specs.declared.timed_act.TimedAct.{TimedAct}
use Rattle.dp_shell.specs.Faults.{Rose}
use Rattle.dp_shell.specs.Texts.{Files, text_named}
use Rattle.dp_shell.specs.{ReadsOnly}
use Rattle.dp_app.specs.declared.fault.Fault.{Fault}
use Rattle.dp_app.specs.declared.fault.File.{File}
use Rattle.dp_app.specs.declared.fault.File.TheVariants.{Record}
use Rattle.dp_app.specs.declared.player.Player.{Player}
use Rattle.dp_app.specs.declared.script_file.ScriptTrouble.{ScriptTrouble}
use Rattle.dp_app.specs.declared.script_file.ScriptTrouble.TheVariants as script
use Rattle.dp_app.specs.declared.status.Status.{Status}
use Rattle.dp_app.specs.declared.status.Status.TheVariants as status
use Rattle.dp_app.specs.Causes.{HasPassed, ReadFailed, ReadsAmong, RecordFailed}
use Rattle.dp_app.specs.Outcome.{Asks, Task, outcome_of, pieces_in, with_record, with_script}
use Rattle.dp_app.specs.Running.{Runs}
use Rattle.dp_app.specs.Scripts.{IsOfScript, script_in}
use Rattle.dp_app.specs.Status.{IsOfInputs}
use Rattle.dp_app.specs.Streaming.{task_of_player}
use Rattle.dp_app.specs.Troubles.{script_fault}
use Rattle.dp_app.specs.Words.{Command, files_of, plant_file, record_file, replay, script_file}
use Rattle.dp_app.specs.Written.{EndsAtRead, HasWritten, IsAnnounced}
use Rattle.dp_app.proofs.Asking.{both_files, each_file, of_each}
use Rattle.dp_app.proofs.Endings.{written_more}
use Rattle.dp_app.proofs.Files.{reads_first, reads_then, script_given, script_no_usage, script_read}
use Rattle.dp_app.proofs.Outcomes.{rose_before}
use Rattle.dp_app.proofs.Running.{IsRefusedWith, some_none}

module _ {S T : Type 0} (texts : S → Option Files) (names : S → List ℕ → Bool) (numbers : S → List ℕ → ℕ) (taken : T → Option (List ℕ)) (troubles : T → ℕ)
    (plant_name record_name script_name : List ℕ) (old first : S) (p : Plant)
    (given : IfSome (texts old) (λ told. GivesPlant by_own_certificate (text_named told plant_name) (Ok p)))
    (read_plant : ReadsOnly texts names numbers plant_name old first) where
  abbrev command : Option Command
  command = Some (replay plant_name record_name script_name)

  abbrev Keeps : S → Type 0
  Keeps new = ReadsAmong texts names numbers (files_of (replay plant_name record_name script_name)) old new

  plant_passed : IfSome (texts old) (λ told. HasPassed told (plant_file plant_name))
  plant_passed =
      each_file (texts old) (λ told. GivesPlant by_own_certificate (text_named told plant_name) (Ok p)) (λ told. HasPassed told (plant_file plant_name)) (λ told h. (p, h)) given

  keeps_first : Keeps first
  keeps_first = reads_first texts names numbers (plant_file plant_name) (script_file script_name ∷ record_file record_name ∷ []) old first read_plant

  module _ (second : S) (read_script : ReadsOnly texts names numbers script_name first second) where
    keeps_second : Keeps second
    keeps_second =
        reads_then texts names numbers (files_of (replay plant_name record_name script_name)) script_name old first second (λ other ne. ne.1.0) keeps_first read_script

    -- ---- the script is refused

    asks_refused : (told : Files) (why : ScriptTrouble) → GivesPlant by_own_certificate (text_named told plant_name) (Ok p)
        → script_in (text_named told script_name) ≡ Err why → Asks command told (Err (script_fault why))
    asks_refused told why h is = (Ok p, h, sym (ap (λ (r : Result (List TimedAct) ScriptTrouble). with_script p r (text_named told record_name)) is))

    pub script_refused : (why : ScriptTrouble) → (IsOfScript why → IfSome (texts first) (λ told. script_in (text_named told script_name) ≡ Err why))
        → (why ≡ script.Read → Rose (numbers first script_name) (numbers second script_name)) → IsRefusedWith texts names numbers command old second (script_fault why)
    script_refused why bad rose = record {
      asked = λ is.
          both_files (texts old) (λ told. GivesPlant by_own_certificate (text_named told plant_name) (Ok p)) (λ told. script_in (text_named told script_name) ≡ Err why)
          (λ told. Asks command told (Err (script_fault why))) (λ told h e. asks_refused told why h e) given
          (subst (λ (f : Option Files). IfSome f (λ told. script_in (text_named told script_name) ≡ Err why)) read_plant.files (bad (script_given why is)));
      usage = λ is. absurd (script_no_usage why is);
      none = λ h. absurd (some_none (replay plant_name record_name script_name) h);
      alone = λ x h. absurd h;
      read = λ f is.
          let both = script_read why f is in
          inr (plant_passed, inl (both.1, rose_before (numbers old script_name) (numbers first script_name) (numbers second script_name) (read_plant.none_falls script_name) (rose both.0)));
      keeps = keeps_second;
    }

    -- ---- it is played

    module _ (x : Player) (found : IfSome (texts first) (λ told. script_in (text_named told script_name) ≡ Ok x.script)) (plant_is : x.plant ≡ p) where
      abbrev asked : Files → Result Task Fault
      asked told = task_of_player x record_name told

      found_at_first : IfSome (texts old) (λ told. script_in (text_named told script_name) ≡ Ok x.script)
      found_at_first = subst (λ (f : Option Files). IfSome f (λ told. script_in (text_named told script_name) ≡ Ok x.script)) read_plant.files found

      script_passed : IfSome (texts old) (λ told. HasPassed told (script_file script_name))
      script_passed =
          each_file (texts old) (λ told. script_in (text_named told script_name) ≡ Ok x.script) (λ told. HasPassed told (script_file script_name)) (λ told h. (x.script, h)) found_at_first

      asks_played : (told : Files) → GivesPlant by_own_certificate (text_named told plant_name) (Ok p) → script_in (text_named told script_name) ≡ Ok x.script
          → Asks command told (asked told)
      asks_played told h is = (
        Ok p,
        h,
        ap (λ (q : Plant). with_record q x.script (text_named told record_name)) plant_is
            ∙ sym (ap (λ (r : Result (List TimedAct) ScriptTrouble). with_script p r (text_named told record_name)) is),
      )

      asks : IfSome (texts old) (λ told. Asks command told (asked told))
      asks =
          both_files (texts old) (λ told. GivesPlant by_own_certificate (text_named told plant_name) (Ok p)) (λ told. script_in (text_named told script_name) ≡ Ok x.script)
          (λ told. Asks command told (asked told)) (λ told h e. asks_played told h e) given found_at_first

      files_second : texts second ≡ texts old
      files_second = read_script.files ∙ read_plant.files

      module _ (new : S) (before after : T) (s : Status) (read_record : ReadsOnly texts names numbers record_name second new) where
        abbrev Failed : File → Type 0
        Failed file = ReadFailed (texts old) (numbers old) (numbers new) (files_of (replay plant_name record_name script_name)) file

        record_failed : (file : File) → RecordFailed (numbers second) (numbers new) record_name file → Failed file
        record_failed file (is, rose) =
            inr (
              plant_passed,
              inr (
                script_passed,
                inl (
                  sym is,
                  rose_before (numbers old record_name) (numbers second record_name) (numbers new record_name)
                      (keeps_second.none_falls record_name) rose,
                ),
              ),
            )

        abbrev Wrote : (File → Type 0) → Files → Type 0
        Wrote failed told = HasWritten failed (pieces_in (asked told)) (outcome_of (asked told)).text s (taken before) (taken after)

        pub played_runs : (IsOfInputs s → IfSome (texts second) (λ told. s ≡ (outcome_of (asked told)).status))
            → IfSome (texts second) (λ told. Wrote (RecordFailed (numbers second) (numbers new) record_name) told) → IsAnnounced s (taken before) (taken after)
            → (s ≡ status.ReadFault → RecordFailed (numbers second) (numbers new) record_name Record
            × (y : Result Task Fault) × EndsAtRead (pieces_in y) Record (taken before) (taken after))
            → (s ≡ status.WriteFault → Rose (troubles before) (troubles after)) → s ≢ status.Usage
            → Runs texts names numbers taken troubles command old new before after s
        played_runs is wrote announced read write usage = record {
          answers = λ given_is.
              of_each (texts old) command asked (λ (y : Result Task Fault). s ≡ (outcome_of y).status) asks
              (subst (λ (f : Option Files). IfSome f (λ told. s ≡ (outcome_of (asked told)).status)) files_second (is given_is));
          written =
              of_each (texts old) command asked (λ (y : Result Task Fault). HasWritten Failed (pieces_in y) (outcome_of y).text s (taken before) (taken after)) asks
              (each_file (texts old) (λ told. Wrote (RecordFailed (numbers second) (numbers new) record_name) told) (λ told. Wrote Failed told)
              (λ told h. written_more (RecordFailed (numbers second) (numbers new) record_name) Failed record_failed (pieces_in (asked told)) (outcome_of (asked told)).text s
              (taken before) (taken after) h)
              (subst (λ (f : Option Files). IfSome f (λ told. Wrote (RecordFailed (numbers second) (numbers new) record_name) told)) files_second wrote));
          announced = announced;
          usage = λ e. absurd (usage e);
          no_command = λ none. absurd (some_none (replay plant_name record_name script_name) none);
          read = λ e. let r = read e in (Record, record_failed Record r.0, r.1, r.2);
          write = write;
          unread = λ y h. absurd h;
          keeps = reads_then texts names numbers (files_of (replay plant_name record_name script_name)) record_name old second new (λ other ne. ne.1.1.0) keeps_second read_record;
        }
