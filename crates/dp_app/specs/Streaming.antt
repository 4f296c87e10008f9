-- What is played of a record that is read as a stream.
use Rattle.std.specs.Prelude.{◌≡◌, ℕ, List, [], ◌++◌, Option, IfSome, Result, Ok, Err}
use Rattle.dp_plant.specs.declared.frames.Frame.{Frame}
use Rattle.dp_shell.specs.Texts.{Files, text_named}
use Rattle.dp_app.specs.declared.fault.Fault.{Fault}
use Rattle.dp_app.specs.declared.player.Player.{Player}
use Rattle.dp_app.specs.declared.streaming.Stop.{Stop}
use Rattle.dp_app.specs.declared.streaming.Stop.TheVariants as stop
use Rattle.dp_app.specs.Outcome.{Task, frames_in, to_replay, with_record}
use Rattle.dp_app.specs.Playing.{Shows, StopsShowing}

-- what a player's plant and script ask for with the record of this name
abbrev pub task_of_player : Player → List ℕ → Files → Result Task Fault
task_of_player x name told = with_record x.plant x.script (text_named told name)

-- where the files are told, these are the frames that are played, and this is the record's fault, if
-- it has one
abbrev pub IsPlayOf : Option Files → List ℕ → Player → List Frame → Option Fault → Type 0
IsPlayOf files name x fs fault = IfSome files (λ told. task_of_player x name told ≡ Ok (to_replay
    (record { plant = x.plant; script = x.script; frames = fs; fault = fault })))

-- these are the first of the frames that are played
abbrev pub AreFirstOf : Option Files → List ℕ → Player → List Frame → Type 0
AreFirstOf files name x fs = IfSome files (λ told.
    (later : List Frame) × (fs ++ later ≡ frames_in (task_of_player x name told)))

-- a record was played to its end or its fault; where a read of it failed the frames that were over
-- were played, and where the output could not be written their text was being written
abbrev pub PlaysRecord : Option Files → List ℕ → Player → Player → Option (List ℕ)
    → Option (List ℕ) → Result (Option Fault) Stop → Type 0
PlaysRecord files name x y old new (Ok fault) =
    (fs : List Frame) × IsPlayOf files name x fs fault × Shows x y old new [] fs
PlaysRecord files name x y old new (Err stop.Read) =
    (fs : List Frame) × AreFirstOf files name x fs × Shows x y old new [] fs
PlaysRecord files name x y old new (Err (stop.Write trouble)) =
    (fs : List Frame) × AreFirstOf files name x fs × StopsShowing x old new [] fs
