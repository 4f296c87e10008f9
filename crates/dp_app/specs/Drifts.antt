-- The table of a record's drifts: what each further loss of a group would leave undone.
use Rattle.std.specs.Prelude.{ℕ, ◌*◌, ◌^◌, ℤ, pos, List, [], ◌∷◌}
use Rattle.dp_consequence.specs.{mean_demand}
use Rattle.dp_drift.specs.{drift_table}
use Rattle.dp_plant.specs.declared.frames.Frame.{Frame}
use Rattle.dp_plant.specs.declared.plant.Plant.{Plant}
use Rattle.dp_machine.specs.declared.state.State.{State}
use Rattle.dp_machine.specs.Reference.{reference_state}
use Rattle.dp_machine.specs.Run.{own_setpoints}

-- the mean of the demands of late; zeros where there was none
abbrev pub mean_of_late : List (List ℤ) → List ℤ
mean_of_late [] = pos 0 ∷ pos 0 ∷ pos 0 ∷ []
mean_of_late (demand ∷ demands) = mean_demand (demand ∷ demands)

-- the table by a state's mask and mean demand, for a limit in millimetres
unfoldable pub drift_text_of : Plant → State → ℕ → ℕ → List ℕ
drift_text_of p s limit cycles =
    drift_table p s.lost (mean_of_late s.demands.items) (pos (limit * 10 ^ 6)) cycles

-- by the state of one computer alone after these frames
abbrev pub drift_text : Plant → ℕ → ℕ → List Frame → List ℕ
drift_text p limit cycles fs =
    drift_text_of p (reference_state p (own_setpoints p) fs) limit cycles
