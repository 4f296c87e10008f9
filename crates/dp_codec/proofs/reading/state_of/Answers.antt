use Rattle.std.proofs.Common.{List, ℕ, ◌≤◌, sym, subst, arith}
use Rattle.std.specs.Prelude.{slice_index}
use Rattle.dp_plant.proofs.PlantFacts.{plant_groups}
use Rattle.dp_codec.proofs.StateRanges.{groups_small, windows_small}
use Rattle.dp_codec.proofs.reading.state_of.Goals as goal

pub pow-requires : goal.pow-requires
pow-requires c =
    let small = groups_small c.groups.result (omega (arith, c.groups.ensures, plant_groups c.args.m.now.plant)) in
    omega (arith, small)

pub samples_of-requires : goal.samples_of-requires
samples_of-requires c = λ i. subst (λ (ws : List ℕ). slice_index ws i ≤ 32) (sym c.windows.ensures) (windows_small c.args.m.now.plant i)
