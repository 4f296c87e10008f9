-- An accepted plant's gains are in range.
use Rattle.std.proofs.Common.{subst}
use Rattle.dp_plant.specs.declared.plant.Plant.{Plant}
use Rattle.dp_plant.specs.Ranges.{IsLawGains, IsObserverGains}
use Rattle.dp_plant.specs.SoundPlant.{IsSoundPlant}
use Rattle.dp_plant.specs.YawRanges.{IsYawGains}
use Rattle.dp_plant.proofs.PlantFacts.{plant_within}
use Rattle.dp_cert.specs.declared.accepted.Accepted.{Accepted}
use Rattle.dp_cert.proofs.RangeFacts.{in_range}
use Rattle.dp_machine.specs.Accepted.{IsAcceptedPlant}

pub sound_plant : (p : Plant) (a : Accepted) → IsAcceptedPlant p a → IsSoundPlant p
sound_plant p a accepted =
    let ranges = in_range a.gains a.yaw a.cert a.valid.in_range in
    record {
      within = plant_within p;
      observer = subst IsObserverGains accepted.gains ranges.gains.observer;
      law = subst IsLawGains accepted.gains ranges.gains.law;
      yaw = subst IsYawGains accepted.yaw ranges.gains.yaw;
    }
