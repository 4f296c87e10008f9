-- A plant that was accepted.
use Rattle.std.specs.Prelude.{◌≡◌}
use Rattle.dp_plant.specs.declared.plant.Plant.{Plant}
use Rattle.dp_alloc.specs.Refusals.{AreAccepted}
use Rattle.dp_cert.specs.declared.accepted.Accepted.{Accepted}

-- none of its cases is refused, and what was accepted are its own gains with its own certificate
pub record IsAcceptedPlant (p : Plant) (a : Accepted) : Type 0 where
  pub cases : AreAccepted p
  pub gains : a.gains ≡ p.gains
  pub yaw : a.yaw ≡ p.yaw
  pub cert : a.cert ≡ p.cert
