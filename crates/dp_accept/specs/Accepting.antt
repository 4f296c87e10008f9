-- A plant whose cases and gains were accepted.
use Rattle.dp_cert.specs.declared.accepted.Accepted.{Accepted}
use Rattle.dp_machine.specs.Accepted.{IsAcceptedPlant}
use Rattle.dp_plant.specs.declared.plant.Plant.{Plant}

abbrev pub WasAccepted : Plant → Type 0
WasAccepted p = (a : Accepted) × IsAcceptedPlant p a
