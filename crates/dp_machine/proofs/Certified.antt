-- What the laws of accepted gains say of the gains and the certificate of their plant.
use Rattle.std.proofs.Common.{subst}
use Rattle.dp_plant.specs.declared.cert.Cert.{Cert}
use Rattle.dp_plant.specs.declared.gains.Gains.{Gains}
use Rattle.dp_plant.specs.declared.plant.Plant.{Plant}
use Rattle.dp_cert.specs.declared.accepted.Accepted.{Accepted}
use Rattle.dp_cert.specs.CertifiedSet.{CycleStaysInside, InsideIsWithin, RestIsInside}
use Rattle.dp_machine.specs.Accepted.{IsAcceptedPlant}

pub own_cycle : (p : Plant) (a : Accepted) → IsAcceptedPlant p a → CycleStaysInside a.gains a.cert → CycleStaysInside p.gains p.cert
own_cycle p a k law =
    subst (λ (c : Cert). CycleStaysInside p.gains c) k.cert (subst (λ (g : Gains). CycleStaysInside g a.cert) k.gains law)

pub own_rest : (p : Plant) (a : Accepted) → IsAcceptedPlant p a → RestIsInside a.cert → RestIsInside p.cert
own_rest p a k law = subst (λ (c : Cert). RestIsInside c) k.cert law

pub own_within : (p : Plant) (a : Accepted) → IsAcceptedPlant p a → InsideIsWithin a.cert → InsideIsWithin p.cert
own_within p a k law = subst (λ (c : Cert). InsideIsWithin c) k.cert law
