use Rattle.std.proofs.Common.{IsTrue, ◌↔◌, ◌∙◌, ap, subst}
use Rattle.dp_plant.specs.declared.cert.Cert.{Cert}
use Rattle.dp_cert.specs.CertifiedSet.{IsInside}
use Rattle.dp_machine.specs.Machine.{MachineValue}
use Rattle.dp_machine.proofs.machine.Machine.inside.Goals as goal

pub returns : goal.returns
returns c =
    subst (λ (k : Cert). IsTrue c.inside.result ↔ IsInside k c.args.x.now)
    (c.self.invariant.accepted.cert ∙ ap (λ (m : MachineValue). m.plant.cert) c.self.view_is) c.inside.ensures
