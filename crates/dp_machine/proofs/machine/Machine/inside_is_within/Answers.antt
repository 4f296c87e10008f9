use Rattle.std.proofs.Common.{subst}
use Rattle.dp_cert.specs.CertifiedSet.{InsideIsWithin}
use Rattle.dp_machine.proofs.Certified.{own_within}
use Rattle.dp_machine.specs.Machine.{MachineValue}
use Rattle.dp_machine.proofs.machine.Machine.inside_is_within.Goals as goal

pub returns : goal.returns
returns c =
    subst (λ (m : MachineValue). InsideIsWithin m.plant.cert) c.self.view_is
    (own_within c.self.inside.plant c.self.inside.accepted c.self.invariant.accepted c.inside_is_narrow.ensures.within)
