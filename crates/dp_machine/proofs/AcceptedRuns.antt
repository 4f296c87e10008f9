-- What accepted gains say of two runs over records that differ in one position reference.
use Rattle.std.proofs.Common.{subst}
use Rattle.dp_plant.specs.declared.cert.Cert.{Cert}
use Rattle.dp_plant.specs.declared.gains.Gains.{Gains}
use Rattle.dp_plant.specs.declared.plant.Plant.{Plant}
use Rattle.dp_fuse.proofs.Hulls.{in_hull_of_two}
use Rattle.dp_cert.specs.TwinRuns.{ForcesStayClose, RunsStayClose}
use Rattle.dp_cert.specs.declared.accepted.Accepted.{Accepted}
use Rattle.dp_cert.proofs.CertifiedLoops.{certified_loop}
use Rattle.dp_cert.proofs.Twins.{forces_stay_close, runs_stay_close, same_is_close}
use Rattle.dp_machine.specs.Accepted.{IsAcceptedPlant}
use Rattle.dp_machine.specs.ReplacedReference.{ReplacedReferenceIsBounded, RunsShareAllButTheReplaced}
use Rattle.dp_machine.proofs.PairedRuns.{StaysClose, bounded, shared}

-- what holds of the accepted gains and their certificate holds of the plant's
of_plant : (p : Plant) (a : Accepted) → IsAcceptedPlant p a → (P : Gains → Cert → Type 0) → P a.gains a.cert → P p.gains p.cert
of_plant p a h P holds = subst (λ (g : Gains). P g p.cert) h.gains (subst (λ (c : Cert). P a.gains c) h.cert holds)

stays_close : (p : Plant) (a : Accepted) → IsAcceptedPlant p a → StaysClose p
stays_close p a h =
    let k = certified_loop a.gains a.yaw a.cert a.valid a.sound in
    record {
      hull = in_hull_of_two;
      same = same_is_close p.cert;
      runs = of_plant p a h RunsStayClose (runs_stay_close a.gains a.cert k);
      forces = of_plant p a h ForcesStayClose (forces_stay_close a.gains a.cert k);
    }

pub replaced_is_bounded : (p : Plant) (a : Accepted) → IsAcceptedPlant p a → ReplacedReferenceIsBounded p
replaced_is_bounded p a h = bounded p (stays_close p a h)

pub runs_share : (p : Plant) (a : Accepted) → IsAcceptedPlant p a → RunsShareAllButTheReplaced p
runs_share p a h = shared p (stays_close p a h)
