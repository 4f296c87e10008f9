-- A plant that is given by its own certificate was accepted.
use Rattle.std.proofs.Common.{◌≡◌, ℕ, List, Option, Some, None, Ok, refl, sym, subst}
use Rattle.dp_alloc.specs.Refusals.{first_refused}
use Rattle.dp_cert.specs.declared.faults.CertFault.{CertFault}
use Rattle.dp_cert.specs.Ranges.{first_out}
use Rattle.dp_cert.specs.Valid.{IsValid, first_fault}
use Rattle.dp_cert.proofs.ValidFacts.{option_or-none}
use Rattle.dp_plant.specs.PlantFile.{PlantData, parts_view, plant_view}
use Rattle.dp_plant.specs.declared.plant.Plant.{Plant}
use Rattle.dp_accept.specs.declared.trouble.PlantTrouble.TheVariants as trouble
use Rattle.dp_accept.specs.Accepting.{WasAccepted}
use Rattle.dp_accept.specs.PlantFiles.{GivesPlant, by_own_certificate, cases_fault, plant_fault}
use Rattle.dp_accept.specs.Refusals.{gains_refusal}
use Rattle.dp_accept.proofs.FileSizes.{HasWholeParts, file_whole}
use Rattle.dp_accept.proofs.Judging.{document_in, given_sound}
use Rattle.dp_accept.proofs.ValidGains.{no_fault, valid_sound}

both_none : (range : Option (List ℕ)) (condition : Option CertFault) → gains_refusal range condition ≡ None → (range ≡ None) × (condition ≡ None)
both_none (Some key) condition h = absurd (cc)
both_none None (Some fault) h = absurd (cc)
both_none None None h = (refl, refl)

valid_gains : (p : Plant) → by_own_certificate p ≡ None → IsValid p.gains p.yaw p.cert
unfolding by_own_certificate
valid_gains p h =
    let none = both_none (first_out p.gains p.yaw p.cert) (first_fault p.gains p.cert) h in
    record { in_range = none.0; no_fault = none.1 }

accepted_plant : (p : Plant) → HasWholeParts (parts_view p.cert.parts) → plant_fault by_own_certificate p ≡ None → WasAccepted p
accepted_plant p whole h =
    let none = option_or-none (cases_fault p) _ h in
    let valid = valid_gains p (no_fault trouble.Gains (by_own_certificate p) none.1) in (
      record { gains = p.gains; yaw = p.yaw; cert = p.cert; valid = valid; sound = valid_sound p.gains p.yaw p.cert whole valid },
      record { cases = no_fault _ (first_refused p) none.0; gains = refl; yaw = refl; cert = refl },
    )

pub given_accepted : (text : Option (List ℕ)) (p : Plant) → GivesPlant by_own_certificate text (Ok p) → WasAccepted p
given_accepted text p given =
    let sound = given_sound by_own_certificate text p given in
    let read = document_in text (plant_view p) sound.0 in
    accepted_plant p (file_whole read.0 (plant_view p) read.1) sound.1
