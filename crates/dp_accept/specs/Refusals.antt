-- How what the crates below refuse is told.
use Rattle.std.specs.Prelude.{ℕ, List, Option, Some, None}
use Rattle.dp_cert.specs.declared.faults.CertFault.{CertFault}
use Rattle.dp_cert.specs.declared.faults.CertFault.TheVariants as cert
use Rattle.dp_plant.specs.Keys.{Fault, missing, kind, range}
use Rattle.dp_accept.specs.declared.refusals.GainsRefusal.{GainsRefusal}
use Rattle.dp_accept.specs.declared.refusals.GainsRefusal.TheVariants as gains
use Rattle.dp_accept.specs.declared.refusals.PlantRefusal.{PlantRefusal}
use Rattle.dp_accept.specs.declared.refusals.PlantRefusal.TheVariants as plant

-- a fault of a key
abbrev pub key_refusal : Fault → PlantRefusal
key_refusal (missing key) = plant.Missing (record { items = key })
key_refusal (kind key) = plant.Kind (record { items = key })
key_refusal (range key) = plant.Range (record { items = key })

-- a condition of a certificate, or a range
abbrev pub condition_refusal : CertFault → GainsRefusal
condition_refusal (cert.Range key) = gains.Range (record { items = key.bytes })
condition_refusal cert.Rate = gains.Condition cert.Rate
condition_refusal (cert.FormNotShown row short) = gains.Condition (cert.FormNotShown row short)
condition_refusal (cert.VertexNotShown axis vertex row short) =
    gains.Condition (cert.VertexNotShown axis vertex row short)
condition_refusal cert.InputShort = gains.Condition cert.InputShort
condition_refusal cert.RoundShort = gains.Condition cert.RoundShort
condition_refusal (cert.OutputNotShown axis which row short) =
    gains.Condition (cert.OutputNotShown axis which row short)
condition_refusal (cert.SpanNotShown coordinate row short) =
    gains.Condition (cert.SpanNotShown coordinate row short)
condition_refusal (cert.TooWide coordinate) = gains.Condition (cert.TooWide coordinate)

-- the first key of the gains that is out of its range, else the first condition that fails
abbrev pub gains_refusal : Option (List ℕ) → Option CertFault → Option GainsRefusal
gains_refusal (Some key) condition = Some (gains.Range (record { items = key }))
gains_refusal None (Some fault) = Some (condition_refusal fault)
gains_refusal None None = None
