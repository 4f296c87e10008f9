-- The key that a refusal by range names.
use Rattle.std.specs.Prelude.{ℕ, List, Option, Some, None}
use Rattle.dp_cert.specs.declared.faults.CertFault.{CertFault}
use Rattle.dp_cert.specs.declared.faults.CertFault.TheVariants.{Range}

abbrev pub range_of : CertFault → Option (List ℕ)
range_of (Range key) = Some key.bytes
range_of _ = None
