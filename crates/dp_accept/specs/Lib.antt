pub mod Prefixes
pub mod Refusals
pub mod Lines
pub mod PlantFiles
pub mod Accepting
-- what contracts cite

pub use Rattle.dp_accept.specs.Prefixes.{Prefix, prefix_of, prefix_read}
pub use Rattle.dp_accept.specs.Lines.{gains_line, plant_line}
pub use Rattle.dp_accept.specs.PlantFiles.{GivesPlant, IsOfFile, Judged, by_own_certificate, cases_fault, data_in, data_of, data_within, document_of, file_trouble, plant_fault, plant_limit}
pub use Rattle.dp_accept.specs.Accepting.{WasAccepted}
