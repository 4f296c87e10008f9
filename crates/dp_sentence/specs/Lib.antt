pub mod Address
pub mod Checksum
pub mod Damage
pub mod Fields
pub mod Laws
pub mod Sentence
pub mod Written
pub use Rattle.dp_sentence.specs.Address.{formatter, formatter_of, talker, talker_of}
pub use Rattle.dp_sentence.specs.Checksum.{checksum, has_checksum_field, said}
pub use Rattle.dp_sentence.specs.Damage.{IsDamagedBy, damage, damage_but_fields, is_bad, too_many_fields}
pub use Rattle.dp_sentence.specs.Fields.{body, fields, is_comma, parts}
pub use Rattle.dp_sentence.specs.Laws.{OneByteChanged, WrittenBack}
pub use Rattle.dp_sentence.specs.Sentence.{IsSentence}
pub use Rattle.dp_sentence.specs.Written.{StandsInOrder}
