pub mod Lines
pub mod Parts
pub mod Repeated
pub mod Numbers
pub mod Laws
pub use Rattle.dp_text.specs.Lines.{is_newline, lines_of, stripped}
pub use Rattle.dp_text.specs.Parts.{cut_of, is_space, lacks_space, parts_of, texts_of}
pub use Rattle.dp_text.specs.Numbers.{decimal_of, digits_after, number_of}
pub use Rattle.dp_text.specs.Laws.{NumberReadIsWritten, PartsAreJoined, SignedReadIsWritten, Writes, WritesSigned, place_value}
pub use Rattle.dp_text.specs.Repeated.{four_times}
