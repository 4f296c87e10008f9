pub mod Calls
pub mod Faults
pub mod KeptFile
pub mod MemoryFiles
pub mod MemoryShelf
pub mod MemorySink
pub mod Names
pub mod Pieces
pub mod PlainShelf
pub mod PlainSink
pub mod Reads
pub mod Settling
pub mod Shared
pub mod StdSink
pub mod Taken
pub mod Texts
-- what crates above cite

pub use Rattle.dp_shell.specs.Calls.{next_call}
pub use Rattle.dp_shell.specs.Faults.{HasCause, HasWriteCause, NoneFalls, OthersStay, Rose}
pub use Rattle.dp_shell.specs.MemoryFiles.{FitsShelf, all_differ, files_of, names_of}
pub use Rattle.dp_shell.specs.Names.{counted, is_among, place_of, texts_of}
pub use Rattle.dp_shell.specs.Pieces.{Continues, IsPieceWithin}
pub use Rattle.dp_shell.specs.Reads.{ReadsOnly}
pub use Rattle.dp_shell.specs.Settling.{settled}
pub use Rattle.dp_shell.specs.Shared.{counted-shared, files-shared, missing-shared}
pub use Rattle.dp_shell.specs.Taken.{AppendsCut, CutInLine, EndsWithLine}
pub use Rattle.dp_shell.specs.Texts.{Files, IsPart, IsPrefixOf, ReadsPart, ReadsPrefix, ReadsWhole, count_given, is_named, text_named, untold}
