pub mod Format
pub mod Numbers
pub mod Parts
pub mod Spelling
pub mod Laws
pub use Rattle.dp_codec.specs.Format.{Gives, Read, made, part, passing, times, times_at}
pub use Rattle.dp_codec.specs.Numbers.{signed, signed_at, signed_text, unsigned, unsigned_at, unsigned_text, within}
pub use Rattle.dp_codec.specs.Parts.{coordinates, demand_parts, demands_parts, frame_end, inside_parts, is_inside, kept_parts, places, plane_parts, sample_parts, samples_parts, state_parts, wave_limit, wave_parts, waves_stand, windows_of, yaw_parts}
pub use Rattle.dp_codec.specs.Spelling.{IsPlantState, IsSoftware, IsSpelled, IsThree, all_of, length_at, length_text, mark_of, spelling_of, state_read}
pub use Rattle.dp_codec.specs.Laws.{AreMarks, ReadIsWritten, SecondIsUnknownToFirst, SpellingsKeepApart, WrittenIsRead}
