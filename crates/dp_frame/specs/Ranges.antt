-- The ranges of what the lines of a record bring.
use Rattle.std.specs.Prelude.{ℕ, ◌+◌, ◌<◌, ◌^◌, ⊤}
use Rattle.dp_plant.specs.Ranges.{IsVectorWithin}
use Rattle.dp_plant.specs.FrameRanges.{IsFrameInRange, IsGustWithin}
use Rattle.dp_frame.specs.declared.entry.Entry.{Entry}
use Rattle.dp_frame.specs.declared.entry.Judged.{Judged}
use Rattle.dp_frame.specs.declared.entry.Judged.TheVariants.{Good}
use Rattle.dp_frame.specs.declared.entry.Content.{Content}
use Rattle.dp_frame.specs.declared.entry.Content.TheVariants.{At, Heading, Wind}
use Rattle.dp_frame.specs.declared.feed.Feed.{Feed}
use Rattle.dp_frame.specs.declared.feed.Feed.TheVariants.{Closed}
use Rattle.dp_frame.specs.Wires.{IsWire}

abbrev pub IsContentWithin : Content → Type 0
IsContentWithin (At place) = IsVectorWithin (2 ^ 43) place
IsContentWithin (Heading heading) = heading < 36000
IsContentWithin (Wind gust) = IsGustWithin gust
IsContentWithin other = ⊤

-- an entry on a wire of a plant with so many groups
pub record IsEntryWithin (groups : ℕ) (e : Entry) : Type 0 where
  pub cycle : e.cycle < 2 ^ 20
  pub wire : IsWire groups e.wire
  pub content : IsContentWithin e.content

abbrev pub IsJudgedWithin : ℕ → Judged → Type 0
IsJudgedWithin groups (Good e) = IsEntryWithin groups e
IsJudgedWithin groups other = ⊤

-- the frames that an answer gives are in range
abbrev pub IsFeedInRange : ℕ → Feed → Type 0
IsFeedInRange groups (Closed frame empty) =
    IsFrameInRange groups frame × (frame.cycle + empty < 2 ^ 20)
IsFeedInRange groups other = ⊤
