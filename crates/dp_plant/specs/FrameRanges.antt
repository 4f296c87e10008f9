-- The ranges of what the wires bring in a cycle.
use Rattle.std.specs.Prelude.{◌≡◌, ◌<◌, ◌^◌, ℕ, All, IfSome, None, drop}
use Rattle.std.specs.List.{AllByRecursion}
use Rattle.dp_plant.specs.declared.place.Place.{Place}
use Rattle.dp_plant.specs.declared.frames.Frame.{Frame}
use Rattle.dp_plant.specs.declared.frames.Gust.{Gust}
use Rattle.dp_plant.specs.declared.frames.Slot.{Slot}
use Rattle.dp_plant.specs.Ranges.{IsVectorWithin}
use Rattle.dp_plant.specs.YawRanges.{IsMeasuredHeading}

-- an angle below 360 degrees, in hundredths, and a speed below 100 m/s, in mm/s
pub record IsGustWithin (gust : Gust) : Type 0 where
  pub angle : gust.angle < 36000
  pub speed : gust.speed < 100000

-- a slot's reading, if there is one, is a place within 2^43 of zero
abbrev pub IsPlaceSlotWithin : Slot Place → Type 0
IsPlaceSlotWithin s = IfSome s.last (λ p. IsVectorWithin (2 ^ 43) p)

-- a heading below 360 degrees, in hundredths
abbrev pub IsHeadingSlotWithin : Slot ℕ → Type 0
IsHeadingSlotWithin s = IfSome s.last IsMeasuredHeading

-- a wind in range
abbrev pub IsWindSlotWithin : Slot Gust → Type 0
IsWindSlotWithin s = IfSome s.last IsGustWithin

-- the ranges of what a computer reads of a frame
pub record IsFrameWithin (f : Frame) : Type 0 where
  pub places : AllByRecursion IsPlaceSlotWithin f.pos
  pub headings : AllByRecursion IsHeadingSlotWithin f.gyro
  pub winds : AllByRecursion IsWindSlotWithin f.wind
  pub cycle : f.cycle < 2 ^ 20

-- a frame that a plant with so many groups can bring: no group beyond these reports
pub record IsFrameInRange (groups : ℕ) (f : Frame) : Type 0 where
  pub within : IsFrameWithin f
  pub lacking : All (λ s. s.last ≡ None) (drop groups f.group)
