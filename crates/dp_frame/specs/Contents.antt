-- What a line brings for its wire, by what stands after the wire.
use Rattle.std.specs.Prelude.{List, ℕ, ℤ, is_some, if◌then◌else◌, Option, Some, None, Result, Ok, Err}
use Rattle.dp_sentence.specs.Address.{formatter}
use Rattle.dp_sentence.specs.Damage.{damage}
use Rattle.dp_sentence.specs.Fields.{fields}
use Rattle.dp_plant.specs.declared.place.Place.{Place}
use Rattle.dp_plant.specs.declared.frames.Wire.{Wire}
use Rattle.dp_plant.specs.declared.frames.Wire.TheVariants as wire
use Rattle.dp_nav.specs.declared.reading.WireKind.{WireKind}
use Rattle.dp_nav.specs.declared.reading.WireKind.TheVariants.{Position, Gyro, Wind, Group}
use Rattle.dp_nav.specs.declared.reading.Reading.{Reading}
use Rattle.dp_nav.specs.declared.reading.Reading.TheVariants as reading
use Rattle.dp_nav.specs.declared.reading.Skip.{Skip}
use Rattle.dp_nav.specs.Plain.{is_plain, plain_of}
use Rattle.dp_nav.specs.Sensed.{sensed_of}
use Rattle.dp_frame.specs.declared.settings.Settings.{Settings}
use Rattle.dp_frame.specs.declared.entry.Content.{Content}
use Rattle.dp_frame.specs.declared.entry.Content.TheVariants as content
use Rattle.dp_frame.specs.LocalFrame.{local_of}

abbrev pub kind_of : Wire → WireKind
kind_of (wire.Pos i) = Position
kind_of (wire.Gyro i) = Gyro
kind_of (wire.Wind i) = Wind
kind_of (wire.Group i) = Group

-- a fix outside the local frame is no reading
abbrev pub place_or_skip : Option Place → Content
place_or_skip (Some place) = content.At place
place_or_skip None = content.Skipped

-- what a reading brings, in the local frame round an origin
abbrev pub content_by : ℤ × ℤ → Result Reading Skip → Content
content_by origin (Ok (reading.Fix lat lon)) = place_or_skip (local_of origin lat lon)
content_by origin (Ok (reading.Local north east)) =
    content.At (record { north = north; east = east })
content_by origin (Ok (reading.Heading heading)) = content.Heading heading
content_by origin (Ok (reading.Wind gust)) = content.Wind gust
content_by origin (Ok (reading.Group ready)) = content.Ready ready
content_by origin (Err skip) = content.Skipped

-- a plain form, or else a sentence; what is no sentence is damage
unfoldable pub content_of : Settings → Wire → List ℕ → Content
content_of p wire rest =
    if is_plain rest then content_by p.origin (plain_of (kind_of wire) rest)
    else if is_some (damage rest) then content.Damaged
    else content_by p.origin (sensed_of (kind_of wire) (formatter rest) (fields rest))
