-- The ranges of readings.
use Rattle.std.specs.Prelude.{◌<◌, ◌≤◌, unsigned_abs, ⊤}
use Rattle.dp_nav.specs.declared.reading.Reading.{Reading}
use Rattle.dp_nav.specs.declared.reading.Reading.TheVariants.{Fix, Local, Heading, Wind, Group}

-- a latitude within ±90 and a longitude within ±180 degrees, a place within ±8796093 mm, which is
-- within ±2^43 nm, headings and angles
-- below 360 degrees, speeds below 100 m/s
abbrev pub IsReadingWithin : Reading → Type 0
IsReadingWithin (Fix lat lon) = (unsigned_abs lat ≤ 54000000000) × (unsigned_abs lon ≤ 108000000000)
IsReadingWithin (Local north east) =
    (unsigned_abs north ≤ 8796093000000) × (unsigned_abs east ≤ 8796093000000)
IsReadingWithin (Heading heading) = heading < 36000
IsReadingWithin (Wind gust) = (gust.angle < 36000) × (gust.speed < 100000)
IsReadingWithin (Group ready) = ⊤
