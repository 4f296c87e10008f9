-- The local frame: where a latitude and a longitude lie, in nanometres north and east of an origin.
-- Latitudes and longitudes are in 10^-7 minutes, north and east above 0.
use Rattle.std.specs.Prelude.{◌≡◌, ℕ, ◌/◌, ◌^◌, ◌≤◌, Bool, ◌&&◌, nat_le, if◌then◌else◌, ℤ, pos, ◌-ℤ◌, ◌*ℤ◌, unsigned_abs, Option, Some, None}
use Rattle.dp_fixed.specs.Division.{floor_of}
use Rattle.dp_fixed.specs.Scale.{full_scale}
use Rattle.dp_fixed.specs.Turns.{wrap_of}
use Rattle.dp_trig.specs.SinePair.{pair_of}
use Rattle.dp_plant.specs.declared.place.Place.{Place}
use Rattle.dp_plant.specs.declared.plant.Plant.{Plant}
use Rattle.dp_plant.specs.Vectors.{entry}

-- the length of 10^-7 minute of latitude: a minute is a nautical mile, 1852 m
abbrev pub arc_length : ℤ
arc_length = pos 185200

-- all 360 degrees of longitude
abbrev pub whole_turn : ℤ
whole_turn = pos 216000000000

-- a latitude's distance from the equator in whole hundredths of a degree, cut
abbrev pub hundredths_of : ℤ → ℕ
hundredths_of lat = unsigned_abs lat / 6000000

-- the cosine of a latitude, over the scale: by it a minute of longitude is shorter than one of
-- latitude
abbrev pub cosine_at : ℤ → ℤ
cosine_at lat = (pair_of (hundredths_of lat)).0

-- how far a latitude is north of the origin's
abbrev pub northing : ℤ → ℤ → ℤ
northing lat0 lat = arc_length *ℤ (lat -ℤ lat0)

-- how far a longitude is east of the origin's, the short way round, where a parallel of latitude
-- has this cosine; rounded down
abbrev pub easting : ℤ → ℤ → ℤ → ℤ
easting cosine lon0 lon =
    floor_of (cosine *ℤ (arc_length *ℤ wrap_of (lon -ℤ lon0) whole_turn)) full_scale

-- a coordinate of the frame lies within 2^43 nm of the origin, about 8.8 km
abbrev pub is_in_frame : ℤ → Bool
is_in_frame x = nat_le (unsigned_abs x) (2 ^ 43)

-- the place with these coordinates, if both lie in the frame
abbrev pub place_in_frame : ℤ → ℤ → Option Place
place_in_frame north east =
    if is_in_frame north && is_in_frame east then Some (record { north = north; east = east })
    else None

-- the place of a latitude and a longitude in the frame round an origin (its latitude and
-- longitude): none where it is outside
unfoldable pub local_of : ℤ × ℤ → ℤ → ℤ → Option Place
local_of origin lat lon =
    place_in_frame (northing origin.0 lat) (easting (cosine_at origin.0) origin.1 lon)

-- the origin of a plant's frame
abbrev pub origin_of : Plant → ℤ × ℤ
origin_of plant = (entry plant.origin 0, entry plant.origin 1)

-- at most 89 degrees from the equator, and 180 degrees from the prime meridian
pub record IsOrigin (origin : ℤ × ℤ) : Type 0 where
  pub lat : unsigned_abs origin.0 ≤ 53400000000
  pub lon : unsigned_abs origin.1 ≤ 108000000000

-- a cosine that is kept for a latitude
pub record IsCosineAt (lat cosine : ℤ) : Type 0 where
  pub value : cosine ≡ cosine_at lat
  pub short : unsigned_abs cosine ≤ 2 ^ 30
