-- What no key out of range means for the numbers of a certificate.
use Rattle.std.specs.Prelude.{ℕ, ◌^◌, ℤ, pos, ◌≤ℤ◌, All}
use Rattle.dp_fixed.specs.Scale.{full_scale}
use Rattle.dp_form.specs.Range.{IsWithin, IsSmallSquare}
use Rattle.dp_plant.specs.Ranges.{IsObserverGains, IsLawGains}
use Rattle.dp_plant.specs.Vectors.{entry}
use Rattle.dp_plant.specs.YawRanges.{IsYawGains}
use Rattle.dp_plant.specs.declared.cert.Cert.{Cert}
use Rattle.dp_plant.specs.declared.cert.Lists.{Lists}
use Rattle.dp_plant.specs.declared.cert.Parts.{Parts}
use Rattle.dp_plant.specs.declared.cert.Parts.TheVariants.{Three, Five}
use Rattle.dp_plant.specs.declared.gains.Gains.{Gains}
use Rattle.dp_plant.specs.declared.gains.YawGains.{YawGains}
use Rattle.dp_cert.specs.Ranges.{squares_at, squares_of}

-- a number from 0 to a limit
pub record IsUpTo (limit z : ℤ) : Type 0 where
  pub low : pos 0 ≤ℤ z
  pub high : z ≤ℤ limit

pub record AreNumbers (c : Cert) : Type 0 where
  pub rho : IsUpTo full_scale c.rho
  pub b : IsUpTo (pos (2 ^ 50)) c.b
  pub r : IsUpTo (pos (2 ^ 40)) c.r
  pub demands : (axis : ℕ) → IsUpTo (pos (2 ^ 40)) (entry c.g axis)

pub record AreLists {n : ℕ} (l : Lists n) : Type 0 where
  pub p : All (All (IsWithin (2 ^ 40))) l.p.at
  pub span : (i : ℕ) → IsUpTo (pos (2 ^ 40)) (entry l.span i)
  pub form : All IsSmallSquare l.form.list.items
  pub surge0 : All IsSmallSquare (squares_at l.vertex 0 0)
  pub surge1 : All IsSmallSquare (squares_at l.vertex 0 1)
  pub surge2 : All IsSmallSquare (squares_at l.vertex 0 2)
  pub sway0 : All IsSmallSquare (squares_at l.vertex 1 0)
  pub sway1 : All IsSmallSquare (squares_at l.vertex 1 1)
  pub sway2 : All IsSmallSquare (squares_at l.vertex 1 2)
  pub out_surge0 : All IsSmallSquare (squares_at l.output 0 0)
  pub out_surge1 : All IsSmallSquare (squares_at l.output 0 1)
  pub out_sway0 : All IsSmallSquare (squares_at l.output 1 0)
  pub out_sway1 : All IsSmallSquare (squares_at l.output 1 1)
  pub span0 : All IsSmallSquare (squares_of l.spans 0)
  pub span1 : All IsSmallSquare (squares_of l.spans 1)
  pub span2 : All IsSmallSquare (squares_of l.spans 2)

pub record AreWaveSpans (l : Lists 5) : Type 0 where
  pub span3 : All IsSmallSquare (squares_of l.spans 3)
  pub span4 : All IsSmallSquare (squares_of l.spans 4)

abbrev pub AreParts : Parts → Type 0
AreParts (Three l) = AreLists l
AreParts (Five l) = AreLists l × AreWaveSpans l

-- gains that a machine can be run with, of plane and yaw
pub record AreGainsWithin (g : Gains) (y : YawGains) : Type 0 where
  pub observer : IsObserverGains g
  pub law : IsLawGains g
  pub yaw : IsYawGains y

pub record IsInRange (g : Gains) (y : YawGains) (c : Cert) : Type 0 where
  pub gains : AreGainsWithin g y
  pub numbers : AreNumbers c
  pub parts : AreParts c.parts
