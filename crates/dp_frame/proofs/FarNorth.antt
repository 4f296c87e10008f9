-- What is far north is outside the local frame.
use Rattle.std.proofs.Common.{◌≡◌, ℤ, ℕ, false, None, ◌≤◌, ◌<◌, ◌^◌, arith}
use Rattle.std.specs.Prelude.{nat_le, unsigned_abs}
use Rattle.std.proofs.lemmas.Int.{ints}
use Rattle.std.proofs.lemmas.Bool.Decides.{nat_tests}
use Rattle.dp_frame.specs.LocalFrame.{northing, place_in_frame}

far_out : (n : ℕ) → 2 ^ 43 < n → nat_le n (2 ^ 43) ≡ false
far_out n far = grind (arith, nat_tests)

far_from : (lat0 lat : ℤ) → unsigned_abs lat0 ≤ 53400000000 → 2 ^ 37 < unsigned_abs lat → 2 ^ 43 < unsigned_abs (northing lat0 lat)
far_from lat0 lat near far = omega (arith, ints)

-- a latitude so far from the equator is none
pub far_north : (lat0 lat east : ℤ) → unsigned_abs lat0 ≤ 53400000000 → 2 ^ 37 < unsigned_abs lat → None ≡ place_in_frame (northing lat0 lat) east
far_north lat0 lat east near far = rw (far_out (unsigned_abs (northing lat0 lat)) (far_from lat0 lat near far))
