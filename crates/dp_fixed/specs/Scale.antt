-- The scale of gains, shares and sine pairs.
use Rattle.std.specs.Prelude.{ℤ, pos}

-- 2^30, which stands for one
abbrev pub full_scale : ℤ
full_scale = pos 1073741824

-- 2^60, the product of two scales
abbrev pub full_scale_squared : ℤ
full_scale_squared = pos 1152921504606846976
