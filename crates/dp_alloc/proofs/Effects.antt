-- What the thrusters give, one after another.
use Rattle.std.proofs.Common.{◌≡◌, ◌<◌, ◌+◌, ℕ, List, [], length, get_or, drop, ap₂, ℤ, pos, ◌+ℤ◌, ◌*ℤ◌}
use Rattle.std.proofs.lemmas.List.{drop_more}
use Rattle.dp_plant.specs.Vectors.{entry}
use Rattle.dp_plant.specs.declared.thrusters.Thruster.{Thruster}
use Rattle.dp_alloc.specs.Balance.{effect_of, given}

-- what the code reads past the end
abbrev pub blank : Thruster
blank = record { group = 0; at = []; azimuth = 0; min = pos 0; max = pos 0 }

pub given_more : (axis column : ℕ) (ts : List Thruster) (rows : List (List ℤ)) (k : ℕ) → k < length ts → k < length rows →
    given axis column (drop k ts) (drop k rows) ≡ entry (effect_of (get_or ts k blank)) axis *ℤ entry (get_or rows k []) column +ℤ given axis column (drop (k + 1) ts) (drop (k + 1) rows)
given_more axis column ts rows k h l = ap₂ (given axis column) (drop_more ts k blank h) (drop_more rows k [] l)
