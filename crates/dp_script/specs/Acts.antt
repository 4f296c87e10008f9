-- Acts: the usual ones of a cycle, and the ranges of their numbers.
use Rattle.std.specs.Prelude.{◌≢◌, ℕ, ℤ, ◌<◌, ◌≤◌, ◌^◌, List, [], ◌∷◌, length, unsigned_abs}
use Rattle.std.specs.List.{All}
use Rattle.dp_script.specs.declared.act.Act.{Act}
use Rattle.dp_script.specs.declared.act.Act.TheVariants.{Run, Order, Orders, Tell, Skew, Say, Lie, Junk, Stop, Restart, Upgrade}

-- the acts of a cycle that no line names: each computer runs, then the orders of each go to all
-- voters
abbrev pub usual_acts : List Act
usual_acts = Run 0 ∷ Run 1 ∷ Run 2 ∷ Orders 0 ∷ Orders 1 ∷ Orders 2 ∷ []

-- a place is within ±2^43 nm
abbrev pub IsNear : ℤ × ℤ → Type 0
IsNear at = (unsigned_abs at.0 ≤ 2 ^ 43) × (unsigned_abs at.1 ≤ 2 ^ 43)

-- two different computers
abbrev pub AreTwo : ℕ → ℕ → Type 0
AreTwo a b = (a < 3) × (b < 3) × (a ≢ b)

-- one byte to 64
abbrev pub IsJunk : List ℕ → Type 0
IsJunk bytes = (1 ≤ length bytes) × (length bytes ≤ 64) × All (λ byte. byte < 256) bytes

-- computers are 0 to 2, voters 0 to 11, a force is within ±2^62 N
abbrev pub IsWithin : Act → Type 0
IsWithin (Run c) = c < 3
IsWithin (Order c k) = (c < 3) × (k < 12)
IsWithin (Orders c) = c < 3
IsWithin (Tell a b) = AreTwo a b
IsWithin (Skew c at) = (c < 3) × IsNear at
IsWithin (Say c k force) = (c < 3) × (k < 12) × (unsigned_abs force ≤ 2 ^ 62)
IsWithin (Lie a b at) = AreTwo a b × IsNear at
IsWithin (Junk a b bytes) = AreTwo a b × IsJunk bytes.items
IsWithin (Stop c) = c < 3
IsWithin (Restart c) = c < 3
IsWithin (Upgrade c) = c < 3
