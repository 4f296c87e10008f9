-- What a line of a list of moves says.
use Rattle.std.specs.Prelude.{ℕ, ◌<◌, ◌^◌, nat_le, nat_lt, List, [], ◌∷◌, length, ℤ, pos, ◌*ℤ◌, unsigned_abs, Option, Some, None, Result, Ok, Err, if◌then◌else◌}
use Rattle.dp_plant.specs.declared.limits.Setpoint.{Setpoint}
use Rattle.dp_plant.specs.{IsSetpointWithin}
use Rattle.dp_text.specs.{decimal_of, number_of, parts_of}
use Rattle.dp_guide.specs.declared.move_line.MoveNumbers.{MoveNumbers}
use Rattle.dp_guide.specs.declared.moves.Move.{Move}
use Rattle.dp_guide.specs.declared.moves_fault.MovesKind.{MovesKind}
use Rattle.dp_guide.specs.declared.moves_fault.MovesKind.TheVariants.{Number, Range}

-- checks in order: the first that fails names the fault
infixl 10 ◌>>=◌
abbrev pub ◌>>=◌ : {A B : Type 0} → Result A MovesKind → (A → Result B MovesKind)
    → Result B MovesKind
(Ok x) >>= f = f x
(Err kind) >>= f = Err kind

-- the value, or a fault of this kind where there is none
abbrev pub or_fault : {A : Type 0} → Option A → MovesKind → Result A MovesKind
or_fault (Some x) kind = Ok x
or_fault None kind = Err kind

-- a number without a sign
abbrev pub whole_of : List ℕ → Result ℕ MovesKind
whole_of text = or_fault (decimal_of 18 text) Number

-- a number that may be below zero
abbrev pub signed_of : List ℕ → Result ℤ MovesKind
signed_of text = or_fault (number_of text) Number

-- the numbers of four parts: the cycle, north, east and the heading
unfoldable pub numbers_of_parts : List (List ℕ) → Result MoveNumbers MovesKind
numbers_of_parts (cycle ∷ north ∷ east ∷ heading ∷ []) = do
  cycle ← whole_of cycle
  north ← signed_of north
  east ← signed_of east
  heading ← whole_of heading
  Ok (record { cycle = cycle; north = north; east = east; heading = heading })
numbers_of_parts parts = Err Number

-- the numbers of a line of at most 192 bytes
unfoldable pub numbers_of : List ℕ → Result MoveNumbers MovesKind
numbers_of line =
    if nat_le (length line) 192 then numbers_of_parts (parts_of line) else Err Number

-- a number below a limit
abbrev pub below_of : ℕ → ℕ → Result ℕ MovesKind
below_of limit n = if nat_lt n limit then Ok n else Err Range

-- a number at most a limit away from zero
abbrev pub near_of : ℕ → ℤ → Result ℤ MovesKind
near_of limit n = if nat_le (unsigned_abs n) limit then Ok n else Err Range

-- millimetres and hundredths of a degree come to nanometres and nanodegrees
abbrev pub setpoint_of : ℤ → ℤ → ℕ → Setpoint
setpoint_of north east heading = record {
  at = record { north = north *ℤ pos 1000000; east = east *ℤ pos 1000000 };
  psi = pos heading *ℤ pos 10000000;
}

-- the move of numbers within their ranges
unfoldable pub move_within : MoveNumbers → Result Move MovesKind
move_within numbers = do
  cycle ← below_of (2 ^ 20) numbers.cycle
  north ← near_of 8796093 numbers.north
  east ← near_of 8796093 numbers.east
  heading ← below_of 36000 numbers.heading
  Ok (record { cycle = cycle; to = setpoint_of north east heading })

-- the move of a line that isn't skipped, or the first of its own faults: Number, then Range
unfoldable pub move_of : List ℕ → Result Move MovesKind
move_of line = numbers_of line >>= move_within

-- a cycle below 2^20, and a setpoint within its ranges
pub record IsMoveWithin (m : Move) : Type 0 where
  pub cycle : m.cycle < 2 ^ 20
  pub to : IsSetpointWithin m.to
