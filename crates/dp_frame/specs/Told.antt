-- The lines that tell something: a time, the name of a wire, and a rest, after one space each.
use Rattle.std.specs.Prelude.{◌≡◌, ℕ, ◌+◌, ◌<◌, ◌≤◌, ◌⊎◌, List, [], ◌∷◌, ◌++◌, length, Some, codes, ⊤}
use Rattle.dp_text.specs.Laws.{Writes}
use Rattle.dp_plant.specs.declared.frames.Wire.{Wire}
use Rattle.dp_plant.specs.declared.frames.Wire.TheVariants.{Pos, Gyro, Wind, Group}
use Rattle.dp_frame.specs.declared.settings.Settings.{Settings}
use Rattle.dp_frame.specs.declared.entry.Judged.{Judged}
use Rattle.dp_frame.specs.declared.entry.Judged.TheVariants.{Blank, Good, Faulty, TooMany}
use Rattle.dp_frame.specs.Wires.{IsWire}
use Rattle.dp_frame.specs.Line.{judge, judge_rest}

-- the name of a wire: a word and a digit
abbrev pub name_of : Wire → List ℕ
name_of (Pos i) = codes "pos" ++ (48 + i) ∷ []
name_of (Gyro i) = codes "gyro" ++ (48 + i) ∷ []
name_of (Wind i) = codes "wind" ++ (48 + i) ∷ []
name_of (Group i) = codes "grp" ++ (48 + i) ∷ []

-- a line of at most 192 bytes, after one of the time `last`, tells a time, which isn't earlier, a
-- wire of the plant, and a rest: what stands after the wire's name and a space, if anything does
pub record Tells (groups last : ℕ) (line : List ℕ) (time : ℕ) (wire : Wire) (rest : List ℕ)
    : Type 0 where
  pub digits : List ℕ
  pub tail : List ℕ
  pub joined : line ≡ digits ++ 32 ∷ tail
  pub named : ((tail ≡ name_of wire) × (rest ≡ [])) ⊎ (tail ≡ name_of wire ++ 32 ∷ rest)
  pub short : length line ≤ 192
  pub written : Writes digits 15 time
  pub later : last ≤ time
  pub known : IsWire groups wire

-- good, or too many cycles
abbrev pub IsTaken : Judged → Type 0
IsTaken (Good e) = ⊤
IsTaken (TooMany cycle) = ⊤
IsTaken other = ⊥

-- a line that tells something isn't faulty, and is judged by its time, its wire and its rest; and
-- each line that is neither empty nor faulty tells something
pub record LineIsTold : Type 0 where
  pub read : (p : Settings) (last : ℕ) (line : List ℕ) (time : ℕ) (wire : Wire) (rest : List ℕ)
      → Tells p.groups last line time wire rest
      → judge p last line ≡ judge_rest p time rest (Some wire)
  pub written : (p : Settings) (last : ℕ) (line : List ℕ) → IsTaken (judge p last line)
      → (time : ℕ) × (wire : Wire) × (rest : List ℕ) × Tells p.groups last line time wire rest
