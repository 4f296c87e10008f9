-- The spellings of a state, and what bytes spell.
use Rattle.std.specs.Prelude.{◌≡◌, ◌⊎◌, ◌≤◌, ℕ, ℤ, ◌+◌, ◌-◌, ◌==◌, List, [], ◌++◌, All, length, Result, Ok, Err, if◌then◌else◌}
use Rattle.std.specs.Int.{w32}
use Rattle.dp_plant.specs.declared.plant.Plant.{Plant}
use Rattle.dp_machine.specs.declared.state.State.{State}
use Rattle.dp_machine.specs.Ranges.{IsStateWithin}
use Rattle.dp_codec.specs.Format.{◌>>=◌, Read}
use Rattle.dp_codec.specs.Numbers.{unsigned_at, unsigned_text}
use Rattle.dp_codec.specs.Parts.{state_parts}

-- software 1 knows spelling 1, and software 2 both; it writes the one of its own number
abbrev pub IsSoftware : ℕ → Type 0
IsSoftware software = (software ≡ 1) ⊎ (software ≡ 2)

-- three numbers
abbrev pub IsThree : List ℤ → Type 0
IsThree d = length d ≡ 3

-- a state of the plant; its arrays have three parts each, as those of any machine's state have
pub record IsPlantState (p : Plant) (s : State) : Type 0 where
  pub within : IsStateWithin p s
  pub samples : length s.samples ≡ 3
  pub demands : All IsThree s.demands.items

-- ---- writing
-- the mark is DPS1 or DPS2, here as a number of four bytes
abbrev pub mark_of : ℕ → ℕ
mark_of version = 1146114864 + version

-- spelling 2 has the whole length, that of the mark and its own four bytes included
abbrev pub length_text : ℕ → List ℕ → List ℕ
length_text version text = if version == 1 then [] else unsigned_text w32 (8 + length text)

unfoldable pub spelling_of : Plant → ℕ → State → List ℕ
spelling_of p version s =
    let text = (state_parts p version).spell s in
    unsigned_text w32 (mark_of version) ++ (length_text version text ++ text)

-- ---- reading
-- of the bytes after the mark
abbrev pub length_at : ℕ → List ℕ → Read ℕ
length_at version bytes =
    if version == 1 then Ok (0, bytes)
    else unsigned_at w32 (4 + length bytes) (5 + length bytes) bytes

-- all bytes
unfoldable pub all_of : Plant → ℕ → List ℕ → Result State ℕ
all_of p software bytes = do
  mark ← unsigned_at w32 (mark_of 1) (mark_of software + 1) bytes
  whole ← length_at (mark.0 - mark_of 0) mark.1
  s ← (state_parts p (mark.0 - mark_of 0)).read whole.1
  if length s.1 == 0 then Ok s.0 else Err (length s.1)

-- the state that the bytes spell, or the offset of the first part that is missing, wrong or out of
-- range; where more follows a spelling, that is its length
unfoldable pub state_read : Plant → ℕ → List ℕ → Result State ℕ
state_read p software bytes = placed (length bytes) (all_of p software bytes)
  where
    placed : ℕ → Result State ℕ → Result State ℕ
    placed whole (Ok s) = Ok s
    placed whole (Err left) = Err (whole - left)

-- bytes that spell a state of the plant in a version that the software knows
pub record IsSpelled (p : Plant) (software : ℕ) (bytes : List ℕ) (s : State) : Type 0 where
  pub version : ℕ
  pub first : 1 ≤ version
  pub known : version ≤ software
  pub state : IsPlantState p s
  pub text : bytes ≡ spelling_of p version s
