-- What reading and writing have to do with each other.
use Rattle.std.specs.Prelude.{◌≡◌, ◌<◌, ◌≤◌, ℕ, List, All, Ok, Err, codes}
use Rattle.std.specs.Int.{w32}
use Rattle.dp_plant.specs.declared.plant.Plant.{Plant}
use Rattle.dp_machine.specs.declared.state.State.{State}
use Rattle.dp_codec.specs.Numbers.{unsigned_text}
use Rattle.dp_codec.specs.Spelling.{IsPlantState, IsSoftware, IsSpelled, mark_of, spelling_of, state_read}

pub record AreMarks : Type 0 where
  pub first : unsigned_text w32 (mark_of 1) ≡ codes "DPS1"
  pub second : unsigned_text w32 (mark_of 2) ≡ codes "DPS2"

-- what is written in a version that the software knows is read by it
abbrev pub WrittenIsRead : Plant → Type 0
WrittenIsRead p =
    (software version : ℕ) (s : State) → IsSoftware software → 1 ≤ version → version ≤ software
    → IsPlantState p s → state_read p software (spelling_of p version s) ≡ Ok s

-- and what is read of bytes is a state that they spell
abbrev pub ReadIsWritten : Type 0
ReadIsWritten =
    (p : Plant) (software : ℕ) (bytes : List ℕ) (s : State) → IsSoftware software
    → All (λ b. b < 256) bytes → state_read p software bytes ≡ Ok s → IsSpelled p software bytes s

-- so states with one spelling are one state, in each version; in the second too, where states that
-- were read in the first are compared
abbrev pub SpellingsKeepApart : Plant → Type 0
SpellingsKeepApart p =
    (version : ℕ) (s t : State) → IsSoftware version → IsPlantState p s → IsPlantState p t
    → spelling_of p version s ≡ spelling_of p version t → s ≡ t

-- software 1 knows only spelling 1: what is written in spelling 2 is wrong at its mark
abbrev pub SecondIsUnknownToFirst : Type 0
SecondIsUnknownToFirst = (p : Plant) (s : State) → state_read p 1 (spelling_of p 2 s) ≡ Err 0
