-- A line of more parts than a move has.
use Rattle.std.proofs.Common.{◌≡◌, ℕ, ◌<◌, List, [], ◌∷◌, length, refl, arith, Result, Err}
use Rattle.std.specs.Prelude.{Bool, true, false, nat_le, if◌then◌else◌}
use Rattle.dp_text.specs.{parts_of}
use Rattle.dp_guide.specs.declared.move_line.MoveNumbers.{MoveNumbers}
use Rattle.dp_guide.specs.declared.moves_fault.MovesKind.{MovesKind}
use Rattle.dp_guide.specs.declared.moves_fault.MovesKind.TheVariants.{Number}
use Rattle.dp_guide.specs.MoveLines.{numbers_of, numbers_of_parts}

too_many_parts : (parts : List (List ℕ)) → 4 < length parts → numbers_of_parts parts ≡ Err Number
unfolding numbers_of_parts
too_many_parts [] many = refl
too_many_parts (a ∷ []) many = refl
too_many_parts (a ∷ b ∷ []) many = refl
too_many_parts (a ∷ b ∷ c ∷ []) many = refl
too_many_parts (a ∷ b ∷ c ∷ d ∷ []) many = absurd (omega arith)
too_many_parts (a ∷ b ∷ c ∷ d ∷ e ∷ more) many = refl

by_length : (short : Bool) (numbers : Result MoveNumbers MovesKind) → numbers ≡ Err Number → (if short then numbers else Err Number) ≡ Err Number
by_length true numbers e = e
by_length false numbers e = refl

pub too_many : (line : List ℕ) → 4 < length (parts_of line) → numbers_of line ≡ Err Number
unfolding numbers_of
too_many line many = by_length (nat_le (length line) 192) (numbers_of_parts (parts_of line)) (too_many_parts (parts_of line) many)
