-- What a number that is read has to do with the digits that write it, and a text with its parts.
use Rattle.std.specs.Prelude.{◌≡◌, ◌<◌, ◌≤◌, ℕ, ◌+◌, ◌-◌, ◌*◌, ◌^◌, List, [], ◌∷◌, length, true, Some, ℤ, pos, neg_ℤ, ◌⊎◌}
use Rattle.std.specs.List.{join_with_byte, list_all}
use Rattle.std.specs.Char.{is_ascii_digit}
use Rattle.dp_text.specs.Numbers.{decimal_of, number_of}
use Rattle.dp_text.specs.Parts.{lacks_space, parts_of}

-- each digit counts by its place: ten times as much for each digit that follows it
abbrev pub place_value : List ℕ → ℕ
place_value [] = 0
place_value (c ∷ cs) = (c - 48) * 10 ^ length cs + place_value cs

-- a text writes the number n: it is one to `most` digits, which have this value by their places
pub record Writes (text : List ℕ) (most n : ℕ) : Type 0 where
  pub some : 0 < length text
  pub few : length text ≤ most
  pub digits : list_all is_ascii_digit text ≡ true
  pub value : n ≡ place_value text

-- what is read of a text is the number that it writes, and each number that a text writes is read
pub record NumberReadIsWritten : Type 0 where
  pub written : (most n : ℕ) (text : List ℕ) → decimal_of most text ≡ Some n → Writes text most n
  pub read : (most n : ℕ) (text : List ℕ) → Writes text most n → decimal_of most text ≡ Some n

-- a text writes the whole number n: up to 18 digits write its size, and a minus stands in front
-- where it is below zero, or may where it is zero
pub record WritesSigned (text : List ℕ) (n : ℤ) : Type 0 where
  pub digits : List ℕ
  pub size : ℕ
  pub written : Writes digits 18 size
  pub sign : ((text ≡ digits) × (n ≡ pos size)) ⊎ ((text ≡ 45 ∷ digits) × (n ≡ neg_ℤ (pos size)))

-- the same of whole numbers
pub record SignedReadIsWritten : Type 0 where
  pub written : (n : ℤ) (text : List ℕ) → number_of text ≡ Some n → WritesSigned text n
  pub read : (n : ℤ) (text : List ℕ) → WritesSigned text n → number_of text ≡ Some n

-- the parts of a text, joined by spaces, are the text; and texts without a space are the parts of
-- what they are joined to
pub record PartsAreJoined : Type 0 where
  pub joined : (text : List ℕ) → join_with_byte 32 (parts_of text) ≡ text
  pub parts : (first : List ℕ) (more : List (List ℕ)) → list_all lacks_space (first ∷ more) ≡ true
      → parts_of (join_with_byte 32 (first ∷ more)) ≡ first ∷ more
