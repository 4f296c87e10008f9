-- Texts by their names, and what a read gives of one.
use Rattle.std.specs.Prelude.{◌≡◌, ◌-◌, ◌<◌, ◌≤◌, ℕ, min, Bool, List, [], ◌∷◌, length, take, drop, nat_lt, is_some, Option, Some, None, Result, IfOk, IsSomeAnd, ⊤, if◌then◌else◌}
use Rattle.std.specs.Str.{bytes_eq}

-- names and their texts
abbrev pub Files : Type 0
Files = List (List ℕ × List ℕ)

-- texts that aren't told
abbrev pub untold : Option Files
untold = None

-- the text of a name
abbrev pub text_named : Files → List ℕ → Option (List ℕ)
text_named [] name = None
text_named (file ∷ files) name = if bytes_eq file.0 name then Some file.1 else text_named files name

-- there is a text of this name
abbrev pub is_named : Files → List ℕ → Bool
is_named files name = is_some (text_named files name)

-- the first n bytes of `into` are the text's from this offset on, and n is 0 only at or past its
-- end or where `into` is empty
pub record IsPart (text : List ℕ) (from n : ℕ) (into : List ℕ) : Type 0 where
  pub within : n ≤ length (drop from text)
  pub copied : take n into ≡ take n (drop from text)
  pub end : n ≡ 0 → 0 < length into → length text ≤ from

-- how many bytes a read gives that copies all it can, but at most so many: of those from this offset
-- on, as many as there is room for
abbrev pub count_given : ℕ → List ℕ → ℕ → ℕ → ℕ
count_given most text from room = min most (min room (length text - from))

-- where the files are told, a count is answered only for a name that is there, of whose text so
-- many bytes were copied
abbrev pub ReadsPart : {E : Type 0} → Option Files → List ℕ → ℕ → Result ℕ E → List ℕ → Type 0
ReadsPart None name from result into = ⊤
ReadsPart (Some files) name from result into =
    IfOk result (λ n. IsSomeAnd (text_named files name) (λ text. IsPart text from n into))

-- a prefix of the text; nothing, where there is none
abbrev pub IsPrefixOf : Option (List ℕ) → List ℕ → Type 0
IsPrefixOf (Some text) part = part ≡ take (length part) text
IsPrefixOf None part = part ≡ []

-- where the files are told, this part was read of a text from its start on
abbrev pub ReadsPrefix : Option Files → List ℕ → List ℕ → Type 0
ReadsPrefix None name part = ⊤
ReadsPrefix (Some files) name part = IsPrefixOf (text_named files name) part

-- where the files are told, the name is there, `prefix` is its text up to the limit, and `is_cut`
-- says whether there is more
abbrev pub ReadsWhole : Option Files → List ℕ → ℕ → List ℕ → Bool → Type 0
ReadsWhole None name limit prefix is_cut = ⊤
ReadsWhole (Some files) name limit prefix is_cut =
    IsSomeAnd (text_named files name)
    (λ text. (prefix ≡ take limit text) × (is_cut ≡ nat_lt limit (length text)))
