-- Names, and numbers that are kept by a name's place among them.
use Rattle.std.specs.Prelude.{ℕ, Bool, List, [], ◌∷◌, ◌+◌, if◌then◌else◌, map, nat_lt, length, slice_index}
use Rattle.std.specs.Str.{bytes_eq}
use Rattle.std.specs.Borrow.{Bor}

-- what borrowed texts say
abbrev pub texts_of : List (Bor (List ℕ)) → List (List ℕ)
texts_of words = map (λ word. word.now) words

-- the first place of a name among names, or how many these are
abbrev pub place_of : List (List ℕ) → List ℕ → ℕ
place_of [] name = 0
place_of (first ∷ names) name = if bytes_eq first name then 0 else place_of names name + 1

-- a name is one of these names
abbrev pub is_among : List (List ℕ) → List ℕ → Bool
is_among names name = nat_lt (place_of names name) (length names)

-- the number of a name: names have one each by their place, all others have the one after these
abbrev pub counted : List ℕ → List (List ℕ) → List ℕ → ℕ
counted counts names name = slice_index counts (place_of names name)
