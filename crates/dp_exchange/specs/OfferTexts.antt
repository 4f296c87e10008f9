-- The texts of the offers: one for each computer, empty where it offered none.
use Rattle.std.specs.Prelude.{◌≡◌, ℕ, Bool, not, ◌&&◌, ◌==◌, List, [], ◌∷◌, length, map, slice_index_or}
use Rattle.std.specs.List.{list_any}
use Rattle.std.specs.Str.{bytes_eq}
use Rattle.dp_exchange.specs.declared.offers.Offers.TheInside.{Inside}

abbrev pub texts_of : Inside → List (List ℕ)
texts_of o = map (λ t. t.items) o.texts

abbrev pub AreThree : Inside → Type 0
AreThree o = length o.texts ≡ 3

abbrev pub no_texts : List (List ℕ)
no_texts = [] ∷ [] ∷ [] ∷ []

-- another computer's text is the same as that of this one
unfoldable pub is_repeated : List (List ℕ) → ℕ → Bool
is_repeated texts from =
    list_any (λ c. not (c == from)
    && bytes_eq (slice_index_or texts c []) (slice_index_or texts from []))
    (0 ∷ 1 ∷ 2 ∷ [])
