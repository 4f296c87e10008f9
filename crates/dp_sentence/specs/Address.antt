-- The address field of IEC 61162-1: a talker of two characters and a formatter of three. Any other
-- address is all talker.
use Rattle.std.specs.Prelude.{ℕ, List, [], Bool, ◌==◌, ◌&&◌, not, if◌then◌else◌, length, slice_index, take, drop}
use Rattle.dp_sentence.specs.Fields.{address}

-- five characters, of which the first is not the `P` of a proprietary sentence
abbrev pub is_standard : List ℕ → Bool
is_standard text = length text == 5 && not (slice_index text 0 == 80)

abbrev pub talker_of : List ℕ → List ℕ
talker_of text = if is_standard text then take 2 text else text

abbrev pub formatter_of : List ℕ → List ℕ
formatter_of text = if is_standard text then drop 2 text else []

unfoldable pub talker : List ℕ → List ℕ
talker line = talker_of (address line)

unfoldable pub formatter : List ℕ → List ℕ
formatter line = formatter_of (address line)
