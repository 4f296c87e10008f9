-- Decimal numbers.
use Rattle.std.specs.Prelude.{ℕ, ◌+◌, ◌-◌, ◌*◌, ◌&&◌, ◌==◌, nat_lt, nat_le, List, [], ◌∷◌, length, ℤ, pos, neg_ℤ, Option, Some, None, if◌then◌else◌}
use Rattle.std.specs.Option.{option_map}
use Rattle.std.specs.Char.{is_ascii_digit}

-- the number that the digits of a text make, after the digits of n
abbrev pub digits_after : ℕ → List ℕ → Option ℕ
digits_after n [] = Some n
digits_after n (c ∷ cs) = if is_ascii_digit c then digits_after (n * 10 + (c - 48)) cs else None

-- the number of one to `most` digits
abbrev pub decimal_of : ℕ → List ℕ → Option ℕ
decimal_of most text =
    if nat_lt 0 (length text) && nat_le (length text) most then digits_after 0 text else None

-- a number of one to 18 digits, with a minus in front where it is below zero
abbrev pub number_of : List ℕ → Option ℤ
number_of [] = None
number_of (c ∷ cs) =
    if c == 45 then option_map (λ n. neg_ℤ (pos n)) (decimal_of 18 cs)
    else option_map pos (decimal_of 18 (c ∷ cs))
