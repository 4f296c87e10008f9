-- The record that is made of a number.
use Rattle.std.specs.Prelude.{ℕ, zero, suc, ◌-◌, ◌*◌, ◌/◌, ◌%◌, nat_lt, if◌then◌else◌, List, [], ◌∷◌, ◌++◌, ℤ, pos, ◌-ℤ◌, codes}
use Rattle.std.specs.Fmt.{decimal, signed_decimal}
use Rattle.std.specs.List.{flat_map, range_with_len}
use Rattle.dp_sentence.specs.Written.{closed}
use Rattle.dp_script.specs.Generator.{draw_at, state_after}

-- a line of second n: the time in milliseconds, the wire, and what it says
unfoldable pub wire_line : ℕ → List ℕ → ℕ → List ℕ → List ℕ
wire_line n stem i said =
    decimal (1000 * n) ++ (stem ++ (decimal i ++ (codes " " ++ (said ++ codes "\n"))))

-- a coordinate of a draw: from -500 to 500 mm
abbrev pub coordinate_of : ℕ → ℤ
coordinate_of draw = pos (draw % 1001) -ℤ pos 500

-- position wire i, with a place of two draws
unfoldable pub place_line : ℕ → ℕ → ℕ → ℕ → List ℕ
place_line n i north east = wire_line n (codes " pos") i
    (codes "L " ++ (signed_decimal (coordinate_of north) ++ (codes " "
    ++ signed_decimal (coordinate_of east))))

-- the body of a heading sentence, with tenths of a degree of a draw
unfoldable pub heading_body : ℕ → List ℕ
heading_body draw = codes "HEHDT,000." ++ (decimal (draw % 10) ++ codes ",T")

-- gyro wire i
unfoldable pub heading_line : ℕ → ℕ → ℕ → List ℕ
heading_line n i draw = wire_line n (codes " gyro") i (closed (heading_body draw))

-- the body of a wind sentence, with m/s of a draw
unfoldable pub wind_body : ℕ → List ℕ
wind_body draw = codes "WIMWV,045.0,R,0" ++ (decimal (draw % 10) ++ codes ".0,M,A")

-- wind wire i
unfoldable pub wind_line : ℕ → ℕ → ℕ → List ℕ
wind_line n i draw = wire_line n (codes " wind") i (closed (wind_body draw))

-- the nine lines of second n, of twelve draws from a state on
unfoldable pub second_lines : ℕ → ℕ → List (List ℕ)
second_lines n x =
    place_line n 0 (draw_at x 0) (draw_at x 1)
    ∷ place_line n 1 (draw_at x 2) (draw_at x 3)
    ∷ place_line n 2 (draw_at x 4) (draw_at x 5)
    ∷ heading_line n 0 (draw_at x 6)
    ∷ heading_line n 1 (draw_at x 7)
    ∷ heading_line n 2 (draw_at x 8)
    ∷ wind_line n 0 (draw_at x 9)
    ∷ wind_line n 1 (draw_at x 10)
    ∷ wind_line n 2 (draw_at x 11)
    ∷ []

-- an hour
unfoldable pub record_seconds : ℕ
record_seconds = 3600

-- the lines of the record: the generator's state begins with the number
unfoldable pub made_lines : ℕ → List (List ℕ)
made_lines number =
    flat_map (λ n. second_lines n (state_after (12 * n) number)) (range_with_len 0 record_seconds)

-- lines after one another
abbrev pub joined : List (List ℕ) → List ℕ
joined lines = flat_map (λ line. line) lines

-- the record
unfoldable pub made : ℕ → List ℕ
made number = joined (made_lines number)

-- ---- what a maker still gives

-- the line at place j of second n, from a state on
unfoldable pub line_at : ℕ → ℕ → ℕ → List ℕ
line_at n j x =
    if nat_lt j 3 then place_line n j (draw_at x 0) (draw_at x 1)
    else (if nat_lt j 6 then heading_line n (j - 3) (draw_at x 0)
    else wind_line n (j - 6) (draw_at x 0))

-- how many numbers are drawn for it
unfoldable pub draws_at : ℕ → ℕ
draws_at j = if nat_lt j 3 then 2 else 1

-- so many lines from line k of the record and from a state on
unfoldable pub lines_from : ℕ → ℕ → ℕ → List (List ℕ)
lines_from zero k x = []
lines_from (suc left) k x =
    line_at (k / 9) (k % 9) x ∷ lines_from left (suc k) (state_after (draws_at (k % 9)) x)
