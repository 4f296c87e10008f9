-- The lines that a maker gives are those of the record.
use Rattle.std.proofs.Common.{◌≡◌, ℕ, zero, suc, ◌+◌, ◌-◌, ◌*◌, ◌/◌, ◌%◌, ◌<◌, List, [], ◌∷◌, ◌++◌, refl, sym, ap, ◌∙◌, arith}
use Rattle.std.specs.List.{flat_map, range_with_len}
use Rattle.dp_script.specs.Generator.{state_after}
use Rattle.dp_script.specs.Made.{draws_at, line_at, lines_from, made_lines, record_seconds, second_lines}
use Rattle.dp_script.specs.Left.{lines_left}

-- line k is at place j of second n
one_line : (left n j k x : ℕ) → k ≡ 9 * n + j → j < 9
    → lines_from (suc left) k x ≡ line_at n j x ∷ lines_from left (suc k) (state_after (draws_at j) x)
unfolding lines_from
one_line left n j k x is below =
    let second : k / 9 ≡ n = omega arith in
    let place : k % 9 ≡ j = omega arith in
    ap (λ m. line_at m (k % 9) x ∷ lines_from left (suc k) (state_after (draws_at (k % 9)) x)) second
    ∙ ap (λ i. line_at n i x ∷ lines_from left (suc k) (state_after (draws_at i) x)) place

-- a list by its first element and its rest
cons_then : (a : List (List ℕ)) (line : List ℕ) (b c : List (List ℕ)) → a ≡ line ∷ b → b ≡ c → a ≡ line ∷ c
cons_then a line b c first rest = first ∙ ap (λ l. line ∷ l) rest

-- the nine lines of a second
nine_lines : (left n k x : ℕ) → k ≡ 9 * n
    → lines_from (suc (suc (suc (suc (suc (suc (suc (suc (suc left))))))))) k x
    ≡ second_lines n x ++ lines_from left (suc (suc (suc (suc (suc (suc (suc (suc (suc k))))))))) (state_after 12 x)
unfolding second_lines line_at draws_at
nine_lines left n k x is =
    cons_then _ _ _ _ (one_line (suc (suc (suc (suc (suc (suc (suc (suc left)))))))) n 0 k (state_after 0 x) (omega arith) (omega arith)) (
    cons_then _ _ _ _ (one_line (suc (suc (suc (suc (suc (suc (suc left))))))) n 1 (suc k) (state_after 2 x) (omega arith) (omega arith)) (
    cons_then _ _ _ _ (one_line (suc (suc (suc (suc (suc (suc left)))))) n 2 (suc (suc k)) (state_after 4 x) (omega arith) (omega arith)) (
    cons_then _ _ _ _ (one_line (suc (suc (suc (suc (suc left))))) n 3 (suc (suc (suc k))) (state_after 6 x) (omega arith) (omega arith)) (
    cons_then _ _ _ _ (one_line (suc (suc (suc (suc left)))) n 4 (suc (suc (suc (suc k)))) (state_after 7 x) (omega arith) (omega arith)) (
    cons_then _ _ _ _ (one_line (suc (suc (suc left))) n 5 (suc (suc (suc (suc (suc k))))) (state_after 8 x) (omega arith) (omega arith)) (
    cons_then _ _ _ _ (one_line (suc (suc left)) n 6 (suc (suc (suc (suc (suc (suc k)))))) (state_after 9 x) (omega arith) (omega arith)) (
    cons_then _ _ _ _ (one_line (suc left) n 7 (suc (suc (suc (suc (suc (suc (suc k))))))) (state_after 10 x) (omega arith) (omega arith)) (
    one_line left n 8 (suc (suc (suc (suc (suc (suc (suc (suc k)))))))) (state_after 11 x) (omega arith) (omega arith)))))))))

-- second after second
seconds_lines : (count n number : ℕ) → lines_from (9 * count) (9 * n) (state_after (12 * n) number)
    ≡ flat_map (λ m. second_lines m (state_after (12 * m) number)) (range_with_len n count)
unfolding lines_from
seconds_lines zero n number = refl
seconds_lines (suc count) n number =
    let x = state_after (12 * n) number in
    let many : 9 * suc count ≡ suc (suc (suc (suc (suc (suc (suc (suc (suc (9 * count))))))))) = omega arith in
    let next : suc (suc (suc (suc (suc (suc (suc (suc (suc (9 * n))))))))) ≡ 9 * (n + 1) = omega arith in
    let draws : suc (suc (suc (suc (suc (suc (suc (suc (suc (suc (suc (suc (12 * n)))))))))))) ≡ 12 * (n + 1) = omega arith in
    ap (λ m. lines_from m (9 * n) x) many ∙ nine_lines (9 * count) n (9 * n) x refl
    ∙ ap (λ l. second_lines n x ++ l) (ap (λ k. lines_from (9 * count) k (state_after 12 x)) next
    ∙ ap (λ d. lines_from (9 * count) (9 * (n + 1)) (state_after d number)) draws ∙ seconds_lines count (n + 1) number)

record_long : 9 * record_seconds ≡ 32400
unfolding record_seconds
record_long = refl

pub all_left : (number : ℕ) → lines_left 0 number ≡ made_lines number
unfolding lines_left made_lines
all_left number =
    let all : 9 * record_seconds - 0 ≡ 9 * record_seconds = omega arith in
    ap (λ m. lines_from m 0 number) all ∙ seconds_lines record_seconds 0 number

pub none_left : (x : ℕ) → lines_left 32400 x ≡ []
unfolding lines_left lines_from
none_left x = ap (λ m. lines_from (m - 32400) 32400 x) record_long

next_left : (given x : ℕ) → given < 32400
    → lines_left given x ≡ line_at (given / 9) (given % 9) x ∷ lines_left (given + 1) (state_after (draws_at (given % 9)) x)
unfolding lines_left lines_from
next_left given x below =
    let left : 9 * record_seconds - given ≡ suc (9 * record_seconds - (given + 1)) = omega (arith, record_long) in
    let next : suc given ≡ given + 1 = omega arith in
    let after = state_after (draws_at (given % 9)) x in
    ap (λ m. lines_from m given x) left
    ∙ ap (λ k. line_at (given / 9) (given % 9) x ∷ lines_from (9 * record_seconds - (given + 1)) k after) next

-- the line that a maker gives, and what it still gives after it
pub line_given : (given x y : ℕ) (line : List ℕ) (now : List (List ℕ)) → given < 32400 → lines_left given x ≡ now
    → line ≡ line_at (given / 9) (given % 9) x → y ≡ state_after (draws_at (given % 9)) x
    → now ≡ line ∷ lines_left (given + 1) y
line_given given x y line now below left is state =
    sym left ∙ next_left given x below
    ∙ ap (λ l. l ∷ lines_left (given + 1) (state_after (draws_at (given % 9)) x)) (sym is)
    ∙ ap (λ z. line ∷ lines_left (given + 1) z) (sym state)
