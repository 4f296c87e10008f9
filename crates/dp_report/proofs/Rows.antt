-- The lines of one thruster more.
use Rattle.std.proofs.Common.{◌≡◌, ℕ, ◌+◌, ◌<◌, List, [], ◌∷◌, ◌++◌, length, get_or, take, ℤ, Option, sym, ap, ◌∙◌, arith, append_assoc, length-take}
use Rattle.std.proofs.lemmas.List.{append-nil, take_more}
use Rattle.std.proofs.lemmas.List.Concat.{flat_map-append}
use Rattle.std.specs.List.{enumerate_from, flat_map, zip}
use Rattle.dp_plant.specs.declared.voting.Ballot.{Ballot}
use Rattle.dp_report.specs.Text.{thruster_line, thruster_lines}

-- one more row on two lists of the same length
rows_push : {A B : Type 0} (n : ℕ) (xs : List A) (ys : List B) (x : A) (y : B) → length xs ≡ length ys
    → enumerate_from n (zip (xs ++ x ∷ []) (ys ++ y ∷ [])) ≡ enumerate_from n (zip xs ys) ++ (n + length xs, (x, y)) ∷ []
rows_push n [] [] x y same = ap (λ m. (m, (x, y)) ∷ []) (omega arith)
rows_push n [] (b ∷ ys) x y same = absurd (omega arith)
rows_push n (a ∷ xs) [] x y same = absurd (omega arith)
rows_push n (a ∷ xs) (b ∷ ys) x y same =
    let e : n + 1 + length xs ≡ n + length (a ∷ xs) = omega arith in
    ap (λ rows. (n, (a, b)) ∷ rows) (rows_push (n + 1) xs ys x y (omega arith))
    ∙ ap (λ m. (n, (a, b)) ∷ (enumerate_from (n + 1) (zip xs ys) ++ (m, (x, y)) ∷ [])) e

row_text : ℕ × (Ballot × List (Option ℤ)) → List ℕ
row_text row = thruster_line row.0 row.1.0 row.1.1

lines_push : (bs : List Ballot) (hs : List (List (Option ℤ))) (b : Ballot) (h : List (Option ℤ)) → length bs ≡ length hs
    → thruster_lines (bs ++ b ∷ []) (hs ++ h ∷ []) ≡ thruster_lines bs hs ++ thruster_line (length bs) b h
unfolding thruster_lines row_text
lines_push bs hs b h same =
    ap (flat_map row_text) (rows_push 0 bs hs b h same)
    ∙ flat_map-append row_text (enumerate_from 0 (zip bs hs)) ((0 + length bs, (b, h)) ∷ [])
    ∙ ap (λ l. thruster_lines bs hs ++ l) (append-nil (thruster_line (0 + length bs) b h))
    ∙ ap (λ n. thruster_lines bs hs ++ thruster_line n b h) (omega arith)

pub lines_more : (bs : List Ballot) (hs : List (List (Option ℤ))) (k : ℕ) (b : Ballot) (h : List (Option ℤ)) → k < length bs → length bs ≡ length hs
    → thruster_lines (take (k + 1) bs) (take (k + 1) hs) ≡ thruster_lines (take k bs) (take k hs) ++ thruster_line k (get_or bs k b) (get_or hs k h)
lines_more bs hs k b h less same =
    let long : length (take k bs) ≡ k = omega (arith, length-take k bs) in
    let equal : length (take k bs) ≡ length (take k hs) = omega (arith, length-take k bs, length-take k hs) in
    let less' : k < length hs = omega arith in
    let pushed = lines_push (take k bs) (take k hs) (get_or bs k b) (get_or hs k h) equal in
    rw (take_more bs k b less, take_more hs k h less') (pushed ∙ ap (λ n. thruster_lines (take k bs) (take k hs) ++ thruster_line n (get_or bs k b) (get_or hs k h)) long)

-- what stood there, the lines so far, and the next one
pub text_more : (old so_far new : List ℕ) (bs : List Ballot) (hs : List (List (Option ℤ))) (k : ℕ) (b : Ballot) (h : List (Option ℤ)) → k < length bs
    → length bs ≡ length hs → so_far ≡ old ++ thruster_lines (take k bs) (take k hs) → new ≡ so_far ++ thruster_line k (get_or bs k b) (get_or hs k h)
    → new ≡ old ++ thruster_lines (take (k + 1) bs) (take (k + 1) hs)
text_more old so_far new bs hs k b h less same before added =
    let more = lines_more bs hs k b h less same in
    let line = thruster_line k (get_or bs k b) (get_or hs k h) in
    added ∙ ap (λ l. l ++ line) before ∙ append_assoc old (thruster_lines (take k bs) (take k hs)) line ∙ ap (λ l. old ++ l) (sym more)

pub text_begins : (old : List ℕ) → old ≡ old ++ thruster_lines [] []
unfolding thruster_lines
text_begins old = sym (append-nil old)
