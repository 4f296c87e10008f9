-- The lines of one numbered thing more.
use Rattle.std.proofs.Common.{◌≡◌, ℕ, ◌+◌, List, [], ◌∷◌, ◌++◌, map, sym, ap, ◌∙◌, arith, append_assoc}
use Rattle.std.proofs.lemmas.Grind.{flat_map-append}
use Rattle.std.proofs.lemmas.List.{append-nil}
use Rattle.std.proofs.lemmas.List.Folds.{flat_map-map}
use Rattle.std.proofs.lemmas.List.FromFn.{map-range_with_len_more}
use Rattle.std.specs.List.{flat_map, range_with_len}
use Rattle.dp_fixed.specs.{is_set}
use Rattle.dp_report.specs.Alarms.{numbered_line, numbered_lines}

-- what is told of one number more
flat_map_more : (f : ℕ → List ℕ) (n : ℕ) → flat_map f (range_with_len 0 (n + 1)) ≡ flat_map f (range_with_len 0 n) ++ f n
flat_map_more f n =
    let same = λ (xs : List ℕ). flat_map-map f (λ (x : ℕ). x) xs in
    sym (same (range_with_len 0 (n + 1))) ∙ ap (flat_map f) (map-range_with_len_more (λ (x : ℕ). x) 0 n n (omega arith))
    ∙ flat_map-append f (map (λ (x : ℕ). x) (range_with_len 0 n)) (n ∷ [])
    ∙ ap (λ l. l ++ flat_map f (n ∷ [])) (same (range_with_len 0 n))
    ∙ ap (λ l. flat_map f (range_with_len 0 n) ++ l) (append-nil (f n))

pub none_numbered : (old words : List ℕ) (mask first : ℕ) → old ≡ old ++ numbered_lines words mask first 0
unfolding numbered_lines
none_numbered old words mask first = sym (append-nil old)

-- what stood there, the lines so far, and the next one
pub numbered_more : (old so_far new words : List ℕ) (mask first k : ℕ) → so_far ≡ old ++ numbered_lines words mask first k
    → new ≡ so_far ++ numbered_line (is_set mask (first + k)) words k → new ≡ old ++ numbered_lines words mask first (k + 1)
unfolding numbered_lines
numbered_more old so_far new words mask first k before added =
    let line : ℕ → List ℕ = λ j. numbered_line (is_set mask (first + j)) words j in
    added ∙ ap (λ l. l ++ line k) before ∙ append_assoc old (flat_map line (range_with_len 0 k)) (line k) ∙ ap (λ l. old ++ l) (sym (flat_map_more line k))
