-- Two names that are counted apart have two places.
use Rattle.std.proofs.Common.{◌≡◌, ◌≢◌, ℕ, suc, ◌+◌, ◌<◌, Bool, true, false, List, [], ◌∷◌, length, refl, sym, ◌∙◌, arith, IsTrue, set, get_or-set_other, if◌then◌else◌}
use Rattle.std.proofs.lemmas.Bool.Decides.{nat_tests}
use Rattle.std.proofs.lemmas.Slice.Eq.{bytes_eq-Decides}
use Rattle.std.specs.Str.{bytes_eq}
use Rattle.dp_shell.specs.MemoryFiles.{File, files_of, names_of}
use Rattle.dp_shell.specs.Names.{place_of, is_among, counted}
use Rattle.dp_shell.specs.Shared.{is_named-among}
use Rattle.dp_shell.specs.Texts.{is_named}

apart_step : (p q : Bool) (m n k : ℕ) (w a b : List ℕ) → (p ≡ true → w ≡ a) → (q ≡ true → w ≡ b) → (m < k → m ≡ n → ⊥) → a ≢ b → (if p then 0 else m + 1) < suc k → (if p then 0 else m + 1) ≡ (if q then 0 else n + 1) → ⊥
apart_step true true m n k w a b pa qb later ne lt same = ne (sym (pa refl) ∙ qb refl)
apart_step true false m n k w a b pa qb later ne lt same = omega arith
apart_step false true m n k w a b pa qb later ne lt same = omega arith
apart_step false false m n k w a b pa qb later ne lt same = later (omega arith) (omega arith)

places_differ : (names : List (List ℕ)) (a b : List ℕ) → a ≢ b → place_of names a < length names → place_of names a ≡ place_of names b → ⊥
places_differ [] a b ne lt same = omega arith
places_differ (w ∷ names) a b ne lt same =
    apart_step (bytes_eq w a) (bytes_eq w b) (place_of names a) (place_of names b) (length names) w a b (bytes_eq-Decides w a).0 (bytes_eq-Decides w b).0
    (λ l s. places_differ names a b ne l s) ne lt same

-- a change at the place of a name leaves the number of another that is among the names
pub counted-set : (counts : List ℕ) (names : List (List ℕ)) (name other : List ℕ) (at value : ℕ) → at ≡ place_of names name → IsTrue (is_among names other) → other ≢ name
    → counted (set counts at value) names other ≡ counted counts names other
counted-set counts names name other at value is among ne =
    let lt : place_of names other < length names = search (arith, nat_tests) in
    let differ : place_of names other ≢ at = λ same. places_differ names other name ne lt (same ∙ is) in
    rw get_or-set_other

-- the same of files in memory
pub counted-set-files : (counts : List ℕ) (files : List File) (name other : List ℕ) (at value : ℕ) → at ≡ place_of (names_of files) name → IsTrue (is_named (files_of files) other) → other ≢ name
    → counted (set counts at value) (names_of files) other ≡ counted counts (names_of files) other
counted-set-files counts files name other at value is there ne =
    counted-set counts (names_of files) name other at value is (sym (is_named-among files other) ∙ there) ne
