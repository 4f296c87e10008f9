-- Names that aren't counted apart share one number.
use Rattle.std.specs.Prelude.{◌≡◌, ℕ, suc, Bool, true, false, List, [], ◌∷◌, IsFalse, if◌then◌else◌, length, nat_lt, string_bytes, is_some}
use Rattle.std.proofs.Common.{◌+◌, ◌≤◌, arith, refl, sym, ◌∙◌, Option, Some, inl, inr}
use Rattle.std.proofs.lemmas.Bool.{cases_lt, ltb-false, le-ltb, lt-ltb}
use Rattle.std.specs.Str.{bytes_eq}
use Rattle.dp_shell.specs.MemoryFiles.{File, files_of, names_of}
use Rattle.dp_shell.specs.Names.{place_of, is_among, counted}
use Rattle.dp_shell.specs.Texts.{is_named, text_named}

-- where names that are there have the number 0
pub missing-shared : (a b : Bool) (missing : ℕ) → IsFalse a → IsFalse b
    → (if a then 0 else missing) ≡ (if b then 0 else missing)
missing-shared false false missing p q = refl
missing-shared true b missing p q = cc
missing-shared false true missing p q = cc

last_step : (is : Bool) (place many : ℕ) → (nat_lt place many ≡ false → place ≡ many)
    → nat_lt (if is then 0 else place + 1) (suc many) ≡ false
    → (if is then 0 else place + 1) ≡ suc many
last_step true place many later test = omega (arith, ltb-false 0 (suc many) test)
last_step false place many later test =
    let none_left : many ≤ place = omega (arith, ltb-false (place + 1) (suc many) test) in
    omega (arith, later (le-ltb place many none_left))

-- the place of a name that isn't among these is how many these are
place_of-last : (names : List (List ℕ)) (name : List ℕ) → IsFalse (is_among names name)
    → place_of names name ≡ length names
place_of-last [] name other = refl
place_of-last (first ∷ names) name other =
    last_step (bytes_eq first name) (place_of names name) (length names)
    (λ test. place_of-last names name test) other

-- where each name has a number by its place
pub counted-shared : (counts : List ℕ) (names : List (List ℕ)) (a b : List ℕ)
    → IsFalse (is_among names a) → IsFalse (is_among names b)
    → counted counts names a ≡ counted counts names b
counted-shared counts names a b p q =
    let at_a = place_of-last names a p in let at_b = place_of-last names b q in cc

one_further : (place many : ℕ) → nat_lt place many ≡ nat_lt (place + 1) (suc many)
one_further place many = elim (cases_lt place many) [
  | inl lt ↦ lt-ltb place many lt ∙ sym (lt-ltb (place + 1) (suc many) (omega arith))
  | inr le ↦ le-ltb place many le ∙ sym (le-ltb (place + 1) (suc many) (omega arith))
]

among_step : (is : Bool) (text : List ℕ) (rest : Option (List ℕ)) (place many : ℕ)
    → is_some rest ≡ nat_lt place many
    → is_some (if is then Some text else rest) ≡ nat_lt (if is then 0 else place + 1) (suc many)
among_step true text rest place many later = sym (lt-ltb 0 (suc many) (omega arith))
among_step false text rest place many later = later ∙ one_further place many

-- a name has a text where it is among the files' names
pub is_named-among : (files : List File) (name : List ℕ)
    → is_named (files_of files) name ≡ is_among (names_of files) name
is_named-among [] name = refl
is_named-among (file ∷ files) name =
    among_step (bytes_eq (string_bytes file.0) name) file.1.items (text_named (files_of files) name)
    (place_of (names_of files) name) (length (names_of files)) (is_named-among files name)

-- where each file has a number by its place
pub files-shared : (counts : List ℕ) (files : List File) (a b : List ℕ)
    → IsFalse (is_named (files_of files) a) → IsFalse (is_named (files_of files) b)
    → counted counts (names_of files) a ≡ counted counts (names_of files) b
files-shared counts files a b p q =
    counted-shared counts (names_of files) a b (sym (is_named-among files a) ∙ p)
    (sym (is_named-among files b) ∙ q)
