-- How a key of the plant file is judged: first Missing, then Kind, then Range.
use Rattle.std.specs.Prelude.{◌≡◌, ℕ, suc, ◌+◌, ℤ, pos, neg_ℤ, nat_abs, ◌≤ℤ◌, int_le, ◌&&◌, Bool, nat_le, if◌then◌else◌, List, [], ◌∷◌, ◌++◌, length, Option, Some, None, option_map, option_and_then, Result, Ok, Err, decimal}
use Rattle.std.specs.Borrow.{Bor}
use Rattle.std.specs.List.{list_all, zip}
use Rattle.toml.specs.Data.{Data, Items, no_items, item, get, as_integer, as_array, as_table}
use Rattle.toml.specs.View.{view}
use Rattle.toml.specs.declared.value.Value.{Value}
use Rattle.dp_plant.specs.declared.fault.PlantFault.{PlantFault}
use Rattle.dp_plant.specs.declared.fault.PlantFault.TheVariants as faults

-- a fault of a key, with the bytes of its name
pub data Fault : Type 0 where
  missing : List ℕ → Fault
  kind : List ℕ → Fault
  range : List ℕ → Fault

-- what comes next, unless there is a fault: keys are read one after the other, and the first fault
-- is the answer
infixl 10 ◌>>=◌
abbrev pub ◌>>=◌ : {A B : Type 0} → Result A Fault → (A → Result B Fault) → Result B Fault
(Ok x) >>= f = f x
(Err e) >>= f = Err e

-- the fault that a function answered is the one that reading gives, unless memory ran out; of a
-- document it is never Toml
abbrev pub Fails : {Y : Type 0} → PlantFault → Result Y Fault → Type 0
Fails faults.Memory read = Unit {0}
Fails faults.Toml read = ⊥
Fails (faults.Missing key) read = read ≡ Err (missing key.bytes)
Fails (faults.Kind key) read = read ≡ Err (kind key.bytes)
Fails (faults.Range key) read = read ≡ Err (range key.bytes)

-- what a function answered, seen by view, is what reading gives
abbrev pub Gives : {X Y : Type 0} → (X → Y) → Result X PlantFault → Result Y Fault → Type 0
Gives view (Ok x) read = read ≡ Ok (view x)
Gives view (Err e) read = Fails e read

-- the bytes are no document, or memory ran out
abbrev pub IsNoDocument : PlantFault → Type 0
IsNoDocument faults.Memory = Unit {0}
IsNoDocument faults.Toml = Unit {0}
IsNoDocument _ = ⊥

-- the bytes of the key that a fault names
abbrev pub key_of : PlantFault → Option (List ℕ)
key_of (faults.Missing key) = Some key.bytes
key_of (faults.Kind key) = Some key.bytes
key_of (faults.Range key) = Some key.bytes
key_of _ = None

-- ---- names

-- what a reference to a value, if there is one, shows
abbrev pub seen : Option (Bor Value) → Option Data
seen = option_map (λ v. view v.now)

-- what stands at a name in a table; nothing does where there is no table
abbrev pub field : Option Data → List ℕ → Option Data
field holder name = option_and_then (get name) holder

-- a table of the file, under its name in a fault; where the file has no such table, each of its
-- keys is missing
pub record Section : Type 0 where
  pub name : List ℕ
  pub holder : Option Data

-- the same of what a function is handed
abbrev pub in_section : List ℕ → Option (Bor Value) → Section
in_section name holder = record { name = name; holder = seen holder }

-- the name of a key: its section's, a point, its own
abbrev pub key_in : List ℕ → List ℕ → List ℕ
key_in section name = section ++ 46 ∷ name

-- the name of the table with this index of an array of tables
abbrev pub section_at : List ℕ → ℕ → List ℕ
section_at name i = key_in name (decimal i)

-- a plain table of the document, and the table with this index of an array of tables
abbrev pub plain : Option Data → List ℕ → Section
plain document name = record { name = name; holder = field document name }

abbrev pub indexed : List ℕ → ℕ → Data → Section
indexed name i d = record { name = section_at name i; holder = Some d }

-- ---- the judge

-- a key is there, and `shape` makes something of what stands at it
abbrev pub of_kind : {A : Type 0} → List ℕ → Option A → Result A Fault
of_kind key None = Err (kind key)
of_kind key (Some x) = Ok x

abbrev pub found : {A : Type 0} → List ℕ → (Data → Option A) → Option Data → Result A Fault
found key shape None = Err (missing key)
found key shape (Some d) = of_kind key (shape d)

-- and it is in its range
abbrev pub in_range : {A : Type 0} → List ℕ → (A → Bool) → A → Result A Fault
in_range key fits x = if fits x then Ok x else Err (range key)

-- ---- ranges: the least and the greatest

abbrev pub between : ℕ → ℕ → ℤ × ℤ
between low high = (pos low, pos high)

abbrev pub up_to : ℕ → ℤ × ℤ
up_to n = (pos 0, pos n)

abbrev pub down_to : ℕ → ℤ × ℤ
down_to n = (neg_ℤ (pos n), pos 0)

-- from -n to n
abbrev pub about : ℕ → ℤ × ℤ
about n = (neg_ℤ (pos n), pos n)

abbrev pub is_within : ℤ × ℤ → ℤ → Bool
is_within bounds z = int_le bounds.0 z && int_le z bounds.1

-- each number is within the bounds at its place
abbrev pub are_within : List (ℤ × ℤ) → List ℤ → Bool
are_within bounds zs = list_all (λ p. is_within p.0 p.1) (zip bounds zs)

-- the same, of numbers by their index
abbrev pub AreBetween : List (ℤ × ℤ) → (ℕ → ℤ) → Type 0
AreBetween [] number = Unit {0}
AreBetween (b ∷ bs) number =
    ((b.0 ≤ℤ number 0) × (number 0 ≤ℤ b.1)) × AreBetween bs (λ k. number (suc k))

-- ---- arrays

-- how many items
abbrev pub count : Items → ℕ
count no_items = 0
count (item d ds) = count ds + 1

-- what `one` gives of each item, where it gives something of each
abbrev pub all_some : {A : Type 0} → (Data → Option A) → Items → Option (List A)
all_some one no_items = Some []
all_some one (item d ds) =
    option_and_then (λ x. option_map (λ xs. x ∷ xs) (all_some one ds)) (one d)

-- an array of least to most items, each of which `one` reads
unfoldable pub listed : {A : Type 0} → ℕ → ℕ → (Data → Option A) → Data → Option (List A)
listed least most one d =
    option_and_then
    (λ ds. if nat_le least (count ds) && nat_le (count ds) most then all_some one ds else None)
    (as_array d)

-- n whole numbers, and least to most rows of n
abbrev pub wholes : ℕ → Data → Option (List ℤ)
wholes n = listed n n as_integer

abbrev pub rows : ℕ → ℕ → ℕ → Data → Option (List (List ℤ))
rows n least most = listed least most (wholes n)

-- least to most tables
abbrev pub table_itself : Data → Option Data
table_itself d = option_map (λ _. d) (as_table d)

abbrev pub tables : ℕ → ℕ → Data → Option (List Data)
tables least most = listed least most table_itself

-- ---- what stands at a key

-- a whole number, and one within a range
unfoldable pub number_at : Section → List ℕ → Result ℤ Fault
number_at s name = found (key_in s.name name) as_integer (field s.holder name)

unfoldable pub whole_at : Section → List ℕ → ℤ × ℤ → Result ℤ Fault
whole_at s name bounds = number_at s name >>= in_range (key_in s.name name) (is_within bounds)

-- a whole number that a range from 0 up holds, as it counts
unfoldable pub count_at : Section → List ℕ → ℤ × ℤ → Result ℕ Fault
count_at s name bounds = whole_at s name bounds >>= λ z. Ok (nat_abs z)

-- n whole numbers, and as many as there are ranges, each within its own
unfoldable pub numbers_at : Section → List ℕ → ℕ → Result (List ℤ) Fault
numbers_at s name n = found (key_in s.name name) (wholes n) (field s.holder name)

unfoldable pub wholes_at : Section → List ℕ → List (ℤ × ℤ) → Result (List ℤ) Fault
wholes_at s name bounds =
    numbers_at s name (length bounds) >>= in_range (key_in s.name name) (are_within bounds)

-- this many rows, each of as many whole numbers as there are ranges, each within its own
unfoldable pub rows_at : Section → List ℕ → ℕ → List (ℤ × ℤ) → Result (List (List ℤ)) Fault
rows_at s name n bounds =
    found (key_in s.name name) (rows (length bounds) n n) (field s.holder name) >>= in_range
    (key_in s.name name) (list_all (are_within bounds))

-- a list of at most 8 squares over n coordinates: each a row of n + 1 whole numbers
unfoldable pub squares_at : ℕ → Section → List ℕ → Result (List (List ℤ)) Fault
squares_at n s name = found (key_in s.name name) (rows (n + 1) 0 8) (field s.holder name)

-- the tables at a key of the document
unfoldable pub tables_at : Option Data → List ℕ → ℕ → ℕ → Result (List Data) Fault
tables_at document name least most = found name (tables least most) (field document name)

-- `one` of each table, with its index
abbrev pub each_from : {A : Type 0} → (ℕ → Data → Result A Fault) → ℕ → List Data
    → Result (List A) Fault
each_from one i [] = Ok []
each_from one i (d ∷ ds) = one i d >>= (λ x. each_from one (i + 1) ds >>= (λ xs. Ok (x ∷ xs)))
