-- The printed section, read in place of the file's.
use Rattle.std.specs.Prelude.{◌≡◌, ℕ, ◌≤◌, ◌==◌, true, false, ℤ, List, [], ◌∷◌, All, length, Option, Some, Ok, codes}
use Rattle.dp_form.specs.declared.Squares.{Squares}
use Rattle.dp_plant.specs.Keys.{field}
use Rattle.dp_plant.specs.PlantFile.{cert_at, cert_view, five_rows, matrix, three_rows}
use Rattle.dp_plant.specs.declared.cert.Cert.{Cert}
use Rattle.dp_plant.specs.declared.cert.Lists.{Lists}
use Rattle.dp_plant.specs.declared.cert.Parts.{Parts}
use Rattle.dp_plant.specs.declared.cert.Parts.TheVariants.{Three, Five}
use Rattle.toml.specs.Data.{Data, Items, no_items, item, integer, array}
use Rattle.dp_squares.specs.Text.{Row, Value, number, numbers, rows, cert_rows, upper_five, upper_three}

-- ---- what stands in a document for a value
abbrev pub items_of : {X : Type 0} → (X → Data) → List X → Items
items_of f [] = no_items
items_of f (x ∷ xs) = item (f x) (items_of f xs)

abbrev pub numbers_data : List ℤ → Data
numbers_data zs = array (items_of integer zs)

abbrev pub data_of : Value → Data
data_of (number z) = integer z
data_of (numbers zs) = numbers_data zs
data_of (rows zss) = array (items_of numbers_data zss)

-- a section that has each key with its value
abbrev pub HasRows : Option Data → List Row → Type 0
HasRows section [] = Unit {0}
HasRows section (row ∷ rest) =
    (field section row.0 ≡ Some (data_of row.1)) × HasRows section rest

-- ---- a certificate as every one is: each list as long as its array
pub record IsWholeList {n : ℕ} (w : Squares n) : Type 0 where
  pub few : length w.list.items ≤ 8
  pub wide : All (λ q. length q.l ≡ n) w.list.items

pub record IsWhole {n : ℕ} (l : Lists n) : Type 0 where
  pub span : length l.span ≡ n
  pub form : IsWholeList l.form
  pub axes : length l.vertex ≡ 2
  pub vertices : All (λ ws. length ws ≡ 3) l.vertex
  pub vertex : All (All IsWholeList) l.vertex
  pub output_axes : length l.output ≡ 2
  pub outputs : All (λ ws. length ws ≡ 2) l.output
  pub output : All (All IsWholeList) l.output
  pub coordinates : length l.spans ≡ n
  pub spans : All IsWholeList l.spans

-- with its form's matrix symmetric, and in a plant file of the version for so many states
abbrev pub AreWholeParts : ℕ → Parts → Type 0
AreWholeParts version (Three l) =
    (version == 1 ≡ true) × ((matrix three_rows (upper_three l.p.at) ≡ l.p.at) × IsWhole l)
AreWholeParts version (Five l) =
    (version == 1 ≡ false) × ((matrix five_rows (upper_five l.p.at) ≡ l.p.at) × IsWhole l)

-- a document whose [cert] has the printed keys with their values is read as the certificate
abbrev pub TextIsRead : Type 0
TextIsRead =
    (c : Cert) (version : ℕ) (document : Option Data) → length c.g ≡ 2 → AreWholeParts version c.parts
    → HasRows (field document (codes "cert")) (cert_rows c) → cert_at version document ≡ Ok (cert_view c)
