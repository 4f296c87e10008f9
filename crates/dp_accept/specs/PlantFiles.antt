-- What a plant file comes to: a plant, or the first refusal.
use Rattle.std.specs.Prelude.{◌≡◌, ℕ, List, Option, Some, None, Result, Ok, Err, if◌then◌else◌}
use Rattle.std.specs.Option.{option_map, option_or}
use Rattle.std.specs.Str.{is_utf8}
use Rattle.toml.specs.Data.{Members, table}
use Rattle.toml.specs.Parse.{parse_document}
use Rattle.dp_alloc.specs.Refusals.{first_refused}
use Rattle.dp_cert.specs.Ranges.{first_out}
use Rattle.dp_cert.specs.Valid.{first_fault}
use Rattle.dp_plant.specs.Keys.{Fault as KeyFault}
use Rattle.dp_plant.specs.PlantFile.{PlantData, plant_at, plant_view}
use Rattle.dp_plant.specs.declared.fault.PlantFault.{PlantFault}
use Rattle.dp_plant.specs.declared.fault.PlantFault.TheVariants as fault
use Rattle.dp_plant.specs.declared.plant.Plant.{Plant}
use Rattle.dp_accept.specs.declared.refusals.GainsRefusal.{GainsRefusal}
use Rattle.dp_accept.specs.declared.refusals.PlantRefusal.TheVariants as refusal
use Rattle.dp_accept.specs.declared.trouble.PlantTrouble.{PlantTrouble}
use Rattle.dp_accept.specs.declared.trouble.PlantTrouble.TheVariants as trouble
use Rattle.dp_accept.specs.Prefixes.{Prefix, prefix_of}
use Rattle.dp_accept.specs.Refusals.{gains_refusal, key_refusal}

-- the most bytes of a plant file, 2^20
abbrev pub plant_limit : ℕ
plant_limit = 1048576

-- the document that a text is, if it is one
unfoldable pub document_of : List ℕ → Option Members
document_of text = if is_utf8 text then parse_document text else None

-- what the table of keys makes of a document
abbrev pub data_by_keys : Result PlantData KeyFault → Result PlantData PlantTrouble
data_by_keys (Ok found) = Ok found
data_by_keys (Err key) = Err (trouble.Plant (key_refusal key))

abbrev pub data_of : Option Members → Result PlantData PlantTrouble
data_of (Some members) = data_by_keys (plant_at (Some (table members)))
data_of None = Err (trouble.Plant refusal.Toml)

-- what a plant file gives, of which the length comes first
unfoldable pub data_within : Prefix → Result PlantData PlantTrouble
data_within f = if f.goes_on then Err trouble.Long else data_of (document_of f.text)

-- by its text, or without one
abbrev pub data_in : Option (List ℕ) → Result PlantData PlantTrouble
data_in (Some text) = data_within (prefix_of plant_limit text)
data_in None = Err trouble.Read

-- why a plant is refused, if it is: the first refused case, else what a judge of its gains says
abbrev pub cases_fault : Plant → Option PlantTrouble
cases_fault p = option_map (λ r. trouble.Plant (refusal.Case r)) (first_refused p)

abbrev pub plant_fault : (Plant → Option GainsRefusal) → Plant → Option PlantTrouble
plant_fault judge p = option_or (cases_fault p) (option_map trouble.Gains (judge p))

-- the judge that goes by the plant's own certificate
unfoldable pub by_own_certificate : Plant → Option GainsRefusal
by_own_certificate p = gains_refusal (first_out p.gains p.yaw p.cert) (first_fault p.gains p.cert)

-- a plant, unless it is refused
abbrev pub unless_refused : Option PlantTrouble → Plant → Result Plant PlantTrouble
unless_refused (Some why) p = Err why
unless_refused None p = Ok p

-- what data come to by a judge: the plant that has them, unless it is refused; or their own refusal
abbrev pub Judged : (Plant → Option GainsRefusal) → Result PlantData PlantTrouble
    → Result Plant PlantTrouble → Type 0
Judged judge (Ok found) r =
    (p : Plant) × (plant_view p ≡ found) × (r ≡ unless_refused (plant_fault judge p) p)
Judged judge (Err why) r = r ≡ Err why

-- and a plant file
abbrev pub GivesPlant : (Plant → Option GainsRefusal) → Option (List ℕ)
    → Result Plant PlantTrouble → Type 0
GivesPlant judge text r = Judged judge (data_in text) r

-- the file gives this refusal, and no failure while it was read
abbrev pub IsOfFile : PlantTrouble → Type 0
IsOfFile trouble.Read = ⊥
IsOfFile trouble.Memory = ⊥
IsOfFile trouble.Long = Unit {0}
IsOfFile (trouble.Plant why) = Unit {0}
IsOfFile (trouble.Gains why) = Unit {0}

-- what a fault of a plant file is told as
abbrev pub file_trouble : PlantFault → PlantTrouble
file_trouble fault.Toml = trouble.Plant refusal.Toml
file_trouble (fault.Missing key) = trouble.Plant (refusal.Missing (record { items = key.bytes }))
file_trouble (fault.Kind key) = trouble.Plant (refusal.Kind (record { items = key.bytes }))
file_trouble (fault.Range key) = trouble.Plant (refusal.Range (record { items = key.bytes }))
file_trouble fault.Memory = trouble.Memory
