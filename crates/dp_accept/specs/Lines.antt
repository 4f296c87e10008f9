-- The fault lines of a plant and its gains.
use Rattle.std.specs.Prelude.{ℕ, ℤ, List, ◌++◌, codes}
use Rattle.std.specs.Fmt.{decimal, signed_decimal}
use Rattle.dp_alloc.specs.declared.fault.CaseFault.{CaseFault}
use Rattle.dp_alloc.specs.declared.fault.CaseFault.TheVariants as case
use Rattle.dp_cert.specs.declared.faults.CertFault.{CertFault}
use Rattle.dp_cert.specs.declared.faults.CertFault.TheVariants as cert
use Rattle.dp_accept.specs.declared.refusals.GainsRefusal.{GainsRefusal}
use Rattle.dp_accept.specs.declared.refusals.GainsRefusal.TheVariants as gains
use Rattle.dp_accept.specs.declared.refusals.PlantRefusal.{PlantRefusal}
use Rattle.dp_accept.specs.declared.refusals.PlantRefusal.TheVariants as plant

-- ---- a word, a count or a whole number after a space

abbrev pub word_part : List ℕ → List ℕ
word_part word = codes " " ++ word

abbrev pub count_part : ℕ → List ℕ
count_part n = word_part (decimal n)

abbrev pub whole_part : ℤ → List ℕ
whole_part z = word_part (signed_decimal z)

-- ---- the plant

-- a fault of a key: its kind, and the key's name
abbrev pub key_line : List ℕ → List ℕ → List ℕ
key_line what key = what ++ (word_part key ++ codes "\n")

-- a case: its mask of lost groups, and the first of its conditions that fails
unfoldable pub case_line : ℕ → CaseFault → List ℕ
case_line lost (case.CornerOver thruster need limit) =
    codes "fault plant corner" ++ (count_part lost ++ (count_part thruster
    ++ (whole_part need ++ (whole_part limit ++ codes "\n"))))
case_line lost (case.OffDemand axis column error) =
    codes "fault plant demand" ++ (count_part lost ++ (count_part axis
    ++ (count_part column ++ (whole_part error ++ codes "\n"))))

unfoldable pub plant_line : PlantRefusal → List ℕ
plant_line plant.Toml = codes "fault plant toml\n"
plant_line (plant.Missing key) = key_line (codes "fault plant missing") key.items
plant_line (plant.Kind key) = key_line (codes "fault plant kind") key.items
plant_line (plant.Range key) = key_line (codes "fault plant range") key.items
plant_line (plant.Case refusal) = case_line refusal.lost refusal.fault

-- ---- its gains

-- squares that don't show a matrix: which, the first row that is short, and by how much
abbrev pub short_line : List ℕ → ℕ → ℤ → List ℕ
short_line which row short = which ++ (count_part row ++ (whole_part short ++ codes "\n"))

-- the matrix of two numbers, or of one
abbrev pub of_two : List ℕ → ℕ → ℕ → List ℕ
of_two what first second = what ++ (count_part first ++ count_part second)

abbrev pub of_one : List ℕ → ℕ → List ℕ
of_one what first = what ++ count_part first

unfoldable pub condition_line : CertFault → List ℕ
condition_line (cert.Range key) = key_line (codes "fault gains range") key.bytes
condition_line cert.Rate = codes "fault gains rate\n"
condition_line (cert.FormNotShown row short) = short_line (codes "fault gains form") row short
condition_line (cert.VertexNotShown axis vertex row short) =
    short_line (of_two (codes "fault gains vertex") axis vertex) row short
condition_line cert.InputShort = codes "fault gains input\n"
condition_line cert.RoundShort = codes "fault gains round\n"
condition_line (cert.OutputNotShown axis which row short) =
    short_line (of_two (codes "fault gains output") axis which) row short
condition_line (cert.SpanNotShown coordinate row short) =
    short_line (of_one (codes "fault gains span") coordinate) row short
condition_line (cert.TooWide coordinate) =
    of_one (codes "fault gains wide") coordinate ++ codes "\n"

unfoldable pub gains_line : GainsRefusal → List ℕ
gains_line (gains.Range key) = key_line (codes "fault gains range") key.items
gains_line (gains.Condition fault) = condition_line fault
