-- The plant file: its keys in their order, each with its name and its range, and what becomes of
-- them.
use Rattle.std.specs.Prelude.{ℕ, ◌+◌, ◌-◌, ◌^◌, ◌==◌, ℤ, pos, ◌*ℤ◌, if◌then◌else◌, List, [], ◌∷◌, ◌++◌, length, map, replicate, take, Option, Result, Ok, Err, codes}
use Rattle.std.specs.List.{list_all}
use Rattle.toml.specs.Data.{Data}
use Rattle.dp_form.specs.declared.Square.{Square}
use Rattle.dp_form.specs.declared.Squares.{Squares}
use Rattle.dp_plant.specs.Keys.{◌>>=◌, Fault, missing, range, between, up_to, down_to, about, key_in, plain, indexed, Section, number_at, whole_at, count_at, numbers_at, wholes_at, rows_at, squares_at, tables_at, each_from}
use Rattle.dp_plant.specs.declared.cert.Cert.{Cert}
use Rattle.dp_plant.specs.declared.cert.Lists.{Lists}
use Rattle.dp_plant.specs.declared.cert.Parts.{Parts}
use Rattle.dp_plant.specs.declared.cert.Parts.TheVariants.{Three, Five}
use Rattle.dp_plant.specs.declared.file.certificate.Steps.{Steps}
use Rattle.dp_plant.specs.declared.file.gains.WaveGains.{WaveGains}
use Rattle.dp_plant.specs.declared.file.references.Reference.{Reference}
use Rattle.dp_plant.specs.declared.file.vessel.Vessel.{Vessel}
use Rattle.dp_plant.specs.declared.gains.Gains.{Gains}
use Rattle.dp_plant.specs.declared.gains.YawGains.{YawGains}
use Rattle.dp_plant.specs.declared.limits.Setpoint.{Setpoint}
use Rattle.dp_plant.specs.declared.plant.Plant.{Plant}
use Rattle.dp_plant.specs.declared.references.RefLimits.{RefLimits}
use Rattle.dp_plant.specs.declared.thrusters.RawCase.{RawCase}
use Rattle.dp_plant.specs.declared.thrusters.Thruster.{Thruster}
use Rattle.dp_plant.specs.declared.wind.WindTable.{WindTable}
use Rattle.dp_plant.specs.PlantRanges.{has_case}
use Rattle.dp_plant.specs.Vectors.{entry}

-- ---- [plant]

-- north and east in mm, and a heading in hundredths of a degree
abbrev pub spot : List (ℤ × ℤ)
spot = about 8796093 ∷ about 8796093 ∷ up_to 35999 ∷ []

-- they come to nanometres and nanodegrees
abbrev pub setpoint_of : List ℤ → Setpoint
setpoint_of zs = record {
  at = record { north = entry zs 0 *ℤ pos 1000000; east = entry zs 1 *ℤ pos 1000000 };
  psi = entry zs 2 *ℤ pos 10000000;
}

unfoldable pub vessel_at : Option Data → Result Vessel Fault
vessel_at document = do
  let plant = plain document (codes "plant")
  version ← count_at plant (codes "version") (between 1 2)
  -- milliseconds
  cycle_ms ← count_at plant (codes "cycle_ms") (between 100 10000)
  -- latitude and longitude in 10^-7 minutes: 89 and 180 degrees
  origin ← wholes_at plant (codes "origin") (about 53400000000 ∷ about 108000000000 ∷ [])
  start ← wholes_at plant (codes "start") spot
  setpoint ← wholes_at plant (codes "setpoint") spot
  groups ← count_at plant (codes "groups") (between 1 8)
  -- 2^-20 N (for yaw N mm) for each unit of acceleration: surge, sway, yaw
  mass ← wholes_at plant (codes "mass") (replicate 3 (up_to 1099511627776))
  tol ← wholes_at plant (codes "tol") (replicate 3 (up_to 1099511627776))
  Ok (record {
    version = version;
    cycle_ms = cycle_ms;
    origin = origin;
    start = setpoint_of start;
    setpoint = setpoint_of setpoint;
    groups = groups;
    mass = mass;
    tol = tol;
  })

-- ---- [[ref]], three tables

unfoldable pub ref_at : ℕ → Data → Result Reference Fault
ref_at i d = do
  let ref = indexed (codes "ref") i d
  -- samples
  window ← count_at ref (codes "window") (between 4 32)
  -- mm, which come to nm
  jump ← whole_at ref (codes "jump_mm") (up_to 1000000)
  -- mm²
  noise ← whole_at ref (codes "noise_mm2") (up_to 1000000000000)
  -- cycles
  age ← count_at ref (codes "age") (up_to 60)
  -- mm ahead and to starboard
  lever ← wholes_at ref (codes "lever") (about 500000 ∷ about 500000 ∷ [])
  Ok (record {
    limits = record { window = window; jump = jump *ℤ pos 1000000; noise = noise; age = age };
    lever = (entry lever 0, entry lever 1);
  })

unfoldable pub refs_at : Option Data → Result (List Reference) Fault
refs_at document = tables_at document (codes "ref") 3 3 >>= each_from ref_at 0

-- ---- [wind]

unfoldable pub wind_at : Option Data → Result WindTable Fault
wind_at document = do
  let wind = plain document (codes "wind")
  -- for each 30 degrees: acceleration over 2^20 for each (mm/s)² on surge, sway, yaw
  push ← rows_at wind (codes "push") 12 (about 16777216 ∷ about 16777216 ∷ about 16777216 ∷ [])
  Ok (record { push = push })

-- ---- [[thruster]], 1 to 12 tables

unfoldable pub thruster_at : ℕ → ℕ → Data → Result Thruster Fault
thruster_at groups i d = do
  let thruster = indexed (codes "thruster") i d
  group ← count_at thruster (codes "group") (up_to (groups - 1))
  -- mm ahead and to starboard
  at ← wholes_at thruster (codes "at") (about 500000 ∷ about 500000 ∷ [])
  -- hundredths of a degree
  azimuth ← count_at thruster (codes "azimuth") (up_to 35999)
  -- newtons
  min ← whole_at thruster (codes "min") (down_to 2147483648)
  max ← whole_at thruster (codes "max") (up_to 2147483648)
  Ok (record { group = group; at = at; azimuth = azimuth; min = min; max = max })

unfoldable pub thrusters_at : Option Data → ℕ → Result (List Thruster) Fault
thrusters_at document groups =
    tables_at document (codes "thruster") 1 12 >>= each_from (thruster_at groups) 0

-- ---- [[case]], 1 to 32 tables

-- no case before has the same mask
abbrev pub unlike : Section → List RawCase → ℕ → Result ℕ Fault
unlike case before lost =
    if has_case before lost then Err (range (key_in case.name (codes "lost"))) else Ok lost

unfoldable pub lost_at : ℕ → List RawCase → Section → Result ℕ Fault
lost_at groups before case =
    count_at case (codes "lost") (up_to (2 ^ groups - 1)) >>= unlike case before

unfoldable pub case_at : ℕ → ℕ → List RawCase → Data → Result RawCase Fault
case_at groups thrusters before d = do
  let case = indexed (codes "case") (length before) d
  -- bit g stands for group g
  lost ← lost_at groups before case
  -- acceleration on surge, sway, yaw
  lo ← wholes_at case (codes "lo")
      (down_to 2147483648 ∷ down_to 2147483648 ∷ down_to 274877906944 ∷ [])
  hi ← wholes_at case (codes "hi") (up_to 2147483648 ∷ up_to 2147483648 ∷ up_to 274877906944 ∷ [])
  -- for each thruster its shares of surge, sway, yaw, over 2^20
  b ← rows_at case (codes "b") thrusters
      (about 2147483648 ∷ about 2147483648 ∷ about 2147483648 ∷ [])
  Ok (record { lost = lost; bounds = record { lo = lo; hi = hi }; b = record { items = b } })

-- the cases before, and those of these tables
abbrev pub cases_after : ℕ → ℕ → List RawCase → List Data → Result (List RawCase) Fault
cases_after groups thrusters before [] = Ok before
cases_after groups thrusters before (d ∷ ds) =
    case_at groups thrusters before d >>= λ c. cases_after groups thrusters (before ++ c ∷ []) ds

-- no group is lost, or each single one of these
abbrev pub single_masks : ℕ → List ℕ
single_masks groups = take (groups + 1) (0 ∷ 1 ∷ 2 ∷ 4 ∷ 8 ∷ 16 ∷ 32 ∷ 64 ∷ 128 ∷ [])

-- those masks have a case each
abbrev pub all_there : ℕ → List RawCase → Result (List RawCase) Fault
all_there groups cases =
    if list_all (has_case cases) (single_masks groups) then Ok cases
    else Err (missing (codes "case"))

unfoldable pub cases_at : Option Data → ℕ → ℕ → Result (List RawCase) Fault
cases_at document groups thrusters =
    tables_at document (codes "case") 1 32 >>= cases_after groups thrusters [] >>= all_there groups

-- ---- [gains] and [yaw]; their ranges are judged with the certificate

abbrev pub no_waves : WaveGains
no_waves = record { wave = replicate 4 (pos 0); k1 = replicate 2 (pos 0) }

unfoldable pub filter_at : Section → Result WaveGains Fault
filter_at gains = do
  wave ← numbers_at gains (codes "wave") 4
  k1 ← numbers_at gains (codes "k1") 2
  Ok (record { wave = wave; k1 = k1 })

-- a plant of version 1 has no wave filter
unfoldable pub waves_at : ℕ → Section → Result WaveGains Fault
waves_at version gains = if version == 1 then Ok no_waves else filter_at gains

unfoldable pub gains_at : ℕ → Option Data → Result Gains Fault
gains_at version document = do
  let gains = plain document (codes "gains")
  k2 ← number_at gains (codes "k2")
  k3 ← number_at gains (codes "k3")
  k4 ← number_at gains (codes "k4")
  leak ← number_at gains (codes "leak")
  damp ← number_at gains (codes "damp")
  kp ← numbers_at gains (codes "kp") 2
  kd ← numbers_at gains (codes "kd") 2
  bias ← numbers_at gains (codes "bias") 2
  waves ← waves_at version gains
  Ok (record {
    k2 = k2;
    k3 = k3;
    k4 = k4;
    leak = leak;
    damp = damp;
    kp = kp;
    kd = kd;
    bias = bias;
    wave = waves.wave;
    k1 = waves.k1;
  })

unfoldable pub yaw_at : Option Data → Result YawGains Fault
yaw_at document = do
  let yaw = plain document (codes "yaw")
  k2 ← number_at yaw (codes "k2")
  kp ← number_at yaw (codes "kp")
  kd ← number_at yaw (codes "kd")
  k3 ← number_at yaw (codes "k3")
  k4 ← number_at yaw (codes "k4")
  leak ← number_at yaw (codes "leak")
  damp ← number_at yaw (codes "damp")
  bias ← number_at yaw (codes "bias")
  Ok (record { k2 = k2; k3 = k3; k4 = k4; kp = kp; kd = kd; leak = leak; damp = damp; bias = bias })

-- ---- [cert]; its ranges are judged with the gains

-- the matrix, and each square as the row (d, l0, l1, ..) that the file has for it
pub record ListsData : Type 0 where
  pub p : List (List ℤ)
  pub span : List ℤ
  pub form : List (List ℤ)
  pub vertex : List (List (List (List ℤ)))
  pub output : List (List (List (List ℤ)))
  pub spans : List (List (List ℤ))

-- three states without a wave filter, five with one
pub data PartsData : Type 0 where
  of_three : ListsData → PartsData
  of_five : ListsData → PartsData

pub record CertData : Type 0 where
  pub rho : ℤ
  pub b : ℤ
  pub r : ℤ
  pub g : List ℤ
  pub parts : PartsData

abbrev pub square_row : {n : ℕ} → Square n → List ℤ
square_row q = q.d ∷ q.l

abbrev pub square_rows : {n : ℕ} → Squares n → List (List ℤ)
square_rows s = map square_row s.list.items

abbrev pub lists_view : {n : ℕ} → Lists n → ListsData
lists_view x = record {
  p = x.p.at;
  span = x.span;
  form = square_rows x.form;
  vertex = map (map square_rows) x.vertex;
  output = map (map square_rows) x.output;
  spans = map square_rows x.spans;
}

-- three lists of squares, and two
unfoldable pub three_at : ℕ → Section → List ℕ → List ℕ → List ℕ
    → Result (List (List (List ℤ))) Fault
three_at n cert first second third = do
  x ← squares_at n cert first
  y ← squares_at n cert second
  z ← squares_at n cert third
  Ok (x ∷ y ∷ z ∷ [])

unfoldable pub two_at : ℕ → Section → List ℕ → List ℕ → Result (List (List (List ℤ))) Fault
two_at n cert first second = do
  x ← squares_at n cert first
  y ← squares_at n cert second
  Ok (x ∷ y ∷ [])

pub record StepRows : Type 0 where
  pub form : List (List ℤ)
  pub vertex : List (List (List (List ℤ)))
  pub output : List (List (List (List ℤ)))

abbrev pub steps_view : {n : ℕ} → Steps n → StepRows
steps_view x =
    record {
      form = square_rows x.form;
      vertex = map (map square_rows) x.vertex;
      output = map
          (map square_rows) x.output;
    }

-- the squares of the form, of the vertices of both axes, and of their demands
unfoldable pub steps_at : ℕ → Section → Result StepRows Fault
steps_at n cert = do
  form ← squares_at n cert (codes "form")
  surge ← three_at n cert (codes "surge0") (codes "surge1") (codes "surge2")
  sway ← three_at n cert (codes "sway0") (codes "sway1") (codes "sway2")
  out_surge ← two_at n cert (codes "out_surge0") (codes "out_surge1")
  out_sway ← two_at n cert (codes "out_sway0") (codes "out_sway1")
  Ok (record { form = form; vertex = surge ∷ sway ∷ []; output = out_surge ∷ out_sway ∷ [] })

-- the symmetric matrix whose upper half, row by row, has these numbers
abbrev pub matrix : List (List ℕ) → List ℤ → List (List ℤ)
matrix places numbers = map (map (entry numbers)) places

abbrev pub three_rows : List (List ℕ)
three_rows = (0 ∷ 1 ∷ 2 ∷ []) ∷ (1 ∷ 3 ∷ 4 ∷ []) ∷ (2 ∷ 4 ∷ 5 ∷ []) ∷ []

abbrev pub five_rows : List (List ℕ)
five_rows =
    (0 ∷ 1 ∷ 2 ∷ 3 ∷ 4 ∷ [])
    ∷ (1 ∷ 5 ∷ 6 ∷ 7 ∷ 8 ∷ [])
    ∷ (2 ∷ 6 ∷ 9 ∷ 10 ∷ 11 ∷ [])
    ∷ (3 ∷ 7 ∷ 10 ∷ 12 ∷ 13 ∷ [])
    ∷ (4 ∷ 8 ∷ 11 ∷ 13 ∷ 14 ∷ [])
    ∷ []

unfoldable pub lists_of_three : Section → Result ListsData Fault
lists_of_three cert = do
  p ← numbers_at cert (codes "p") 6
  span ← numbers_at cert (codes "span") 3
  steps ← steps_at 3 cert
  spans ← three_at 3 cert (codes "span0") (codes "span1") (codes "span2")
  Ok (record {
    p = matrix three_rows p;
    span = span;
    form = steps.form;
    vertex = steps.vertex;
    output =
        steps.output;
    spans = spans;
  })

unfoldable pub lists_of_five : Section → Result ListsData Fault
lists_of_five cert = do
  p ← numbers_at cert (codes "p") 15
  span ← numbers_at cert (codes "span") 5
  steps ← steps_at 5 cert
  spans ← three_at 5 cert (codes "span0") (codes "span1") (codes "span2")
  waves ← two_at 5 cert (codes "span3") (codes "span4")
  Ok (record {
    p = matrix five_rows p;
    span = span;
    form = steps.form;
    vertex = steps.vertex;
    output =
        steps.output;
    spans = spans ++ waves;
  })

-- version 1 has three states, version 2 five
unfoldable pub parts_at : ℕ → Section → Result PartsData Fault
parts_at version cert =
    if version == 1 then lists_of_three cert >>= (λ x. Ok (of_three x))
    else lists_of_five cert >>= (λ x. Ok (of_five x))

abbrev pub parts_view : Parts → PartsData
parts_view (Three x) = of_three (lists_view x)
parts_view (Five x) = of_five (lists_view x)

abbrev pub cert_view : Cert → CertData
cert_view c = record { rho = c.rho; b = c.b; r = c.r; g = c.g; parts = parts_view c.parts }

unfoldable pub cert_at : ℕ → Option Data → Result CertData Fault
cert_at version document = do
  let cert = plain document (codes "cert")
  rho ← number_at cert (codes "rho")
  b ← number_at cert (codes "b")
  r ← number_at cert (codes "r")
  g ← numbers_at cert (codes "g") 2
  parts ← parts_at version cert
  Ok (record { rho = rho; b = b; r = r; g = g; parts = parts })

-- ---- the file

pub record PlantData : Type 0 where
  pub version : ℕ
  pub cycle_ms : ℕ
  pub origin : List ℤ
  pub start : Setpoint
  pub setpoint : Setpoint
  pub groups : ℕ
  pub mass : List ℤ
  pub tol : List ℤ
  pub refs : List RefLimits
  pub levers : List (ℤ × ℤ)
  pub wind : WindTable
  pub thrusters : List Thruster
  pub cases : List RawCase
  pub gains : Gains
  pub yaw : YawGains
  pub cert : CertData

abbrev pub plant_view : Plant → PlantData
plant_view p = record {
  version = p.version;
  cycle_ms = p.cycle_ms;
  origin = p.origin;
  start = p.start;
  setpoint = p.setpoint;
  groups = p.groups;
  mass = p.mass;
  tol = p.tol;
  refs = p.refs;
  levers = p.levers;
  wind = p.wind;
  thrusters = p.thrusters.items;
  cases = p.cases.items;
  gains = p.gains;
  yaw = p.yaw;
  cert = cert_view p.cert;
}

unfoldable pub plant_at : Option Data → Result PlantData Fault
plant_at document = do
  vessel ← vessel_at document
  refs ← refs_at document
  wind ← wind_at document
  thrusters ← thrusters_at document vessel.groups
  cases ← cases_at document vessel.groups (length thrusters)
  gains ← gains_at vessel.version document
  yaw ← yaw_at document
  cert ← cert_at vessel.version document
  Ok (record {
    version = vessel.version;
    cycle_ms = vessel.cycle_ms;
    origin = vessel.origin;
    start = vessel.start;
    setpoint = vessel.setpoint;
    groups = vessel.groups;
    mass = vessel.mass;
    tol = vessel.tol;
    refs = map (λ r. r.limits) refs;
    levers = map (λ r. r.lever) refs;
    wind = wind;
    thrusters = thrusters;
    cases = cases;
    gains = gains;
    yaw = yaw;
    cert = cert;
  })
