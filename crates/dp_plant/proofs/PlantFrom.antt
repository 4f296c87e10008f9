-- Where the table of keys gives data there is a plant of just these data: "the plant of a file" is never an empty word.
use Rattle.std.proofs.Common.{◌≡◌, ℕ, suc, ◌+◌, ◌==◌, Bool, true, false, if◌then◌else◌, List, [], ◌∷◌, ◌++◌, length, map, Option, Ok, refl, sym, ap, ap₂, ◌∙◌, arith, codes, ℤ, pos, All}
use Rattle.std.proofs.lemmas.List.{map-append}
use Rattle.toml.specs.Data.{Data}
use Rattle.dp_form.specs.declared.Square.{Square}
use Rattle.dp_form.specs.declared.Squares.{Squares}
use Rattle.dp_plant.specs.Keys.{◌>>=◌, Section, number_at, numbers_at, plain, rows, squares_at, wholes}
use Rattle.dp_plant.specs.PlantFile.{CertData, ListsData, PartsData, PlantData, StepRows, of_three, of_five, cases_at, cert_at, cert_view, five_rows, gains_at, lists_of_five, lists_of_three, lists_view, matrix, parts_at, parts_view, plant_at, plant_view, refs_at, square_row, square_rows, steps_at, steps_view, three_at, three_rows, thrusters_at, two_at, vessel_at, wind_at, yaw_at}
use Rattle.dp_plant.specs.declared.cert.Cert.{Cert}
use Rattle.dp_plant.specs.declared.cert.Lists.{Lists}
use Rattle.dp_plant.specs.declared.cert.Parts.{Parts}
use Rattle.dp_plant.specs.declared.cert.Parts.TheVariants.{Three, Five}
use Rattle.dp_plant.specs.declared.file.certificate.Steps.{Steps}
use Rattle.dp_plant.specs.declared.file.references.Reference.{Reference}
use Rattle.dp_plant.specs.declared.file.vessel.Vessel.{Vessel}
use Rattle.dp_plant.specs.declared.gains.Gains.{Gains}
use Rattle.dp_plant.specs.declared.gains.YawGains.{YawGains}
use Rattle.dp_plant.specs.declared.plant.Plant.{Plant}
use Rattle.dp_plant.specs.declared.thrusters.RawCase.{RawCase}
use Rattle.dp_plant.specs.declared.thrusters.Thruster.{Thruster}
use Rattle.dp_plant.specs.declared.wind.WindTable.{WindTable}
use Rattle.dp_plant.specs.PlantRanges.{IsWithinFile}
use Rattle.dp_plant.proofs.FilePlants.{parts_within}
use Rattle.dp_plant.proofs.FileRanges.{all_each, chain_ok, found_ok, listed_ok, ok_is, wholes_long}
use Rattle.dp_plant.proofs.Matrices.{five_symmetric, three_symmetric}

-- the square of a row
abbrev square_from : (n : ℕ) → List ℤ → Square n
square_from n [] = record { d = pos 0; l = [] }
square_from n (d ∷ l) = record { d = d; l = l }

row_back : (n : ℕ) (row : List ℤ) → length row ≡ n + 1 → square_row (square_from n row) ≡ row
row_back n [] long = absurd (omega arith)
row_back n (d ∷ l) long = refl

rows_back : (n : ℕ) (rs : List (List ℤ)) → All (λ r. length r ≡ n + 1) rs → map square_row (map (square_from n) rs) ≡ rs
rows_back n [] all = refl
rows_back n (r ∷ rs) all = ap₂ (λ x xs. x ∷ xs) (row_back n r (all 0 r (omega arith))) (rows_back n rs (λ k d lt. all (suc k) d (omega arith)))

squares_from : (n : ℕ) (s : Section) (name : List ℕ) (rs : List (List ℤ)) → squares_at n s name ≡ Ok rs → (q : Squares n) × (square_rows q ≡ rs)
unfolding squares_at
squares_from n s name rs h =
    let (d, shaped) = found_ok _ (rows (n + 1) 0 8) _ rs h in
    let (items, (each, fits)) = listed_ok 0 8 (wholes (n + 1)) d rs shaped in
    let wide = all_each (λ r. length r ≡ n + 1) (wholes (n + 1)) (wholes_long (n + 1)) items rs each in
    (record { list = record { items = map (square_from n) rs } }, rows_back n rs wide)

three_from : (n : ℕ) (s : Section) (first second third : List ℕ) (xs : List (List (List ℤ))) → three_at n s first second third ≡ Ok xs
    → (qs : List (Squares n)) × (map square_rows qs ≡ xs)
unfolding three_at
three_from n s first second third xs h =
    let (x, (a, h1)) = chain_ok (squares_at n s first) _ xs h in
    let (y, (b, h2)) = chain_ok (squares_at n s second) _ xs h1 in
    let (z, (c, h3)) = chain_ok (squares_at n s third) _ xs h2 in
    let (p, i) = squares_from n s first x a in
    let (q, j) = squares_from n s second y b in
    let (r, k) = squares_from n s third z c in
    (p ∷ q ∷ r ∷ [], ap₂ (λ u us. u ∷ us) i (ap₂ (λ v w. v ∷ w ∷ []) j k) ∙ ok_is (x ∷ y ∷ z ∷ []) xs h3)

two_from : (n : ℕ) (s : Section) (first second : List ℕ) (xs : List (List (List ℤ))) → two_at n s first second ≡ Ok xs
    → (qs : List (Squares n)) × (map square_rows qs ≡ xs)
unfolding two_at
two_from n s first second xs h =
    let (x, (a, h1)) = chain_ok (squares_at n s first) _ xs h in
    let (y, (b, h2)) = chain_ok (squares_at n s second) _ xs h1 in
    let (p, i) = squares_from n s first x a in
    let (q, j) = squares_from n s second y b in
    (p ∷ q ∷ [], ap₂ (λ v w. v ∷ w ∷ []) i j ∙ ok_is (x ∷ y ∷ []) xs h2)

steps_from : (n : ℕ) (s : Section) (st : StepRows) → steps_at n s ≡ Ok st → (x : Steps n) × (steps_view x ≡ st)
unfolding steps_at
steps_from n s st h =
    let (form, (a, h1)) = chain_ok (squares_at n s (codes "form")) _ st h in
    let (surge, (b, h2)) = chain_ok (three_at n s (codes "surge0") (codes "surge1") (codes "surge2")) _ st h1 in
    let (sway, (c, h3)) = chain_ok (three_at n s (codes "sway0") (codes "sway1") (codes "sway2")) _ st h2 in
    let (out_surge, (d, h4)) = chain_ok (two_at n s (codes "out_surge0") (codes "out_surge1")) _ st h3 in
    let (out_sway, (e, h5)) = chain_ok (two_at n s (codes "out_sway0") (codes "out_sway1")) _ st h4 in
    let (of_form, i) = squares_from n s (codes "form") form a in
    let (of_surge, j) = three_from n s (codes "surge0") (codes "surge1") (codes "surge2") surge b in
    let (of_sway, k) = three_from n s (codes "sway0") (codes "sway1") (codes "sway2") sway c in
    let (of_out_surge, l) = two_from n s (codes "out_surge0") (codes "out_surge1") out_surge d in
    let (of_out_sway, m) = two_from n s (codes "out_sway0") (codes "out_sway1") out_sway e in
    (record { form = of_form; vertex = of_surge ∷ of_sway ∷ []; output = of_out_surge ∷ of_out_sway ∷ [] }, rw (i, j, k, l, m) (ok_is (record { form = form; vertex = surge ∷ sway ∷ []; output = out_surge ∷ out_sway ∷ [] }) st h5))

abbrev lists_with : List (List ℤ) → List ℤ → StepRows → List (List (List ℤ)) → ListsData
lists_with p span steps spans = record { p = p; span = span; form = steps.form; vertex = steps.vertex; output = steps.output; spans = spans }

three_lists_from : (s : Section) (x : ListsData) → lists_of_three s ≡ Ok x → (y : Lists 3) × (lists_view y ≡ x)
unfolding lists_of_three
three_lists_from s x h =
    let (p, (a, h1)) = chain_ok (numbers_at s (codes "p") 6) _ x h in
    let (span, (b, h2)) = chain_ok (numbers_at s (codes "span") 3) _ x h1 in
    let (steps, (c, h3)) = chain_ok (steps_at 3 s) _ x h2 in
    let (spans, (d, h4)) = chain_ok (three_at 3 s (codes "span0") (codes "span1") (codes "span2")) _ x h3 in
    let (of_steps, i) = steps_from 3 s steps c in
    let (of_spans, j) = three_from 3 s (codes "span0") (codes "span1") (codes "span2") spans d in (
      record { p = record { at = matrix three_rows p }; span = span; form = of_steps.form; vertex = of_steps.vertex; output = of_steps.output; spans = of_spans; symmetric = three_symmetric p },
      ap₂ (lists_with (matrix three_rows p) span) i j ∙ ok_is (lists_with (matrix three_rows p) span steps spans) x h4,
    )

five_lists_from : (s : Section) (x : ListsData) → lists_of_five s ≡ Ok x → (y : Lists 5) × (lists_view y ≡ x)
unfolding lists_of_five
five_lists_from s x h =
    let (p, (a, h1)) = chain_ok (numbers_at s (codes "p") 15) _ x h in
    let (span, (b, h2)) = chain_ok (numbers_at s (codes "span") 5) _ x h1 in
    let (steps, (c, h3)) = chain_ok (steps_at 5 s) _ x h2 in
    let (spans, (d, h4)) = chain_ok (three_at 5 s (codes "span0") (codes "span1") (codes "span2")) _ x h3 in
    let (waves, (e, h5)) = chain_ok (two_at 5 s (codes "span3") (codes "span4")) _ x h4 in
    let (of_steps, i) = steps_from 5 s steps c in
    let (of_spans, j) = three_from 5 s (codes "span0") (codes "span1") (codes "span2") spans d in
    let (of_waves, k) = two_from 5 s (codes "span3") (codes "span4") waves e in
    let joined = map-append square_rows of_spans of_waves ∙ ap₂ (λ u v. u ++ v) j k in (
      record { p = record { at = matrix five_rows p }; span = span; form = of_steps.form; vertex = of_steps.vertex; output = of_steps.output; spans = of_spans ++ of_waves; symmetric = five_symmetric p },
      ap₂ (lists_with (matrix five_rows p) span) i joined ∙ ok_is (lists_with (matrix five_rows p) span steps (spans ++ waves)) x h5,
    )

parts_by : (three : Bool) (s : Section) (x : PartsData)
    → (if three then lists_of_three s >>= (λ l. Ok (of_three l)) else lists_of_five s >>= (λ l. Ok (of_five l))) ≡ Ok x → (y : Parts) × (parts_view y ≡ x)
parts_by true s x h =
    let (lists, (a, last)) = chain_ok (lists_of_three s) _ x h in
    let (of_lists, i) = three_lists_from s lists a in
    (Three of_lists, ap of_three i ∙ ok_is (of_three lists) x last)
parts_by false s x h =
    let (lists, (a, last)) = chain_ok (lists_of_five s) _ x h in
    let (of_lists, i) = five_lists_from s lists a in
    (Five of_lists, ap of_five i ∙ ok_is (of_five lists) x last)

parts_from : (version : ℕ) (s : Section) (x : PartsData) → parts_at version s ≡ Ok x → (y : Parts) × (parts_view y ≡ x)
unfolding parts_at
parts_from version s x h = parts_by (version == 1) s x h

abbrev cert_with : ℤ → ℤ → ℤ → List ℤ → PartsData → CertData
cert_with rho b r g parts = record { rho = rho; b = b; r = r; g = g; parts = parts }

cert_from : (version : ℕ) (document : Option Data) (x : CertData) → cert_at version document ≡ Ok x → (y : Cert) × (cert_view y ≡ x)
unfolding cert_at
cert_from version document x h =
    let s = plain document (codes "cert") in
    let (rho, (a, h1)) = chain_ok (number_at s (codes "rho")) _ x h in
    let (b, (c, h2)) = chain_ok (number_at s (codes "b")) _ x h1 in
    let (r, (d, h3)) = chain_ok (number_at s (codes "r")) _ x h2 in
    let (g, (e, h4)) = chain_ok (numbers_at s (codes "g") 2) _ x h3 in
    let (parts, (f, h5)) = chain_ok (parts_at version s) _ x h4 in
    let (of_parts, i) = parts_from version s parts f in
    (record { rho = rho; b = b; r = r; g = g; parts = of_parts }, ap (cert_with rho b r g) i ∙ ok_is (cert_with rho b r g parts) x h5)

-- the data and the plant of what is read
abbrev data_of : Vessel → List Reference → WindTable → List Thruster → List RawCase → Gains → YawGains → CertData → PlantData
data_of v rs w ts cs g y c = record {
  version = v.version;
  cycle_ms = v.cycle_ms;
  origin = v.origin;
  start = v.start;
  setpoint = v.setpoint;
  groups = v.groups;
  mass = v.mass;
  tol = v.tol;
  refs = map (λ r. r.limits) rs;
  levers = map (λ r. r.lever) rs;
  wind = w;
  thrusters = ts;
  cases = cs;
  gains = g;
  yaw = y;
  cert = c;
}

module _ (v : Vessel) (rs : List Reference) (w : WindTable) (ts : List Thruster) (cs : List RawCase) (g : Gains) (y : YawGains) (c : Cert) where
  abbrev IsWithin : Type 0
  IsWithin = IsWithinFile v.version v.cycle_ms v.origin v.start v.setpoint v.groups v.mass v.tol (map (λ r. r.limits) rs) (map (λ r. r.lever) rs) w ts cs g c.parts

  plant_of_parts : IsWithin → (p : Plant) × (plant_view p ≡ data_of v rs w ts cs g y (cert_view c))
  plant_of_parts within = (
    record {
      version = v.version;
      cycle_ms = v.cycle_ms;
      origin = v.origin;
      start = v.start;
      setpoint = v.setpoint;
      groups = v.groups;
      mass = v.mass;
      tol = v.tol;
      refs = map (λ r. r.limits) rs;
      levers = map (λ r. r.lever) rs;
      wind = w;
      thrusters = record { items = ts };
      cases = record { items = cs };
      gains = g;
      yaw = y;
      cert = c;
      within = within;
    },
    refl,
  )

pub plant_from : (document : Option Data) (d : PlantData) → plant_at document ≡ Ok d → (p : Plant) × (plant_view p ≡ d)
unfolding plant_at
plant_from document d h =
    let (v, (a, h1)) = chain_ok (vessel_at document) _ d h in
    let (rs, (b, h2)) = chain_ok (refs_at document) _ d h1 in
    let (w, (c, h3)) = chain_ok (wind_at document) _ d h2 in
    let (ts, (e, h4)) = chain_ok (thrusters_at document v.groups) _ d h3 in
    let (cs, (f, h5)) = chain_ok (cases_at document v.groups (length ts)) _ d h4 in
    let (g, (k, h6)) = chain_ok (gains_at v.version document) _ d h5 in
    let (y, (l, h7)) = chain_ok (yaw_at document) _ d h6 in
    let (x, (m, h8)) = chain_ok (cert_at v.version document) _ d h7 in
    let (cert, i) = cert_from v.version document x m in
    let within = parts_within document v rs w ts cs g cert a b c e f k (m ∙ ap Ok (sym i)) in
    let (p, shows) = plant_of_parts v rs w ts cs g y cert within in
    (p, shows ∙ (ap (data_of v rs w ts cs g y) i ∙ ok_is (data_of v rs w ts cs g y x) d h8))
