-- What the table of keys reads makes a plant within the ranges of the file.
use Rattle.std.proofs.Common.{◌≡◌, List, [], ◌∷◌, length, map, get_or, Option, Ok, refl, subst, arith}
use Rattle.std.proofs.lemmas.List.Elements.{All-map}
use Rattle.toml.specs.Data.{Data}
use Rattle.dp_plant.specs.PlantFile.{cases_at, cert_at, cert_view, gains_at, refs_at, thrusters_at, vessel_at, wind_at}
use Rattle.dp_plant.specs.PlantRanges.{AreRefLimits, IsLever, IsWithinFile}
use Rattle.dp_plant.specs.declared.cert.Cert.{Cert}
use Rattle.dp_plant.specs.declared.file.references.Reference.{Reference}
use Rattle.dp_plant.specs.declared.file.vessel.Vessel.{Vessel}
use Rattle.dp_plant.specs.declared.gains.Gains.{Gains}
use Rattle.dp_plant.specs.declared.thrusters.RawCase.{RawCase}
use Rattle.dp_plant.specs.declared.thrusters.Thruster.{Thruster}
use Rattle.dp_plant.specs.declared.wind.WindTable.{WindTable}
use Rattle.dp_plant.proofs.FileCases.{cases_within}
use Rattle.dp_plant.proofs.FileRanges.{refs_three, refs_within, thrusters_within, vessel_within, wind_within}
use Rattle.dp_plant.proofs.FileVersions.{version_within}

one_by_one : {A : Type 0} (xs : List A) (d : A) → length xs ≡ 3 → xs ≡ get_or xs 0 d ∷ get_or xs 1 d ∷ get_or xs 2 d ∷ []
one_by_one (x ∷ y ∷ z ∷ []) d long = refl
one_by_one [] d long = absurd (omega arith)
one_by_one (x ∷ []) d long = absurd (omega arith)
one_by_one (x ∷ y ∷ []) d long = absurd (omega arith)
one_by_one (x ∷ y ∷ z ∷ u ∷ xs) d long = absurd (omega arith)

pub parts_within : (document : Option Data) (v : Vessel) (rs : List Reference) (w : WindTable) (ts : List Thruster) (cs : List RawCase) (g : Gains) (c : Cert)
    → vessel_at document ≡ Ok v → refs_at document ≡ Ok rs → wind_at document ≡ Ok w → thrusters_at document v.groups ≡ Ok ts
    → cases_at document v.groups (length ts) ≡ Ok cs → gains_at v.version document ≡ Ok g → cert_at v.version document ≡ Ok (cert_view c)
    → IsWithinFile v.version v.cycle_ms v.origin v.start v.setpoint v.groups v.mass v.tol (map (λ r. r.limits) rs) (map (λ r. r.lever) rs) w ts cs g c.parts
unfolding IsWithinFile
parts_within document v rs w ts cs g c vessel refs wind thrusters cases gains cert =
    let of_vessel = vessel_within document v vessel in
    let of_refs = refs_within document rs refs in
    let of_thrusters = thrusters_within document v.groups ts of_vessel.groups_low of_vessel.groups_high thrusters in
    let of_cases = cases_within document v.groups ts cs of_vessel.groups_high of_thrusters.members cases in
    record {
      of_version = version_within v.version document g c of_vessel.version_low of_vessel.version_high gains cert;
      cycle_low = of_vessel.cycle_low;
      cycle_high = of_vessel.cycle_high;
      origin_within = of_vessel.origin;
      start_within = of_vessel.start;
      setpoint_within = of_vessel.setpoint;
      groups_low = of_vessel.groups_low;
      groups_high = of_vessel.groups_high;
      masses = of_vessel.masses;
      tolerances = of_vessel.tolerances;
      references = All-map AreRefLimits (λ (q : Reference). q.limits) rs (λ n z lt. (of_refs n z lt).limits);
      arms = All-map IsLever (λ (q : Reference). q.lever) rs (λ n z lt. (of_refs n z lt).lever);
      pushes = wind_within document w wind;
      each_thruster = of_thrusters.each;
      some_thrusters = of_thrusters.some;
      few_thrusters = of_thrusters.few;
      each_case = of_cases.0;
      grouped = of_cases.1;
    }

-- the three references one by one
pub three_within : (document : Option Data) (v : Vessel) (rs : List Reference) (w : WindTable) (ts : List Thruster) (cs : List RawCase) (g : Gains) (c : Cert) (d : Reference)
    → vessel_at document ≡ Ok v → refs_at document ≡ Ok rs → wind_at document ≡ Ok w → thrusters_at document v.groups ≡ Ok ts
    → cases_at document v.groups (length ts) ≡ Ok cs → gains_at v.version document ≡ Ok g → cert_at v.version document ≡ Ok (cert_view c)
    → IsWithinFile v.version v.cycle_ms v.origin v.start v.setpoint v.groups v.mass v.tol
    ((get_or rs 0 d).limits ∷ (get_or rs 1 d).limits ∷ (get_or rs 2 d).limits ∷ [])
    ((get_or rs 0 d).lever ∷ (get_or rs 1 d).lever ∷ (get_or rs 2 d).lever ∷ []) w ts cs g c.parts
three_within document v rs w ts cs g c d vessel refs wind thrusters cases gains cert =
    subst (λ (xs : List Reference). IsWithinFile v.version v.cycle_ms v.origin v.start v.setpoint v.groups v.mass v.tol (map (λ r. r.limits) xs) (map (λ r. r.lever) xs) w ts cs g c.parts)
    (one_by_one rs d (refs_three document rs refs))
    (parts_within document v rs w ts cs g c vessel refs wind thrusters cases gains cert)
