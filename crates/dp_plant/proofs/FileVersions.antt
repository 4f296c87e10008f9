-- Which gains and which certificate the table of keys reads in each version of the file.
use Rattle.std.proofs.Common.{◌≡◌, ℕ, zero, suc, ◌≤◌, Option, Ok, refl, subst, arith, codes}
use Rattle.toml.specs.Data.{Data}
use Rattle.dp_plant.specs.Keys.{Section, number_at, numbers_at, plain}
use Rattle.dp_plant.specs.PlantFile.{CertData, PartsData, of_three, of_five, cert_at, cert_view, gains_at, lists_of_five, lists_of_three, parts_at, parts_view, waves_at}
use Rattle.dp_plant.specs.PlantRanges.{HasNoWaves, IsOfVersion}
use Rattle.dp_plant.specs.declared.cert.Cert.{Cert}
use Rattle.dp_plant.specs.declared.cert.Parts.{Parts}
use Rattle.dp_plant.specs.declared.cert.Parts.TheVariants.{Three, Five}
use Rattle.dp_plant.specs.declared.gains.Gains.{Gains}
use Rattle.dp_plant.proofs.FileRanges.{chain_ok, ok_is}

no_waves_in_one : (document : Option Data) (g : Gains) → gains_at 1 document ≡ Ok g → HasNoWaves g
unfolding gains_at waves_at
no_waves_in_one document g h =
    let s = plain document (codes "gains") in
    let (k2, (a, h1)) = chain_ok (number_at s (codes "k2")) _ g h in
    let (k3, (b, h2)) = chain_ok (number_at s (codes "k3")) _ g h1 in
    let (k4, (c, h3)) = chain_ok (number_at s (codes "k4")) _ g h2 in
    let (leak, (d, h4)) = chain_ok (number_at s (codes "leak")) _ g h3 in
    let (damp, (e, h5)) = chain_ok (number_at s (codes "damp")) _ g h4 in
    let (kp, (f, h6)) = chain_ok (numbers_at s (codes "kp") 2) _ g h5 in
    let (kd, (i, h7)) = chain_ok (numbers_at s (codes "kd") 2) _ g h6 in
    let (bias, (j, h8)) = chain_ok (numbers_at s (codes "bias") 2) _ g h7 in
    subst HasNoWaves (ok_is _ g h8) (record { wave = refl; k1 = refl })

abbrev IsDataOfVersion : ℕ → Gains → PartsData → Type 0
IsDataOfVersion version g (of_three x) = (version ≡ 1) × HasNoWaves g
IsDataOfVersion version g (of_five x) = version ≡ 2

parts_of_version : (version : ℕ) (document : Option Data) (g : Gains) (s : Section) (parts : PartsData) → 1 ≤ version → version ≤ 2
    → gains_at version document ≡ Ok g → parts_at version s ≡ Ok parts → IsDataOfVersion version g parts
unfolding parts_at
parts_of_version zero document g s parts low high gains h = absurd (omega arith)
parts_of_version (suc zero) document g s parts low high gains h =
    let (x, (read, last)) = chain_ok (lists_of_three s) _ parts h in
    subst (IsDataOfVersion 1 g) (ok_is (of_three x) parts last) (refl, no_waves_in_one document g gains)
parts_of_version (suc (suc zero)) document g s parts low high gains h =
    let (x, (read, last)) = chain_ok (lists_of_five s) _ parts h in
    subst (IsDataOfVersion 2 g) (ok_is (of_five x) parts last) refl
parts_of_version (suc (suc (suc n))) document g s parts low high gains h = absurd (omega arith)

cert_of_version : (version : ℕ) (document : Option Data) (g : Gains) (c : CertData) → 1 ≤ version → version ≤ 2
    → gains_at version document ≡ Ok g → cert_at version document ≡ Ok c → IsDataOfVersion version g c.parts
unfolding cert_at
cert_of_version version document gains c low high read h =
    let s = plain document (codes "cert") in
    let (rho, (a, h1)) = chain_ok (number_at s (codes "rho")) _ c h in
    let (b, (d, h2)) = chain_ok (number_at s (codes "b")) _ c h1 in
    let (r, (e, h3)) = chain_ok (number_at s (codes "r")) _ c h2 in
    let (g, (f, h4)) = chain_ok (numbers_at s (codes "g") 2) _ c h3 in
    let (parts, (i, last)) = chain_ok (parts_at version s) _ c h4 in
    subst (λ (x : CertData). IsDataOfVersion version gains x.parts) (ok_is _ c last) (parts_of_version version document gains s parts low high read i)

seen_version : (version : ℕ) (g : Gains) (parts : Parts) → IsDataOfVersion version g (parts_view parts) → IsOfVersion version g parts
seen_version version g (Three x) h = record { states = h.0; no_waves = λ first. h.1 }
seen_version version g (Five x) h = record { states = h; no_waves = λ first. absurd (omega (arith, h, first)) }

pub version_within : (version : ℕ) (document : Option Data) (g : Gains) (c : Cert) → 1 ≤ version → version ≤ 2
    → gains_at version document ≡ Ok g → cert_at version document ≡ Ok (cert_view c) → IsOfVersion version g c.parts
version_within version document g c low high gains cert =
    seen_version version g c.parts (cert_of_version version document g (cert_view c) low high gains cert)
