-- A plant file comes to one thing, whatever judges the gains; and what it comes to, from what was read and judged.
use Rattle.std.proofs.Common.{◌≡◌, ℕ, Bool, true, false, if◌then◌else◌, List, Option, Some, None, Err, Ok, Result, IfErr, IfSome, IsSomeAnd, refl, sym, ap, ◌∙◌, subst}
use Rattle.std.specs.Option.{option_map, option_or}
use Rattle.toml.specs.Data.{Data, Members, table}
use Rattle.dp_alloc.specs.Refusals.{AreAccepted}
use Rattle.dp_alloc.specs.declared.fault.CaseRefusal.{CaseRefusal}
use Rattle.dp_plant.proofs.PlantFrom.{plant_from}
use Rattle.dp_plant.specs.Keys.{Fault as KeyFault}
use Rattle.dp_plant.specs.PlantFile.{PlantData, plant_at, plant_view}
use Rattle.dp_plant.specs.declared.plant.Plant.{Plant}
use Rattle.dp_accept.specs.declared.refusals.GainsRefusal.{GainsRefusal}
use Rattle.dp_accept.specs.declared.refusals.PlantRefusal.TheVariants as refusal
use Rattle.dp_accept.specs.declared.trouble.PlantTrouble.{PlantTrouble}
use Rattle.dp_accept.specs.declared.trouble.PlantTrouble.TheVariants as trouble
use Rattle.dp_accept.specs.Prefixes.{Prefix, prefix_of}
use Rattle.dp_shell.specs.Texts.{Files, text_named}
use Rattle.dp_accept.specs.PlantFiles.{GivesPlant, IsOfFile, Judged, cases_fault, data_by_keys, data_in, data_of, data_within, document_of, plant_fault, plant_limit, unless_refused}
use Rattle.dp_accept.proofs.SamePlants.{same_plant}

-- ---- data are those of a document

found_or : PlantData → Result PlantData PlantTrouble → PlantData
found_or other (Ok found) = found
found_or other (Err why) = other

data_by : (r : Result PlantData KeyFault) (found : PlantData) → data_by_keys r ≡ Ok found → r ≡ Ok found
unfolding found_or
data_by (Ok x) found is = ap Ok (ap (found_or x) is)
data_by (Err e) found is = absurd cc

by_document : (o : Option Members) (found : PlantData) → data_of o ≡ Ok found → (document : Option Data) × (plant_at document ≡ Ok found)
by_document (Some ms) found is = (Some (table ms), data_by (plant_at (Some (table ms))) found is)
by_document None found is = absurd cc

by_prefix : (f : Prefix) (b : Bool) (found : PlantData) → (if b then Err trouble.Long else data_of (document_of f.text)) ≡ Ok found
    → (document : Option Data) × (plant_at document ≡ Ok found)
by_prefix f true found is = absurd cc
by_prefix f false found is = by_document (document_of f.text) found is

pub document_in : (text : Option (List ℕ)) (found : PlantData) → data_in text ≡ Ok found → (document : Option Data) × (plant_at document ≡ Ok found)
unfolding data_within
document_in (Some text) found is = by_prefix (prefix_of plant_limit text) (prefix_of plant_limit text).goes_on found is
document_in None found is = absurd cc

module _ (judge : Plant → Option GainsRefusal) where
  -- ---- it is one thing

  by_data : (d : Result PlantData PlantTrouble) (r q : Result Plant PlantTrouble) → Judged judge d r → Judged judge d q → r ≡ q
  by_data (Err why) r q a b = a ∙ sym b
  by_data (Ok found) r q (p, p_is, a) (s, s_is, b) =
      a ∙ ap (λ (x : Plant). unless_refused (plant_fault judge x) x) (same_plant p s (p_is ∙ sym s_is)) ∙ sym b

  pub given_once : (text : Option (List ℕ)) (r q : Result Plant PlantTrouble) → GivesPlant judge text r → GivesPlant judge text q → r ≡ q
  given_once text r q a b = by_data (data_in text) r q a b

  -- ---- there is one

  some_given : (text : Option (List ℕ)) (d : Result PlantData PlantTrouble) → data_in text ≡ d → (r : Result Plant PlantTrouble) × Judged judge d r
  some_given text (Err why) is = (Err why, refl)
  some_given text (Ok found) is =
      let read = document_in text found is in
      let made = plant_from read.0 found read.1 in
      (unless_refused (plant_fault judge made.0) made.0, (made.0, made.1, refl))

  pub something_given : (text : Option (List ℕ)) → (r : Result Plant PlantTrouble) × GivesPlant judge text r
  something_given text = some_given text (data_in text) refl

  -- ---- a plant that is given was judged

  sound_by : (o : Option PlantTrouble) (p q : Plant) → plant_fault judge q ≡ o → Ok p ≡ unless_refused o q → (p ≡ q) × (plant_fault judge q ≡ None)
  sound_by None p q e is = (cc, e)
  sound_by (Some why) p q e is = absurd cc

  sound_in : (d : Result PlantData PlantTrouble) (p : Plant) → Judged judge d (Ok p) → (d ≡ Ok (plant_view p)) × (plant_fault judge p ≡ None)
  sound_in (Err why) p is = absurd cc
  sound_in (Ok found) p (q, view_is, is) =
      let both = sound_by (plant_fault judge q) p q refl is in
      (ap Ok (sym view_is) ∙ ap (λ (x : Plant). Ok (plant_view x)) (sym both.0), ap (plant_fault judge) both.0 ∙ both.1)

  pub given_sound : (text : Option (List ℕ)) (p : Plant) → GivesPlant judge text (Ok p) → (data_in text ≡ Ok (plant_view p)) × (plant_fault judge p ≡ None)
  given_sound text p is = sound_in (data_in text) p is

  -- ---- from what was read and judged

  module _ (text : Option (List ℕ)) where
    module _ (p : Plant) (found : data_in text ≡ Ok (plant_view p)) where
      by_fault : (o : Option PlantTrouble) → plant_fault judge p ≡ o → GivesPlant judge text (unless_refused o p)
      by_fault o is =
          subst (λ (d : Result PlantData PlantTrouble). Judged judge d (unless_refused o p)) (sym found)
          (p, refl, ap (λ (f : Option PlantTrouble). unless_refused f p) (sym is))

      -- a case was refused
      pub bad_case : (why : PlantTrouble) → cases_fault p ≡ Some why → GivesPlant judge text (Err why)
      bad_case why is = by_fault (Some why) (ap (λ (o : Option PlantTrouble). option_or o (option_map trouble.Gains (judge p))) is)

      judged : AreAccepted p → (o : Option GainsRefusal) → judge p ≡ o → plant_fault judge p ≡ option_map trouble.Gains o
      judged none o is =
          ap (λ (c : Option CaseRefusal). option_or (option_map (λ r. trouble.Plant (refusal.Case r)) c) (option_map trouble.Gains (judge p))) none
          ∙ ap (option_map trouble.Gains) is

      -- its gains were
      pub bad_gains : AreAccepted p → (why : GainsRefusal) → judge p ≡ Some why → GivesPlant judge text (Err (trouble.Gains why))
      bad_gains none why is = by_fault (Some (trouble.Gains why)) (judged none (Some why) is)

      -- nothing was
      pub good_plant : AreAccepted p → judge p ≡ None → GivesPlant judge text (Ok p)
      good_plant none is = by_fault None (judged none None is)

  -- and where the files are told
  module _ (name : List ℕ) (p : Plant) (none : AreAccepted p) where
    pub file_good : (files : Option Files) (q : Plant) → q ≡ p → IfSome files (λ told. data_in (text_named told name) ≡ Ok (plant_view p)) → judge p ≡ None
        → IfSome files (λ told. GivesPlant judge (text_named told name) (Ok q))
    file_good None q same found is = tt
    file_good (Some told) q same found is =
        subst (λ (r : Plant). GivesPlant judge (text_named told name) (Ok r)) (sym same) (good_plant (text_named told name) p found none is)

    pub file_bad : (files : Option Files) (why : GainsRefusal) → IfSome files (λ told. data_in (text_named told name) ≡ Ok (plant_view p)) → judge p ≡ Some why
        → IfSome files (λ told. GivesPlant judge (text_named told name) (Err (trouble.Gains why)))
    file_bad None why found is = tt
    file_bad (Some told) why found is = bad_gains (text_named told name) p found none why is

-- ---- a file that was read

data_of_text : (t : Option (List ℕ)) (part : Prefix) (d : Result PlantData PlantTrouble) → IsSomeAnd t (λ text. part ≡ prefix_of plant_limit text) → data_within part ≡ d → data_in t ≡ d
data_of_text (Some text) part d read is = ap data_within (sym read) ∙ is
data_of_text None part d read is = absurd read

case_by : (files : Option Files) (name : List ℕ) (part : Prefix) (p : Plant) (why : PlantTrouble)
    → IfSome files (λ told. IsSomeAnd (text_named told name) (λ text. part ≡ prefix_of plant_limit text)) → data_within part ≡ Ok (plant_view p) → cases_fault p ≡ Some why
    → IfSome files (λ told. (judge : Plant → Option GainsRefusal) → GivesPlant judge (text_named told name) (Err why))
case_by None name part p why read is bad = tt
case_by (Some told) name part p why read is bad = λ judge.
    bad_case judge (text_named told name) p (data_of_text (text_named told name) part (Ok (plant_view p)) read is) why bad

-- a case of its plant is refused
pub case_refused : (r : Result Plant PlantTrouble) (files : Option Files) (name : List ℕ) (part : Prefix) (p : Plant)
    → IfSome files (λ told. IsSomeAnd (text_named told name) (λ text. part ≡ prefix_of plant_limit text)) → data_within part ≡ Ok (plant_view p)
    → IfErr r (λ why. cases_fault p ≡ Some why)
    → IfErr r (λ why. IsOfFile why → IfSome files (λ told. (judge : Plant → Option GainsRefusal) → GivesPlant judge (text_named told name) (Err why)))
case_refused (Ok x) files name part p read is bad = tt
case_refused (Err why) files name part p read is bad = λ of. case_by files name part p why read is bad
