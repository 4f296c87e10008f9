-- What a plant file's text gives, from what the reader of plant files answers.
use Rattle.std.proofs.Common.{◌≡◌, ◌≢◌, ℕ, Bool, true, false, List, Option, Some, None, Result, Ok, Err, IfErr, IsErrAnd, IsSome, refl, sym, ap, ◌∙◌, subst, if◌then◌else◌}
use Rattle.std.specs.Prelude.{IsUtf8}
use Rattle.std.specs.Str.{is_utf8}
use Rattle.std.proofs.lemmas.Str.{IsUtf8-from_is_utf8, is_utf8-from_IsUtf8}
use Rattle.toml.specs.Data.{Members, table}
use Rattle.toml.specs.Parse.{parse_document}
use Rattle.dp_plant.specs.Keys.{Fails, IsNoDocument}
use Rattle.dp_plant.specs.Keys.{Fault as KeyFault}
use Rattle.dp_plant.specs.PlantFile.{PlantData, plant_at, plant_view}
use Rattle.dp_plant.specs.declared.fault.PlantFault.{PlantFault}
use Rattle.dp_plant.specs.declared.fault.PlantFault.TheVariants as fault
use Rattle.dp_plant.specs.declared.plant.Plant.{Plant}
use Rattle.dp_accept.specs.declared.refusals.PlantRefusal.TheVariants as refusal
use Rattle.dp_accept.specs.declared.trouble.PlantTrouble.{PlantTrouble}
use Rattle.dp_accept.specs.declared.trouble.PlantTrouble.TheVariants as trouble
use Rattle.dp_accept.specs.Prefixes.{Prefix}
use Rattle.dp_accept.specs.PlantFiles.{IsOfFile, data_by_keys, data_of, data_within, document_of, file_trouble}

-- a text is a document, or it isn't
data Text (text : List ℕ) : Type 0 where
  is_document : (ms : Members) → IsUtf8 text → parse_document text ≡ Some ms → document_of text ≡ Some ms → Text text
  is_none : ¬ (IsUtf8 text × IsSome (parse_document text)) → document_of text ≡ None → Text text

text_by : (text : List ℕ) (b : Bool) → is_utf8 text ≡ b → (o : Option Members) → parse_document text ≡ o → Text text
unfolding document_of
text_by text true e (Some ms) p =
    is_document ms (IsUtf8-from_is_utf8 text e) p (ap (λ (b : Bool). if b then parse_document text else None) e ∙ p)
text_by text true e None p =
    is_none (λ h. absurd (let none : IsSome {T = Members} None = subst IsSome p h.1 in cc)) (ap (λ (b : Bool). if b then parse_document text else None) e ∙ p)
text_by text false e o p =
    is_none (λ h. absurd (let both : true ≡ false = sym (is_utf8-from_IsUtf8 text h.0) ∙ e in cc)) (ap (λ (b : Bool). if b then parse_document text else None) e)

text_is : (text : List ℕ) → Text text
text_is text = text_by text (is_utf8 text) refl (parse_document text) refl

pub read_plant : (text : List ℕ) (p : Plant)
    → ((ms : Members) → IsUtf8 text → parse_document text ≡ Some ms → plant_at (Some (table ms)) ≡ Ok (plant_view p))
    → (¬ (IsUtf8 text × IsSome (parse_document text)) → ⊥)
    → data_of (document_of text) ≡ Ok (plant_view p)
read_plant text p document none = by (text_is text)
  where
    by : Text text → data_of (document_of text) ≡ Ok (plant_view p)
    by (is_document ms u d is) = ap data_of is ∙ ap data_by_keys (document ms u d)
    by (is_none never is) = absurd (none never)

-- a key's fault
by_key : (f : PlantFault) (read : Result PlantData KeyFault) → Fails f read → IsOfFile (file_trouble f) → data_by_keys read ≡ Err (file_trouble f)
by_key fault.Memory read h of = absurd of
by_key fault.Toml read h of = absurd h
by_key (fault.Missing key) read h of = ap data_by_keys h
by_key (fault.Kind key) read h of = ap data_by_keys h
by_key (fault.Range key) read h of = ap data_by_keys h

by_none : (f : PlantFault) → IsNoDocument f → IsOfFile (file_trouble f) → data_of None ≡ Err (file_trouble f)
by_none fault.Memory h of = absurd of
by_none fault.Toml h of = refl
by_none (fault.Missing key) h of = absurd h
by_none (fault.Kind key) h of = absurd h
by_none (fault.Range key) h of = absurd h

pub read_fault : (text : List ℕ) (f : PlantFault) (told : PlantTrouble) → told ≡ file_trouble f
    → ((ms : Members) → IsUtf8 text → parse_document text ≡ Some ms → Fails f (plant_at (Some (table ms))))
    → (¬ (IsUtf8 text × IsSome (parse_document text)) → IsNoDocument f)
    → IsOfFile told → data_of (document_of text) ≡ Err told
read_fault text f told same document none of = by (text_is text) ∙ ap Err (sym same)
  where
    by : Text text → data_of (document_of text) ≡ Err (file_trouble f)
    by (is_document ms u d is) = ap data_of is ∙ by_key f (plant_at (Some (table ms))) (document ms u d) (subst IsOfFile same of)
    by (is_none never is) = ap data_of is ∙ by_none f (none never) (subst IsOfFile same of)
