-- What holds of a machine's parts goes on holding, cycle after cycle.
use Rattle.std.proofs.Common.{◌≡◌, ℕ, zero, suc, ◌+◌, ◌-◌, min, List, [], ◌∷◌, ◌++◌, length, All, sym, ◌∙◌, ap, subst, arith, ℤ}
use Rattle.std.proofs.lemmas.List.{length-append, length-drop}
use Rattle.std.proofs.lemmas.List.Elements.{All-append, All-drop}
use Rattle.circular_buffer.specs.Buffer.{Buffer, buffer, keep_last}
use Rattle.dp_plant.specs.declared.frames.Slot.{Slot}
use Rattle.dp_plant.specs.declared.place.Place.{Place}
use Rattle.dp_plant.specs.declared.plant.Plant.{Plant}
use Rattle.dp_plant.specs.declared.references.RefLimits.{RefLimits}
use Rattle.dp_reftest.specs.declared.kept.Kept.{Kept}
use Rattle.dp_reftest.specs.Tested.{Tested, tested_by}
use Rattle.dp_reftest.specs.Window.{last_of}
use Rattle.dp_machine.specs.declared.references.References.{References}
use Rattle.dp_machine.specs.Parts.{AreDemands, AreReferences, AreTaken}
use Rattle.dp_alloc.specs.Ranges.{IsDemandWithin}
use Rattle.dp_machine.specs.Step.{limits_at}

same_limits : (t u : Tested) (limits : RefLimits) (next : ℕ) (kept : Kept) → t.limits ≡ limits → u ≡ tested_by t.limits next kept → u.limits ≡ limits
same_limits t u limits next kept l e = ap (λ (v : Tested). v.limits) e ∙ l

same_next : (t u : Tested) (next : ℕ) (kept : Kept) → u ≡ tested_by t.limits next kept → u.next ≡ next
same_next t u next kept e = ap (λ (v : Tested). v.next) e

-- ---- the tests of the references
pub references_set : (p : Plant) (n next : ℕ) (refs after : References) (a b c : Kept) → AreReferences p n refs
    → after.first ≡ tested_by refs.first.limits next a → after.second ≡ tested_by refs.second.limits next b → after.third ≡ tested_by refs.third.limits next c
    → AreReferences p next after
references_set p n next refs after a b c are d e f = record {
  first_limits = same_limits refs.first after.first (limits_at p 0) next a are.first_limits d;
  second_limits = same_limits refs.second after.second (limits_at p 1) next b are.second_limits e;
  third_limits = same_limits refs.third after.third (limits_at p 2) next c are.third_limits f;
  first_next = same_next refs.first after.first next a d;
  second_next = same_next refs.second after.second next b e;
  third_next = same_next refs.third after.third next c f;
}

pub references_go : (p : Plant) (n : ℕ) (refs after : References) (pos : List (Slot Place)) → AreReferences p n refs → AreTaken refs after n pos
    → AreReferences p (n + 1) after
references_go p n refs after pos are heard = references_set p n (n + 1) refs after _ _ _ are heard.first heard.second heard.third

-- ---- the last demands
last_few : (xs : List (List ℤ)) (demand : List ℤ) (n : ℕ) → length xs ≡ min 60 n → length (last_of 60 (xs ++ demand ∷ [])) ≡ min 60 (n + 1)
last_few xs demand n few = omega (arith, few, length-append xs (demand ∷ []), length-drop (length (xs ++ demand ∷ []) - 60) (xs ++ demand ∷ []))

all_one : (demand : List ℤ) → IsDemandWithin demand → All IsDemandWithin (demand ∷ [])
all_one demand w zero d l = w
all_one demand w (suc k) d l = absurd (omega (arith, l))

pub last_is : (ring after : Buffer (List ℤ)) (demand : List ℤ) → ring.capacity ≡ 60 → after ≡ buffer (keep_last ring.capacity (ring.items ++ demand ∷ [])) ring.capacity
    → after.items ≡ last_of 60 (ring.items ++ demand ∷ [])
last_is ring after demand c e = ap (λ (b : Buffer (List ℤ)). b.items) e ∙ ap (λ (k : ℕ). last_of k (ring.items ++ demand ∷ [])) c

pub demands_go : (n : ℕ) (ring after : Buffer (List ℤ)) (demand : List ℤ) → AreDemands n ring → IsDemandWithin demand
    → after ≡ buffer (keep_last ring.capacity (ring.items ++ demand ∷ [])) ring.capacity → AreDemands (n + 1) after
demands_go n ring after demand are w e =
    let items = last_is ring after demand are.capacity e in
    record {
      capacity = ap (λ (b : Buffer (List ℤ)). b.capacity) e ∙ are.capacity;
      few = ap length items ∙ last_few ring.items demand n are.few;
      within = subst (All IsDemandWithin) (sym items)
          (All-drop IsDemandWithin (length (ring.items ++ demand ∷ []) - 60) (ring.items ++ demand ∷ []) (All-append IsDemandWithin ring.items (demand ∷ []) are.within (all_one demand w)));
    }

pub demands_set : (n : ℕ) (ring after : Buffer (List ℤ)) (items : List (List ℤ)) → ring.capacity ≡ 60 → length items ≡ min 60 n → All IsDemandWithin items
    → after ≡ buffer items ring.capacity → AreDemands n after
demands_set n ring after items c few within e = record {
  capacity = ap (λ (b : Buffer (List ℤ)). b.capacity) e ∙ c;
  few = ap (λ (b : Buffer (List ℤ)). length b.items) e ∙ few;
  within = subst (λ (b : Buffer (List ℤ)). All IsDemandWithin b.items) (sym e) within;
}
