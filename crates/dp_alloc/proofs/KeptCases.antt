-- The cases of a plant of which none is refused.
use Rattle.std.proofs.Common.{◌≡◌, ◌<◌, ◌==◌, ℕ, zero, suc, Bool, true, false, cond, List, [], ◌∷◌, length, get_or, map, All, Option, Some, None, IfSome, find, refl, sym, ◌∙◌, ap, arith}
use Rattle.std.specs.Option.{option_map}
use Rattle.std.proofs.lemmas.Option.{slice_get-get_or}
use Rattle.dp_plant.specs.declared.plant.Plant.{Plant}
use Rattle.dp_plant.specs.declared.thrusters.RawCase.{RawCase}
use Rattle.dp_alloc.specs.declared.case.Case.{Case}
use Rattle.dp_alloc.specs.declared.fault.CaseFault.{CaseFault}
use Rattle.dp_alloc.specs.declared.fault.CaseRefusal.{CaseRefusal}
use Rattle.dp_alloc.specs.Conditions.{case_fault}
use Rattle.dp_alloc.specs.Refusals.{AreAccepted, IsCaseOf, first_of, first_refused, refusal}
use Rattle.dp_alloc.proofs.Accepting.{at_place}
use Rattle.dp_alloc.proofs.Forces.{option_or-none}

no_fault : (o : Option CaseFault) (f : CaseFault → CaseRefusal) → option_map f o ≡ None → o ≡ None
no_fault None f h = refl
no_fault (Some x) f h = absurd (cc)

none_of : (p : Plant) (cs : List RawCase) → first_of p cs ≡ None → All (λ c. case_fault p c ≡ None) cs
none_of p [] h k d l = absurd (omega (arith, l))
none_of p (c ∷ cs) h zero d l = no_fault (case_fault p c) (λ fault. record { lost = c.lost; fault = fault }) (option_or-none (refusal p c) (first_of p cs) h).0
none_of p (c ∷ cs) h (suc k) d l = none_of p cs (option_or-none (refusal p c) (first_of p cs) h).1 k d (omega (arith, l))

-- each case of the plant has no fault
pub none_faulty : (p : Plant) → AreAccepted p → All (λ c. case_fault p c ≡ None) p.cases.items
unfolding first_refused
none_faulty p accepted = none_of p p.cases.items accepted

-- the one that the loop is at
pub case_at : (p : Plant) (k : ℕ) (c : RawCase) → k < length p.cases.items → c ≡ get_or p.cases.items k c → IsCaseOf p c
case_at p k c l is = record { number = k; is = slice_get-get_or p.cases.items k c l ∙ ap Some (sym is) }

pub fault_none : (p : Plant) (c : RawCase) → AreAccepted p → IsCaseOf p c → case_fault p c ≡ None
fault_none p c accepted of = at_place (λ (d : RawCase). case_fault p d ≡ None) p.cases.items of.number c (none_faulty p accepted) of.is

-- ---- the one that is found
found_by : {X : Type 0} (P : X → Type 0) (test : X → Bool) (x : X) (xs : List X) (b : Bool) → P x → IfSome (find test xs) P → IfSome (cond b (Some x) (find test xs)) P
found_by P test x xs true p rest = p
found_by P test x xs false p rest = rest

-- what holds of all holds of it
pub found : {X : Type 0} (P : X → Type 0) (test : X → Bool) (xs : List X) → All P xs → IfSome (find test xs) P
found P test [] all = tt
found P test (x ∷ xs) all = found_by P test x xs (test x) (all 0 x (omega arith)) (found P test xs (λ k d l. all (suc k) d (omega arith)))

tested_by : {X : Type 0} (test : X → Bool) (x : X) (xs : List X) (b : Bool) → test x ≡ b → IfSome (find test xs) (λ y. test y ≡ true) → IfSome (cond b (Some x) (find test xs)) (λ y. test y ≡ true)
tested_by test x xs true is rest = is
tested_by test x xs false is rest = rest

-- and the test
pub tested : {X : Type 0} (test : X → Bool) (xs : List X) → IfSome (find test xs) (λ x. test x ≡ true)
tested test [] = tt
tested test (x ∷ xs) = tested_by test x xs (test x) refl (tested test xs)

-- ---- cases that are kept
kept_by : (lost : ℕ) (c : Case) (cs : List Case) (b : Bool) → option_map (λ k. k.raw) (find (λ k. k.raw.lost == lost) cs) ≡ find (λ k. k.lost == lost) (map (λ k. k.raw) cs)
    → option_map (λ k. k.raw) (cond b (Some c) (find (λ k. k.raw.lost == lost) cs)) ≡ cond b (Some c.raw) (find (λ k. k.lost == lost) (map (λ k. k.raw) cs))
kept_by lost c cs true e = refl
kept_by lost c cs false e = e

pub found_raw : (lost : ℕ) (cs : List Case) → option_map (λ k. k.raw) (find (λ k. k.raw.lost == lost) cs) ≡ find (λ k. k.lost == lost) (map (λ k. k.raw) cs)
found_raw lost [] = refl
found_raw lost (c ∷ cs) = kept_by lost c cs (c.raw.lost == lost) (found_raw lost cs)
