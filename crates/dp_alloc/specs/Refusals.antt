-- Which of a plant's cases is refused.
use Rattle.std.specs.Prelude.{◌≡◌, ℕ, List, [], ◌∷◌, Option, Some, None, slice_get}
use Rattle.std.specs.Option.{option_map, option_or}
use Rattle.dp_plant.specs.declared.plant.Plant.{Plant}
use Rattle.dp_plant.specs.declared.thrusters.RawCase.{RawCase}
use Rattle.dp_alloc.specs.declared.fault.CaseRefusal.{CaseRefusal}
use Rattle.dp_alloc.specs.Conditions.{case_fault}

-- a case is one of the plant's
pub record IsCaseOf (p : Plant) (c : RawCase) : Type 0 where
  pub number : ℕ
  pub is : slice_get p.cases.items number ≡ Some c

-- a case is refused for its first fault
abbrev pub refusal : Plant → RawCase → Option CaseRefusal
refusal p c = option_map (λ fault. record { lost = c.lost; fault = fault }) (case_fault p c)

-- the first case of a list that is refused
abbrev pub first_of : Plant → List RawCase → Option CaseRefusal
first_of p [] = None
first_of p (c ∷ cs) = option_or (refusal p c) (first_of p cs)

-- the first of the plant's cases, in its order, that is refused
unfoldable pub first_refused : Plant → Option CaseRefusal
first_refused p = first_of p p.cases.items

-- no case of the plant is refused
abbrev pub AreAccepted : Plant → Type 0
AreAccepted p = first_refused p ≡ None
