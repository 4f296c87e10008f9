-- The cause that at least two of three give.
use Rattle.std.proofs.Common.{◌≡◌, ℕ, zero, suc, Bool, true, ◌&&◌, if◌then◌else◌, [], ◌∷◌, sym, ap, ◌∙◌, refl}
use Rattle.std.proofs.lemmas.Bool.{and_parts, eqb-true}
use Rattle.dp_plant.specs.declared.alarms.Cause.{Cause}
use Rattle.dp_plant.specs.declared.alarms.Cause.TheVariants.{Good, Silent, Stale, Frozen, Jumped, Noisy}
use Rattle.dp_report.specs.Agreement.{agreed_cause, cause_number, is_cause}

-- a test of all causes
abbrev all_pass : (Cause → Bool) → Bool
all_pass p = p Good && (p Silent && (p Stale && (p Frozen && (p Jumped && p Noisy))))

one_passes : (p : Cause → Bool) → all_pass p ≡ true → (c : Cause) → p c ≡ true
one_passes p h c =
    let h1 = and_parts (p Good) _ h in
    let h2 = and_parts (p Silent) _ h1.1 in
    let h3 = and_parts (p Stale) _ h2.1 in
    let h4 = and_parts (p Frozen) _ h3.1 in
    let h5 = and_parts (p Jumped) (p Noisy) h4.1 in
    elim c as (λ d. p d ≡ true) [
      | Good ↦ h1.0
      | Silent ↦ h2.0
      | Stale ↦ h3.0
      | Frozen ↦ h4.0
      | Jumped ↦ h5.0
      | Noisy ↦ h5.1
    ]

abbrev by_pairs : Cause → Cause → Cause → Cause
by_pairs a b c = if is_cause a b then a else (if is_cause b c then b else (if is_cause c a then c else Good))

abbrev is_right : Cause → Cause → Cause → Bool
is_right a b c = is_cause (agreed_cause (a ∷ b ∷ c ∷ [])) (by_pairs a b c)

-- all three causes, each of six
all_right : all_pass (λ a. all_pass (λ b. all_pass (λ c. is_right a b c))) ≡ true
unfolding agreed_cause
all_right = refl

-- the cause of a number
abbrev cause_of : ℕ → Cause
cause_of zero = Good
cause_of (suc zero) = Silent
cause_of (suc (suc zero)) = Stale
cause_of (suc (suc (suc zero))) = Frozen
cause_of (suc (suc (suc (suc zero)))) = Jumped
cause_of (suc (suc (suc (suc (suc n))))) = Noisy

cause_of-number : (a : Cause) → cause_of (cause_number a) ≡ a
cause_of-number Good = refl
cause_of-number Silent = refl
cause_of-number Stale = refl
cause_of-number Frozen = refl
cause_of-number Jumped = refl
cause_of-number Noisy = refl

-- causes that pass the test are equal
same_cause : (a b : Cause) → is_cause a b ≡ true → a ≡ b
same_cause a b h = sym (cause_of-number a) ∙ ap cause_of (eqb-true (cause_number a) (cause_number b) h) ∙ cause_of-number b

pub voted_cause : (a b c : Cause) → agreed_cause (a ∷ b ∷ c ∷ []) ≡ (if is_cause a b then a else (if is_cause b c then b else (if is_cause c a then c else Good)))
voted_cause a b c =
    same_cause _ _ (one_passes (is_right a b) (one_passes (λ y. all_pass (is_right a y)) (one_passes (λ x. all_pass (λ y. all_pass (is_right x y))) all_right a) b) c)
