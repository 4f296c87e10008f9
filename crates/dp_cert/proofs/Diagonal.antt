-- A form that is nowhere below 0 has no diagonal entry below 0.
use Rattle.std.proofs.Common.{◌≡◌, ℕ, zero, suc, List, [], ◌∷◌, refl, subst, ◌∙◌, arith, ℤ, pos, ◌≤ℤ◌}
use Rattle.std.proofs.lemmas.Int.{ints}
use lib.IntN.{zero-*ℤ}
use Rattle.dp_form.specs.Vectors.{dot, apply, row, entry}
use Rattle.dp_form.specs.Form.{form, IsNonNegative}
use Rattle.dp_form.proofs.Bilinear.{dot_comm}
use Rattle.dp_form.proofs.Entries.{place}
use Rattle.dp_form.proofs.Ring.{var, num, ◌⊕◌, ◌⊗◌, ring}
use Rattle.dp_cert.proofs.Sums.{place-apply}

-- 1 at i, after zeros
abbrev at_one : ℕ → List ℤ
at_one zero = pos 1 ∷ []
at_one (suc i) = pos 0 ∷ at_one i

dot-at_one : (i : ℕ) (y : List ℤ) → dot (at_one i) y ≡ place y i
dot-at_one zero [] = refl
dot-at_one zero (b ∷ y) = ring (b ∷ []) (num (pos 1) ⊗ var 0 ⊕ num (pos 0)) (var 0) tt
dot-at_one (suc i) [] = refl
dot-at_one (suc i) (b ∷ y) = let e = dot-at_one i y in let z = zero-*ℤ b in omega (arith, ints)

form-at_one : (p : List (List ℤ)) (i : ℕ) → form p (at_one i) ≡ entry p i i
form-at_one p i = dot-at_one i (apply p (at_one i)) ∙ place-apply p (at_one i) i ∙ dot_comm (row p i) (at_one i) ∙ dot-at_one i (row p i)

pub diagonal_nonneg : (p : List (List ℤ)) (i : ℕ) → IsNonNegative p → pos 0 ≤ℤ entry p i i
diagonal_nonneg p i h = subst (λ (z : ℤ). pos 0 ≤ℤ z) (form-at_one p i) (h (at_one i))
