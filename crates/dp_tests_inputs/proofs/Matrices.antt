-- Matrices written out: symmetric, and with entries in range.
use Rattle.std.proofs.Common.{◌^◌, ℕ, zero, suc, [], ◌∷◌, refl, sym, subst, arith, ℤ, pos, to_z, of_z, FitsSigned}
use Rattle.std.proofs.lemmas.Int.{ints, to_z-of_z}
use mir.Syntax.{w128}
use Rattle.std.proofs.lemmas.List.Elements.{All-nil, All-cons}
use Rattle.std.specs.Prelude.{All}
use Rattle.dp_form.specs.Form.{IsSymmetric}
use Rattle.dp_form.specs.Range.{IsWithin}
use Rattle.dp_form.proofs.Literals.{vector3, vector5}

pub symmetric5 : (a b c d e f g h : ℤ) → IsSymmetric 5 ((a ∷ (b ∷ (c ∷ ((pos 0) ∷ ((pos 0) ∷ []))))) ∷ ((b ∷ (d ∷ (e ∷ ((pos 0) ∷ ((pos 0) ∷ []))))) ∷ ((c ∷ (e ∷ (f ∷ ((pos 0) ∷ ((pos 0) ∷ []))))) ∷ (((pos 0) ∷ ((pos 0) ∷ ((pos 0) ∷ (g ∷ ((pos 0) ∷ []))))) ∷ (((pos 0) ∷ ((pos 0) ∷ ((pos 0) ∷ ((pos 0) ∷ (h ∷ []))))) ∷ [])))))
symmetric5 a b c d e f g h zero zero below_i below_j = refl
symmetric5 a b c d e f g h zero (suc zero) below_i below_j = refl
symmetric5 a b c d e f g h zero (suc (suc zero)) below_i below_j = refl
symmetric5 a b c d e f g h zero (suc (suc (suc zero))) below_i below_j = refl
symmetric5 a b c d e f g h zero (suc (suc (suc (suc zero)))) below_i below_j = refl
symmetric5 a b c d e f g h zero (suc (suc (suc (suc (suc i))))) below_i below_j = absurd (omega arith)
symmetric5 a b c d e f g h (suc zero) zero below_i below_j = refl
symmetric5 a b c d e f g h (suc zero) (suc zero) below_i below_j = refl
symmetric5 a b c d e f g h (suc zero) (suc (suc zero)) below_i below_j = refl
symmetric5 a b c d e f g h (suc zero) (suc (suc (suc zero))) below_i below_j = refl
symmetric5 a b c d e f g h (suc zero) (suc (suc (suc (suc zero)))) below_i below_j = refl
symmetric5 a b c d e f g h (suc zero) (suc (suc (suc (suc (suc i))))) below_i below_j = absurd (omega arith)
symmetric5 a b c d e f g h (suc (suc zero)) zero below_i below_j = refl
symmetric5 a b c d e f g h (suc (suc zero)) (suc zero) below_i below_j = refl
symmetric5 a b c d e f g h (suc (suc zero)) (suc (suc zero)) below_i below_j = refl
symmetric5 a b c d e f g h (suc (suc zero)) (suc (suc (suc zero))) below_i below_j = refl
symmetric5 a b c d e f g h (suc (suc zero)) (suc (suc (suc (suc zero)))) below_i below_j = refl
symmetric5 a b c d e f g h (suc (suc zero)) (suc (suc (suc (suc (suc i))))) below_i below_j = absurd (omega arith)
symmetric5 a b c d e f g h (suc (suc (suc zero))) zero below_i below_j = refl
symmetric5 a b c d e f g h (suc (suc (suc zero))) (suc zero) below_i below_j = refl
symmetric5 a b c d e f g h (suc (suc (suc zero))) (suc (suc zero)) below_i below_j = refl
symmetric5 a b c d e f g h (suc (suc (suc zero))) (suc (suc (suc zero))) below_i below_j = refl
symmetric5 a b c d e f g h (suc (suc (suc zero))) (suc (suc (suc (suc zero)))) below_i below_j = refl
symmetric5 a b c d e f g h (suc (suc (suc zero))) (suc (suc (suc (suc (suc i))))) below_i below_j = absurd (omega arith)
symmetric5 a b c d e f g h (suc (suc (suc (suc zero)))) zero below_i below_j = refl
symmetric5 a b c d e f g h (suc (suc (suc (suc zero)))) (suc zero) below_i below_j = refl
symmetric5 a b c d e f g h (suc (suc (suc (suc zero)))) (suc (suc zero)) below_i below_j = refl
symmetric5 a b c d e f g h (suc (suc (suc (suc zero)))) (suc (suc (suc zero))) below_i below_j = refl
symmetric5 a b c d e f g h (suc (suc (suc (suc zero)))) (suc (suc (suc (suc zero)))) below_i below_j = refl
symmetric5 a b c d e f g h (suc (suc (suc (suc zero)))) (suc (suc (suc (suc (suc i))))) below_i below_j = absurd (omega arith)
symmetric5 a b c d e f g h (suc (suc (suc (suc (suc i))))) j below_i below_j = absurd (omega arith)

-- a number that is written and read back
pub kept : (z : ℤ) → IsWithin (2 ^ 121) z → IsWithin (2 ^ 121) (to_z w128 (of_z w128 z))
kept z within = let fits : FitsSigned w128 z = omega (arith, ints) in subst (IsWithin (2 ^ 121)) (sym (to_z-of_z w128 z fits)) within

pub zero_within : (n : ℕ) → IsWithin n (pos 0)
zero_within n = record { low = omega (arith, ints); high = omega (arith, ints) }

pub entries3 : (n : ℕ) (a b c d e f : ℤ) → IsWithin n a → IsWithin n b → IsWithin n c → IsWithin n d → IsWithin n e → IsWithin n f → All (All (IsWithin n)) ((a ∷ (b ∷ (c ∷ []))) ∷ ((b ∷ (d ∷ (e ∷ []))) ∷ ((c ∷ (e ∷ (f ∷ []))) ∷ [])))
entries3 n a b c d e f wa wb wc wd we wf = (All-cons (All (IsWithin n)) (a ∷ (b ∷ (c ∷ []))) ((b ∷ (d ∷ (e ∷ []))) ∷ ((c ∷ (e ∷ (f ∷ []))) ∷ [])) (vector3 n a b c wa wb wc) (All-cons (All (IsWithin n)) (b ∷ (d ∷ (e ∷ []))) ((c ∷ (e ∷ (f ∷ []))) ∷ []) (vector3 n b d e wb wd we) (All-cons (All (IsWithin n)) (c ∷ (e ∷ (f ∷ []))) [] (vector3 n c e f wc we wf) (All-nil (All (IsWithin n))))))

pub entries5 : (n : ℕ) (a b c d e f g h : ℤ) → IsWithin n a → IsWithin n b → IsWithin n c → IsWithin n d → IsWithin n e → IsWithin n f → IsWithin n g → IsWithin n h → All (All (IsWithin n)) ((a ∷ (b ∷ (c ∷ ((pos 0) ∷ ((pos 0) ∷ []))))) ∷ ((b ∷ (d ∷ (e ∷ ((pos 0) ∷ ((pos 0) ∷ []))))) ∷ ((c ∷ (e ∷ (f ∷ ((pos 0) ∷ ((pos 0) ∷ []))))) ∷ (((pos 0) ∷ ((pos 0) ∷ ((pos 0) ∷ (g ∷ ((pos 0) ∷ []))))) ∷ (((pos 0) ∷ ((pos 0) ∷ ((pos 0) ∷ ((pos 0) ∷ (h ∷ []))))) ∷ [])))))
entries5 n a b c d e f g h wa wb wc wd we wf wg wh = (All-cons (All (IsWithin n)) (a ∷ (b ∷ (c ∷ ((pos 0) ∷ ((pos 0) ∷ []))))) ((b ∷ (d ∷ (e ∷ ((pos 0) ∷ ((pos 0) ∷ []))))) ∷ ((c ∷ (e ∷ (f ∷ ((pos 0) ∷ ((pos 0) ∷ []))))) ∷ (((pos 0) ∷ ((pos 0) ∷ ((pos 0) ∷ (g ∷ ((pos 0) ∷ []))))) ∷ (((pos 0) ∷ ((pos 0) ∷ ((pos 0) ∷ ((pos 0) ∷ (h ∷ []))))) ∷ [])))) (vector5 n a b c (pos 0) (pos 0) wa wb wc (zero_within n) (zero_within n)) (All-cons (All (IsWithin n)) (b ∷ (d ∷ (e ∷ ((pos 0) ∷ ((pos 0) ∷ []))))) ((c ∷ (e ∷ (f ∷ ((pos 0) ∷ ((pos 0) ∷ []))))) ∷ (((pos 0) ∷ ((pos 0) ∷ ((pos 0) ∷ (g ∷ ((pos 0) ∷ []))))) ∷ (((pos 0) ∷ ((pos 0) ∷ ((pos 0) ∷ ((pos 0) ∷ (h ∷ []))))) ∷ []))) (vector5 n b d e (pos 0) (pos 0) wb wd we (zero_within n) (zero_within n)) (All-cons (All (IsWithin n)) (c ∷ (e ∷ (f ∷ ((pos 0) ∷ ((pos 0) ∷ []))))) (((pos 0) ∷ ((pos 0) ∷ ((pos 0) ∷ (g ∷ ((pos 0) ∷ []))))) ∷ (((pos 0) ∷ ((pos 0) ∷ ((pos 0) ∷ ((pos 0) ∷ (h ∷ []))))) ∷ [])) (vector5 n c e f (pos 0) (pos 0) wc we wf (zero_within n) (zero_within n)) (All-cons (All (IsWithin n)) ((pos 0) ∷ ((pos 0) ∷ ((pos 0) ∷ (g ∷ ((pos 0) ∷ []))))) (((pos 0) ∷ ((pos 0) ∷ ((pos 0) ∷ ((pos 0) ∷ (h ∷ []))))) ∷ []) (vector5 n (pos 0) (pos 0) (pos 0) g (pos 0) (zero_within n) (zero_within n) (zero_within n) wg (zero_within n)) (All-cons (All (IsWithin n)) ((pos 0) ∷ ((pos 0) ∷ ((pos 0) ∷ ((pos 0) ∷ (h ∷ []))))) [] (vector5 n (pos 0) (pos 0) (pos 0) (pos 0) h (zero_within n) (zero_within n) (zero_within n) (zero_within n) wh) (All-nil (All (IsWithin n))))))))
