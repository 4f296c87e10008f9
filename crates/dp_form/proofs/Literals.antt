-- Vectors written out, with entries in range.
use Rattle.std.proofs.Common.{ℕ, [], ◌∷◌, ℤ}
use Rattle.std.proofs.lemmas.List.Elements.{All-nil, All-cons}
use Rattle.std.specs.Prelude.{All}
use Rattle.dp_form.specs.Range.{IsWithin}

pub vector3 : (n : ℕ) (a b c : ℤ) → IsWithin n a → IsWithin n b → IsWithin n c → All (IsWithin n) (a ∷ (b ∷ (c ∷ [])))
vector3 n a b c p q r = All-cons (IsWithin n) a (b ∷ (c ∷ [])) p (All-cons (IsWithin n) b (c ∷ []) q (All-cons (IsWithin n) c [] r (All-nil (IsWithin n))))

pub vector5 : (n : ℕ) (a b c d e : ℤ) → IsWithin n a → IsWithin n b → IsWithin n c → IsWithin n d → IsWithin n e → All (IsWithin n) (a ∷ (b ∷ (c ∷ (d ∷ (e ∷ [])))))
vector5 n a b c d e p q r s t = All-cons (IsWithin n) a (b ∷ (c ∷ (d ∷ (e ∷ [])))) p (All-cons (IsWithin n) b (c ∷ (d ∷ (e ∷ []))) q (vector3 n c d e r s t))
