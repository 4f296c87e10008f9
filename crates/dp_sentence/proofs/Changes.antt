-- One byte of a body changed.
use Rattle.std.proofs.Common.{◌≡◌, ℕ, ◌+◌, ◌-◌, ◌<◌, ◌≤◌, zero, suc, List, [], ◌∷◌, length, take, drop, refl, sym, ap, ◌∙◌, arith, get_or, subst}
use Rattle.std.specs.Prelude.{◌≢◌, fold, bit_xor, slice_set, slice_index}
use Rattle.std.specs.Int.Bits.{xor_self, xor_zero_r, xor_assoc}
use Rattle.std.proofs.Math.ListN.{set}
use Rattle.std.proofs.lemmas.Nat.{xor_comm}
use Rattle.std.proofs.lemmas.List.{length-set, get_or-set_other, drop-set-add, get_or-drop, get_or-take, length-take-le, length-drop}
use Rattle.dp_sentence.specs.Checksum.{checksum, said}
use Rattle.dp_sentence.specs.Fields.{body}
use Rattle.dp_sentence.specs.Sentence.{IsSentence}

-- what is taken in twice is gone
xor-twice : (a x : ℕ) → bit_xor (bit_xor a x) x ≡ a
xor-twice a x = xor_assoc a x x ∙ rw (xor_self x) (xor_zero_r a)

xor-right : (a b x : ℕ) → bit_xor a x ≡ bit_xor b x → a ≡ b
xor-right a b x same = sym (xor-twice a x) ∙ ap (λ n. bit_xor n x) same ∙ xor-twice b x

xor-left : (x a b : ℕ) → bit_xor x a ≡ bit_xor x b → a ≡ b
xor-left x a b same = xor-right a b x (xor_comm a x ∙ same ∙ xor_comm x b)

fold-same : (xs : List ℕ) (a b : ℕ) → fold bit_xor a xs ≡ fold bit_xor b xs → a ≡ b
fold-same [] a b same = same
fold-same (x ∷ xs) a b same = xor-right a b x (fold-same xs (bit_xor a x) (bit_xor b x) same)

fold-changed : (xs : List ℕ) (i byte a : ℕ) → i < length xs → fold bit_xor a (set xs i byte) ≡ fold bit_xor a xs → byte ≡ get_or xs i 0
fold-changed [] i byte a lt same = absurd (omega arith)
fold-changed (x ∷ xs) zero byte a lt same = xor-left a byte x (fold-same xs (bit_xor a byte) (bit_xor a x) same)
fold-changed (x ∷ xs) (suc i) byte a lt same = fold-changed xs i byte (bit_xor a x) (omega arith) same

take-set-any : (m : ℕ) (xs : List ℕ) (k byte : ℕ) → take m (set xs k byte) ≡ set (take m xs) k byte
take-set-any zero xs k byte = refl
take-set-any (suc m) [] k byte = refl
take-set-any (suc m) (x ∷ xs) zero byte = refl
take-set-any (suc m) (x ∷ xs) (suc k) byte = ap (λ rest. x ∷ rest) (take-set-any m xs k byte)

body-set : (line : List ℕ) (k byte : ℕ) → body (set line (1 + k) byte) ≡ set (body line) k byte
unfolding body
body-set line k byte = rw (length-set line (1 + k) byte, drop-set-add 1 line k byte) (take-set-any (length line - 3 - 1) (drop 1 line) k byte)

said-set : (line : List ℕ) (i byte : ℕ) → i < length line - 3 → said (set line i byte) ≡ said line
unfolding said
said-set line i byte lt =
    let high : get_or (set line i byte) (length line - 2) 0 ≡ get_or line (length line - 2) 0 = get_or-set_other line i (length line - 2) byte 0 (λ e. omega arith) in
    let low : get_or (set line i byte) (length line - 1) 0 ≡ get_or line (length line - 1) 0 = get_or-set_other line i (length line - 1) byte 0 (λ e. omega arith) in
    rw (length-set line i byte, high, low)

body-at : (line : List ℕ) (k : ℕ) → 1 + k < length line - 3 → get_or (body line) k 0 ≡ get_or line (1 + k) 0
unfolding body
body-at line k lt = get_or-take (length line - 3 - 1) (drop 1 line) k 0 (omega arith) ∙ get_or-drop 1 line k 0

length-body : (line : List ℕ) (k : ℕ) → 1 + k < length line - 3 → k < length (body line)
unfolding body
length-body line k lt = rw (length-take-le (length line - 3 - 1) (drop 1 line) (omega (arith, length-drop 1 line))) (omega arith)

changed : (line : List ℕ) (k byte : ℕ) → IsSentence line → 1 + k < length line - 3 → IsSentence (set line (1 + k) byte) → byte ≡ get_or line (1 + k) 0
unfolding checksum
changed line k byte was lt is =
    let same : checksum (set (body line) k byte) ≡ checksum (body line) =
    ap checksum (sym (body-set line k byte)) ∙ sym is.sum ∙ said-set line (1 + k) byte lt ∙ was.sum in
    fold-changed (body line) k byte 0 (length-body line k lt) same ∙ body-at line k lt

pub one-byte-changed : (line : List ℕ) (place byte : ℕ) → IsSentence line → 1 ≤ place → place < length line - 3 → byte ≢ slice_index line place → IsSentence (slice_set line place byte) → ⊥
one-byte-changed line place byte was ge lt other is =
    let at : 1 + (place - 1) ≡ place = omega arith in
    let same = subst (λ p. p < length line - 3 → IsSentence (set line p byte) → byte ≡ get_or line p 0) at (λ lt is. changed line (place - 1) byte was lt is) in
    other (same lt is)
