-- A solver for identities between polynomials over ℤ. Both sides are written once more as an `Expr`, over a list of
-- the values of `var 0`, `var 1`, ..; the check then computes whether their difference comes to 0.
use Rattle.std.proofs.Common.{◌≡◌, ℕ, zero, suc, List, [], ◌∷◌, Bool, true, false, refl, sym, ap, ◌∙◌, arith, ℤ, pos, negsuc, ◌+ℤ◌, ◌-ℤ◌, ◌*ℤ◌, neg_ℤ}
use Rattle.std.proofs.lemmas.Int.{ints}
use lib.Dec.{T, leb, eqb, eqb→eq}
use lib.IntN.{+ℤ_assoc, +ℤ_idl, zero-*ℤ}
use Rattle.dp_form.proofs.RingLaws.{*ℤ_assoc, +ℤ-*ℤ, *ℤ-+ℤ, *ℤ_left_comm, +ℤ_left_comm, ac}

infixl 6 ◌⊕◌
infixl 7 ◌⊗◌
-- a polynomial as it is written
pub data Expr : Type 0 where
  var : ℕ → Expr
  num : ℤ → Expr
  ◌⊕◌ : Expr → Expr → Expr
  ◌⊗◌ : Expr → Expr → Expr
  minus : Expr → Expr

abbrev pub at : List ℤ → ℕ → ℤ
at [] i = pos 0
at (x ∷ xs) zero = x
at (x ∷ xs) (suc i) = at xs i

abbrev pub eval : List ℤ → Expr → ℤ
eval r (var i) = at r i
eval r (num z) = z
eval r (a ⊕ b) = eval r a +ℤ eval r b
eval r (a ⊗ b) = eval r a *ℤ eval r b
eval r (minus a) = neg_ℤ (eval r a)

-- a sum of monomials, each a coefficient and its variables in order
pub data Poly : Type 0 where
  none : Poly
  term : ℤ → List ℕ → Poly → Poly

abbrev pub mono : List ℤ → List ℕ → ℤ
mono r [] = pos 1
mono r (i ∷ m) = at r i *ℤ mono r m

abbrev pub poly : List ℤ → Poly → ℤ
poly r none = pos 0
poly r (term c m p) = c *ℤ mono r m +ℤ poly r p

abbrev pub ins : ℕ → List ℕ → List ℕ
ins i [] = i ∷ []
ins i (j ∷ m) = elim (leb i j) [ true ↦ i ∷ (j ∷ m) | false ↦ j ∷ ins i m ]

abbrev pub times : List ℕ → List ℕ → List ℕ
times [] n = n
times (i ∷ m) n = ins i (times m n)

abbrev pub same : List ℕ → List ℕ → Bool
same [] [] = true
same [] (j ∷ n) = false
same (i ∷ m) [] = false
same (i ∷ m) (j ∷ n) = elim (eqb i j) [ true ↦ same m n | false ↦ false ]

abbrev pub put : ℤ → List ℕ → Poly → Poly
put c m none = term c m none
put c m (term d n p) = elim (same m n) [ true ↦ term (c +ℤ d) n p | false ↦ term d n (put c m p) ]

abbrev pub plus : Poly → Poly → Poly
plus none q = q
plus (term c m p) q = put c m (plus p q)

-- c times m times p, added to q
abbrev pub scale : ℤ → List ℕ → Poly → Poly → Poly
scale c m none q = q
scale c m (term d n p) q = put (c *ℤ d) (times m n) (scale c m p q)

abbrev pub mult : Poly → Poly → Poly
mult none q = none
mult (term c m p) q = scale c m q (mult p q)

abbrev pub norm : Expr → Poly
norm (var i) = term (pos 1) (i ∷ []) none
norm (num z) = term z [] none
norm (a ⊕ b) = plus (norm a) (norm b)
norm (a ⊗ b) = mult (norm a) (norm b)
norm (minus a) = scale (negsuc 0) [] (norm a) none

abbrev pub is_zero : Poly → Bool
is_zero none = true
is_zero (term (pos zero) m p) = is_zero p
is_zero (term (pos (suc n)) m p) = false
is_zero (term (negsuc n) m p) = false

-- ---- each step keeps the value

mono_ins-at : (r : List ℤ) (i j : ℕ) (m m' : List ℕ) → mono r m' ≡ at r i *ℤ mono r m → (b : Bool) → mono r (elim b as (λ _. List ℕ) [ true ↦ i ∷ (j ∷ m) | false ↦ j ∷ m' ]) ≡ at r i *ℤ (at r j *ℤ mono r m)
mono_ins-at r i j m m' e true = refl
mono_ins-at r i j m m' e false = ap (λ (x : ℤ). at r j *ℤ x) e ∙ *ℤ_left_comm (at r j) (at r i) (mono r m)

mono_ins : (r : List ℤ) (i : ℕ) (m : List ℕ) → mono r (ins i m) ≡ at r i *ℤ mono r m
mono_ins r i [] = refl
mono_ins r i (j ∷ m) = mono_ins-at r i j m (ins i m) (mono_ins r i m) (leb i j)

mono_times : (r : List ℤ) (m n : List ℕ) → mono r (times m n) ≡ mono r m *ℤ mono r n
mono_times r [] n = omega (arith, ints)
mono_times r (i ∷ m) n = mono_ins r i (times m n) ∙ ap (λ (x : ℤ). at r i *ℤ x) (mono_times r m n) ∙ sym (*ℤ_assoc (at r i) (mono r m) (mono r n))

same_lists : (m n : List ℕ) → T (same m n) → m ≡ n
same_lists [] [] t = refl
same_lists [] (j ∷ n) t = absurd t
same_lists (i ∷ m) [] t = absurd t
same_lists (i ∷ m) (j ∷ n) t = same_heads i j m n (same_lists m n) (eqb i j) (eqb→eq i j) t
  where
    same_heads : (i j : ℕ) (m n : List ℕ) → (T (same m n) → m ≡ n) → (b : Bool) → (T b → i ≡ j) → T (elim b as (λ _. Bool) [ true ↦ same m n | false ↦ false ]) → i ∷ m ≡ j ∷ n
    same_heads i j m n f true g t = let p : i ≡ j = g tt in let q : m ≡ n = f t in cc
    same_heads i j m n f false g t = absurd t

poly_put-at : (r : List ℤ) (c d : ℤ) (m n : List ℕ) (p p' : Poly) → poly r p' ≡ c *ℤ mono r m +ℤ poly r p → (b : Bool) → (T b → m ≡ n) → poly r (elim b as (λ _. Poly) [ true ↦ term (c +ℤ d) n p | false ↦ term d n p' ]) ≡ c *ℤ mono r m +ℤ (d *ℤ mono r n +ℤ poly r p)
poly_put-at r c d m n p p' e true f = ap (λ (x : ℤ). x +ℤ poly r p) (+ℤ-*ℤ c d (mono r n)) ∙ +ℤ_assoc (c *ℤ mono r n) (d *ℤ mono r n) (poly r p) ∙ ap (λ (v : List ℕ). c *ℤ mono r v +ℤ (d *ℤ mono r n +ℤ poly r p)) (sym (f tt))
poly_put-at r c d m n p p' e false f = ap (λ (x : ℤ). d *ℤ mono r n +ℤ x) e ∙ +ℤ_left_comm (d *ℤ mono r n) (c *ℤ mono r m) (poly r p)

poly_put : (r : List ℤ) (c : ℤ) (m : List ℕ) (p : Poly) → poly r (put c m p) ≡ c *ℤ mono r m +ℤ poly r p
poly_put r c m none = refl
poly_put r c m (term d n p) = poly_put-at r c d m n p (put c m p) (poly_put r c m p) (same m n) (same_lists m n)

poly_plus : (r : List ℤ) (p q : Poly) → poly r (plus p q) ≡ poly r p +ℤ poly r q
poly_plus r none q = sym (+ℤ_idl (poly r q))
poly_plus r (term c m p) q = poly_put r c m (plus p q) ∙ ap (λ (x : ℤ). c *ℤ mono r m +ℤ x) (poly_plus r p q) ∙ sym (+ℤ_assoc (c *ℤ mono r m) (poly r p) (poly r q))

four : (c d m n : ℤ) → (c *ℤ d) *ℤ (m *ℤ n) ≡ (c *ℤ m) *ℤ (d *ℤ n)
four c d m n = simp ac

poly_scale : (r : List ℤ) (c : ℤ) (m : List ℕ) (p q : Poly) → poly r (scale c m p q) ≡ (c *ℤ mono r m) *ℤ poly r p +ℤ poly r q
poly_scale r c m none q = ring_zero (c *ℤ mono r m) (poly r q)
  where
    ring_zero : (x y : ℤ) → y ≡ x *ℤ pos 0 +ℤ y
    ring_zero x y = omega (arith, ints)
poly_scale r c m (term d n p) q =
    poly_put r (c *ℤ d) (times m n) (scale c m p q)
    ∙ ap (λ (x : ℤ). (c *ℤ d) *ℤ x +ℤ poly r (scale c m p q)) (mono_times r m n)
    ∙ ap (λ (x : ℤ). (c *ℤ d) *ℤ (mono r m *ℤ mono r n) +ℤ x) (poly_scale r c m p q)
    ∙ ap (λ (x : ℤ). x +ℤ ((c *ℤ mono r m) *ℤ poly r p +ℤ poly r q)) (four c d (mono r m) (mono r n))
    ∙ sym (+ℤ_assoc ((c *ℤ mono r m) *ℤ (d *ℤ mono r n)) ((c *ℤ mono r m) *ℤ poly r p) (poly r q))
    ∙ ap (λ (x : ℤ). x +ℤ poly r q) (sym (*ℤ-+ℤ (c *ℤ mono r m) (d *ℤ mono r n) (poly r p)))

poly_mult : (r : List ℤ) (p q : Poly) → poly r (mult p q) ≡ poly r p *ℤ poly r q
poly_mult r none q = sym (zero-*ℤ (poly r q))
poly_mult r (term c m p) q =
    poly_scale r c m q (mult p q) ∙ ap (λ (x : ℤ). (c *ℤ mono r m) *ℤ poly r q +ℤ x) (poly_mult r p q) ∙ sym (+ℤ-*ℤ (c *ℤ mono r m) (poly r p) (poly r q))

poly_norm : (r : List ℤ) (e : Expr) → poly r (norm e) ≡ eval r e
poly_norm r (var i) = omega (arith, ints)
poly_norm r (num z) = omega (arith, ints)
poly_norm r (a ⊕ b) = poly_plus r (norm a) (norm b) ∙ ap (λ (x : ℤ). x +ℤ poly r (norm b)) (poly_norm r a) ∙ ap (λ (x : ℤ). eval r a +ℤ x) (poly_norm r b)
poly_norm r (a ⊗ b) = poly_mult r (norm a) (norm b) ∙ ap (λ (x : ℤ). x *ℤ poly r (norm b)) (poly_norm r a) ∙ ap (λ (x : ℤ). eval r a *ℤ x) (poly_norm r b)
poly_norm r (minus a) = poly_scale r (negsuc 0) [] (norm a) none ∙ negated (poly r (norm a)) ∙ ap neg_ℤ (poly_norm r a)
  where
    negated : (x : ℤ) → (negsuc 0 *ℤ pos 1) *ℤ x +ℤ pos 0 ≡ neg_ℤ x
    negated x = omega (arith, ints)

poly_zero : (r : List ℤ) (p : Poly) → T (is_zero p) → poly r p ≡ pos 0
poly_zero r none t = refl
poly_zero r (term (pos zero) m p) t = ap (λ (x : ℤ). x +ℤ poly r p) (zero-*ℤ (mono r m)) ∙ +ℤ_idl (poly r p) ∙ poly_zero r p t
poly_zero r (term (pos (suc n)) m p) t = absurd t
poly_zero r (term (negsuc n) m p) t = absurd t

from_zero : (a b : ℤ) → a -ℤ b ≡ pos 0 → a ≡ b
from_zero a b e = omega (arith, ints)

-- two polynomials whose difference comes to 0 are equal at all numbers; the proof of the premise is `tt`
pub ring : (r : List ℤ) (a b : Expr) → T (is_zero (norm (a ⊕ minus b))) → eval r a ≡ eval r b
ring r a b t = from_zero (eval r a) (eval r b) (sym (poly_norm r (a ⊕ minus b)) ∙ poly_zero r (norm (a ⊕ minus b)) t)
