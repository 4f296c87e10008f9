-- Roots, and products compared by division.
use Rattle.std.proofs.Common.{◌≡◌, ℕ, zero, suc, ◌<◌, ◌^◌, true, false, refl, sym, ap, ◌∙◌, inl, inr, arith, ℤ, pos, ◌+ℤ◌, ◌*ℤ◌, ◌≤ℤ◌, ◌<ℤ◌}
use Rattle.std.specs.Prelude.{int_lt}
use Rattle.std.proofs.lemmas.Bool.{cases_lt}
use Rattle.std.proofs.lemmas.Int.{ints, by_lt_z}
use Rattle.dp_form.proofs.Order.{mul_le}
use Rattle.dp_form.proofs.Ring.{var, num, ◌⊕◌, ◌⊗◌, ring}
use Rattle.std.proofs.Common.{List, [], ◌∷◌, length, get_or, map, Bool, Some, None, if◌then◌else◌}
use Rattle.std.proofs.lemmas.List.{get_or_past}
use lib.IntN.{zero-*ℤ}
use Rattle.dp_fixed.specs.Scale.{full_scale}
use Rattle.dp_fixed.specs.Division.{ceil_of}
use Rattle.dp_fixed.proofs.Divisions.{ceil_is}
use Rattle.dp_cert.specs.InRange.{IsUpTo}
use Rattle.dp_fixed.specs.Division.{IsFloor}
use Rattle.dp_cert.specs.Width.{is_wide, width}

-- ---- a product compared with a limit by division
pub past_limit : (limit h n f : ℤ) → pos 0 <ℤ h → IsFloor limit h f → f <ℤ n → limit <ℤ (h *ℤ n)
past_limit limit h n f h0 q l =
    let m = mul_le h (f +ℤ pos 1) n (omega (arith, ints)) (omega (arith, ints)) in
    let e = ring (h ∷ (f ∷ [])) (var 0 ⊗ (var 1 ⊕ num (pos 1))) (var 1 ⊗ var 0 ⊕ var 0) tt in
    omega (arith, ints, q.above)

pub in_limit : (limit h n f : ℤ) → pos 0 <ℤ h → IsFloor limit h f → n ≤ℤ f → (h *ℤ n) ≤ℤ limit
in_limit limit h n f h0 q l =
    let m = mul_le h n f (omega (arith, ints)) l in
    let e = ring (h ∷ (f ∷ [])) (var 0 ⊗ var 1) (var 1 ⊗ var 0) tt in
    omega (arith, ints, q.below)

pub lt_true : (x y : ℤ) → x <ℤ y → int_lt x y ≡ true
lt_true x y h = grind (arith, ints)

pub lt_false : (x y : ℤ) → y ≤ℤ x → int_lt x y ≡ false
lt_false x y h = grind (arith, ints)

pub exceeds_is : (limit a b f : ℤ) → pos 0 <ℤ a → IsFloor limit a f → int_lt f b ≡ int_lt limit (a *ℤ b)
exceeds_is limit a b f h q = by_lt_z f b
    (λ l. lt_true f b l ∙ sym (lt_true limit (a *ℤ b) (past_limit limit a b f h q l)))
    (λ l. lt_false f b l ∙ sym (lt_false limit (a *ℤ b) (in_limit limit a b f h q l)))

pub exceeds_not : (limit a b : ℤ) → pos 0 ≤ℤ limit → pos 0 ≤ℤ a → a ≤ℤ pos 0 → int_lt limit (a *ℤ b) ≡ false
exceeds_not limit a b l h k =
    let none : a ≡ pos 0 = omega (arith, ints) in
    let e : a *ℤ b ≡ pos 0 = ap (λ (z : ℤ). z *ℤ b) none ∙ zero-*ℤ b in
    lt_false limit (a *ℤ b) (omega (arith, ints))

-- a width is above 2^56 where the product is above 2^86
pub wide_is : (h n : ℤ) → is_wide (width n h) ≡ int_lt (pos (2 ^ 86)) (h *ℤ n)
unfolding width
wide_is h n =
    let c = ceil_is (h *ℤ n) full_scale (omega (arith, ints)) in
    by_lt_z (pos (2 ^ 86)) (h *ℤ n)
    (λ l. lt_true (pos (2 ^ 56)) (ceil_of (h *ℤ n) full_scale) (omega (arith, ints, c.above)) ∙ sym (lt_true (pos (2 ^ 86)) (h *ℤ n) l))
    (λ l. lt_false (pos (2 ^ 56)) (ceil_of (h *ℤ n) full_scale) (omega (arith, ints, c.below)) ∙ sym (lt_false (pos (2 ^ 86)) (h *ℤ n) l))

pub width_within : (h n : ℤ) → pos 0 ≤ℤ (h *ℤ n) → (h *ℤ n) ≤ℤ pos (2 ^ 86) → IsUpTo (pos (2 ^ 56)) (width n h)
unfolding width
width_within h n a b =
    let c = ceil_is (h *ℤ n) full_scale (omega (arith, ints)) in
    record { low = omega (arith, ints, c.above); high = omega (arith, ints, c.below) }

-- a list that is made of another, number by number
pub mapped : (f : ℤ → ℤ) (xs ys : List ℤ) → length ys ≡ length xs → ((k : ℕ) → k < length xs → get_or ys k (pos 0) ≡ f (get_or xs k (pos 0))) → ys ≡ map f xs
mapped f [] [] w h = refl
mapped f [] (y ∷ ys) w h = absurd (omega arith)
mapped f (x ∷ xs) [] w h = absurd (omega arith)
mapped f (x ∷ xs) (y ∷ ys) w h =
    let here : y ≡ f x = h 0 (omega arith) in
    let rest = mapped f xs ys (omega arith) (λ k l. h (suc k) (omega arith)) in
    cc

pub at-map : (f : ℤ → ℤ) (xs : List ℤ) (k : ℕ) → k < length xs → get_or (map f xs) k (pos 0) ≡ f (get_or xs k (pos 0))
at-map f [] k h = absurd (omega arith)
at-map f (x ∷ xs) zero h = refl
at-map f (x ∷ xs) (suc k) h = at-map f xs k (omega arith)

pub upto_not_wide : (w : ℤ) → IsUpTo (pos (2 ^ 56)) w → is_wide w ≡ false
upto_not_wide w h = lt_false (pos (2 ^ 56)) w h.high

-- past the end there is 0
pub all_upto : (limit : ℤ) (xs : List ℤ) (n : ℕ) → pos 0 ≤ℤ limit → length xs ≡ n → ((k : ℕ) → k < n → IsUpTo limit (get_or xs k (pos 0))) → (j : ℕ) → IsUpTo limit (get_or xs j (pos 0))
all_upto limit xs n l w h j = elim (cases_lt j n) [
  | inl less ↦ h j less
  | inr more ↦ let e = get_or_past xs j (pos 0) (omega arith) in record { low = omega (arith, ints); high = omega (arith, ints) }
]

pub from_lt_false : (x y : ℤ) → int_lt x y ≡ false → y ≤ℤ x
from_lt_false x y h = grind (arith, ints)

pub some_of : (b : Bool) (w x : ℤ) → Some w ≡ (if b then None else Some x) → (w ≡ x) × (b ≡ false)
some_of true w x h = absurd (cc)
some_of false w x h = (cc, refl)

pub none_of : (b : Bool) (x : ℤ) → None ≡ (if b then None else Some x) → b ≡ true
none_of true x h = refl
none_of false x h = absurd (cc)
