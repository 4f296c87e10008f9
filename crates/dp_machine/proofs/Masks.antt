-- The mask of the groups that are lost.
use Rattle.std.proofs.Common.{◌≡◌, ◌≤◌, ◌<◌, ◌^◌, ℕ, zero, suc, ◌+◌, ◌*◌, ◌-◌, ◌/◌, ◌%◌, Bool, true, false, List, [], ◌∷◌, Option, Some, None, All, length, drop, get_or, is_none, ◌&&◌, refl, sym, ◌∙◌, ap, arith}
use Rattle.std.proofs.Math.Nat.{div-div-eq-div-mul, div-one, pow-suc, two-pow-succ}
use Rattle.std.proofs.Math.Seq.{drop-cons}
use Rattle.std.specs.List.{list_all}
use Rattle.dp_plant.specs.declared.frames.Frame.{Frame}
use Rattle.dp_plant.specs.declared.frames.Slot.{Slot}
use Rattle.dp_machine.specs.declared.sensed.Sensed.{Sensed}
use Rattle.dp_machine.specs.Groups.{lost_bit, lost_next}
use Rattle.dp_machine.specs.Step.{sensed_by}

bit_low : (mask : ℕ) (o : Option Bool) → lost_bit (mask % 2) o ≤ 1
bit_low mask None = omega arith
bit_low mask (Some true) = omega arith
bit_low mask (Some false) = omega arith

-- no group of a plant's other than its own is lost
pub mask_low : (n mask : ℕ) (slots : List (Slot Bool)) → mask < 2 ^ n → All (λ s. s.last ≡ None) (drop n slots) → lost_next mask slots < 2 ^ n
mask_low n mask [] low lacking = omega (arith, low)
mask_low zero mask (s ∷ ss) low lacking =
    let silent : s.last ≡ None = lacking 0 s (omega arith) in
    let none : lost_bit (mask % 2) s.last ≡ 0 = ap (λ o. lost_bit (mask % 2) o) silent ∙ omega (arith, low) in
    let rest = mask_low zero (mask / 2) ss (omega (arith, low)) (λ k d l. lacking (suc k) d (omega (arith, l))) in
    omega (arith, none, rest)
mask_low (suc n) mask (s ∷ ss) low lacking =
    let rest = mask_low n (mask / 2) ss (omega (arith, low, two-pow-succ n)) lacking in
    omega (arith, rest, bit_low mask s.last, two-pow-succ n)

-- after what a cycle hears
pub sensed_low : (n heading wind lost : ℕ) (f : Frame) (h : Sensed) → lost < 2 ^ n → All (λ s. s.last ≡ None) (drop n f.group) → h ≡ sensed_by heading wind lost f → h.lost < 2 ^ n
unfolding sensed_by
sensed_low n heading wind lost f h low lacking e = omega (arith, mask_low n lost f.group low lacking, ap (λ (x : Sensed). x.lost) e)

half_of : (mask g : ℕ) → mask / 2 ^ g / 2 ≡ mask / 2 ^ (suc g)
half_of mask g = div-div-eq-div-mul mask (2 ^ g) 2 ∙ ap (λ n. mask / n) (sym (pow-suc 2 g))

-- ---- the mask, made from its last bit on
pub none_left : (mask n : ℕ) (slots : List (Slot Bool)) → length slots ≡ n → 0 ≡ lost_next (mask / 2 ^ n) (drop n slots)
none_left mask zero [] e = refl
none_left mask (suc n) [] e = absurd (omega (arith, e))
none_left mask zero (s ∷ ss) e = absurd (omega (arith, e))
none_left mask (suc n) (s ∷ ss) e = none_left_rest (mask / 2 ^ suc n) n ss (omega (arith, e))
  where
    none_left_rest : (m k : ℕ) (xs : List (Slot Bool)) → length xs ≡ k → 0 ≡ lost_next m (drop k xs)
    none_left_rest m zero [] e = refl
    none_left_rest m (suc k) [] e = absurd (omega (arith, e))
    none_left_rest m zero (x ∷ xs) e = absurd (omega (arith, e))
    none_left_rest m (suc k) (x ∷ xs) e = none_left_rest m k xs (omega (arith, e))

pub one_bit : (mask g lost : ℕ) (slots : List (Slot Bool)) (d : Slot Bool) → g < length slots → lost ≡ lost_next (mask / 2 ^ suc g) (drop (suc g) slots)
    → 2 * lost + lost_bit (mask / 2 ^ g % 2) (get_or slots g d).last ≡ lost_next (mask / 2 ^ g) (drop g slots)
one_bit mask g lost slots d l e =
    let s = get_or slots g d in
    let bit = lost_bit (mask / 2 ^ g % 2) s.last in
    let half : lost ≡ lost_next (mask / 2 ^ g / 2) (drop (suc g) slots) = e ∙ ap (λ m. lost_next m (drop (suc g) slots)) (sym (half_of mask g)) in
    let swap : 2 * lost + bit ≡ bit + 2 * lost = omega arith in
    swap ∙ ap (λ n. bit + 2 * n) half ∙ ap (λ xs. lost_next (mask / 2 ^ g) xs) (sym (drop-cons slots g d l))

pub whole_mask : (mask lost : ℕ) (slots : List (Slot Bool)) → lost ≡ lost_next (mask / 2 ^ 0) (drop 0 slots) → lost ≡ lost_next mask slots
whole_mask mask lost slots e = e ∙ ap (λ m. lost_next m slots) (div-one mask)

-- one group more, counted down
pub one_group : (mask g lost bit : ℕ) (slots : List (Slot Bool)) (d : Slot Bool) → length slots ≡ 8 → 0 < g → g ≤ 8 → lost < 2 ^ (8 - g)
    → lost ≡ lost_next (mask / 2 ^ g) (drop g slots) → bit ≤ 1 → bit ≡ lost_bit (mask / 2 ^ (g - 1) % 2) (get_or slots (g - 1) d).last
    → (2 * lost + bit < 2 ^ (8 - (g - 1))) × (2 * lost + bit ≡ lost_next (mask / 2 ^ (g - 1)) (drop (g - 1) slots))
one_group mask zero lost bit slots d len some few low is small e = absurd (omega (arith, some))
one_group mask (suc g) lost bit slots d len some few low is small e =
    let back : suc g - 1 ≡ g = omega arith in
    let wide : 8 - g ≡ suc (8 - suc g) = omega (arith, few) in
    let twice = ap (λ n. 2 ^ n) wide ∙ two-pow-succ (8 - suc g) in
    let bit_is : bit ≡ lost_bit (mask / 2 ^ g % 2) (get_or slots g d).last = e ∙ ap (λ k. lost_bit (mask / 2 ^ k % 2) (get_or slots k d).last) back in
    rw back (omega (arith, low, small, twice), ap (λ n. 2 * lost + n) bit_is ∙ one_bit mask g lost slots d (omega (arith, few, len)) is)

-- where no group is heard of, each stays as it was
pub silent_keeps : (mask : ℕ) (slots : List (Slot Bool)) → list_all (λ s. is_none s.last) slots ≡ true → mask < 2 ^ length slots → mask ≡ lost_next mask slots
silent_keeps mask [] silent low = omega (arith, low)
silent_keeps mask (s ∷ ss) silent low =
    let both = and_both (is_none s.last) (list_all (λ k. is_none k.last) ss) silent in
    let none : lost_bit (mask % 2) s.last ≡ mask % 2 = ap (λ o. lost_bit (mask % 2) o) (none_is s.last both.0) in
    let rest = silent_keeps (mask / 2) ss both.1 (omega (arith, low, two-pow-succ (length ss))) in
    omega (arith, none, rest)
  where
    and_both : (a b : Bool) → (a && b) ≡ true → (a ≡ true) × (b ≡ true)
    and_both true true e = (refl, refl)
    and_both true false e = cc
    and_both false b e = cc

    none_is : (o : Option Bool) → is_none o ≡ true → o ≡ None
    none_is None e = refl
    none_is (Some b) e = cc
