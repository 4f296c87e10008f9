-- The bits of the wires with damage.
use Rattle.std.proofs.Common.{◌≡◌, ◌<◌, ◌≤◌, ◌^◌, ℕ, zero, suc, ◌+◌, ◌-◌, ◌*◌, Bool, true, false, not, ◌&&◌, cond, List, [], ◌∷◌, ◌++◌, length, map, drop, get_or, refl, sym, ◌∙◌, ap, arith}
use Rattle.std.proofs.Math.Nat.{pow-le-pow_right, two-pow-succ}
use Rattle.std.proofs.Math.Seq.{drop-cons}
use Rattle.std.proofs.lemmas.List.{append-nil}
use Rattle.dp_plant.specs.declared.frames.Frame.{Frame}
use Rattle.dp_plant.specs.declared.frames.Slot.{Slot}
use Rattle.dp_fixed.specs.{bits_of}
use Rattle.dp_machine.specs.Alarms.{are_sound_slots, damaged_in, is_damaged}

module _ {T : Type 0} where
  -- what comes before is one bit more
  pub one_wire : (k bits : ℕ) (slots : List (Slot T)) (bs : List Bool) (d : Slot T) → k < length slots → bits ≡ bits_of (map is_damaged (drop (suc k) slots) ++ bs)
      → 2 * bits + cond (is_damaged (get_or slots k d)) 1 0 ≡ bits_of (map is_damaged (drop k slots) ++ bs)
  one_wire k bits slots bs d l e =
      let bit = cond (is_damaged (get_or slots k d)) 1 0 in
      let swap : 2 * bits + bit ≡ bit + 2 * bits = omega arith in
      swap ∙ ap (λ n. bit + 2 * n) e ∙ ap (λ (xs : List (Slot T)). bits_of (map is_damaged xs ++ bs)) (sym (drop-cons slots k d l))

-- ---- bounds
pub room : (bits m : ℕ) → bits < 2 ^ (14 + m) → m ≤ 8 → bits < 2 ^ 22
room bits m low few =
    let le : 14 + m ≤ 22 = omega (arith, few) in
    let p : 2 ^ (14 + m) ≤ 2 ^ 22 = pow-le-pow_right {n = 2} (omega arith) le in
    omega (arith, low, p)

pub one_higher : (n k count bits bit : ℕ) → 0 < k → k ≤ count → bit ≤ 1 → bits < 2 ^ (n + (count - k)) → 2 * bits + bit < 2 ^ (n + (count - (k - 1)))
one_higher n k count bits bit some few small low =
    let wide : n + (count - (k - 1)) ≡ suc (n + (count - k)) = omega (arith, some, few) in
    let twice = ap (λ (i : ℕ). 2 ^ i) wide ∙ two-pow-succ (n + (count - k)) in
    omega (arith, low, small, twice)

module _ {T : Type 0} where
  pub wire_before : (k bits bit : ℕ) (slots : List (Slot T)) (bs : List Bool) (d : Slot T) → 0 < k → k ≤ length slots → bits ≡ bits_of (map is_damaged (drop k slots) ++ bs)
      → bit ≡ cond (is_damaged (get_or slots (k - 1) d)) 1 0 → 2 * bits + bit ≡ bits_of (map is_damaged (drop (k - 1) slots) ++ bs)
  wire_before zero bits bit slots bs d some few is e = absurd (omega (arith, some))
  wire_before (suc k) bits bit slots bs d some few is e =
      let back : suc k - 1 ≡ k = omega arith in
      let bit_is : bit ≡ cond (is_damaged (get_or slots k d)) 1 0 = e ∙ ap (λ i. cond (is_damaged (get_or slots i d)) 1 0) back in
      rw back (ap (λ n. 2 * bits + n) bit_is ∙ one_wire k bits slots bs d (omega (arith, few)) is)

unset : (b : Bool) (n : ℕ) → b ≡ false → n ≡ cond b 1 0 → n ≡ 0
unset true n e is = cc
unset false n e is = is

both_true : (a b : Bool) → (a && b) ≡ true → (a ≡ true) × (b ≡ true)
both_true true true e = (refl, refl)
both_true true false e = cc
both_true false b e = cc

module _ {T : Type 0} where
  -- wires without damage have no bit set
  pub sound_before : (slots : List (Slot T)) (bs : List Bool) → are_sound_slots slots ≡ true → bits_of bs ≡ 0 → bits_of (map is_damaged slots ++ bs) ≡ 0
  sound_before [] bs sound none = none
  sound_before (s ∷ ss) bs sound none =
      let both = both_true (not (is_damaged s)) (are_sound_slots ss) sound in
      let rest = sound_before ss bs both.1 none in
      let bit : is_damaged s ≡ false = not_true (is_damaged s) both.0 in
      let n : ℕ = cond (is_damaged s) 1 0 in
      let first = unset (is_damaged s) n bit refl in
      omega (arith, rest, first)
    where
      not_true : (b : Bool) → not b ≡ true → b ≡ false
      not_true true e = cc
      not_true false e = refl

-- without damage on any wire of a frame no bit is set
pub sound_frame : (f : Frame) → (are_sound_slots f.pos && (are_sound_slots f.gyro && (are_sound_slots f.wind && are_sound_slots f.group))) ≡ true → 0 ≡ damaged_in f
unfolding damaged_in
sound_frame f sound =
    let first = both_true _ _ sound in
    let second = both_true _ _ first.1 in
    let third = both_true _ _ second.1 in
    let group = sound_before f.group [] third.1 refl in
    let alone = ap bits_of (sym (append-nil (map is_damaged f.group))) ∙ group in
    sym (sound_before f.pos _ first.0 (sound_before f.gyro _ second.0 (sound_before f.wind _ third.0 alone)))
