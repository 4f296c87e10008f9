-- Every sine pair is short, and is a quarter's pair turned.
use Rattle.std.proofs.Common.{◌≡◌, ℕ, zero, suc, ◌-◌, ◌/◌, ◌%◌, Bool, true, false, [], ◌∷◌, arith, refl, ap, sym, ◌∙◌, ℤ, pos, neg_ℤ, ◌-ℤ◌, ◌*ℤ◌}
use Rattle.std.proofs.lemmas.Int.{ints}
use Rattle.std.specs.Prelude.{nat_le, if◌then◌else◌}
use Rattle.dp_form.proofs.Ring.{var, ◌⊗◌, minus, ring}
use Rattle.dp_trig.specs.Rotation.{Pair, IsShort, PartsWithin}
use Rattle.dp_trig.specs.SinePair.{degree, hundredth, degrees, hundredths, octant_pair, exchanged, quadrant_pair, after_quarters, pair_of}
use Rattle.dp_trig.proofs.Lengths.{turned-short, repeated-short, parts_within}

-- the step is short, and so are its repetitions
pub degrees-short : (n : ℕ) → IsShort (degrees n)
unfolding degrees
degrees-short n = repeated-short degree n (record { within = omega (arith, ints) })

-- the same for hundredths
pub hundredths-short : (n : ℕ) → IsShort (hundredths n)
unfolding hundredths
hundredths-short n = repeated-short hundredth n (record { within = omega (arith, ints) })

-- from 0 to 45 degrees
pub octant_pair-short : (a : ℕ) → IsShort (octant_pair a)
unfolding octant_pair
octant_pair-short a = turned-short (degrees (a / 100)) (hundredths (a % 100)) (degrees-short (a / 100)) (hundredths-short (a % 100))

-- the other of cosine and sine first
exchanged-short : (p : Pair) → IsShort p → IsShort (exchanged p)
exchanged-short (c, s) h = let w = h.within in record { within = omega (arith, ints) }

-- either of two short pairs
chosen : (b : Bool) (p p' : Pair) → IsShort p → IsShort p' → IsShort (if b then p else p')
chosen true p p' h k = h
chosen false p p' h k = k

-- from 0 up to 90 degrees
pub quadrant_pair-short : (r : ℕ) → IsShort (quadrant_pair r)
unfolding quadrant_pair
quadrant_pair-short r = chosen (nat_le r 4500) (octant_pair r) (exchanged (octant_pair (9000 - r))) (octant_pair-short r) (exchanged-short (octant_pair (9000 - r)) (octant_pair-short (9000 - r)))

-- a negative has the same square
negated_square : (a : ℤ) → neg_ℤ a *ℤ neg_ℤ a ≡ a *ℤ a
negated_square a = ring (a ∷ []) (minus (var 0) ⊗ minus (var 0)) (var 0 ⊗ var 0) tt

-- a quarter turn keeps the length
after_quarters-short : (q : ℕ) (p : Pair) → IsShort p → IsShort (after_quarters q p)
after_quarters-short zero (c, s) h = h
after_quarters-short (suc zero) (c, s) h = let w = h.within in let e = negated_square s in record { within = omega (arith, ints) }
after_quarters-short (suc (suc zero)) (c, s) h = let w = h.within in let d = negated_square c in let e = negated_square s in record { within = omega (arith, ints) }
after_quarters-short (suc (suc (suc n))) (c, s) h = let w = h.within in let e = negated_square c in record { within = omega (arith, ints) }

-- every heading's pair is short
pub pair_of-short : (a : ℕ) → IsShort (pair_of a)
unfolding pair_of
pair_of-short a = after_quarters-short (a / 9000) (quadrant_pair (a % 9000)) (quadrant_pair-short (a % 9000))

-- so its parts lie within the scale
pub pair_of-parts : (a : ℕ) → PartsWithin (pair_of a)
pair_of-parts a = parts_within (pair_of a) (pair_of-short a)

-- the quarter turns as the code makes them, with each negative taken from 0
abbrev from_zero : ℕ → Pair → Pair
from_zero zero p = (p.0, p.1)
from_zero (suc zero) p = (pos 0 -ℤ p.1, p.0)
from_zero (suc (suc zero)) p = (pos 0 -ℤ p.0, pos 0 -ℤ p.1)
from_zero (suc (suc (suc n))) p = (p.1, pos 0 -ℤ p.0)

-- a negative is what is left when it is taken from 0
minus_is : (z : ℤ) → pos 0 -ℤ z ≡ neg_ℤ z
minus_is z = omega (arith, ints)

-- both are the same turns
from_zero-is : (q : ℕ) (p : Pair) → from_zero q p ≡ after_quarters q p
from_zero-is zero p = refl
from_zero-is (suc zero) p = rw minus_is
from_zero-is (suc (suc zero)) p = simp minus_is
from_zero-is (suc (suc (suc n))) p = rw minus_is

-- so a heading's pair is made of its quarter and the pair within it
pub pair_of-quarters : (a q : ℕ) (p : Pair) → a / 9000 ≡ q → p ≡ quadrant_pair (a % 9000) → from_zero q p ≡ pair_of a
unfolding pair_of
pair_of-quarters a q p e f = from_zero-is q p ∙ ap (after_quarters q) f ∙ ap (λ (n : ℕ). after_quarters n (quadrant_pair (a % 9000))) (sym e)
