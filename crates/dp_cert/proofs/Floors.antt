-- The entries of a vector divided by the scale and rounded down, and what is between two such vectors.
use Rattle.std.proofs.Common.{◌≡◌, suc, List, [], ◌∷◌, length, refl, ap, arith, ℤ, pos, negsuc, ◌+ℤ◌, ◌-ℤ◌, ◌*ℤ◌, ◌<ℤ◌}
use Rattle.std.proofs.lemmas.Int.{ints}
use Rattle.dp_form.proofs.Ring.{var, num, ◌⊕◌, ◌⊗◌, minus, ring}
use Rattle.dp_fixed.specs.Division.{floor_of, IsFloor}
use Rattle.dp_fixed.proofs.Divisions.{floor_is}
use Rattle.dp_form.specs.Vectors.{add, scale}
use Rattle.dp_cert.specs.States.{gap}
use Rattle.dp_cert.proofs.Near.{Near, Within}

abbrev pub floored : ℤ → List ℤ → List ℤ
floored q [] = []
floored q (n ∷ ns) = floor_of n q ∷ floored q ns

-- how much more the floor of n' leaves than that of n
abbrev pub rest : ℤ → ℤ → ℤ → ℤ
rest q n n' = (n' -ℤ q *ℤ floor_of n' q) -ℤ (n -ℤ q *ℤ floor_of n q)

abbrev pub rests : ℤ → List ℤ → List ℤ → List ℤ
rests q [] ns = []
rests q (n ∷ ns) [] = []
rests q (n ∷ ns) (n' ∷ ns') = rest q n n' ∷ rests q ns ns'

rest_split : (q n n' f f' : ℤ) → q *ℤ (f +ℤ negsuc 0 *ℤ f') ≡ (n +ℤ negsuc 0 *ℤ n') +ℤ ((n' -ℤ q *ℤ f') -ℤ (n -ℤ q *ℤ f))
rest_split q n n' f f' = (ring (q ∷ (n ∷ (n' ∷ (f ∷ (f' ∷ []))))) (var 0 ⊗ (var 3 ⊕ num (negsuc 0) ⊗ var 4)) (var 1 ⊕ num (negsuc 0) ⊗ var 2 ⊕ (var 2 ⊕ minus (var 0 ⊗ var 4) ⊕ minus (var 1 ⊕ minus (var 0 ⊗ var 3)))) tt)

pub floored_gap : (q : ℤ) (ns ns' : List ℤ) → length ns ≡ length ns' → scale q (gap (floored q ns) (floored q ns')) ≡ add (gap ns ns') (rests q ns ns')
floored_gap q [] [] l = refl
floored_gap q [] (n' ∷ ns') l = absurd (omega arith)
floored_gap q (n ∷ ns) [] l = absurd (omega arith)
floored_gap q (n ∷ ns) (n' ∷ ns') l = let e = rest_split q n n' (floor_of n q) (floor_of n' q) in let f = floored_gap q ns ns' (omega arith) in cc

-- the rests of two floors by d differ by at most d
pub floors_near : (n n' d f f' : ℤ) → IsFloor n d f → IsFloor n' d f' → Near d ((n' -ℤ d *ℤ f') -ℤ (n -ℤ d *ℤ f))
floors_near n n' d f f' p p' =
    let e = (ring (d ∷ (f ∷ [])) (var 0 ⊗ var 1) (var 1 ⊗ var 0) tt) in
    let e' = (ring (d ∷ (f' ∷ [])) (var 0 ⊗ var 1) (var 1 ⊗ var 0) tt) in
    record { below = omega (arith, ints, p.below, p.above, p'.below, p'.above); above = omega (arith, ints, p.below, p.above, p'.below, p'.above) }

abbrev pub ones : List ℤ → List ℤ
ones [] = []
ones (a ∷ x) = pos 1 ∷ ones x

rest_near : (q n n' : ℤ) → pos 0 <ℤ q → Near (q *ℤ pos 1) (rest q n n')
rest_near q n n' h =
    let a = floors_near n n' q (floor_of n q) (floor_of n' q) (floor_is n q h) (floor_is n' q h) in
    let e = (ring (q ∷ []) (var 0 ⊗ num (pos 1)) (var 0) tt) in
    record { below = omega (arith, ints, a.below, e); above = omega (arith, ints, a.above, e) }

pub rests_within : (q : ℤ) (ns ns' : List ℤ) → pos 0 <ℤ q → Within (scale q (ones ns)) (rests q ns ns')
rests_within q [] ns' h = tt
rests_within q (n ∷ ns) [] h = tt
rests_within q (n ∷ ns) (n' ∷ ns') h = (rest_near q n n' h, rests_within q ns ns' h)

pub length-ones : (x : List ℤ) → length (ones x) ≡ length x
length-ones [] = refl
length-ones (a ∷ x) = ap suc (length-ones x)

pub length-rests : (q : ℤ) (ns ns' : List ℤ) → length ns ≡ length ns' → length (rests q ns ns') ≡ length ns
length-rests q [] ns' l = refl
length-rests q (n ∷ ns) [] l = absurd (omega arith)
length-rests q (n ∷ ns) (n' ∷ ns') l = ap suc (length-rests q ns ns' (omega arith))

-- two vectors of one length have the same ones
pub ones_same : (x y : List ℤ) → length x ≡ length y → ones x ≡ ones y
ones_same [] [] l = refl
ones_same [] (b ∷ y) l = absurd (omega arith)
ones_same (a ∷ x) [] l = absurd (omega arith)
ones_same (a ∷ x) (b ∷ y) l = ap (λ (z : List ℤ). pos 1 ∷ z) (ones_same x y (omega arith))
