-- The square of a sum is at most the count times the sum of the squares, so no variance is below 0.
use Rattle.std.proofs.Common.{◌≡◌, ℕ, suc, List, [], ◌∷◌, length, map, refl, ap, subst, ◌∙◌, arith, ℤ, pos, ◌+ℤ◌, ◌-ℤ◌, ◌*ℤ◌, ◌≤ℤ◌, ◌<ℤ◌, ◌<◌}
use Rattle.std.specs.Prelude.{◌^◌}
use Rattle.dp_reftest.specs.declared.sums.Sums.{Sums}
use Rattle.std.proofs.lemmas.Int.{ints}
use Rattle.dp_fixed.proofs.Divisions.{floor_greatest, floor_is}
use Rattle.dp_fixed.specs.Division.{floor_of}
use Rattle.dp_form.proofs.Order.{mul_pos, square_nonneg}
use Rattle.dp_form.proofs.Ring.{var, num, ◌⊕◌, ◌⊗◌, minus, ring}
use Rattle.dp_plant.specs.declared.place.Place.{Place}
use Rattle.dp_reftest.proofs.Adding.{AreSums-sums_of}
use Rattle.dp_reftest.specs.Running.{spread_by, square_millimetres, variance_by}
use Rattle.dp_reftest.specs.Totals.{AreSums, square_of, sums_of}
use Rattle.dp_reftest.specs.Verdict.{spread_of, sum_of}
use Rattle.dp_reftest.specs.Window.{AreNear}

-- the difference of two squares is one product
pub apart_squared : (a b l m r : ℤ) → l ≡ a -ℤ b → m ≡ a +ℤ b → r ≡ l *ℤ m → r ≡ a *ℤ a -ℤ b *ℤ b
apart_squared a b l m r e f is =
    is ∙ ap (λ (z : ℤ). z *ℤ m) e ∙ ap (λ (z : ℤ). (a -ℤ b) *ℤ z) f
    ∙ ring (a ∷ (b ∷ [])) ((var 0 ⊕ minus (var 1)) ⊗ (var 0 ⊕ var 1)) (var 0 ⊗ var 0 ⊕ minus (var 1 ⊗ var 1)) tt

pub places_squared : (p q : Place) (a b r : ℤ) → a ≡ p.north *ℤ p.north -ℤ q.north *ℤ q.north → b ≡ p.east *ℤ p.east -ℤ q.east *ℤ q.east → r ≡ a +ℤ b → r ≡ square_of p -ℤ square_of q
unfolding square_of
places_squared p q a b r e f is = omega (arith, ints, e, f, is)

abbrev squares : List ℤ → ℤ
squares xs = sum_of (map (λ x. x *ℤ x) xs)

-- n a² - 2 a s + q, which is the sum of the squares of a - x
abbrev apart : ℤ → ℤ → ℤ → ℤ → ℤ
apart n a s q = (n *ℤ (a *ℤ a) -ℤ pos 2 *ℤ (a *ℤ s)) +ℤ q

apart-step : (n a x s q : ℤ) → pos 0 ≤ℤ apart n a s q → pos 0 ≤ℤ apart (pos 1 +ℤ n) a (x +ℤ s) (x *ℤ x +ℤ q)
apart-step n a x s q h =
    let e : apart (pos 1 +ℤ n) a (x +ℤ s) (x *ℤ x +ℤ q) ≡ apart n a s q +ℤ (a -ℤ x) *ℤ (a -ℤ x) =
    ring (n ∷ (a ∷ (x ∷ (s ∷ (q ∷ [])))))
    (((num (pos 1) ⊕ var 0) ⊗ (var 1 ⊗ var 1) ⊕ minus (num (pos 2) ⊗ (var 1 ⊗ (var 2 ⊕ var 3)))) ⊕ (var 2 ⊗ var 2 ⊕ var 4))
    (((var 0 ⊗ (var 1 ⊗ var 1) ⊕ minus (num (pos 2) ⊗ (var 1 ⊗ var 3))) ⊕ var 4) ⊕ (var 1 ⊕ minus (var 2)) ⊗ (var 1 ⊕ minus (var 2))) tt in
    let sq = square_nonneg (a -ℤ x) in
    omega (arith, ints)

one-more : (n : ℕ) → pos 1 +ℤ pos n ≡ pos (suc n)
one-more n = omega (arith, ints)

apart-all : (a : ℤ) (xs : List ℤ) → pos 0 ≤ℤ apart (pos (length xs)) a (sum_of xs) (squares xs)
apart-all a [] = omega (arith, ints)
apart-all a (x ∷ xs) = subst (λ n. pos 0 ≤ℤ apart n a (x +ℤ sum_of xs) (x *ℤ x +ℤ squares xs)) (one-more (length xs)) (apart-step (pos (length xs)) a x (sum_of xs) (squares xs) (apart-all a xs))

square-step : (n x s q : ℤ) → (s *ℤ s) ≤ℤ (n *ℤ q) → pos 0 ≤ℤ apart n x s q → ((x +ℤ s) *ℤ (x +ℤ s)) ≤ℤ ((pos 1 +ℤ n) *ℤ (x *ℤ x +ℤ q))
square-step n x s q h far =
    let e : (pos 1 +ℤ n) *ℤ (x *ℤ x +ℤ q) ≡ (x +ℤ s) *ℤ (x +ℤ s) +ℤ ((n *ℤ q -ℤ s *ℤ s) +ℤ apart n x s q) =
    ring (n ∷ (x ∷ (s ∷ (q ∷ []))))
    ((num (pos 1) ⊕ var 0) ⊗ (var 1 ⊗ var 1 ⊕ var 3))
    ((var 1 ⊕ var 2) ⊗ (var 1 ⊕ var 2) ⊕ ((var 0 ⊗ var 3 ⊕ minus (var 2 ⊗ var 2)) ⊕ ((var 0 ⊗ (var 1 ⊗ var 1) ⊕ minus (num (pos 2) ⊗ (var 1 ⊗ var 2))) ⊕ var 3))) tt in
    omega (arith, ints)

square_of_sum : (xs : List ℤ) → (sum_of xs *ℤ sum_of xs) ≤ℤ (pos (length xs) *ℤ squares xs)
square_of_sum [] = omega (arith, ints)
square_of_sum (x ∷ xs) = subst (λ n. ((x +ℤ sum_of xs) *ℤ (x +ℤ sum_of xs)) ≤ℤ (n *ℤ (x *ℤ x +ℤ squares xs))) (one-more (length xs))
    (square-step (pos (length xs)) x (sum_of xs) (squares xs) (square_of_sum xs) (apart-all x xs))

-- ---- of places
counted : (f : Place → ℤ) (ps : List Place) → length (map f ps) ≡ length ps
counted f [] = refl
counted f (p ∷ ps) = ap suc (counted f ps)

squares-joined : (ps : List Place) → squares (map (λ p. p.north) ps) +ℤ squares (map (λ p. p.east) ps) ≡ sum_of (map square_of ps)
unfolding square_of
squares-joined [] = omega (arith, ints)
squares-joined (p ∷ ps) = omega (arith, ints, squares-joined ps)

part-squared : (f : Place → ℤ) (ps : List Place) → (sum_of (map f ps) *ℤ sum_of (map f ps)) ≤ℤ (pos (length ps) *ℤ squares (map f ps))
part-squared f ps = subst (λ n. (sum_of (map f ps) *ℤ sum_of (map f ps)) ≤ℤ (pos n *ℤ squares (map f ps))) (counted f ps) (square_of_sum (map f ps))

joined : (n x y a b c : ℤ) → a +ℤ b ≡ c → (n *ℤ a -ℤ x *ℤ x) +ℤ (n *ℤ b -ℤ y *ℤ y) ≡ (n *ℤ c -ℤ x *ℤ x) -ℤ y *ℤ y
joined n x y a b c e =
    ring (n ∷ (x ∷ (y ∷ (a ∷ (b ∷ [])))))
    ((var 0 ⊗ var 3 ⊕ minus (var 1 ⊗ var 1)) ⊕ (var 0 ⊗ var 4 ⊕ minus (var 2 ⊗ var 2)))
    ((var 0 ⊗ (var 3 ⊕ var 4) ⊕ minus (var 1 ⊗ var 1)) ⊕ minus (var 2 ⊗ var 2)) tt
    ∙ ap (λ k. (n *ℤ k -ℤ x *ℤ x) -ℤ y *ℤ y) e

-- the spread by the sums is that of the north parts and that of the east parts
pub spread_is : (limit : ℤ) (ps : List Place) → spread_of (map (λ p. p.north) ps) +ℤ spread_of (map (λ p. p.east) ps) ≡ spread_by (sums_of limit ps)
unfolding sums_of
spread_is limit ps =
    let x = sum_of (map (λ p. p.north) ps) in let y = sum_of (map (λ p. p.east) ps) in
    let a = squares (map (λ p. p.north) ps) in let b = squares (map (λ p. p.east) ps) in
    ap (λ k. (pos k *ℤ a -ℤ x *ℤ x) +ℤ (pos (length (map (λ p. p.east) ps)) *ℤ b -ℤ y *ℤ y)) (counted (λ p. p.north) ps)
    ∙ ap (λ k. (pos (length ps) *ℤ a -ℤ x *ℤ x) +ℤ (pos k *ℤ b -ℤ y *ℤ y)) (counted (λ p. p.east) ps)
    ∙ joined (pos (length ps)) x y a b (sum_of (map square_of ps)) (squares-joined ps)

apart-none : (n x y a b c : ℤ) → a +ℤ b ≡ c → (x *ℤ x) ≤ℤ (n *ℤ a) → (y *ℤ y) ≤ℤ (n *ℤ b) → (x *ℤ x +ℤ y *ℤ y) ≤ℤ (n *ℤ c)
apart-none n x y a b c e h k =
    let j = joined n x y a b c e in
    omega (arith, ints)

sums-spread : (limit : ℤ) (ps : List Place) → ((sums_of limit ps).x *ℤ (sums_of limit ps).x +ℤ (sums_of limit ps).y *ℤ (sums_of limit ps).y) ≤ℤ (pos (sums_of limit ps).n *ℤ (sums_of limit ps).square)
unfolding sums_of
sums-spread limit ps =
    apart-none (pos (length ps)) (sum_of (map (λ p. p.north) ps)) (sum_of (map (λ p. p.east) ps)) (squares (map (λ p. p.north) ps)) (squares (map (λ p. p.east) ps)) (sum_of (map square_of ps))
    (squares-joined ps) (part-squared (λ p. p.north) ps) (part-squared (λ p. p.east) ps)

pub are_sums : (limit : ℤ) (ps : List Place) → AreNear ps → AreSums (sums_of limit ps)
are_sums limit ps near = AreSums-sums_of limit ps near (sums-spread limit ps)

pub variance_low : (s : Sums) → 0 < s.n → AreSums s → pos 0 ≤ℤ variance_by s
unfolding variance_by
variance_low s some sums =
    let n : pos 0 <ℤ pos s.n = omega (arith, ints, some) in
    let d = mul_pos (pos s.n *ℤ pos s.n) (pos (10 ^ 12)) (mul_pos (pos s.n) (pos s.n) n n) (omega (arith, ints)) in
    let low : (pos 0 *ℤ square_millimetres s.n) ≤ℤ spread_by s = omega (arith, ints, sums.spread) in
    floor_greatest (spread_by s) (spread_by s) (square_millimetres s.n) (floor_of (spread_by s) (square_millimetres s.n)) (pos 0) d (omega (arith, ints)) low (floor_is (spread_by s) (square_millimetres s.n) d).above
