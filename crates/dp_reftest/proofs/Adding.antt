-- The sums of a list with one place more at its end, and with one less at its start; how large they are.
use Rattle.std.proofs.Common.{◌≡◌, ℕ, suc, ◌+◌, ◌*◌, ◌-◌, ◌≤◌, Bool, true, false, List, [], ◌∷◌, ◌++◌, length, map, Option, Some, refl, sym, ap, ◌∙◌, arith}
use Rattle.std.specs.Prelude.{ℤ, pos, negsuc, ◌*ℤ◌, ◌^◌, ◌≤ℤ◌, ◌+ℤ◌, unsigned_abs, slice_get, if◌then◌else◌}
use Rattle.std.proofs.lemmas.Int.{ints}
use Rattle.std.proofs.Math.Nat.{mul-le-mul_left}
use Rattle.std.proofs.lemmas.List.{length-append}
use Rattle.circular_buffer.specs.Buffer.{last_item}
use Rattle.dp_plant.specs.declared.place.Place.{Place}
use Rattle.dp_plant.specs.Ranges.{IsVectorWithin}
use Rattle.dp_reftest.specs.declared.sums.Sums.{Sums}
use Rattle.dp_reftest.specs.Running.{pair, first_of, with_more, with_less}
use Rattle.dp_reftest.specs.Totals.{AreSums, is_same, neighbours, square_of, sums_of}
use Rattle.dp_reftest.specs.Verdict.{is_jump, newest_from, sum_of}
use Rattle.dp_reftest.specs.Window.{AreNear}

total-push : (f : Place → ℤ) (ps : List Place) (p : Place) → sum_of (map f (ps ++ p ∷ [])) ≡ sum_of (map f ps) +ℤ f p
total-push f [] p = omega (arith, ints)
total-push f (q ∷ ps) p = omega (arith, ints, total-push f ps p)

last-more : (q r : Place) (ps : List Place) → last_item (q ∷ r ∷ ps) ≡ last_item (r ∷ ps)
last-more q r ps =
    let i : length (q ∷ r ∷ ps) - 1 ≡ suc (length ps) = omega arith in
    let j : length (r ∷ ps) - 1 ≡ length ps = omega arith in
    ap (slice_get (q ∷ r ∷ ps)) i ∙ ap (slice_get (r ∷ ps)) (sym j)

pub last_is_newest : (a : Place) (xs : List Place) → last_item (a ∷ xs) ≡ Some (newest_from a xs)
last_is_newest a [] = refl
last_is_newest a (b ∷ xs) = last-more a b xs ∙ last_is_newest b xs

neighbours-push : (t : Place → Place → Bool) (ps : List Place) (p : Place) → neighbours t (ps ++ p ∷ []) ≡ neighbours t ps + pair t (last_item ps) (Some p)
neighbours-push t [] p = refl
neighbours-push t (q ∷ []) p = omega arith
neighbours-push t (q ∷ r ∷ ps) p = omega (arith, neighbours-push t (r ∷ ps) p, ap (λ (o : Option Place). pair t o (Some p)) (last-more q r ps))

pub neighbours-first : (t : Place → Place → Bool) (p : Place) (ps : List Place) → neighbours t (p ∷ ps) ≡ pair t (Some p) (first_of ps) + neighbours t ps
neighbours-first t p [] = refl
neighbours-first t p (q ∷ ps) = refl

abbrev make : ℕ → ℤ → ℤ → ℤ → ℕ → ℕ → Sums
make n x y s j e = record { n = n; x = x; y = y; square = s; jumps = j; same = e }

make-same : (n n' : ℕ) (x x' y y' s s' : ℤ) (j j' e e' : ℕ) → n ≡ n' → x ≡ x' → y ≡ y' → s ≡ s' → j ≡ j' → e ≡ e' → make n x y s j e ≡ make n' x' y' s' j' e'
make-same n n' x x' y y' s s' j j' e e' a b c d f g = rw (a, b, c, d, f, g) refl

pub same_sums : (a b : Sums) → a.n ≡ b.n → a.x ≡ b.x → a.y ≡ b.y → a.square ≡ b.square → a.jumps ≡ b.jumps → a.same ≡ b.same → a ≡ b
same_sums a b n x y s j e = make-same a.n b.n a.x b.x a.y b.y a.square b.square a.jumps b.jumps a.same b.same n x y s j e

pub sums_of-push : (limit : ℤ) (ps : List Place) (p : Place) → sums_of limit (ps ++ p ∷ []) ≡ with_more limit (last_item ps) p (sums_of limit ps)
unfolding sums_of
sums_of-push limit ps p = same_sums (sums_of limit (ps ++ p ∷ [])) (with_more limit (last_item ps) p (sums_of limit ps))
    (omega (arith, length-append ps (p ∷ []))) (total-push (λ q. q.north) ps p) (total-push (λ q. q.east) ps p) (total-push square_of ps p) (neighbours-push (is_jump limit) ps p) (neighbours-push is_same ps p)

pub sums_of-first : (limit : ℤ) (p : Place) (ps : List Place) → with_less limit p (first_of ps) (sums_of limit (p ∷ ps)) ≡ sums_of limit ps
unfolding sums_of
sums_of-first limit p ps = same_sums (with_less limit p (first_of ps) (sums_of limit (p ∷ ps))) (sums_of limit ps)
    (omega arith) (omega (arith, ints)) (omega (arith, ints)) (omega (arith, ints)) (omega (arith, neighbours-first (is_jump limit) p ps)) (omega (arith, neighbours-first is_same p ps))

pub first_counts : (limit : ℤ) (p : Place) (ps : List Place) → (pair (is_jump limit) (Some p) (first_of ps) ≤ (sums_of limit (p ∷ ps)).jumps) × (pair is_same (Some p) (first_of ps) ≤ (sums_of limit (p ∷ ps)).same)
unfolding sums_of
first_counts limit p ps = (omega (arith, neighbours-first (is_jump limit) p ps), omega (arith, neighbours-first is_same p ps))

-- ---- how large the sums are
total-bound : (f : Place → ℤ) → ((p : Place) → IsVectorWithin (2 ^ 43) p → unsigned_abs (f p) ≤ 2 ^ 43) → (ps : List Place) → AreNear ps → unsigned_abs (sum_of (map f ps)) ≤ length ps * 2 ^ 43
total-bound f h [] near = omega (arith, ints)
total-bound f h (p ∷ ps) near = omega (arith, ints, total-bound f h ps near.1, h p near.0)

neighbours-bound : (t : Place → Place → Bool) (ps : List Place) → neighbours t ps ≤ length ps - 1
neighbours-bound t [] = omega arith
neighbours-bound t (p ∷ []) = omega arith
neighbours-bound t (p ∷ q ∷ ps) = omega (arith, neighbours-bound t (q ∷ ps), one (t p q))
  where
    one : (b : Bool) → (if b then 1 else 0) ≤ 1
    one true = omega arith
    one false = omega arith

square-mono : (n m : ℕ) → n ≤ m → n * n ≤ m * m
square-mono n m h = omega (arith, mul-le-mul_left n h, mul-le-mul_left m h)

pub part_squared : (z : ℤ) → unsigned_abs z ≤ 2 ^ 43 → (pos 0 ≤ℤ (z *ℤ z)) × ((z *ℤ z) ≤ℤ pos (2 ^ 86))
part_squared (pos n) h = (omega (arith, ints), omega (arith, ints, square-mono n 8796093022208 h))
part_squared (negsuc n) h = (omega (arith, ints), omega (arith, ints, square-mono (n + 1) 8796093022208 (omega arith)))

pub place_squared : (p : Place) → IsVectorWithin (2 ^ 43) p → (pos 0 ≤ℤ square_of p) × (square_of p ≤ℤ pos (2 ^ 87))
unfolding square_of
place_squared p near =
    let n = part_squared p.north near.north in
    let e = part_squared p.east near.east in
    (omega (arith, ints, n.0, e.0), omega (arith, ints, n.1, e.1))

squares-bound : (ps : List Place) → AreNear ps → (pos 0 ≤ℤ sum_of (map square_of ps)) × (sum_of (map square_of ps) ≤ℤ pos (length ps * 2 ^ 87))
squares-bound [] near = (omega (arith, ints), omega (arith, ints))
squares-bound (p ∷ ps) near = let h = squares-bound ps near.1 in let q = place_squared p near.0 in (omega (arith, ints, h.0, q.0), omega (arith, ints, h.1, q.1))

pub AreSums-sums_of : (limit : ℤ) (ps : List Place) → AreNear ps → ((sums_of limit ps).x *ℤ (sums_of limit ps).x +ℤ (sums_of limit ps).y *ℤ (sums_of limit ps).y) ≤ℤ (pos (sums_of limit ps).n *ℤ (sums_of limit ps).square) → AreSums (sums_of limit ps)
unfolding sums_of
AreSums-sums_of limit ps near spread =
    let q = squares-bound ps near in
    record {
      x = total-bound (λ p. p.north) (λ p h. h.north) ps near;
      y = total-bound (λ p. p.east) (λ p h. h.east) ps near;
      square_low = q.0;
      square_high = q.1;
      spread = spread;
      jumps = neighbours-bound (is_jump limit) ps;
      same = neighbours-bound is_same ps;
    }
