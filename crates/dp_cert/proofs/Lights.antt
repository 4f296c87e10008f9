-- A vector within the widths has a form that fits 128 bits, and one past a width has a form above the reach's square.
use Rattle.std.proofs.Common.{◌≡◌, ◌<◌, ◌≤◌, ◌*◌, ◌^◌, ℕ, suc, List, [], ◌∷◌, Bool, true, false, Option, Some, None, length, refl, sym, ap, ap₂, subst, ◌∙◌, arith, ◌+◌, take, FitsSigned, ℤ, pos, ◌+ℤ◌, ◌*ℤ◌, ◌≤ℤ◌, ◌<ℤ◌, ◌⊎◌, inl, inr}
use Rattle.std.proofs.lemmas.Int.{ints, by_lt_z}
use Rattle.std.specs.Prelude.{int_le, is_some, map, unsigned_abs}
use mir.Syntax.{w128}
use Rattle.dp_fixed.specs.Scale.{full_scale}
use Rattle.dp_form.proofs.Ring.{var, num, ◌⊕◌, ◌⊗◌, ring}
use Rattle.dp_form.proofs.Order.{mul_le, mul_nonneg}
use Rattle.dp_form.specs.Range.{IsWithin}
use Rattle.dp_form.specs.Form.{form, plane_form, IsNonNegative}
use Rattle.dp_form.specs.Vectors.{apply, dot, row}
use Rattle.dp_form.proofs.Entries.{place}
use Rattle.dp_plant.specs.declared.cert.Cert.{Cert}
use Rattle.dp_plant.specs.declared.cert.Lists.{Lists}
use Rattle.dp_plant.specs.Vectors.{entry}
use Rattle.dp_cert.specs.CertifiedSet.{is_past, has_past}
use Rattle.dp_cert.specs.First.{first_below}
use Rattle.dp_cert.specs.Sizes.{IsLight}
use Rattle.dp_cert.specs.Sound.{AreBounded, BoundsCoordinate}
use Rattle.dp_cert.specs.Width.{first_too_wide, reach_of, width}
use Rattle.dp_cert.proofs.CertifiedLoops.{coordinate_below}
use Rattle.dp_cert.proofs.Fills.{dot_more, place_applied, small_vector}
use Rattle.dp_cert.proofs.FirstLaws.{first_none, none_below}
use Rattle.dp_cert.proofs.Near.{Near, near_product, size_near}
use Rattle.dp_cert.proofs.Reaches.{width_below}
use Rattle.dp_cert.proofs.Runs.{square_le}
use Rattle.dp_cert.proofs.TooWide.{width_at, width_within, part_within}
use Rattle.dp_cert.proofs.Widths.{from_lt_false, lt_false}

-- |x| at most v, |y| at most w, and |r| v w at most m
triple_near : (r x y v w m : ℤ) → pos (unsigned_abs x) ≤ℤ v → pos (unsigned_abs y) ≤ℤ w → (pos (unsigned_abs r) *ℤ (v *ℤ w)) ≤ℤ m → Near m (x *ℤ (r *ℤ y))
triple_near r x y v w m hx hy h =
    let a = near_product (pos (unsigned_abs r)) (v *ℤ w) r (x *ℤ y) (size_near (pos (unsigned_abs r)) r (omega (arith, ints))) (near_product v w x y (size_near v x hx) (size_near w y hy)) in
    let e = ring (r ∷ (x ∷ (y ∷ []))) (var 1 ⊗ (var 0 ⊗ var 2)) (var 0 ⊗ (var 1 ⊗ var 2)) tt in
    record { below = omega (arith, ints, a.below, e, h); above = omega (arith, ints, a.above, e, h) }

-- a dot product times a number, where each part is within m
dot_near : (a : ℤ) (r x : List ℤ) (m : ℤ) → pos 0 ≤ℤ m → ((j : ℕ) → j < length r → Near m (a *ℤ (place r j *ℤ place x j))) → Near (pos (length r) *ℤ m) (a *ℤ dot r x)
dot_near a [] x m h f = at_zero a (pos 0 *ℤ m) (mul_nonneg (pos 0) m (omega (arith, ints)) h)
  where
    at_zero : (a k : ℤ) → pos 0 ≤ℤ k → Near k (a *ℤ pos 0)
    at_zero a k h = let e = ring (a ∷ []) (var 0 ⊗ num (pos 0)) (num (pos 0)) tt in record { below = omega (arith, ints); above = omega (arith, ints) }
dot_near a (b ∷ r) [] m h f = at_zero a (pos (suc (length r)) *ℤ m) (mul_nonneg (pos (suc (length r))) m (omega (arith, ints)) h)
  where
    at_zero : (a k : ℤ) → pos 0 ≤ℤ k → Near k (a *ℤ pos 0)
    at_zero a k h = let e = ring (a ∷ []) (var 0 ⊗ num (pos 0)) (num (pos 0)) tt in record { below = omega (arith, ints); above = omega (arith, ints) }
dot_near a (b ∷ r) (c ∷ x) m h f = one_more (length r) m (a *ℤ (b *ℤ c)) (a *ℤ dot r x) (f 0 (omega arith)) (dot_near a r x m h (λ j l. f (suc j) (omega (arith, l)))) (split a (b *ℤ c) (dot r x))
  where
    split : (a b d : ℤ) → a *ℤ (b +ℤ d) ≡ a *ℤ b +ℤ a *ℤ d
    split a b d = ring (a ∷ (b ∷ (d ∷ []))) (var 0 ⊗ (var 1 ⊕ var 2)) (var 0 ⊗ var 1 ⊕ var 0 ⊗ var 2) tt

    sum_near : (k m p q : ℤ) {z : ℤ} → Near m p → Near (k *ℤ m) q → z ≡ p +ℤ q → Near ((pos 1 +ℤ k) *ℤ m) z
    sum_near k m p q n o e =
        let i = ring (k ∷ (m ∷ [])) ((num (pos 1) ⊕ var 0) ⊗ var 1) (var 1 ⊕ var 0 ⊗ var 1) tt in
        record { below = omega (arith, ints, n.below, o.below, e, i); above = omega (arith, ints, n.above, o.above, e, i) }

    one_more : (k : ℕ) (m p q : ℤ) {z : ℤ} → Near m p → Near (pos k *ℤ m) q → z ≡ p +ℤ q → Near (pos (suc k) *ℤ m) z
    one_more k m p q {z} n o e =
        let next : pos 1 +ℤ pos k ≡ pos (suc k) = omega (arith, ints) in
        subst (λ (w : ℤ). Near (w *ℤ m) z) next (sum_near (pos k) m p q n o e)

most : (z : ℤ) (n : ℕ) → n ≤ 5 → Near (pos n *ℤ pos (2 ^ 120)) z → IsWithin (5 * 2 ^ 120) z
most z n h k =
    let m = mul_le (pos (2 ^ 120)) (pos n) (pos 5) (omega (arith, ints)) (omega (arith, ints)) in
    let e = ring (pos (2 ^ 120) ∷ (pos n ∷ [])) (var 0 ⊗ var 1) (var 1 ⊗ var 0) tt in
    record { low = omega (arith, ints, k.below, m, e); high = omega (arith, ints, k.above, m, e) }

-- each coordinate within its width
pub light : {n : ℕ} (c : Cert) (l : Lists n) → n ≤ 5 → first_too_wide c l ≡ None → (x ws : List ℤ) → ws ≡ map (width (reach_of c l)) l.span → length x ≡ n →
    ((i : ℕ) → i < n → pos (unsigned_abs (entry x i)) ≤ℤ entry ws i) → IsLight n l.p.at x
light {n} c l n5 none x ws e len h =
    let made = map (width (reach_of c l)) l.span in
    let h' : (i : ℕ) → i < n → pos (unsigned_abs (entry x i)) ≤ℤ entry made i = λ i b. subst (λ (w : List ℤ). pos (unsigned_abs (entry x i)) ≤ℤ entry w i) e (h i b) in
    record {
      vector = small_vector n (2 ^ 56) x len (λ i b. coordinate (entry x i) (entry made i) (width (reach_of c l) (entry l.span i)) (h' i b) (width_at (reach_of c l) l.span i) (width_within c l none i b));
      parts = λ i b r. most (entry x i *ℤ dot (row l.p.at i) x) n n5
          (subst (λ (k : ℕ). Near (pos k *ℤ pos (2 ^ 120)) (entry x i *ℤ dot (row l.p.at i) x)) r
          (dot_near (entry x i) (row l.p.at i) x (pos (2 ^ 120)) (omega (arith, ints)) (λ j d.
          let j_in : j < n = omega (arith, d, r) in
          triple_near (entry (row l.p.at i) j) (entry x i) (entry x j) (entry made i) (entry made j) (pos (2 ^ 120)) (h' i b) (h' j j_in) (part_within c l none i j b j_in))));
    }
  where
    coordinate : (z w v : ℤ) → pos (unsigned_abs z) ≤ℤ w → w ≡ v → v ≤ℤ pos (2 ^ 56) → IsWithin (2 ^ 56) z
    coordinate z w v i e k = let n = size_near w z i in record { low = omega (arith, ints, n.below, e, k); high = omega (arith, ints, n.above, e, k) }

-- ---- tests
pub le_true : (a b : ℤ) → a ≤ℤ b → int_le a b ≡ true
le_true a b h = grind (arith, ints)

le_false : (a b : ℤ) → b <ℤ a → int_le a b ≡ false
le_false a b h = grind (arith, ints)

-- a form at most 2^126 against the square of a number from 2^63 on
pub long_square : (f n : ℤ) → IsWithin (2 ^ 126) f → pos (2 ^ 63) ≤ℤ n → int_le f (n *ℤ n) ≡ true
long_square f n h k =
    let s = square_le (pos (2 ^ 63)) n (omega (arith, ints)) k in
    le_true f (n *ℤ n) (omega (arith, ints, h.high, s))

-- the test for a coordinate past its width
found : (o : Option ℕ) → is_some o ≡ true → o ≡ None → ⊥
found None h e = absurd (cc)
found (Some i) h e = absurd (cc)

not_past : (n : ℕ) (x ws : List ℤ) → has_past n x ws ≡ true → ((i : ℕ) → i < n → pos (unsigned_abs (entry x i)) ≤ℤ entry ws i) → ⊥
unfolding has_past
not_past n x ws h k =
    let p : ℕ → Bool = λ (i : ℕ). is_past (entry x i) (entry ws i) in
    found (first_below n p) h (first_none n p (λ i d. lt_false (entry ws i) (pos (unsigned_abs (entry x i))) (k i d)))

none_found : (o : Option ℕ) → is_some o ≡ false → o ≡ None
none_found None h = refl
none_found (Some i) h = absurd (cc)

pub within_by : (n : ℕ) (x ws : List ℤ) → has_past n x ws ≡ false → (i : ℕ) → i < n → pos (unsigned_abs (entry x i)) ≤ℤ entry ws i
unfolding has_past
within_by n x ws h i d =
    let p : ℕ → Bool = λ (i : ℕ). is_past (entry x i) (entry ws i) in
    from_lt_false (entry ws i) (pos (unsigned_abs (entry x i))) (none_below n p (none_found (first_below n p) h) i d)

-- a coordinate of a state whose form is at most the reach's square
coordinate_narrow : {n : ℕ} (l : Lists n) (i : ℕ) → BoundsCoordinate l i → i < n → pos 0 ≤ℤ entry l.span i → (reach : ℤ) → pos 0 ≤ℤ reach → (x : List ℤ) → form l.p.at x ≤ℤ (reach *ℤ reach) →
    pos (unsigned_abs (entry x i)) ≤ℤ width reach (entry l.span i)
unfolding width
coordinate_narrow l i b d s reach low x h = width_below full_scale (entry l.span i) (entry x i) (form l.p.at x) reach (omega (arith, ints)) s low (coordinate_below l i b d x) h

-- a state with a coordinate past its width, in north or in east
pub past_is_outside : {n : ℕ} (l : Lists n) → IsNonNegative l.p.at → AreBounded l → ((i : ℕ) → pos 0 ≤ℤ entry l.span i) → (reach : ℤ) → pos 0 ≤ℤ reach → (x y ws : List ℤ) → ws ≡ map (width reach) l.span →
    has_past n x ws ≡ true → (int_le (plane_form l.p.at x y) (reach *ℤ reach) ≡ false) × (int_le (plane_form l.p.at y x) (reach *ℤ reach) ≡ false)
past_is_outside {n} l nonneg bounded spans reach low x y ws e h =
    let m = reach *ℤ reach in
    let narrow : form l.p.at x ≤ℤ m → (i : ℕ) → i < n → pos (unsigned_abs (entry x i)) ≤ℤ entry ws i = λ b i d.
    subst (λ (w : List ℤ). pos (unsigned_abs (entry x i)) ≤ℤ entry w i) (sym e)
    (subst (λ (w : ℤ). pos (unsigned_abs (entry x i)) ≤ℤ w) (sym (width_at reach l.span i)) (coordinate_narrow l i (bounded i d) d (spans i) reach low x b)) in
    let above : m <ℤ form l.p.at x = by_lt_z m (form l.p.at x) (λ a. a) (λ b. absurd (not_past n x ws h (narrow b))) in
    (le_false _ _ (first_above m (form l.p.at x) (form l.p.at y) above (nonneg y)), le_false _ _ (second_above m (form l.p.at x) (form l.p.at y) above (nonneg y)))
  where
    first_above : (m f g : ℤ) → m <ℤ f → pos 0 ≤ℤ g → m <ℤ (f +ℤ g)
    first_above m f g h k = omega (arith, ints)

    second_above : (m f g : ℤ) → m <ℤ f → pos 0 ≤ℤ g → m <ℤ (g +ℤ f)
    second_above m f g h k = omega (arith, ints)

-- ---- as the code has it, with the reach as a number
pub most_five : (n : ℕ) → (n ≡ 3) ⊎ (n ≡ 5) → n ≤ 5
most_five n h = elim h [ inl e ↦ omega arith | inr e ↦ omega arith ]

pub light_by : {n : ℕ} (c : Cert) (l : Lists n) (reach : ℤ) → (n ≡ 3) ⊎ (n ≡ 5) → first_too_wide c l ≡ None → reach ≡ reach_of c l → (x ws : List ℤ) → ws ≡ map (width reach) l.span → length x ≡ n → has_past n x ws ≡ false → IsLight n l.p.at x
light_by {n} c l reach size none e x ws w len h = light c l (most_five n size) none x ws (w ∙ ap (λ (z : ℤ). map (width z) l.span) e) len (within_by n x ws h)

pub below_six : (n : ℕ) → (n ≡ 3) ⊎ (n ≡ 5) → n < 6
below_six n h = elim h [ inl e ↦ omega arith | inr e ↦ omega arith ]

-- a square of at most 2^63
pub short_square : (n : ℤ) → pos 0 ≤ℤ n → n ≤ℤ pos (2 ^ 63) → FitsSigned w128 (n *ℤ n)
short_square n h k =
    let s = square_le n (pos (2 ^ 63)) h k in
    let z = mul_nonneg n n h h in
    omega (arith, ints)

-- the next row's part
pub light_more : (p : List (List ℤ)) (x : List ℤ) (i : ℕ) (s a r d : ℤ) → i < length x → s ≡ dot (take i x) (apply p x) → d ≡ dot (row p i) x → r ≡ place x i *ℤ d → a ≡ s +ℤ r → a ≡ dot (take (i + 1) x) (apply p x)
light_more p x i s a r d h e k m n =
    n ∙ ap₂ (λ (u v : ℤ). u +ℤ v) e (m ∙ ap (λ (z : ℤ). place x i *ℤ z) (k ∙ sym (place_applied p x i))) ∙ sym (dot_more x (apply p x) i h)
