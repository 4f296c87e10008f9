-- Arrays that a loop fills and sums that a loop adds up.
use Rattle.std.proofs.Common.{◌≡◌, ◌<◌, ◌≤◌, ◌+◌, ◌*◌, ◌^◌, ℕ, zero, suc, List, [], ◌∷◌, ◌++◌, length, take, refl, sym, ap, subst, ◌∙◌, arith, ℤ, pos, ◌+ℤ◌, ◌-ℤ◌, ◌*ℤ◌}
use Rattle.std.proofs.lemmas.Int.{ints, by_lt_z}
use Rattle.std.proofs.lemmas.List.{get_or_past}
use Rattle.std.proofs.lemmas.List.Elements.{All-nil, All-cons, All-head, All-tail}
use Rattle.std.proofs.lemmas.Nat.{mul-le}
use Rattle.std.proofs.lemmas.List.{take_more, take_all}
use lib.IntN.{*ℤ-zero}
use Rattle.std.specs.Prelude.{All}
use Rattle.dp_form.specs.Vectors.{dot, apply, row}
use Rattle.dp_form.specs.Range.{IsWithin}
use Rattle.dp_form.proofs.Entries.{place}
use Rattle.dp_form.proofs.Products.{product_within}
use Rattle.dp_cert.specs.Matrices.{column}

pub place_column : (a : List (List ℤ)) (i j : ℕ) → place (column a j) i ≡ place (row a i) j
place_column [] i j = refl
place_column (r ∷ a) zero j = refl
place_column (r ∷ a) (suc i) j = place_column a i j

pub length_column : (a : List (List ℤ)) (j : ℕ) → length (column a j) ≡ length a
length_column [] j = refl
length_column (r ∷ a) j = ap suc (length_column a j)

-- a dot product with full_scale entry more on the left
dot_push : (x : List ℤ) (a : ℤ) (y : List ℤ) → dot (x ++ a ∷ []) y ≡ dot x y +ℤ a *ℤ place y (length x)
dot_push [] a [] = omega (arith, ints, *ℤ-zero a)
dot_push [] a (b ∷ y) = omega (arith, ints)
dot_push (c ∷ x) a [] = omega (arith, ints, *ℤ-zero a)
dot_push (c ∷ x) a (b ∷ y) = omega (arith, ints, dot_push x a y)

length_take : (x : List ℤ) (k : ℕ) → k < length x → length (take k x) ≡ k
length_take [] k h = absurd (omega arith)
length_take (a ∷ x) zero h = refl
length_take (a ∷ x) (suc k) h = ap suc (length_take x k (omega (arith, h)))

pub dot_more : (x y : List ℤ) (k : ℕ) → k < length x → dot (take (k + 1) x) y ≡ dot (take k x) y +ℤ place x k *ℤ place y k
dot_more x y k h =
    ap (λ (z : List ℤ). dot z y) (take_more x k (pos 0) h) ∙ dot_push (take k x) (place x k) y
    ∙ ap (λ (i : ℕ). dot (take k x) y +ℤ place x k *ℤ place y i) (length_take x k h)

pub dot_all : (x y : List ℤ) (k : ℕ) → length x ≤ k → dot (take k x) y ≡ dot x y
dot_all x y k h = ap (λ (z : List ℤ). dot z y) (take_all k x h)

-- ---- sizes of the sum
pub sum_within : (n m k l : ℕ) (a b : ℤ) → IsWithin n a → IsWithin m b → k ≡ n + m → IsWithin k (a +ℤ b)
sum_within n m k l a b h i e = record { low = omega (arith, ints, h.low, i.low, e); high = omega (arith, ints, h.high, i.high, e) }

pub wider : (n m : ℕ) (a : ℤ) → n ≤ m → IsWithin n a → IsWithin m a
wider n m a l h = record { low = omega (arith, ints, h.low, l); high = omega (arith, ints, h.high, l) }

-- what a loop's next part adds, with m for the second vector's size
pub part_added : (k w m : ℕ) (s a b : ℤ) → IsWithin w a → IsWithin m b → IsWithin (k * (w * m)) s → IsWithin ((k + 1) * (w * m)) (s +ℤ a *ℤ b)
part_added k w m s a b ha hb hs =
    let p = product_within w m a b ha hb in
    sum_within (k * (w * m)) (w * m) ((k + 1) * (w * m)) 0 s (a *ℤ b) hs p (more k (w * m))
  where
    more : (k n : ℕ) → (k + 1) * n ≡ k * n + n
    more k n = omega arith

-- fewer parts than five
pub few : (k n : ℕ) → k ≤ 5 → k * n ≤ 5 * n
few k n h = mul-le k n 5 n h (omega arith)

by_lt : {P : Type 0} (a b : ℕ) → (a < b → P) → (b ≤ a → P) → P
by_lt a b f g = by_lt_z (pos a) (pos b) (λ l. f (omega (arith, ints))) (λ l. g (omega (arith, ints)))

-- a fact of each number below k, and of k
pub below_more : (P : ℕ → Type 0) (k : ℕ) → ((i : ℕ) → i < k → P i) → P k → (i : ℕ) → i < k + 1 → P i
below_more P k h p i l = by_lt i k (λ a. h i a) (λ b. subst P (omega (arith, b, l)) p)

zero_within : (n : ℕ) → IsWithin n (pos 0)
zero_within n = record { low = omega (arith, ints); high = omega (arith, ints) }

-- a number at any place of a vector of small numbers
pub place_small : (n : ℕ) (r : List ℤ) (j : ℕ) → All (IsWithin n) r → IsWithin n (place r j)
place_small n r j h = by_lt j (length r) (λ l. h j (pos 0) l) (λ l. subst (IsWithin n) (sym (get_or_past r j (pos 0) l)) (zero_within n))

pub column_small : (n : ℕ) (a : List (List ℤ)) (j : ℕ) → All (All (IsWithin n)) a → All (IsWithin n) (column a j)
column_small n [] j h = All-nil (IsWithin n)
column_small n (r ∷ a) j h = All-cons (IsWithin n) (place r j) (column a j) (place_small n r j (All-head (All (IsWithin n)) r a h)) (column_small n a j (All-tail (All (IsWithin n)) r a h))

-- vectors with small numbers, by place
pub small_vector : (n m : ℕ) (x : List ℤ) → length x ≡ n → ((k : ℕ) → k < n → IsWithin m (place x k)) → All (IsWithin m) x
small_vector n m [] l h = All-nil (IsWithin m)
small_vector n m (a ∷ x) l h = All-cons (IsWithin m) a x (h 0 (omega arith)) (small_vector (length x) m x refl (λ k k_in. h (suc k) (omega (arith, k_in, l))))

pub wider_all : (n m : ℕ) (x : List ℤ) → n ≤ m → All (IsWithin n) x → All (IsWithin m) x
wider_all n m x l h k d k_in = wider n m _ l (h k d k_in)

pub place_applied : (p : List (List ℤ)) (y : List ℤ) (i : ℕ) → place (apply p y) i ≡ dot (row p i) y
place_applied [] y i = refl
place_applied (r ∷ p) y zero = refl
place_applied (r ∷ p) y (suc i) = place_applied p y i

-- rate² p - s, in range
pub less_within : (rate p s : ℤ) → IsWithin (2 ^ 30) rate → IsWithin (2 ^ 40) p → IsWithin (5 * 2 ^ 118) s → IsWithin (2 ^ 60) (rate *ℤ rate) × IsWithin (2 ^ 100) (rate *ℤ rate *ℤ p) × IsWithin (2 ^ 121) (rate *ℤ rate *ℤ p -ℤ s)
less_within rate p s hr hp hs =
    let a : IsWithin (2 ^ 60) (rate *ℤ rate) = product_within (2 ^ 30) (2 ^ 30) rate rate hr hr in
    let b : IsWithin (2 ^ 100) (rate *ℤ rate *ℤ p) = product_within (2 ^ 60) (2 ^ 40) (rate *ℤ rate) p a hp in
    (a, b, record { low = omega (arith, ints, b.low, hs.high); high = omega (arith, ints, b.high, hs.low) })

-- k² p - a b, in range
pub less_product_within : (k p a b : ℤ) → IsWithin (2 ^ 40) k → IsWithin (2 ^ 40) p → IsWithin (2 ^ 35) a → IsWithin (2 ^ 35) b →
    IsWithin (2 ^ 80) (k *ℤ k) × IsWithin (2 ^ 120) (k *ℤ k *ℤ p) × IsWithin (2 ^ 70) (a *ℤ b) × IsWithin (2 ^ 121) (k *ℤ k *ℤ p -ℤ a *ℤ b)
less_product_within k p a b hk hp ha hb =
    let s : IsWithin (2 ^ 80) (k *ℤ k) = product_within (2 ^ 40) (2 ^ 40) k k hk hk in
    let t : IsWithin (2 ^ 120) (k *ℤ k *ℤ p) = product_within (2 ^ 80) (2 ^ 40) (k *ℤ k) p s hp in
    let u : IsWithin (2 ^ 70) (a *ℤ b) = product_within (2 ^ 35) (2 ^ 35) a b ha hb in
    (s, t, u, record { low = omega (arith, ints, t.low, u.high); high = omega (arith, ints, t.high, u.low) })
