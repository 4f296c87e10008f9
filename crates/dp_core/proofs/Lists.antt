-- Lists of which one element, or each in turn, is changed.
use Rattle.std.proofs.Common.{List, None, Option, Some, [], ap, arith, drop, get_or, inl, inr, length, map, refl, set, slice_set, subst, suc, sym, take, zero, ℕ, ◌++◌, ◌+◌, ◌<◌, ◌∙◌, ◌∷◌, ◌≡◌, ◌≤◌, ◌⊎◌}
use Rattle.std.proofs.lemmas.List.Edits.{map_over_more}
use Rattle.std.proofs.lemmas.Option.{slice_get_read}
use Rattle.std.specs.Prelude.{slice_get, slice_index_or}
use Rattle.dp_core.specs.WorldState.{change_at, put_at}
use Rattle.dp_voter.specs.VoterState.{VoterState, begun}

-- ---- in code

pub begun_more : (cycle : ℕ) (xs ys : List VoterState) (i : ℕ) (x y : VoterState) → i < length xs → ys ≡ map (λ v. begun v cycle) (take i xs) ++ drop i xs → x ≡ get_or ys i x → y ≡ begun (get_or ys i x) cycle → set ys i y ≡ map (λ v. begun v cycle) (take (i + 1) xs) ++ drop (i + 1) xs
begun_more cycle xs ys i x y l inv r e =
    ap (set ys i) (e ∙ ap (λ (v : VoterState). begun v cycle) (sym r)) ∙ map_over_more (λ v. begun v cycle) xs ys i x l inv r

-- the element at k was read, and its change was written
pub changed-read : {A : Type 0} (items vs frames_done : List A) (k : ℕ) (x y : A) (change : A → A) → items ≡ vs → k < length vs → x ≡ get_or items k x → y ≡ change (get_or items k x) → frames_done ≡ set items k y → frames_done ≡ change_at vs k change
changed-read items vs frames_done k x y change e l r v a =
    let at : slice_get vs k ≡ Some x = slice_get_read vs (length vs) k x refl l (r ∙ ap (λ ws. get_or ws k x) e) in
    let new : y ≡ change x = v ∙ ap change (sym r) in
    rw at (a ∙ (ap (λ ws. set ws k y) e ∙ ap (set vs k) new))

-- ---- in lists

pub set-at : {A : Type 0} (xs : List A) (k j : ℕ) (x y : A) → slice_get (slice_set xs k x) j ≡ Some y → ((j ≡ k) × (x ≡ y)) ⊎ ((j ≡ k → ⊥) × (slice_get xs j ≡ Some y))
set-at [] k j x y e = cc
set-at (z ∷ zs) zero zero x y e = inl (refl, cc)
set-at (z ∷ zs) zero (suc j) x y e = inr (λ q. omega arith, e)
set-at (z ∷ zs) (suc k) zero x y e = inr (λ q. omega arith, e)
set-at (z ∷ zs) (suc k) (suc j) x y e = elim (set-at zs k j x y e) [
  | inl u ↦ inl (ap suc u.0, u.1)
  | inr u ↦ inr (λ q. u.0 (omega arith), u.1)
]

-- what stands at j is the change of what stood there, or what stood there
pub record IsChanged {A : Type 0} (xs : List A) (k : ℕ) (change : A → A) (y : A) : Type 0 where
  pub before : A
  pub stood : slice_get xs k ≡ Some before
  pub is : change before ≡ y

put-at : {A : Type 0} (xs : List A) (k j : ℕ) (change : A → A) (y : A) (o : Option A) → slice_get xs k ≡ o → slice_get (put_at xs k change o) j ≡ Some y → ((j ≡ k) × IsChanged xs k change y) ⊎ ((j ≡ k → ⊥) × (slice_get xs j ≡ Some y))
put-at xs k j change y None n e = inr (λ q. none_there xs k j y q n e, e)
  where
    none_there : {A : Type 0} (xs : List A) (k j : ℕ) (y : A) → j ≡ k → slice_get xs k ≡ None → slice_get xs j ≡ Some y → ⊥
    none_there xs k j y q n e = (let t = subst (λ i. slice_get xs i ≡ Some y) q e in cc)
put-at xs k j change y (Some x) n e = elim (set-at xs k j (change x) y e) [
  | inl u ↦ inl (u.0, record { before = x; stood = n; is = u.1 })
  | inr u ↦ inr u
]

pub changed-at : {A : Type 0} (xs : List A) (k j : ℕ) (change : A → A) (y : A) → slice_get (change_at xs k change) j ≡ Some y → ((j ≡ k) × IsChanged xs k change y) ⊎ ((j ≡ k → ⊥) × (slice_get xs j ≡ Some y))
changed-at xs k j change y e = put-at xs k j change y (slice_get xs k) refl e

-- one of them changes, and of each of them something else holds then
pub changed-each : {A : Type 0} (P Q : ℕ → A → Type 0) (xs : List A) (k : ℕ) (change : A → A) → ((x : A) → P k x → Q k (change x)) → ((j : ℕ) (x : A) → (j ≡ k → ⊥) → P j x → Q j x)
    → ((j : ℕ) (x : A) → slice_get xs j ≡ Some x → P j x) → (j : ℕ) (x : A) → slice_get (change_at xs k change) j ≡ Some x → Q j x
changed-each P Q xs k change own others each j x at = elim (changed-at xs k j change x at) [
  | inl u ↦ subst (λ i. Q i x) (sym u.0) (subst (Q k) u.1.is (own u.1.before (each k u.1.before u.1.stood)))
  | inr u ↦ others j x u.0 (each j x u.1)
]

pub set-length : {A : Type 0} (xs : List A) (k : ℕ) (x : A) → length (slice_set xs k x) ≡ length xs
set-length [] k x = refl
set-length (y ∷ ys) zero x = refl
set-length (y ∷ ys) (suc k) x = (let t = set-length ys k x in omega arith)

put-length : {A : Type 0} (xs : List A) (k : ℕ) (change : A → A) (o : Option A) → length (put_at xs k change o) ≡ length xs
put-length xs k change None = refl
put-length xs k change (Some x) = set-length xs k (change x)

pub changed-length : {A : Type 0} (xs : List A) (k : ℕ) (change : A → A) → length (change_at xs k change) ≡ length xs
changed-length xs k change = put-length xs k change (slice_get xs k)

-- each element in turn
pub record IsMapped {A : Type 0} (xs : List A) (k : ℕ) (change : A → A) (y : A) : Type 0 where
  pub before : A
  pub stood : slice_get xs k ≡ Some before
  pub is : change before ≡ y

pub map-at : {A : Type 0} (xs : List A) (j : ℕ) (change : A → A) (y : A) → slice_get (map change xs) j ≡ Some y → IsMapped xs j change y
map-at [] j change y e = cc
map-at (x ∷ xs) zero change y e = record { before = x; stood = refl; is = cc }
map-at (x ∷ xs) (suc j) change y e = (let t = map-at xs j change y e in record { before = t.before; stood = t.stood; is = t.is })

pub map-length : {A : Type 0} (xs : List A) (change : A → A) → length (map change xs) ≡ length xs
map-length [] change = refl
map-length (x ∷ xs) change = (let t = map-length xs change in omega arith)

-- the element that was read is the one that stands there
pub read-is : {A : Type 0} (items vs : List A) (k : ℕ) (x y : A) → items ≡ vs → k < length items → x ≡ get_or items k x → slice_get vs k ≡ Some y → get_or items k x ≡ y
read-is items vs k x y e l r s =
    let at : slice_get items k ≡ Some x = slice_get_read items (length items) k x refl l r in
    let there : slice_get items k ≡ Some y = subst (λ ws. slice_get ws k ≡ Some y) (sym e) s in
    let same : x ≡ y = cc in
    sym r ∙ same

pub read-at : {A : Type 0} (items : List A) (k : ℕ) (x : A) → k < length items → x ≡ get_or items k x → slice_get items k ≡ Some x
read-at items k x l r = slice_get_read items (length items) k x refl l r

set-same : {A : Type 0} (xs : List A) (k : ℕ) (x : A) → slice_get xs k ≡ Some x → slice_set xs k x ≡ xs
set-same [] k x e = refl
set-same (y ∷ ys) zero x e = (let same : x ≡ y = cc in ap (λ z. z ∷ ys) same)
set-same (y ∷ ys) (suc k) x e = ap (λ zs. y ∷ zs) (set-same ys k x e)

put-same : {A : Type 0} (xs : List A) (k : ℕ) (o : Option A) → slice_get xs k ≡ o → put_at xs k (λ x. x) o ≡ xs
put-same xs k None e = refl
put-same xs k (Some x) e = set-same xs k x e

-- a change to the same
pub changed-same : {A : Type 0} (xs : List A) (k : ℕ) → change_at xs k (λ x. x) ≡ xs
changed-same xs k = put-same xs k (slice_get xs k) refl

-- two changes that are alike where they are made
pub changed-alike : {A : Type 0} (xs : List A) (k : ℕ) (x : A) (f g : A → A) → slice_get xs k ≡ Some x → f x ≡ g x → change_at xs k f ≡ change_at xs k g
changed-alike xs k x f g at e = rw at (ap (λ y. slice_set xs k y) e)

-- there is an element below the length
pub get-below : {A : Type 0} (xs : List A) (k : ℕ) → k < length xs → (x : A) × (slice_get xs k ≡ Some x)
get-below [] k l = absurd (omega arith)
get-below (x ∷ xs) zero l = (x, refl)
get-below (x ∷ xs) (suc k) l = get-below xs k (omega arith)

pub below-get : {A : Type 0} (xs : List A) (k : ℕ) (x : A) → slice_get xs k ≡ Some x → k < length xs
below-get [] k x e = cc
below-get (y ∷ ys) zero x e = omega arith
below-get (y ∷ ys) (suc k) x e = let t = below-get ys k x e in omega arith

-- the elements of a list of three
pub record AreThree {A : Type 0} (xs : List A) : Type 0 where
  pub first : A
  pub second : A
  pub third : A
  pub are : xs ≡ first ∷ second ∷ third ∷ []

pub three-of : {A : Type 0} (xs : List A) → length xs ≡ 3 → AreThree xs
three-of [] e = absurd (omega arith)
three-of (x ∷ []) e = absurd (omega arith)
three-of (x ∷ y ∷ []) e = absurd (omega arith)
three-of (x ∷ y ∷ z ∷ []) e = record { first = x; second = y; third = z; are = refl }
three-of (x ∷ y ∷ z ∷ w ∷ ws) e = absurd (omega arith)

pub get-past : {A : Type 0} (xs : List A) (k : ℕ) → length xs ≤ k → slice_get xs k ≡ None
get-past [] k l = refl
get-past (x ∷ xs) zero l = absurd (omega arith)
get-past (x ∷ xs) (suc k) l = get-past xs k (omega arith)

-- of three, the ones behind those that were written
pub second-kept : {A : Type 0} (P : A → Type 0) (xs : List A) (y d : A) → length xs ≡ 3 → ((c : ℕ) (x : A) → slice_get xs c ≡ Some x → P x) → P (slice_index_or (slice_set xs 0 y) 1 d)
second-kept P [] y d l all = absurd (omega (arith, l))
second-kept P (a ∷ []) y d l all = absurd (omega (arith, l))
second-kept P (a ∷ b ∷ xs) y d l all = all 1 b refl

pub third-kept : {A : Type 0} (P : A → Type 0) (xs : List A) (y z d : A) → length xs ≡ 3 → ((c : ℕ) (x : A) → slice_get xs c ≡ Some x → P x) → P (slice_index_or (slice_set (slice_set xs 0 y) 1 z) 2 d)
third-kept P [] y z d l all = absurd (omega (arith, l))
third-kept P (a ∷ []) y z d l all = absurd (omega (arith, l))
third-kept P (a ∷ b ∷ []) y z d l all = absurd (omega (arith, l))
third-kept P (a ∷ b ∷ c ∷ xs) y z d l all = all 2 c refl
