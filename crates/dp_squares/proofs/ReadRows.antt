-- Values that are read back from a section.
use Rattle.std.proofs.Common.{◌≡◌, ◌≤◌, ◌+◌, ℕ, zero, suc, List, [], ◌∷◌, length, map, true, Option, Some, Ok, refl, ap, arith, ℤ, get_or}
use Rattle.std.specs.Prelude.{All, nat_le}
use Rattle.std.proofs.lemmas.Bool.{le-leb}
use Rattle.std.proofs.lemmas.List.Elements.{All-head, All-tail}
use Rattle.dp_form.specs.declared.Square.{Square}
use Rattle.dp_form.specs.declared.Squares.{Squares}
use Rattle.dp_plant.specs.Keys.{Section, all_some, count, field, listed, number_at, numbers_at, squares_at, wholes}
use Rattle.dp_plant.specs.PlantFile.{square_row, square_rows}
use Rattle.toml.specs.Data.{Data, integer, array, as_integer}
use Rattle.dp_squares.specs.Section.{IsWholeList, items_of, numbers_data}

pub number_read : (s : Section) (name : List ℕ) (z : ℤ) → field s.holder name ≡ Some (integer z) → number_at s name ≡ Ok z
unfolding number_at
number_read s name z h = rw h refl

count-items : {X : Type 0} (f : X → Data) (xs : List X) → count (items_of f xs) ≡ length xs
count-items f [] = refl
count-items f (x ∷ xs) = let e = count-items f xs in omega (arith, e)

all_some-items : {X : Type 0} (one : Data → Option X) (f : X → Data) (xs : List X) → All (λ x. one (f x) ≡ Some x) xs → all_some one (items_of f xs) ≡ Some xs
all_some-items one f [] h = refl
all_some-items {X} one f (x ∷ xs) h =
    let here : one (f x) ≡ Some x = All-head (λ (y : X). one (f y) ≡ Some y) x xs h in
    let rest = all_some-items one f xs (All-tail (λ (y : X). one (f y) ≡ Some y) x xs h) in
    rw here (rw rest refl)

listed-items : {X : Type 0} (least most : ℕ) (one : Data → Option X) (f : X → Data) (xs : List X) → least ≤ length xs → length xs ≤ most → All (λ x. one (f x) ≡ Some x) xs
    → listed least most one (array (items_of f xs)) ≡ Some xs
unfolding listed
listed-items least most one f xs low high h =
    let n = count-items f xs in
    let a : nat_le least (count (items_of f xs)) ≡ true = le-leb _ _ (omega (arith, n, low)) in
    let b : nat_le (count (items_of f xs)) most ≡ true = le-leb _ _ (omega (arith, n, high)) in
    rw a (rw b (all_some-items one f xs h))

integers : (zs : List ℤ) → All (λ z. as_integer (integer z) ≡ Some z) zs
integers zs = λ k d l. refl

wholes-read : (n : ℕ) (zs : List ℤ) → length zs ≡ n → wholes n (numbers_data zs) ≡ Some zs
wholes-read n zs h = listed-items n n as_integer integer zs (omega (arith, h)) (omega (arith, h)) (integers zs)

pub numbers_read : (s : Section) (name : List ℕ) (n : ℕ) (zs : List ℤ) → length zs ≡ n → field s.holder name ≡ Some (numbers_data zs) → numbers_at s name n ≡ Ok zs
unfolding numbers_at
numbers_read s name n zs l h = rw h (rw (wholes-read n zs l) refl)

rows_read : (s : Section) (name : List ℕ) (n : ℕ) (zss : List (List ℤ)) → length zss ≤ 8 → All (λ zs. length zs ≡ n + 1) zss → field s.holder name ≡ Some (array (items_of numbers_data zss))
    → squares_at n s name ≡ Ok zss
unfolding squares_at
rows_read s name n zss few wide h =
    rw h (rw (listed-items 0 8 (wholes (n + 1)) numbers_data zss (omega arith) few (λ k d l. wholes-read (n + 1) (get_or zss k d) (wide k d l))) refl)

-- ---- the rows of a whole list
length-rows : {n : ℕ} (qs : List (Square n)) → length (map square_row qs) ≡ length qs
length-rows [] = refl
length-rows (q ∷ qs) = ap suc (length-rows qs)

wide-rows : {n : ℕ} (qs : List (Square n)) → All (λ q. length q.l ≡ n) qs → All (λ zs. length zs ≡ n + 1) (map square_row qs)
wide-rows {n} [] h = λ k d l. absurd (omega (arith, l))
wide-rows {n} (q ∷ qs) h = wide-cons (All-head (λ (r : Square n). length r.l ≡ n) q qs h) (wide-rows qs (All-tail (λ (r : Square n). length r.l ≡ n) q qs h))
  where
    wide-cons : length q.l ≡ n → All (λ zs. length zs ≡ n + 1) (map square_row qs) → All (λ zs. length zs ≡ n + 1) (map square_row (q ∷ qs))
    wide-cons e r zero d l = omega (arith, e)
    wide-cons e r (suc k) d l = r k d (omega (arith, l))

pub squares_read : {n : ℕ} (s : Section) (name : List ℕ) (w : Squares n) → IsWholeList w → field s.holder name ≡ Some (array (items_of numbers_data (square_rows w))) → squares_at n s name ≡ Ok (square_rows w)
squares_read {n} s name w h f = rows_read s name n (square_rows w) (omega (arith, length-rows w.list.items, h.few)) (wide-rows w.list.items h.wide) f
