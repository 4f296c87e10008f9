-- The squares that are made for a matrix, step by step.
use Rattle.std.proofs.Common.{◌≡◌, ◌<◌, ◌≤◌, ◌+◌, ◌-◌, ◌*◌, ◌^◌, ◌++◌, ℕ, zero, suc, Bool, true, false, ◌&&◌, List, [], ◌∷◌, Option, Some, None, length, refl, sym, ap, ◌∙◌, arith, ℤ, pos, negsuc, ◌*ℤ◌, ◌≤ℤ◌, ◌<ℤ◌, unsigned_abs}
use Rattle.std.proofs.Common.{subst, ◌⊎◌, ⊎_elim, FitsSigned, ap₂, if◌then◌else◌}
use Rattle.std.proofs.lemmas.List.{get_or-set_other}
use Rattle.std.proofs.lemmas.Grind.{get_or-set_at}
use mir.Syntax.{w128}
use Rattle.std.specs.Prelude.{slice_index_or, slice_set}
use native.Mathlib.Numerals.{unary_clauses}
use Rattle.std.specs.Prelude.{int_le, int_lt}
use Rattle.std.specs.Int.{int_div_euclid}
use Rattle.std.proofs.lemmas.Int.{ints}
use Rattle.dp_form.proofs.Entries.{place, residual-push}
use Rattle.dp_form.proofs.Order.{mul_le, mul_nonneg}
use Rattle.dp_form.proofs.Ring.{var, num, ◌⊗◌, ring}
use Rattle.dp_form.specs.Vectors.{entry, row}
use Rattle.dp_form.specs.Residual.{residual}
use Rattle.dp_form.specs.declared.Square.{Square}
use Rattle.dp_form.specs.Made.{part, parts, quarter, shift, next_square, is_taken, square_at, trim, weight, with_square, left_after, made_from, scale_of, are_small}

-- ---- floors
pub floor_low : (n d : ℤ) → pos 0 ≤ℤ n → pos 1 ≤ℤ d → pos 0 ≤ℤ int_div_euclid n d
floor_low (pos a) (pos b) h k = omega (arith, ints)
floor_low (negsuc a) d h k = absurd (omega (arith, ints))
floor_low n (negsuc b) h k = absurd (omega (arith, ints))

pub floor_below : (n d : ℤ) → pos 0 ≤ℤ n → pos 1 ≤ℤ d → (int_div_euclid n d *ℤ d) ≤ℤ n
floor_below (pos a) (pos b) h k = omega (arith, ints)
floor_below (negsuc a) d h k = absurd (omega (arith, ints))
floor_below n (negsuc b) h k = absurd (omega (arith, ints))

lt_yes : (x y : ℤ) → x <ℤ y → int_lt x y ≡ true
lt_yes x y h = grind (arith, ints)

lt_no : (x y : ℤ) → y ≤ℤ x → int_lt x y ≡ false
lt_no x y h = grind (arith, ints)

-- ---- powers
doubled : (a : ℕ) → (a * 2) * (a * 2) ≡ (a * a) * 4
doubled a = omega arith

square_is : (k : ℕ) → 2 ^ k * 2 ^ k ≡ 4 ^ k
square_is zero = refl
square_is (suc k) = simp unary_clauses (doubled (2 ^ k) ∙ ap (λ (z : ℕ). z * 4) (square_is k))

pub four_is : (k : ℕ) → pos (2 ^ k) *ℤ pos (2 ^ k) ≡ pos (4 ^ k)
four_is k = ap pos (square_is k)

power_two : (k : ℕ) → 2 ^ suc k ≡ 2 * 2 ^ k
power_two k = simp unary_clauses (omega arith)

power_low : (k : ℕ) → 1 ≤ 2 ^ k
power_low zero = omega arith
power_low (suc k) = omega (arith, power_low k, power_two k)

pub scale_low : (k : ℕ) (s : ℤ) → s ≡ pos (2 ^ k) → pos 1 ≤ℤ s
scale_low k s e = omega (arith, ints, e, power_low k)

-- half a power, and the next one down
pub scale_half : (k : ℕ) (s : ℤ) → 0 < k → s ≡ pos (2 ^ k) → int_div_euclid s (pos 2) ≡ pos (2 ^ (k - 1))
scale_half zero s h e = absurd (omega arith)
scale_half (suc m) s h e =
    let d : 2 ^ suc m ≡ 2 * 2 ^ m = power_two m in
    let f : suc m - 1 ≡ m = omega arith in
    ap (λ (z : ℤ). int_div_euclid z (pos 2)) (e ∙ ap pos d) ∙ half (2 ^ m) ∙ ap (λ (n : ℕ). pos (2 ^ n)) (sym f)
  where
    half : (a : ℕ) → int_div_euclid (pos (2 * a)) (pos 2) ≡ pos a
    half a = omega (arith, ints)

pub shift_further : (k : ℕ) (q : ℤ) → 0 < k → quarter q k <ℤ pos 256 → shift (k - 1) q ≡ shift k q
unfolding shift
shift_further zero q h l = absurd (omega arith)
shift_further (suc m) q h l =
    let t : int_lt (quarter q (suc m)) (pos 256) ≡ true = lt_yes (quarter q (suc m)) (pos 256) l in
    let f : suc m - 1 ≡ m = omega arith in
    rw t (ap (λ (n : ℕ). shift n q) f)

pub shift_here : (k : ℕ) (q : ℤ) → 0 < k → pos 256 ≤ℤ quarter q k → k ≡ shift k q
unfolding shift
shift_here zero q h l = absurd (omega arith)
shift_here (suc m) q h l = let t : int_lt (quarter q (suc m)) (pos 256) ≡ false = lt_no (quarter q (suc m)) (pos 256) l in rw t refl

-- the square of a scale
pub square_low : (s : ℤ) → pos 1 ≤ℤ s → pos 1 ≤ℤ (s *ℤ s)
square_low s h =
    let l = mul_le s (pos 1) s (omega (arith, ints)) h in
    let e = ring (s ∷ []) (var 0 ⊗ num (pos 1)) (var 0) tt in
    omega (arith, ints)

pub square_fits : (s : ℤ) → pos 1 ≤ℤ s → s ≤ℤ pos (2 ^ 40) → FitsSigned w128 (s *ℤ s)
square_fits s h k =
    let l = mul_le s (pos 1) s (omega (arith, ints)) h in
    let m = mul_le s s (pos (2 ^ 40)) (omega (arith, ints)) k in
    omega (arith, ints)

quarter_at : (q s r : ℤ) (k : ℕ) → s ≡ pos (2 ^ k) → r ≡ int_div_euclid q (s *ℤ s) → r ≡ quarter q k
quarter_at q s r k e v = v ∙ ap (λ (z : ℤ). int_div_euclid q z) (ap (λ (z : ℤ). z *ℤ z) e ∙ four_is k)

-- the search for the scale: it ends with one that is large enough, or goes on, or ends at 1
pub scale_found : (q s r : ℤ) (k : ℕ) → 0 < k → s ≡ pos (2 ^ k) → r ≡ int_div_euclid q (s *ℤ s) → pos 256 ≤ℤ r → shift k q ≡ shift 40 q → s ≡ scale_of q
scale_found q s r k h e v l rest =
    e ∙ ap (λ (n : ℕ). pos (2 ^ n)) (shift_here k q h (subst (λ (z : ℤ). pos 256 ≤ℤ z) (quarter_at q s r k e v) l) ∙ rest)

pub scale_further : (q s r : ℤ) (k : ℕ) → 0 < k → s ≡ pos (2 ^ k) → r ≡ int_div_euclid q (s *ℤ s) → r <ℤ pos 256 → shift k q ≡ shift 40 q → shift (k - 1) q ≡ shift 40 q
scale_further q s r k h e v l rest =
    shift_further k q h (subst (λ (z : ℤ). z <ℤ pos 256) (quarter_at q s r k e v) l) ∙ rest

pub scale_ends : (q s : ℤ) (k : ℕ) → k ≤ 0 → s ≡ pos (2 ^ k) → shift k q ≡ shift 40 q → s ≡ scale_of q
unfolding shift
scale_ends q s zero h e rest = e ∙ ap (λ (n : ℕ). pos (2 ^ n)) rest
scale_ends q s (suc k) h e rest = absurd (omega (arith, h))

-- what a weight and a scale leave room for
pub room_is : (w s q : ℤ) → pos 0 ≤ℤ w → pos 1 ≤ℤ s → (w *ℤ (s *ℤ s)) ≤ℤ q → (w *ℤ s) ≤ℤ q
room_is w s q h k l =
    let m = mul_le (w *ℤ s) (pos 1) s (mul_nonneg w s h (omega (arith, ints))) k in
    let e = ring (w ∷ (s ∷ [])) (var 0 ⊗ var 1 ⊗ num (pos 1)) (var 0 ⊗ var 1) tt in
    let f = ring (w ∷ (s ∷ [])) (var 0 ⊗ var 1 ⊗ var 1) (var 0 ⊗ (var 1 ⊗ var 1)) tt in
    omega (arith, ints)

-- ---- vectors
pub length_parts : (i : ℕ) (d k : ℤ) (j : ℕ) (rs : List ℤ) → length (parts i d k j rs) ≡ length rs
length_parts i d k j [] = refl
length_parts i d k j (r ∷ rs) = ap suc (length_parts i d k (suc j) rs)

place_from : (i : ℕ) (d k : ℤ) (j : ℕ) (rs : List ℤ) (m : ℕ) → m < length rs → place (parts i d k j rs) m ≡ part i d k (j + m) (place rs m)
place_from i d k j [] m h = absurd (omega arith)
place_from i d k j (r ∷ rs) zero h = let e : j ≡ j + 0 = omega arith in ap (λ (n : ℕ). part i d k n r) e
place_from i d k j (r ∷ rs) (suc m) h =
    let e : suc j + m ≡ j + suc m = omega arith in
    place_from i d k (suc j) rs m (omega (arith, h)) ∙ ap (λ (n : ℕ). part i d k n (place rs m)) e

pub place_parts : (i : ℕ) (d k : ℤ) (rs : List ℤ) (m : ℕ) → m < length rs → place (parts i d k 0 rs) m ≡ part i d k m (place rs m)
place_parts i d k rs m h = let e : 0 + m ≡ m = omega arith in place_from i d k 0 rs m h ∙ ap (λ (n : ℕ). part i d k n (place rs m)) e

abbrev pub is_small : ℤ → Bool
is_small z = int_le (pos (unsigned_abs z)) (pos (2 ^ 40))

pub all_small : (zs : List ℤ) → ((m : ℕ) → m < length zs → is_small (place zs m) ≡ true) → are_small zs ≡ true
all_small [] h = refl
all_small (z ∷ zs) h =
    let here : is_small z ≡ true = h 0 (omega arith) in
    let rest = all_small zs (λ m l. h (suc m) (omega (arith, l))) in
    rw here rest

pub one_large : (zs : List ℤ) (m : ℕ) → m < length zs → is_small (place zs m) ≡ false → are_small zs ≡ false
one_large [] m h k = absurd (omega arith)
one_large (z ∷ zs) zero h k = let here : is_small z ≡ false = k in rw here refl
one_large (z ∷ zs) (suc m) h k = later (is_small z) (are_small zs) (one_large zs m (omega (arith, h)) k)
  where
    later : (a b : Bool) → b ≡ false → (a && b) ≡ false
    later true b e = e
    later false b e = refl

-- what passed, and what did not
IsGiven : {X : Type 0} → Option X → Type 0
IsGiven None = ⊥
IsGiven (Some z) = Unit {0}

kept_of : {X : Type 0} → X → Option X → X
kept_of d None = d
kept_of d (Some z) = z

given : {X : Type 0} (b : Bool) (v f : X) → Some f ≡ (if b then Some v else None) → (b ≡ true) × (f ≡ v)
unfolding IsGiven kept_of
given true v f e = (refl, ap (kept_of v) e)
given false v f e = absurd (subst IsGiven e tt)

withheld : {X : Type 0} (b : Bool) (v : X) → None ≡ (if b then Some v else None) → b ≡ false
unfolding IsGiven
withheld true v e = absurd (subst IsGiven (sym e) tt)
withheld false v e = refl

pub small_given : (v f : ℤ) → Some f ≡ (if is_small v then Some v else None) → (is_small v ≡ true) × (f ≡ v)
small_given v f e = given (is_small v) v f e

pub vector_none : (i : ℕ) (d k : ℤ) (rs : List ℤ) (j : ℕ) (v : ℤ) (o : Option (List ℤ)) → j < length rs → v ≡ part i d k j (place rs j) → None ≡ (if is_small v then Some v else None) → o ≡ None →
    o ≡ (if are_small (parts i d k 0 rs) then Some (parts i d k 0 rs) else None)
vector_none i d k rs j v o h e w n =
    let b : is_small v ≡ false = withheld (is_small v) v w in
    let at : place (parts i d k 0 rs) j ≡ v = place_parts i d k rs j h ∙ sym e in
    let c : is_small (place (parts i d k 0 rs) j) ≡ false = ap (λ (z : ℤ). is_small z) at ∙ b in
    let inside : j < length (parts i d k 0 rs) = subst (λ (m : ℕ). j < m) (sym (length_parts i d k 0 rs)) h in
    let all : are_small (parts i d k 0 rs) ≡ false = one_large (parts i d k 0 rs) j inside c in
    n ∙ ap (λ (a : Bool). if a then Some (parts i d k 0 rs) else None) (sym all)

same_places : (xs ys : List ℤ) → length xs ≡ length ys → ((k : ℕ) → k < length xs → place xs k ≡ place ys k) → xs ≡ ys
same_places [] [] h f = refl
same_places [] (y ∷ ys) h f = absurd (omega (arith, h))
same_places (x ∷ xs) [] h f = absurd (omega (arith, h))
same_places (x ∷ xs) (y ∷ ys) h f = ap₂ (λ (a : ℤ) (l : List ℤ). a ∷ l) (f 0 (omega arith)) (same_places xs ys (omega (arith, h)) (λ k b. f (suc k) (omega (arith, b))))

pub vector_some : (l ps : List ℤ) → length l ≡ length ps → ((k : ℕ) → k < length l → place l k ≡ place ps k) → ((k : ℕ) → k < length ps → is_small (place ps k) ≡ true) →
    Some l ≡ (if are_small ps then Some ps else None)
vector_some l ps h f s =
    ap (λ (z : List ℤ). Some z) (same_places l ps h f) ∙ ap (λ (a : Bool). if a then Some ps else None) (sym (all_small ps s))

-- a list that is filled up to j, and then at j
upto : (k j : ℕ) → k < j + 1 → (k < j) ⊎ (k ≡ j)
upto k j h = grind arith

pub filled : (Q : ℕ → ℤ → Type 0) (l : List ℤ) (j : ℕ) (x : ℤ) → j < length l → ((k : ℕ) → k < j → Q k (place l k)) → Q j x → (k : ℕ) → k < j + 1 → Q k (place (slice_set l j x) k)
filled Q l j x h f q k b = ⊎_elim
    (λ a. subst (Q k) (sym (get_or-set_other l j k x (pos 0) (λ e. omega (arith, a, e)))) (f k a))
    (λ e. subst (Q k) (sym (get_or-set_at l j k x (pos 0) e h)) (subst (λ (m : ℕ). Q m x) (sym e) q))
    (upto k j b)

pub any_default : (xs : List ℤ) (k : ℕ) (d e : ℤ) → k < length xs → slice_index_or xs k d ≡ slice_index_or xs k e
any_default [] k d e h = absurd (omega (arith, h))
any_default (x ∷ xs) zero d e h = refl
any_default (x ∷ xs) (suc k) d e h = any_default xs k d e (omega (arith, h))

-- ---- the squares one after another
append_assoc : {X : Type 0} (xs : List X) (x : X) (ys : List X) → (xs ++ x ∷ []) ++ ys ≡ xs ++ x ∷ ys
append_assoc [] x ys = refl
append_assoc (a ∷ xs) x ys = ap (λ (l : List _). a ∷ l) (append_assoc xs x ys)

pub made_push : {n : ℕ} (s : List (List ℤ)) (qs : List (Square n)) (q : Square n) (c i : ℕ) → next_square {n = n} i (residual s qs) ≡ Some q →
    (qs ++ q ∷ []) ++ made_from {n = n} c (suc i) (residual s (qs ++ q ∷ [])) ≡ qs ++ made_from {n = n} (suc c) i (residual s qs)
made_push {n} s qs q c i e =
    append_assoc qs q (made_from {n = n} c (suc i) (residual s (qs ++ q ∷ [])))
    ∙ ap (λ (l : List (List ℤ)). qs ++ q ∷ made_from {n = n} c (suc i) l) (residual-push s qs q)
    ∙ ap (λ (o : Option (Square n)). qs ++ with_square o (made_from {n = n} c (suc i) (left_after (residual s qs) o))) (sym e)

pub made_skip : {n : ℕ} (s : List (List ℤ)) (qs : List (Square n)) (c i : ℕ) → next_square {n = n} i (residual s qs) ≡ None →
    qs ++ made_from {n = n} c (suc i) (residual s qs) ≡ qs ++ made_from {n = n} (suc c) i (residual s qs)
made_skip {n} s qs c i e = ap (λ (o : Option (Square n)). qs ++ with_square o (made_from {n = n} c (suc i) (left_after (residual s qs) o))) (sym e)

-- ---- one square
decided : {n : ℕ} (i : ℕ) (left : List (List ℤ)) (b : Bool) → is_taken {n = n} i left (square_at i left) ≡ b → next_square {n = n} i left ≡ (if b then Some (square_at i left) else None)
unfolding next_square
decided {n} i left b e = ap (λ (a : Bool). if a then Some (square_at {n = n} i left) else None) e

second_false : (a b c : Bool) → b ≡ false → (a && (b && c)) ≡ false
second_false true b c e = rw e refl
second_false false b c e = refl

third_false : (a b c : Bool) → c ≡ false → (a && (b && c)) ≡ false
third_false true true c e = e
third_false true false c e = refl
third_false false b c e = refl

all_true : (a b c : Bool) → a ≡ true → b ≡ true → c ≡ true → (a && (b && c)) ≡ true
all_true a b c e f g = rw e (rw f g)

le_yes : (x y : ℤ) → x ≤ℤ y → int_le x y ≡ true
le_yes x y h = grind (arith, ints)

weight_large : (w : ℤ) → pos 1 ≤ℤ w → is_small w ≡ false → int_le w (pos (2 ^ 40)) ≡ false
weight_large w h k = grind (arith, ints)

weight_small : (w : ℤ) → pos 1 ≤ℤ w → is_small w ≡ true → int_le w (pos (2 ^ 40)) ≡ true
weight_small w h k = grind (arith, ints)

pub next_none_d : {n : ℕ} (i : ℕ) (left : List (List ℤ)) (w : ℤ) (o : Option (Square n)) → w ≡ weight (trim (entry left i i)) → pos 1 ≤ℤ w → None ≡ (if is_small w then Some w else None) → o ≡ None →
    o ≡ next_square {n = n} i left
next_none_d {n} i left w o e h k m =
    let d = weight (trim (entry left i i)) in
    let large : int_le d (pos (2 ^ 40)) ≡ false = ap (λ (z : ℤ). int_le z (pos (2 ^ 40))) (sym e) ∙ weight_large w h (withheld (is_small w) w k) in
    let f : is_taken {n = n} i left (square_at i left) ≡ false = second_false (int_le (pos 1) (entry left i i)) (int_le d (pos (2 ^ 40))) (are_small (parts i d (scale_of (trim (entry left i i))) 0 (row left i))) large in
    m ∙ sym (decided {n = n} i left false f)

pub next_none_l : {n : ℕ} (i : ℕ) (left : List (List ℤ)) (w s : ℤ) (o : Option (Square n)) → w ≡ weight (trim (entry left i i)) → s ≡ scale_of (trim (entry left i i)) →
    None ≡ (if are_small (parts i w s 0 (row left i)) then Some (parts i w s 0 (row left i)) else None) → o ≡ None → o ≡ next_square {n = n} i left
next_none_l {n} i left w s o e g k m =
    let d = weight (trim (entry left i i)) in
    let same = ap₂ (λ (a b : ℤ). are_small (parts i a b 0 (row left i))) (sym e) (sym g) in
    let large = same ∙ withheld (are_small (parts i w s 0 (row left i))) (parts i w s 0 (row left i)) k in
    let f : is_taken {n = n} i left (square_at i left) ≡ false = third_false (int_le (pos 1) (entry left i i)) (int_le d (pos (2 ^ 40))) (are_small (parts i d (scale_of (trim (entry left i i))) 0 (row left i))) large in
    m ∙ sym (decided {n = n} i left false f)

abbrev as_square : {n : ℕ} → ℤ → List ℤ → Square n
as_square d l = record { d = d; l = l }

pub next_some : {n : ℕ} (i : ℕ) (left : List (List ℤ)) (w s d : ℤ) (l : List ℤ) → w ≡ weight (trim (entry left i i)) → s ≡ scale_of (trim (entry left i i)) → pos 1 ≤ℤ entry left i i → pos 1 ≤ℤ w →
    Some d ≡ (if is_small w then Some w else None) → Some l ≡ (if are_small (parts i w s 0 (row left i)) then Some (parts i w s 0 (row left i)) else None) → Some (as_square {n = n} d l) ≡ next_square {n = n} i left
next_some {n} i left w s d l e g p h k m =
    let dd = weight (trim (entry left i i)) in
    let same = ap₂ (λ (a b : ℤ). parts i a b 0 (row left i)) (sym e) (sym g) in
    let kd = given (is_small w) w d k in
    let kl = given (are_small (parts i w s 0 (row left i))) (parts i w s 0 (row left i)) l m in
    let fd : int_le dd (pos (2 ^ 40)) ≡ true = ap (λ (z : ℤ). int_le z (pos (2 ^ 40))) (sym e) ∙ weight_small w h kd.0 in
    let fl = ap (λ (z : List ℤ). are_small z) same ∙ kl.0 in
    let f : is_taken {n = n} i left (square_at i left) ≡ true = all_true (int_le (pos 1) (entry left i i)) (int_le dd (pos (2 ^ 40))) (are_small (parts i dd (scale_of (trim (entry left i i))) 0 (row left i))) (le_yes (pos 1) (entry left i i) p) fd fl in
    ap₂ (λ (a : ℤ) (b : List ℤ). Some (as_square {n = n} a b)) (kd.1 ∙ e) (kl.1 ∙ sym same) ∙ sym (decided {n = n} i left true f)

-- ---- a round of the loop
pub round_some : {n : ℕ} (s : List (List ℤ)) (qs whole : List (Square n)) (q : Square n) (i : ℕ) → i < n - 1 → Some q ≡ next_square {n = n} i (residual s qs) →
    qs ++ made_from {n = n} (n - 1 - i) i (residual s qs) ≡ whole → (qs ++ q ∷ []) ++ made_from {n = n} (n - 1 - (i + 1)) (i + 1) (residual s (qs ++ q ∷ [])) ≡ whole
round_some {n} s qs whole q i h e w =
    let a : i + 1 ≡ suc i = omega arith in
    let b : suc (n - 1 - (i + 1)) ≡ n - 1 - i = omega (arith, h) in
    ap (λ (j : ℕ). (qs ++ q ∷ []) ++ made_from {n = n} (n - 1 - (i + 1)) j (residual s (qs ++ q ∷ []))) a
    ∙ made_push s qs q (n - 1 - (i + 1)) i (sym e)
    ∙ ap (λ (c : ℕ). qs ++ made_from {n = n} c i (residual s qs)) b
    ∙ w

pub round_none : {n : ℕ} (s : List (List ℤ)) (qs whole : List (Square n)) (i : ℕ) → i < n - 1 → None ≡ next_square {n = n} i (residual s qs) →
    qs ++ made_from {n = n} (n - 1 - i) i (residual s qs) ≡ whole → qs ++ made_from {n = n} (n - 1 - (i + 1)) (i + 1) (residual s qs) ≡ whole
round_none {n} s qs whole i h e w =
    let a : i + 1 ≡ suc i = omega arith in
    let b : suc (n - 1 - (i + 1)) ≡ n - 1 - i = omega (arith, h) in
    ap (λ (j : ℕ). qs ++ made_from {n = n} (n - 1 - (i + 1)) j (residual s qs)) a
    ∙ made_skip s qs (n - 1 - (i + 1)) i (sym e)
    ∙ ap (λ (c : ℕ). qs ++ made_from {n = n} c i (residual s qs)) b
    ∙ w
