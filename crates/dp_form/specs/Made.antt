-- The squares that are made for a symmetric matrix, at most one for each row but the last: what
-- they leave is small beside its diagonal.
use Rattle.std.specs.Prelude.{ℕ, zero, suc, ◌-◌, ◌^◌, ℤ, pos, ◌+ℤ◌, ◌-ℤ◌, ◌*ℤ◌, int_lt, int_le, nat_lt, nat_eq, ◌&&◌, Bool, List, [], ◌∷◌, Option, Some, None, if◌then◌else◌, unsigned_abs}
use Rattle.std.specs.Int.{int_div_euclid}
use Rattle.std.specs.List.{list_all}
use Rattle.dp_form.specs.Vectors.{entry, row}
use Rattle.dp_form.specs.Residual.{residual}
use Rattle.dp_form.specs.declared.Square.{Square}

-- the diagonal entry less a 256th of it, so that what is left of it carries the roundings
abbrev pub trim : ℤ → ℤ
trim p = p -ℤ int_div_euclid p (pos 256)

-- q over 4^k
abbrev pub quarter : ℤ → ℕ → ℤ
quarter q k = int_div_euclid q (pos (4 ^ k))

-- the greatest k from 1 to n with q over 4^k at least 256, or 0
unfoldable pub shift : ℕ → ℤ → ℕ
shift zero q = 0
shift (suc k) q = if int_lt (quarter q (suc k)) (pos 256) then shift k q else suc k

-- the square's weight, and its vector's entry in its own column
abbrev pub weight : ℤ → ℤ
weight q = quarter q (shift 40 q)

abbrev pub scale_of : ℤ → ℤ
scale_of q = pos (2 ^ shift 40 q)

-- the vector's entry in column j, for row i and what is left of the matrix in that column
abbrev pub part : ℕ → ℤ → ℤ → ℕ → ℤ → ℤ
part i d k j r =
    if nat_lt j i then pos 0
    else (if nat_eq j i then k
    else int_div_euclid (r +ℤ int_div_euclid (d *ℤ k) (pos 2)) (d *ℤ k))

-- from column j on
abbrev pub parts : ℕ → ℤ → ℤ → ℕ → List ℤ → List ℤ
parts i d k j [] = []
parts i d k j (r ∷ rs) = part i d k j r ∷ parts i d k (suc j) rs

-- whether numbers are within 2^40 of zero
abbrev pub are_small : List ℤ → Bool
are_small zs = list_all (λ z. int_le (pos (unsigned_abs z)) (pos (2 ^ 40))) zs

-- the vector of row i, or none where a number of it passes 2^40
abbrev pub vector_of : ℕ → ℤ → ℤ → List ℤ → Option (List ℤ)
vector_of i d k rs = if are_small (parts i d k 0 rs) then Some (parts i d k 0 rs) else None

-- the square of row i, by what is left of the matrix
abbrev pub square_at : {n : ℕ} → ℕ → List (List ℤ) → Square n
square_at i left = record {
  d = weight (trim (entry left i i));
  l = parts i (weight (trim (entry left i i))) (scale_of (trim (entry left i i))) 0 (row left i);
}

-- none where the diagonal entry is below 1, or a number of the square passes 2^40
abbrev pub is_taken : {n : ℕ} → ℕ → List (List ℤ) → Square n → Bool
is_taken i left q =
    int_le (pos 1) (entry left i i) && (int_le q.d (pos (2 ^ 40)) && are_small q.l)

unfoldable pub next_square : {n : ℕ} → ℕ → List (List ℤ) → Option (Square n)
next_square {n} i left =
    if is_taken {n = n} i left (square_at i left) then Some (square_at i left) else None

-- the square, if there is one, and then the others; what is left of the matrix after it
abbrev pub with_square : {n : ℕ} → Option (Square n) → List (Square n) → List (Square n)
with_square None qs = qs
with_square (Some q) qs = q ∷ qs

abbrev pub left_after : {n : ℕ} → List (List ℤ) → Option (Square n) → List (List ℤ)
left_after left None = left
left_after {n} left (Some q) = residual {n = n} left (q ∷ [])

-- the squares of so many rows from row i on
abbrev pub made_from : {n : ℕ} → ℕ → ℕ → List (List ℤ) → List (Square n)
made_from zero i left = []
made_from {n} (suc c) i left =
    with_square (next_square {n = n} i left)
    (made_from {n = n} c (suc i) (left_after left (next_square {n = n} i left)))

unfoldable pub made_of : {n : ℕ} → List (List ℤ) → List (Square n)
made_of {n} s = made_from (n - 1) 0 s
