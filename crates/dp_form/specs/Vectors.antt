-- Vectors are lists of whole numbers, and matrices lists of rows. What lies past a list's end is
-- read as 0, so that nothing here asks for lengths.
use Rattle.std.specs.Prelude.{ℕ, ℤ, pos, ◌+ℤ◌, ◌*ℤ◌, List, [], ◌∷◌, slice_index_or}

-- the dot product: the sum of the products, entry by entry
abbrev pub dot : List ℤ → List ℤ → ℤ
dot [] y = pos 0
dot (a ∷ x) [] = pos 0
dot (a ∷ x) (b ∷ y) = a *ℤ b +ℤ dot x y

-- x + y
abbrev pub add : List ℤ → List ℤ → List ℤ
add [] y = y
add (a ∷ x) [] = a ∷ x
add (a ∷ x) (b ∷ y) = (a +ℤ b) ∷ add x y

-- k x
abbrev pub scale : ℤ → List ℤ → List ℤ
scale k [] = []
scale k (a ∷ x) = (k *ℤ a) ∷ scale k x

-- the matrix times the vector
abbrev pub apply : List (List ℤ) → List ℤ → List ℤ
apply [] y = []
apply (r ∷ p) y = dot r y ∷ apply p y

-- the sum of two matrices
abbrev pub matrix_add : List (List ℤ) → List (List ℤ) → List (List ℤ)
matrix_add [] q = q
matrix_add (r ∷ p) [] = r ∷ p
matrix_add (r ∷ p) (s ∷ q) = add r s ∷ matrix_add p q

-- the outer product: the column x times the row y
abbrev pub outer : List ℤ → List ℤ → List (List ℤ)
outer [] y = []
outer (a ∷ x) y = scale a y ∷ outer x y

-- row i, and the entry in row i and column j
abbrev pub row : List (List ℤ) → ℕ → List ℤ
row p i = slice_index_or p i []

abbrev pub entry : List (List ℤ) → ℕ → ℕ → ℤ
entry p i j = slice_index_or (row p i) j (pos 0)
