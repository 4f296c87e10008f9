-- A matrix less a list of squares d·l·lᵀ.
use Rattle.std.specs.Prelude.{ℕ, ℤ, neg_ℤ, List, [], ◌∷◌}
use Rattle.dp_form.specs.Vectors.{matrix_add, outer, scale}
use Rattle.dp_form.specs.declared.Square.{Square}

abbrev pub residual : {n : ℕ} → List (List ℤ) → List (Square n) → List (List ℤ)
residual p [] = p
residual p (q ∷ qs) = residual (matrix_add p (outer (scale (neg_ℤ q.d) q.l) q.l)) qs
