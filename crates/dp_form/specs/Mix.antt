-- The form of a mixture, the sum of any number of weighted vectors.
use Rattle.std.specs.Prelude.{ℤ, pos, ◌+ℤ◌, ◌*ℤ◌, ◌≤ℤ◌, List, [], ◌∷◌, All}
use Rattle.dp_form.specs.Vectors.{add, scale}
use Rattle.dp_form.specs.Form.{form, IsNonNegative}

pub record Weighted : Type 0 where
  pub weight : ℤ
  pub vector : List ℤ

-- the sum of w x over the weighted vectors
abbrev pub mixture : List Weighted → List ℤ
mixture [] = []
mixture (w ∷ ws) = add (scale w.weight w.vector) (mixture ws)

-- the sum of w
abbrev pub total_weight : List Weighted → ℤ
total_weight [] = pos 0
total_weight (w ∷ ws) = w.weight +ℤ total_weight ws

-- the sum of w V(x), for the form V
abbrev pub weighted_forms : List (List ℤ) → List Weighted → ℤ
weighted_forms p [] = pos 0
weighted_forms p (w ∷ ws) = w.weight *ℤ form p w.vector +ℤ weighted_forms p ws

-- the form of a mixture is at most the weights' sum times the weighted sum of the forms
abbrev pub Mix : Type 0
Mix =
    (p : List (List ℤ)) → IsNonNegative p → (ws : List Weighted) → All (λ w. pos 0 ≤ℤ w.weight) ws
    → form p (mixture ws) ≤ℤ (total_weight ws *ℤ weighted_forms p ws)

-- so where each vector's form is at most r, the mixture's is at most r times the square of the
-- weights' sum
abbrev pub MixBelow : Type 0
MixBelow =
    (p : List (List ℤ)) → IsNonNegative p → (r : ℤ) (ws : List Weighted)
    → All (λ w. pos 0 ≤ℤ w.weight) ws → All (λ w. form p w.vector ≤ℤ r) ws →
    form p (mixture ws) ≤ℤ (total_weight ws *ℤ (total_weight ws *ℤ r))
