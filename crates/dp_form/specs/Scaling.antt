-- The form of a multiple.
use Rattle.std.specs.Prelude.{◌≡◌, ℤ, ◌*ℤ◌, List}
use Rattle.dp_form.specs.Vectors.{scale}
use Rattle.dp_form.specs.Form.{form}

-- k times the vector has k² times the form
abbrev pub Scaling : Type 0
Scaling = (p : List (List ℤ)) (k : ℤ) (x : List ℤ) → form p (scale k x) ≡ k *ℤ k *ℤ form p x
