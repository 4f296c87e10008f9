-- The states that a certificate speaks of, and its form V: of a plane state, and of the difference
-- of two.
use Rattle.std.specs.Prelude.{◌≡◌, ℕ, ℤ, pos, neg_ℤ, List, [], ◌∷◌}
use Rattle.dp_form.specs.Vectors.{add, scale}
use Rattle.dp_form.specs.Form.{plane_form}
use Rattle.dp_plant.specs.declared.cert.Parts.{Parts}
use Rattle.dp_plant.specs.declared.cert.Parts.TheVariants.{Three, Five}
use Rattle.dp_plant.specs.declared.plane.Component.{Component}
use Rattle.dp_plant.specs.declared.plane.PlaneState.{PlaneState}
use Rattle.dp_plant.specs.Observer.{north_of, east_of}
use Rattle.dp_plant.specs.Vectors.{zero_place}

-- x - y
abbrev pub gap : List ℤ → List ℤ → List ℤ
gap x y = add x (scale (neg_ℤ (pos 1)) y)

-- how many states a component has, and which they are: place, bias and velocity, and with a wave
-- filter p and q
abbrev pub state_count : Parts → ℕ
state_count (Three l) = 3
state_count (Five l) = 5

abbrev pub states_of : Parts → Component → List ℤ
states_of (Three l) x = x.eta ∷ x.beta ∷ x.vel ∷ []
states_of (Five l) x = x.eta ∷ x.beta ∷ x.vel ∷ x.wave_p ∷ x.wave_q ∷ []

-- the matrix of V
abbrev pub matrix_of : Parts → List (List ℤ)
matrix_of (Three l) = l.p.at
matrix_of (Five l) = l.p.at

-- V of a plane state
abbrev pub state_form : Parts → PlaneState → ℤ
state_form parts x =
    plane_form (matrix_of parts) (states_of parts (north_of x)) (states_of parts (east_of x))

-- V of the difference of two
abbrev pub gap_form : Parts → PlaneState → PlaneState → ℤ
gap_form parts x x' =
    plane_form (matrix_of parts)
    (gap (states_of parts (north_of x)) (states_of parts (north_of x')))
    (gap (states_of parts (east_of x)) (states_of parts (east_of x')))

pub record HasNoWaves (x : PlaneState) : Type 0 where
  pub wave_p : x.wave_p ≡ zero_place
  pub wave_q : x.wave_q ≡ zero_place

-- a state that the certificate speaks of: without a wave filter it has no waves
abbrev pub IsStateOf : Parts → PlaneState → Type 0
IsStateOf (Three l) x = HasNoWaves x
IsStateOf (Five l) x = Unit {0}
