-- The control loop along one coordinate with a wave filter, over the scale. Rows and columns are
-- numbered 0 place, 1 bias, 2 velocity, 3 p and 4 q. What is measured has q in it, so that q is
-- corrected for wherever the place is.
use Rattle.std.specs.Prelude.{ℕ, ℤ, pos, neg_ℤ, ◌-ℤ◌, List, [], ◌∷◌, ◌++◌}
use Rattle.dp_plant.specs.declared.gains.Gains.{Gains}
use Rattle.dp_plant.specs.Vectors.{entry}
use Rattle.dp_cert.specs.declared.loops.AxisLoop.{AxisLoop}
use Rattle.dp_cert.specs.declared.loops.Loop.{Loop}
use Rattle.dp_cert.specs.Loop.{bias_row, correction, output, place_row, rounding, velocity_row}

-- a row of the loop without waves, with what p and q add
abbrev pub with_waves : List ℤ → ℤ → ℤ → List ℤ
with_waves row p q = row ++ p ∷ q ∷ []

abbrev pub wave_place_row : Gains → List ℤ
wave_place_row g = with_waves (place_row g) (pos 0) (neg_ℤ g.k2)

abbrev pub wave_bias_row : Gains → List ℤ
wave_bias_row g = with_waves (bias_row g) (pos 0) (neg_ℤ g.k3)

-- of an axis' vertex
abbrev pub wave_velocity_row : Gains → ℕ → ℕ → List ℤ
wave_velocity_row g axis v = with_waves (velocity_row g axis v) (pos 0) (neg_ℤ g.k4)

-- the rows of p and q, by the filter's matrix
abbrev pub wave_p_row : Gains → List ℤ
wave_p_row g =
    neg_ℤ (entry g.k1 0) ∷ pos 0 ∷ pos 0 ∷ entry g.wave 0 ∷ (entry g.wave 1 -ℤ entry g.k1 0) ∷ []

abbrev pub wave_q_row : Gains → List ℤ
wave_q_row g =
    neg_ℤ (entry g.k1 1) ∷ pos 0 ∷ pos 0 ∷ entry g.wave 2 ∷ (entry g.wave 3 -ℤ entry g.k1 1) ∷ []

abbrev pub wave_vertex : Gains → ℕ → ℕ → List (List ℤ)
wave_vertex g axis v =
    wave_place_row g ∷ wave_bias_row g ∷ wave_velocity_row g axis v ∷ wave_p_row g ∷ wave_q_row g
    ∷ []

abbrev pub wave_correction : Gains → List ℤ
wave_correction g = with_waves (correction g) (entry g.k1 0) (entry g.k1 1)

abbrev pub wave_rounding : List ℤ
wave_rounding = with_waves rounding (pos 1) (pos 1)

-- the demand doesn't follow the wave states
abbrev pub wave_output : Gains → ℕ → ℕ → List ℤ
wave_output g axis w = with_waves (output g axis w) (pos 0) (pos 0)

abbrev pub axis_five : Gains → ℕ → AxisLoop 5
axis_five g axis = record {
  saturated = wave_vertex g axis 0;
  clamped = wave_vertex g axis 1;
  free = wave_vertex g axis 2;
  output = wave_output g axis 0;
  clamped_output = wave_output g axis 1;
}

-- the loop of five states
unfoldable pub loop_five : Gains → Loop 5
loop_five g = record {
  surge = axis_five g 0;
  sway = axis_five g 1;
  correction = wave_correction g;
  rounding = wave_rounding;
}
