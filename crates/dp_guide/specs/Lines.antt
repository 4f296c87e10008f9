-- The line of a cycle.
use Rattle.std.specs.Prelude.{ℕ, List, ◌++◌, ℤ, codes}
use Rattle.std.specs.Fmt.{decimal, signed_decimal}
use Rattle.dp_plant.specs.declared.limits.Setpoint.{Setpoint}
use Rattle.dp_plant.specs.{entry}

-- a number after a space
unfoldable pub spaced : ℤ → List ℕ
spaced z = codes " " ++ signed_decimal z

-- three of them
unfoldable pub three_text : ℤ → ℤ → ℤ → List ℕ
three_text a b c = spaced a ++ (spaced b ++ spaced c)

-- a setpoint
unfoldable pub set_text : Setpoint → List ℕ
set_text s = codes " set" ++ three_text s.at.north s.at.east s.psi

-- what is demanded on surge, sway and yaw
unfoldable pub demand_text : List ℤ → List ℕ
demand_text demand =
    codes " demand" ++ three_text (entry demand 0) (entry demand 1) (entry demand 2)

-- the setpoint of a cycle, and its demand
unfoldable pub guide_line : ℕ → Setpoint → List ℤ → List ℕ
guide_line cycle s demand =
    codes "cycle " ++ (decimal cycle ++ (set_text s ++ (demand_text demand ++ codes "\n")))
