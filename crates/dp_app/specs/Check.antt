-- What a check of a plant tells: how far a bad position reference can move each of its thrusters.
use Rattle.std.specs.Prelude.{ℕ, ◌+◌, ℤ, List, [], ◌∷◌, ◌++◌, length, map, codes}
use Rattle.std.specs.Fmt.{decimal, signed_decimal}
use Rattle.std.specs.List.{flat_map}
use Rattle.dp_cert.specs.Bound.{bound}
use Rattle.dp_plant.specs.declared.cert.Cert.{Cert}
use Rattle.dp_plant.specs.declared.plant.Plant.{Plant}
use Rattle.dp_plant.specs.declared.thrusters.RawCase.{RawCase}
use Rattle.dp_app.specs.FaultLines.{end_line}

-- the line of thruster k: its two numbers, as the certificate's bound has them
unfoldable pub bound_line : ℕ → ℤ × ℤ → List ℕ
bound_line k b =
    codes "t" ++ (decimal k
    ++ (codes " C " ++ (signed_decimal b.0 ++ (codes " R " ++ (signed_decimal b.1 ++ codes "\n")))))

-- those of all thrusters, from number k on
abbrev pub bound_lines : ℕ → List (ℤ × ℤ) → List ℕ
bound_lines k [] = []
bound_lines k (b ∷ bs) = bound_line k b ++ bound_lines (k + 1) bs

-- a case: its lost groups as a number, bit g for group g, and each thruster
unfoldable pub case_text : Cert → RawCase → List ℕ
case_text c case =
    codes "case " ++ (decimal case.lost
    ++ (codes "\n" ++ bound_lines 0 (map (bound c) case.b.items)))

-- all cases of a plant that is accepted, in its order
unfoldable pub cases_text : Plant → List ℕ
cases_text p = codes "accepted\n" ++ flat_map (case_text p.cert) p.cases.items

-- and how many there are
unfoldable pub check_text : Plant → List ℕ
check_text p = cases_text p ++ end_line (length p.cases.items)
