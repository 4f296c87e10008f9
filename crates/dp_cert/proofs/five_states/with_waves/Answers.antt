use Rattle.std.proofs.Common.{◌≡◌, ◌^◌, ◌++◌, List, [], ◌∷◌, length, ap, sym, arith, get_or, ℤ, pos, FitsSigned}
use Rattle.std.proofs.lemmas.Int.{ints, to_z-of_z}
use mir.Syntax.{w128}
use Rattle.dp_form.specs.Range.{IsWithin}
use Rattle.dp_cert.proofs.Tables.{listed_three}
use Rattle.dp_cert.proofs.five_states.with_waves.Goals as goal

pub returns-clause-value : goal.returns-clause-value
returns-clause-value c =
    let row = c.args.row.now in
    let wide : length row ≡ 3 = omega (arith, c.told-row) in
    let fp = c.ranges.p in let fq = c.ranges.q in
    let h0 : IsWithin (2 ^ 35) (get_or row 0 (pos 0)) = c.requires.row 0 (pos 0) (omega (arith, wide)) in
    let h1 : IsWithin (2 ^ 35) (get_or row 1 (pos 0)) = c.requires.row 1 (pos 0) (omega (arith, wide)) in
    let h2 : IsWithin (2 ^ 35) (get_or row 2 (pos 0)) = c.requires.row 2 (pos 0) (omega (arith, wide)) in
    let f0 : FitsSigned w128 (get_or row 0 (pos 0)) = omega (arith, ints, h0.low, h0.high) in
    let f1 : FitsSigned w128 (get_or row 1 (pos 0)) = omega (arith, ints, h1.low, h1.high) in
    let f2 : FitsSigned w128 (get_or row 2 (pos 0)) = omega (arith, ints, h2.low, h2.high) in
    simp to_z-of_z (ap (λ (r : List ℤ). r ++ c.args.p ∷ c.args.q ∷ []) (sym (listed_three (pos 0) row wide)))
