use Rattle.std.proofs.Common.{◌≡◌, ◌<◌, ℕ, zero, suc, ◌+◌, List, [], ◌∷◌, ◌++◌, length, map, take, refl, ◌∙◌, ap, arith, ℤ, pos}
use Rattle.dp_plant.specs.declared.thrusters.Thruster.{Thruster}
use Rattle.dp_alloc.proofs.thrust.add_no_thrusts.Goals as goal

zero_more : (xs : List Thruster) (i : ℕ) → i < length xs → (map (λ t. pos 0) (take i xs) ++ pos 0 ∷ []) ≡ map (λ t. pos 0) (take (suc i) xs)
zero_more [] i l = absurd (omega arith)
zero_more (x ∷ xs) zero l = refl
zero_more (x ∷ xs) (suc i) l = ap (λ (ys : List ℤ). pos 0 ∷ ys) (zero_more xs i (omega arith))

pub loop-preserved : goal.loop-preserved
loop-preserved c =
    let xs = c.as_slice-items.result.now in
    let next : suc c.loop.index ≡ c.loop.index + 1 = omega arith in
    c.push.ensures.items ∙ ap (λ (ys : List ℤ). ys ++ pos 0 ∷ []) c.loop.invariant ∙ zero_more xs c.loop.index c.loop-test.true
    ∙ ap (λ (k : ℕ). map (λ (t : Thruster). pos 0) (take k xs)) next
