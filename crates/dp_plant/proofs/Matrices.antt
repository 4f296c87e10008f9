-- Matrices whose upper half was read row by row are symmetric.
use Rattle.std.proofs.Common.{◌≡◌, ℕ, zero, suc, ◌<◌, List, ℤ, refl, arith}
use Rattle.dp_form.specs.Form.{IsSymmetric}
use Rattle.dp_form.specs.Vectors.{entry}
use Rattle.dp_plant.specs.PlantFile.{matrix, three_rows, five_rows}

below_three : (P : ℕ → Type 0) → P 0 → P 1 → P 2 → (i : ℕ) → i < 3 → P i
below_three P a b c zero lt = a
below_three P a b c (suc zero) lt = b
below_three P a b c (suc (suc zero)) lt = c
below_three P a b c (suc (suc (suc i))) lt = absurd (omega arith)

below_five : (P : ℕ → Type 0) → P 0 → P 1 → P 2 → P 3 → P 4 → (i : ℕ) → i < 5 → P i
below_five P a b c d e zero lt = a
below_five P a b c d e (suc zero) lt = b
below_five P a b c d e (suc (suc zero)) lt = c
below_five P a b c d e (suc (suc (suc zero))) lt = d
below_five P a b c d e (suc (suc (suc (suc zero)))) lt = e
below_five P a b c d e (suc (suc (suc (suc (suc i))))) lt = absurd (omega arith)

pub three_symmetric : (numbers : List ℤ) → IsSymmetric 3 (matrix three_rows numbers)
three_symmetric numbers = λ i j li lj.
    let m = matrix three_rows numbers in
    below_three (λ k. entry m k j ≡ entry m j k)
    (below_three (λ l. entry m 0 l ≡ entry m l 0) refl refl refl j lj)
    (below_three (λ l. entry m 1 l ≡ entry m l 1) refl refl refl j lj)
    (below_three (λ l. entry m 2 l ≡ entry m l 2) refl refl refl j lj)
    i li

pub five_symmetric : (numbers : List ℤ) → IsSymmetric 5 (matrix five_rows numbers)
five_symmetric numbers = λ i j li lj.
    let m = matrix five_rows numbers in
    below_five (λ k. entry m k j ≡ entry m j k)
    (below_five (λ l. entry m 0 l ≡ entry m l 0) refl refl refl refl refl j lj)
    (below_five (λ l. entry m 1 l ≡ entry m l 1) refl refl refl refl refl j lj)
    (below_five (λ l. entry m 2 l ≡ entry m l 2) refl refl refl refl refl j lj)
    (below_five (λ l. entry m 3 l ≡ entry m l 3) refl refl refl refl refl j lj)
    (below_five (λ l. entry m 4 l ≡ entry m l 4) refl refl refl refl refl j lj)
    i li

pub ruleset matrices = (three_symmetric, five_symmetric)
