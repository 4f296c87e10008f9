-- A clamp as a share.
use Rattle.std.proofs.Common.{◌≡◌, [], ◌∷◌, subst, arith, ℤ, pos, ◌-ℤ◌, ◌*ℤ◌, ◌≤ℤ◌}
use Rattle.std.proofs.lemmas.Int.{ints, clamps, by_lt_z}
use Rattle.dp_form.specs.Clamp.{clamp, Share}
use Rattle.dp_form.proofs.Ring.{var, num, ◌⊗◌, ◌⊕◌, minus, ring}

rising : (lo hi z y : ℤ) → lo ≤ℤ hi → z ≤ℤ y → (clamp lo hi z ≤ℤ clamp lo hi y) × ((clamp lo hi y -ℤ clamp lo hi z) ≤ℤ (y -ℤ z))
rising lo hi z y h k = (omega (arith, ints, clamps), omega (arith, ints, clamps))

swapped : (z y c b : ℤ) → (y -ℤ z) *ℤ (c -ℤ b) ≡ (b -ℤ c) *ℤ (z -ℤ y)
swapped z y c b = ring (z ∷ (y ∷ (c ∷ (b ∷ [])))) ((var 1 ⊕ minus (var 0)) ⊗ (var 2 ⊕ minus (var 3))) ((var 3 ⊕ minus (var 2)) ⊗ (var 0 ⊕ minus (var 1))) tt

same_way : (z y c b : ℤ) → (z -ℤ y) *ℤ (c -ℤ b) ≡ (c -ℤ b) *ℤ (z -ℤ y)
same_way z y c b = ring (z ∷ (y ∷ (c ∷ (b ∷ [])))) ((var 0 ⊕ minus (var 1)) ⊗ (var 2 ⊕ minus (var 3))) ((var 2 ⊕ minus (var 3)) ⊗ (var 0 ⊕ minus (var 1))) tt

pub share_of : (lo hi z y : ℤ) → lo ≤ℤ hi → Share (z -ℤ y) (clamp lo hi z -ℤ clamp lo hi y)
share_of lo hi z y h = by_lt_z z y
    (λ l. let r = rising lo hi z y h (omega (arith, ints)) in
    record { part = clamp lo hi y -ℤ clamp lo hi z; whole = y -ℤ z; from_zero = omega (arith, ints, r.0); to_one = r.1; whole_positive = omega (arith, ints); is_share = swapped z y (clamp lo hi z) (clamp lo hi y) })
    (λ l. by_lt_z y z
    (λ k. let r = rising lo hi y z h (omega (arith, ints)) in
    record { part = clamp lo hi z -ℤ clamp lo hi y; whole = z -ℤ y; from_zero = omega (arith, ints, r.0); to_one = r.1; whole_positive = omega (arith, ints); is_share = same_way z y (clamp lo hi z) (clamp lo hi y) })
    (λ k. let e : z ≡ y = omega (arith, ints) in
    record {
      part = pos 0;
      whole = pos 1;
      from_zero = omega (arith, ints);
      to_one = omega (arith, ints);
      whole_positive = omega (arith, ints);
      is_share = subst (λ (w : ℤ). pos 1 *ℤ (clamp lo hi z -ℤ clamp lo hi w) ≡ pos 0 *ℤ (z -ℤ w)) e (still (clamp lo hi z) z);
    }))
  where
    still : (c z : ℤ) → pos 1 *ℤ (c -ℤ c) ≡ pos 0 *ℤ (z -ℤ z)
    still c z = ring (c ∷ (z ∷ [])) (num (pos 1) ⊗ (var 0 ⊕ minus (var 0))) (num (pos 0) ⊗ (var 1 ⊕ minus (var 1))) tt
