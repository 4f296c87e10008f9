-- The way left to a heading, across north.
use Rattle.std.proofs.Common.{◌≡◌, [], ◌∷◌, arith, ℤ, pos, negsuc, ◌+ℤ◌, ◌-ℤ◌, ◌*ℤ◌, ◌≤ℤ◌, ◌<ℤ◌}
use Rattle.std.proofs.lemmas.Int.{ints, by_lt_z}
use Rattle.std.specs.Int.{int_div_euclid, int_rem_euclid}
use Rattle.dp_form.proofs.Ring.{var, ◌⊕◌, ◌⊗◌, minus, ring}
use Rattle.dp_form.proofs.Order.{mul_le}
use Rattle.dp_fixed.specs.{IsWrapped, wrap_of}
use Rattle.dp_fixed.proofs.Wraps.{wrap_is}

rest_is : (n d : ℤ) → pos 0 <ℤ d → n ≡ int_rem_euclid n d +ℤ int_div_euclid n d *ℤ d
rest_is (pos a) (pos b) h = omega (arith, ints)
rest_is (negsuc a) (pos b) h = omega (arith, ints)
rest_is n (negsuc b) h = absurd (omega (arith, ints))

sum_times : (j k t : ℤ) → (j +ℤ k) *ℤ t ≡ j *ℤ t +ℤ k *ℤ t
sum_times j k t = ring (j ∷ (k ∷ (t ∷ []))) ((var 0 ⊕ var 1) ⊗ var 2) (var 0 ⊗ var 2 ⊕ var 1 ⊗ var 2) tt

gap_times : (j k t : ℤ) → t *ℤ (k -ℤ j) ≡ k *ℤ t -ℤ j *ℤ t
gap_times j k t = ring (j ∷ (k ∷ (t ∷ []))) (var 2 ⊗ (var 1 ⊕ minus (var 0))) (var 1 ⊗ var 2 ⊕ minus (var 0 ⊗ var 2)) tt

-- whole turns that are apart are a turn apart
apart : (j k t : ℤ) → pos 0 <ℤ t → j <ℤ k → (j *ℤ t +ℤ t) ≤ℤ (k *ℤ t)
apart j k t h l =
    let m = mul_le t (pos 1) (k -ℤ j) (omega (arith, ints)) (omega (arith, ints)) in
    let g = gap_times j k t in
    omega (arith, ints)

pub wrapped_only : (x t p q : ℤ) → pos 0 <ℤ t → IsWrapped x t p → IsWrapped x t q → p ≡ q
wrapped_only x t p q h a b =
    let ea = a.same_angle in
    let eb = b.same_angle in
    let la = a.low in
    let ha = a.high in
    let lb = b.low in
    let hb = b.high in
    by_lt_z a.turns b.turns
    (λ less. let m = apart a.turns b.turns t h less in absurd (omega (arith, ints)))
    (λ up. by_lt_z b.turns a.turns
    (λ less. let m = apart b.turns a.turns t h less in absurd (omega (arith, ints)))
    (λ down. let e : a.turns ≡ b.turns = omega (arith, ints) in let f = same_times a.turns b.turns t e in omega (arith, ints)))
  where
    same_times : (j k t : ℤ) → j ≡ k → j *ℤ t ≡ k *ℤ t
    same_times j k t e = rw e

pub heading_nears : (to at turn w : ℤ) → pos 0 <ℤ turn → int_rem_euclid turn (pos 2) ≡ pos 0
    → (pos 0 ≤ℤ wrap_of (to -ℤ at) turn → (pos 0 ≤ℤ w) × (w ≤ℤ wrap_of (to -ℤ at) turn))
    → (wrap_of (to -ℤ at) turn ≤ℤ pos 0 → (wrap_of (to -ℤ at) turn ≤ℤ w) × (w ≤ℤ pos 0))
    → wrap_of (to -ℤ int_rem_euclid (at +ℤ w) turn) turn ≡ wrap_of (to -ℤ at) turn -ℤ w
heading_nears to at turn w h even ahead behind =
    let d = wrap_is (to -ℤ at) turn h even in
    nears (wrap_of (to -ℤ at) turn) d ahead behind
  where
    nears : (d : ℤ) → IsWrapped (to -ℤ at) turn d → (pos 0 ≤ℤ d → (pos 0 ≤ℤ w) × (w ≤ℤ d)) → (d ≤ℤ pos 0 → (d ≤ℤ w) × (w ≤ℤ pos 0)) → wrap_of (to -ℤ int_rem_euclid (at +ℤ w) turn) turn ≡ d -ℤ w
    nears d is ahead behind =
        let rest = rest_is (at +ℤ w) turn h in
        let same = is.same_angle in
        let low = is.low in
        let high = is.high in
        let sum = sum_times is.turns (int_div_euclid (at +ℤ w) turn) turn in
        wrapped_only (to -ℤ int_rem_euclid (at +ℤ w) turn) turn _ (d -ℤ w) h (wrap_is (to -ℤ int_rem_euclid (at +ℤ w) turn) turn h even) (record {
          turns = is.turns +ℤ int_div_euclid (at +ℤ w) turn;
          same_angle = omega (arith, ints);
          low = by_lt_z d (pos 0)
              (λ b. let k = behind (omega (arith, ints)) in omega (arith, ints, k.0, k.1))
              (λ a. let k = ahead a in omega (arith, ints, k.0, k.1));
          high = by_lt_z d (pos 0)
              (λ b. let k = behind (omega (arith, ints)) in omega (arith, ints, k.0, k.1))
              (λ a. let k = ahead a in omega (arith, ints, k.0, k.1));
        })
