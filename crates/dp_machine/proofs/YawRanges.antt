-- Yaw stays in its ranges: what leaks and damps in a cycle is more than what the push, the bias and a heading that is off can add.
use Rattle.std.proofs.Common.{◌≡◌, ◌≤◌, ◌^◌, ℕ, ◌*◌, [], ◌∷◌, Option, Some, None, arith, ap, subst, sym, ◌∙◌, ℤ, pos, negsuc, neg_ℤ, ◌+ℤ◌, ◌-ℤ◌, ◌*ℤ◌, ◌≤ℤ◌, ◌<ℤ◌, unsigned_abs}
use Rattle.std.proofs.lemmas.Int.{ints}
use Rattle.std.specs.Int.{int_rem_euclid}
use Rattle.dp_fixed.specs.Division.{floor_of}
use Rattle.dp_fixed.specs.Scale.{full_scale}
use Rattle.dp_fixed.specs.Turns.{wrap_of}
use Rattle.dp_fixed.proofs.Divisions.{floor_is}
use Rattle.dp_fixed.proofs.Wraps.{wrap_is}
use Rattle.dp_form.proofs.Order.{mul_le}
use Rattle.dp_form.proofs.Ring.{var, ◌⊕◌, ◌⊗◌, minus, ring}
use Rattle.dp_plant.specs.declared.gains.YawGains.{YawGains}
use Rattle.dp_plant.specs.declared.yaw.YawState.{YawState}
use Rattle.dp_plant.specs.Yaw.{turn, yaw_moved, yaw_next}
use Rattle.dp_plant.specs.YawRanges.{IsYawGains, IsYawWithin}
use Rattle.dp_machine.specs.Ranges.{IsYawInRange}

-- at most half a turn
IsOff : ℤ → Type 0
IsOff off = unsigned_abs off ≤ 180000000000

wrapped_off : (x : ℤ) → unsigned_abs (wrap_of x turn) ≤ 180000000000
wrapped_off x =
    let w = wrap_is x turn (omega (arith, ints)) (omega (arith, ints)) in
    let low = w.low in
    let high = w.high in
    omega (arith, ints)

rest_low : (z : ℤ) → pos 0 ≤ℤ int_rem_euclid z turn
rest_low (pos a) = omega (arith, ints)
rest_low (negsuc a) = omega (arith, ints)

rest_high : (z : ℤ) → int_rem_euclid z turn <ℤ turn
rest_high (pos a) = omega (arith, ints)
rest_high (negsuc a) = omega (arith, ints)

-- the rest of a share
left_of : (k x : ℤ) → ((full_scale -ℤ k) *ℤ x) ≡ ((full_scale *ℤ x) -ℤ (k *ℤ x))
left_of k x = ring (full_scale ∷ (k ∷ (x ∷ []))) ((var 0 ⊕ minus (var 1)) ⊗ var 2) (var 0 ⊗ var 2 ⊕ minus (var 1 ⊗ var 2)) tt

beta_bound : (leak k3 beta off : ℤ) → pos (2 ^ 17) ≤ℤ leak → leak ≤ℤ full_scale → pos 0 ≤ℤ k3 → k3 ≤ℤ pos (2 ^ 17)
    → unsigned_abs beta ≤ 2 ^ 38 → unsigned_abs off ≤ 180000000000
    → unsigned_abs (floor_of (((full_scale *ℤ beta) -ℤ (leak *ℤ beta)) +ℤ (k3 *ℤ off)) full_scale) ≤ 2 ^ 38
beta_bound leak k3 beta off l h k m b o =
    let f = floor_is (((full_scale *ℤ beta) -ℤ (leak *ℤ beta)) +ℤ (k3 *ℤ off)) full_scale (omega (arith, ints)) in
    let below = f.below in
    let above = f.above in
    let e = left_of leak beta in
    let up = mul_le (full_scale -ℤ leak) beta (pos (2 ^ 38)) (omega (arith, ints)) (omega (arith, ints)) in
    let down = mul_le (full_scale -ℤ leak) (neg_ℤ (pos (2 ^ 38))) beta (omega (arith, ints)) (omega (arith, ints)) in
    let turned_up = mul_le k3 off (pos 180000000000) k (omega (arith, ints)) in
    let turned_down = mul_le k3 (neg_ℤ (pos 180000000000)) off k (omega (arith, ints)) in
    omega (arith, ints)

rate_bound : (damp k4 rate beta push off : ℤ) → pos (2 ^ 17) ≤ℤ damp → damp ≤ℤ full_scale → pos 0 ≤ℤ k4 → k4 ≤ℤ pos (2 ^ 24)
    → unsigned_abs rate ≤ 2 ^ 53 → unsigned_abs beta ≤ 2 ^ 38 → unsigned_abs push ≤ 2 ^ 39 → unsigned_abs off ≤ 180000000000
    → unsigned_abs (floor_of (((((full_scale *ℤ rate) -ℤ (damp *ℤ rate)) +ℤ (full_scale *ℤ beta)) +ℤ (full_scale *ℤ push)) +ℤ (k4 *ℤ off)) full_scale) ≤ 2 ^ 53
rate_bound damp k4 rate beta push off l h k m r b p o =
    let f = floor_is (((((full_scale *ℤ rate) -ℤ (damp *ℤ rate)) +ℤ (full_scale *ℤ beta)) +ℤ (full_scale *ℤ push)) +ℤ (k4 *ℤ off)) full_scale (omega (arith, ints)) in
    let below = f.below in
    let above = f.above in
    let e = left_of damp rate in
    let up = mul_le (full_scale -ℤ damp) rate (pos (2 ^ 53)) (omega (arith, ints)) (omega (arith, ints)) in
    let down = mul_le (full_scale -ℤ damp) (neg_ℤ (pos (2 ^ 53))) rate (omega (arith, ints)) (omega (arith, ints)) in
    let turned_up = mul_le k4 off (pos 180000000000) k (omega (arith, ints)) in
    let turned_down = mul_le k4 (neg_ℤ (pos 180000000000)) off k (omega (arith, ints)) in
    omega (arith, ints)

moved_range : (g : YawGains) (x : YawState) (off push : ℤ) → IsYawGains g → IsYawInRange x → unsigned_abs off ≤ 180000000000
    → unsigned_abs push ≤ 2 ^ 39 → IsYawInRange (yaw_moved g x off push)
moved_range g x off push gains range o p = record {
  psi_low = rest_low (floor_of ((full_scale *ℤ (x.psi +ℤ x.rate)) +ℤ (g.k2 *ℤ off)) full_scale);
  psi_high = rest_high (floor_of ((full_scale *ℤ (x.psi +ℤ x.rate)) +ℤ (g.k2 *ℤ off)) full_scale);
  beta = beta_bound g.leak g.k3 x.beta off gains.leak.low gains.leak.high gains.k3.low gains.k3.high range.beta o;
  rate = rate_bound g.damp g.k4 x.rate x.beta push off gains.damp.low gains.damp.high gains.k4.low gains.k4.high range.rate range.beta p o;
}

pub next_range : (g : YawGains) (x : YawState) (heading : Option ℕ) (push : ℤ) → IsYawGains g → IsYawInRange x
    → unsigned_abs push ≤ 2 ^ 39 → IsYawInRange (yaw_next g x heading push)
next_range g x None push gains range p = range
next_range g x (Some h) push gains range p = moved_range g x _ push gains range (wrapped_off (pos (h * 10 ^ 7) -ℤ x.psi)) p

-- yaw in its ranges is far within those that the observer asks for
pub wide : (x : YawState) → IsYawInRange x → IsYawWithin x
wide x range =
    let low = range.psi_low in
    let high = range.psi_high in
    let beta = range.beta in
    let rate = range.rate in
    record { psi = omega (arith, ints); beta = omega (arith, ints); rate = omega (arith, ints) }

-- ---- what the observer makes of it, where the push is known by another name
pub same_next : (g : YawGains) (x : YawState) (h : Option ℕ) (push sum : ℤ) (next : YawState) → push ≡ sum → next ≡ yaw_next g x h push
    → next ≡ yaw_next g x h sum
same_next g x h push sum next e is = is ∙ ap (λ (d : ℤ). yaw_next g x h d) e

pub next_wide : (g : YawGains) (x : YawState) (h : Option ℕ) (push sum : ℤ) → push ≡ sum → IsYawGains g → IsYawInRange x → unsigned_abs sum ≤ 2 ^ 39
    → IsYawWithin (yaw_next g x h push)
next_wide g x h push sum e gains range s =
    subst (λ (d : ℤ). IsYawWithin (yaw_next g x h d)) (sym e) (wide (yaw_next g x h sum) (next_range g x h sum gains range s))

pub next_stays : (g : YawGains) (x : YawState) (h : Option ℕ) (push sum : ℤ) (next : YawState) → push ≡ sum → next ≡ yaw_next g x h push
    → IsYawGains g → IsYawInRange x → unsigned_abs sum ≤ 2 ^ 39 → IsYawInRange next
next_stays g x h push sum next e is gains range s =
    subst IsYawInRange (sym (is ∙ ap (λ (d : ℤ). yaw_next g x h d) e)) (next_range g x h sum gains range s)
