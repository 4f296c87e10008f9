-- Orders, and the force that they agree on, stay within the limits.
use Rattle.std.proofs.Common.{◌≡◌, ◌≤ℤ◌, ℕ, zero, suc, Bool, true, false, cond, List, [], ◌∷◌, ℤ, Option, Some, None, slice_set, refl, subst, arith}
use Rattle.std.proofs.lemmas.Int.{ints, clamps}
use Rattle.std.proofs.lemmas.List.Elements.{All-cons, All-head, All-nil, All-tail}
use Rattle.std.specs.Prelude.{int_lt, is_some, not, ◌||◌, unwrap_or}
use Rattle.std.specs.List.{All}
use Rattle.std.specs.Ordering.{int_eq}
use Rattle.dp_fixed.specs.Order.{mid3_of}
use Rattle.dp_voter.specs.declared.order.Took.{Took}
use Rattle.dp_voter.specs.declared.order.Took.TheVariants.{Taken, Stale, Unfit, Repeated}
use Rattle.dp_voter.specs.VoterState.{VoterState, no_orders}
use Rattle.dp_voter.specs.Orders.{IsWithin, answer_of, is_cycle, order_of, ordered}
use Rattle.dp_voter.specs.Ballots.{agreed_of, first_ballot, held_forces, voted, voted_after, with_ballot}
use Rattle.dp_voter.specs.Laws.{AreOrdersWithin}
use Rattle.dp_plant.specs.declared.voting.Ballot.{Ballot}
use Rattle.dp_plant.specs.declared.voting.Ballot.TheVariants.{Fresh}

-- ---- the force that orders agree on

of_two : (P : ℤ → Type 0) (equal : Bool) (a f : ℤ) → P a → cond equal (Some a) None ≡ Some f → P f
of_two P true a f p e = (let same : a ≡ f = cc in subst P same p)
of_two P false a f p e = cc

middle_within : (low high a b c : ℤ) → IsWithin low high a → IsWithin low high b → IsWithin low high c → IsWithin low high (mid3_of a b c)
middle_within low high a b c x y z =
    let x_low = x.above in
    let x_high = x.below in
    let y_low = y.above in
    let y_high = y.below in
    let z_low = z.above in
    let z_high = z.below in
    record { above = omega (arith, ints, clamps); below = omega (arith, ints, clamps) }

pub agreed_within : (low high f : ℤ) (forces : List ℤ) → All (IsWithin low high) forces → agreed_of forces ≡ Some f → IsWithin low high f
agreed_within low high f [] all e = cc
agreed_within low high f (a ∷ []) all e = cc
agreed_within low high f (a ∷ b ∷ []) all e =
    of_two (IsWithin low high) (int_eq a b) a f (All-head (IsWithin low high) a (b ∷ []) all) e
agreed_within low high f (a ∷ b ∷ c ∷ []) all e =
    let P = IsWithin low high in
    let rest = All-tail P a (b ∷ c ∷ []) all in
    let last = All-tail P b (c ∷ []) rest in
    let same : mid3_of a b c ≡ f = cc in
    subst P same (middle_within low high a b c (All-head P a (b ∷ c ∷ []) all) (All-head P b (c ∷ []) rest) (All-head P c [] last))
agreed_within low high f (a ∷ b ∷ c ∷ d ∷ xs) all e = cc

-- ---- the orders that are held

-- a further force in place of what is held of a computer
set_holds : (P : ℤ → Type 0) (orders : List (Option ℤ)) (from : ℕ) (force : ℤ) → P force → All P (held_forces orders) → All P (held_forces (slice_set orders from (Some force)))
set_holds P [] from force p all = All-nil P
set_holds P (None ∷ xs) zero force p all = All-cons P force (held_forces xs) p all
set_holds P (Some f ∷ xs) zero force p all = All-cons P force (held_forces xs) p (All-tail P f (held_forces xs) all)
set_holds P (None ∷ xs) (suc i) force p all = set_holds P xs i force p all
set_holds P (Some f ∷ xs) (suc i) force p all =
    All-cons P f (held_forces (slice_set xs i (Some force))) (All-head P f (held_forces xs) all) (set_holds P xs i force p (All-tail P f (held_forces xs) all))

-- an order that was taken passed the tests before
tests_passed : (stale below above held : Bool) (cycle : ℕ) (low high : ℤ) → cond stale (Stale cycle) (cond below (Unfit low) (cond above (Unfit high) (cond held Repeated Taken))) ≡ Taken → (below ≡ false) × (above ≡ false)
tests_passed true below above held cycle low high e = cc
tests_passed false true above held cycle low high e = cc
tests_passed false false true held cycle low high e = cc
tests_passed false false false held cycle low high e = (refl, refl)

not_below : (x y : ℤ) → int_lt x y ≡ false → y ≤ℤ x
not_below x y e = grind (arith, ints)

taken_is_within : (v : VoterState) (from cycle : ℕ) (force : ℤ) → answer_of v from cycle force ≡ Taken → IsWithin v.low v.high force
taken_is_within v from cycle force e =
    let passed = tests_passed (not (is_cycle v.cycle cycle) || is_some v.ballot) (int_lt force v.low) (int_lt v.high force) (is_some (order_of v.orders from)) (unwrap_or v.cycle 0) v.low v.high e in
    record { above = not_below force v.low passed.0; below = not_below v.high force passed.1 }

answered_within : (v : VoterState) (from : ℕ) (force : ℤ) (answer : Took) → (answer ≡ Taken → IsWithin v.low v.high force) → AreOrdersWithin v → AreOrdersWithin (ordered v from force answer)
answered_within v from force Taken fit all = set_holds (IsWithin v.low v.high) v.orders from force (fit refl) all
answered_within v from force _ fit all = all

pub ordered_within : (v : VoterState) (from cycle : ℕ) (force : ℤ) → AreOrdersWithin v → AreOrdersWithin (ordered v from force (answer_of v from cycle force))
ordered_within v from cycle force all = answered_within v from force (answer_of v from cycle force) (taken_is_within v from cycle force) all

kept_within : (v : VoterState) (ballot : Ballot) → AreOrdersWithin v → AreOrdersWithin (with_ballot v ballot)
kept_within v (Fresh f) all = all
kept_within v _ all = all

voted_after_within : (v : VoterState) (given : Option Ballot) → AreOrdersWithin v → AreOrdersWithin (voted_after v given)
voted_after_within v None all = kept_within v (first_ballot v) all
voted_after_within v (Some ballot) all = all

pub voted_within : (v : VoterState) → AreOrdersWithin v → AreOrdersWithin (voted v)
voted_within v all = voted_after_within v v.ballot all

pub none_within : (low high : ℤ) → All (IsWithin low high) (held_forces no_orders)
none_within low high = All-nil (IsWithin low high)
