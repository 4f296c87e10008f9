-- Each answer to an order has its reason, and no other answer has one.
use Rattle.std.proofs.Common.{◌≡◌, inl, inr, ◌≤ℤ◌, ◌<ℤ◌, ℕ, Bool, true, false, cond, eqb, not, ◌||◌, ℤ, Option, Some, None, refl, sym, ◌∙◌, ap, arith}
use Rattle.std.proofs.lemmas.Bool.{eq-eqb, eqb-true}
use Rattle.std.proofs.lemmas.Int.{ints}
use Rattle.std.specs.Prelude.{int_lt, is_some, unwrap_or}
use Rattle.dp_plant.specs.declared.voting.Ballot.{Ballot}
use Rattle.dp_voter.specs.declared.order.Took.{Took}
use Rattle.dp_voter.specs.declared.order.Took.TheVariants.{Taken, Stale, Unfit, Repeated}
use Rattle.dp_voter.specs.VoterState.{VoterState}
use Rattle.dp_voter.specs.Orders.{IsAwaited, IsPast, IsReasonFor, IsWithin, answer_of, is_cycle, order_of}

-- ---- what the tests show

other_cycle : (same : Bool) → (not same || false) ≡ false → same ≡ true
other_cycle true e = refl
other_cycle false e = cc

never_late : (same : Bool) → (not same || true) ≡ false → ⊥
never_late true e = cc
never_late false e = cc

awaited : (now : Option ℕ) (given : Option Ballot) (cycle : ℕ) → (not (is_cycle now cycle) || is_some given) ≡ false → (now ≡ Some cycle) × (given ≡ None)
awaited None given cycle e = cc
awaited (Some n) None cycle e = (ap Some (eqb-true n cycle (other_cycle (eqb n cycle) e)), refl)
awaited (Some n) (Some b) cycle e = absurd (never_late (eqb n cycle) e)

not_awaited : (now : Option ℕ) (given : Option Ballot) (cycle : ℕ) → (not (is_cycle now cycle) || is_some given) ≡ true → now ≡ Some cycle → given ≡ None → ⊥
not_awaited None given cycle t e g = cc
not_awaited (Some n) None cycle t e g =
    let same : n ≡ cycle = cc in
    let is = eq-eqb n cycle same in
    let wrong = rw is at t in
    cc
not_awaited (Some n) (Some b) cycle t e g = cc

below : (x y : ℤ) → int_lt x y ≡ true → x <ℤ y
below x y e = grind (arith, ints)

not_below : (x y : ℤ) → int_lt x y ≡ false → y ≤ℤ x
not_below x y e = grind (arith, ints)

-- ---- the answer has its reason

is_awaited : (v : VoterState) (cycle : ℕ) → (not (is_cycle v.cycle cycle) || is_some v.ballot) ≡ false → IsAwaited v cycle
is_awaited v cycle e = (let both = awaited v.cycle v.ballot cycle e in record { of_its_cycle = both.0; before_its_vote = both.1 })

reason_by : (v : VoterState) (from cycle : ℕ) (force : ℤ) (stale low high held : Bool) → (not (is_cycle v.cycle cycle) || is_some v.ballot) ≡ stale → int_lt force v.low ≡ low → int_lt v.high force ≡ high → is_some (order_of v.orders from) ≡ held → IsReasonFor v from cycle force (cond stale (Stale (unwrap_or v.cycle 0)) (cond low (Unfit v.low) (cond high (Unfit v.high) (cond held Repeated Taken))))
reason_by v from cycle force true low high held s l h o = (λ a. not_awaited v.cycle v.ballot cycle s a.of_its_cycle a.before_its_vote, refl)
reason_by v from cycle force false true high held s l h o = (is_awaited v cycle s, inl (below force v.low l, refl))
reason_by v from cycle force false false true held s l h o = (is_awaited v cycle s, inr (below v.high force h, refl))
reason_by v from cycle force false false false true s l h o =
    (is_awaited v cycle s, record { above = not_below force v.low l; below = not_below v.high force h }, o)
reason_by v from cycle force false false false false s l h o =
    (is_awaited v cycle s, record { above = not_below force v.low l; below = not_below v.high force h }, o)

pub reason : (v : VoterState) (from cycle : ℕ) (force : ℤ) → IsReasonFor v from cycle force (answer_of v from cycle force)
reason v from cycle force = reason_by v from cycle force (not (is_cycle v.cycle cycle) || is_some v.ballot) (int_lt force v.low) (int_lt v.high force) (is_some (order_of v.orders from)) refl refl refl refl

-- ---- no other has one

past_not_within : (v : VoterState) (force limit : ℤ) → IsPast v force limit → IsWithin v.low v.high force → ⊥
past_not_within v force limit (inl p) w = (let a = p.0 in let b = w.above in absurd (omega (arith, ints)))
past_not_within v force limit (inr p) w = (let a = p.0 in let b = w.below in absurd (omega (arith, ints)))

one_limit : (v : VoterState) (force x y : ℤ) → v.low ≤ℤ v.high → IsPast v force x → IsPast v force y → x ≡ y
one_limit v force x y le (inl p) (inl q) = p.1 ∙ sym q.1
one_limit v force x y le (inl p) (inr q) = (let a = p.0 in let b = q.0 in absurd (omega (arith, ints)))
one_limit v force x y le (inr p) (inl q) = (let a = p.0 in let b = q.0 in absurd (omega (arith, ints)))
one_limit v force x y le (inr p) (inr q) = p.1 ∙ sym q.1

one_answer : (v : VoterState) (from cycle : ℕ) (force : ℤ) (x y : Took) → v.low ≤ℤ v.high → IsReasonFor v from cycle force x → IsReasonFor v from cycle force y → x ≡ y
one_answer v from cycle force (Stale n) (Stale m) le p q = ap Stale (p.1 ∙ sym q.1)
one_answer v from cycle force (Stale n) (Unfit l) le p q = absurd (p.0 q.0)
one_answer v from cycle force (Stale n) Repeated le p q = absurd (p.0 q.0)
one_answer v from cycle force (Stale n) Taken le p q = absurd (p.0 q.0)
one_answer v from cycle force (Unfit l) (Stale m) le p q = absurd (q.0 p.0)
one_answer v from cycle force (Unfit l) (Unfit k) le p q = ap Unfit (one_limit v force l k le p.1 q.1)
one_answer v from cycle force (Unfit l) Repeated le p q = absurd (past_not_within v force l p.1 q.1)
one_answer v from cycle force (Unfit l) Taken le p q = absurd (past_not_within v force l p.1 q.1)
one_answer v from cycle force Repeated (Stale m) le p q = absurd (q.0 p.0)
one_answer v from cycle force Repeated (Unfit k) le p q = absurd (past_not_within v force k q.1 p.1)
one_answer v from cycle force Repeated Repeated le p q = refl
one_answer v from cycle force Repeated Taken le p q = (let a = p.2 in let b = q.2 in cc)
one_answer v from cycle force Taken (Stale m) le p q = absurd (q.0 p.0)
one_answer v from cycle force Taken (Unfit k) le p q = absurd (past_not_within v force k q.1 p.1)
one_answer v from cycle force Taken Repeated le p q = (let a = p.2 in let b = q.2 in cc)
one_answer v from cycle force Taken Taken le p q = refl

pub only_answer : (v : VoterState) (from cycle : ℕ) (force : ℤ) (answer : Took) → v.low ≤ℤ v.high → IsReasonFor v from cycle force answer → answer ≡ answer_of v from cycle force
only_answer v from cycle force answer le r = one_answer v from cycle force answer (answer_of v from cycle force) le r (reason v from cycle force)
