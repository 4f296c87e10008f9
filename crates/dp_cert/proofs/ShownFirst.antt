-- What the check of squares answers, as a search for the first short row.
use Rattle.std.proofs.Common.{◌≡◌, ◌↔◌, ℕ, List, Ok, Err, Result, Option, Some, None, IsOk, IfErr, OnOk, true, false, refl, sym, ap, ◌∙◌, arith, ℤ, pos, ◌≤ℤ◌, ◌<ℤ◌}
use Rattle.std.specs.Prelude.{int_lt}
use Rattle.std.specs.Result.{result_err}
use Rattle.std.specs.Option.{option_map}
use Rattle.std.proofs.lemmas.Int.{ints}
use Rattle.dp_form.specs.Residual.{residual}
use Rattle.dp_form.specs.Shown.{shortfall, IsShown, IsFirstShort}
use Rattle.dp_form.specs.declared.NotShown.{NotShown}
use Rattle.dp_form.specs.declared.Square.{Square}
use Rattle.dp_cert.specs.Valid.{first_short, short_row}
use Rattle.dp_cert.proofs.FirstLaws.{first_none, first_some}

pub not_above : (z : ℤ) → z ≤ℤ pos 0 → int_lt (pos 0) z ≡ false
not_above z h = grind (arith, ints)

pub above : (z : ℤ) → pos 0 <ℤ z → int_lt (pos 0) z ≡ true
above z h = grind (arith, ints)

pub short_is : {n : ℕ} (p : List (List ℤ)) (qs : List (Square n)) (r : Result (Unit {0}) NotShown) → (IsOk r ↔ IsShown p qs) → IfErr r (λ e. IsFirstShort p qs e.row e.short) → result_err r ≡ first_short p qs
unfolding first_short
short_is {n} p qs (Ok u) h k =
    let shown : IsShown p qs = h.0 refl in
    sym (ap (option_map (short_row (residual p qs))) (first_none n (λ (i : ℕ). int_lt (pos 0) (shortfall (residual p qs) i)) (λ i b. not_above (shortfall (residual p qs) i) (shown i b))))
short_is {n} p qs (Err e) h k =
    let same : e ≡ short_row (residual p qs) e.row = ap (λ (z : ℤ). let made : NotShown = record { row = e.row; short = z } in made) k.amount in
    let high : pos 0 <ℤ shortfall (residual p qs) e.row = omega (arith, ints, k.above_zero, k.amount) in
    ap Some same ∙ sym (ap (option_map (short_row (residual p qs))) (first_some n (λ (i : ℕ). int_lt (pos 0) (shortfall (residual p qs) i)) e.row k.in_range (above (shortfall (residual p qs) e.row) high) (λ i b. not_above (shortfall (residual p qs) i) (k.first i b))))

pub nonneg_where_none : {P : Type 0} (r : Result (Unit {0}) NotShown) (o : Option NotShown) → o ≡ result_err r → o ≡ None → OnOk r P → P
nonneg_where_none (Ok u) o e f h = h
nonneg_where_none (Err d) o e f h = absurd (cc)
