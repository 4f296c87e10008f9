-- The forces of an accepted case are within the thrusters' limits.
use Rattle.std.proofs.Common.{◌≡◌, ◌<◌, ◌+◌, ℕ, zero, suc, List, [], ◌∷◌, length, get_or, map, Bool, true, false, Option, Some, None, refl, sym, subst, arith, ℤ, pos, ◌≤ℤ◌, if◌then◌else◌}
use Rattle.std.specs.Prelude.{int_lt}
use Rattle.std.specs.Option.{option_or}
use Rattle.std.proofs.lemmas.Int.{ints}
use Rattle.dp_plant.specs.declared.limits.Box3.{Box3}
use Rattle.dp_plant.specs.Cases.{IsInBox}
use Rattle.dp_alloc.specs.declared.fault.CaseFault.{CaseFault}
use Rattle.dp_alloc.specs.Conditions.{over, first_over}
use Rattle.dp_alloc.specs.Corners.{greatest_thrust, least_thrust}
use Rattle.dp_alloc.specs.Ranges.{IsWithinLimits}
use Rattle.dp_alloc.specs.Thrust.{thrust_of}
use Rattle.dp_alloc.proofs.CornerLaws.{between}

pub option_or-none : {X : Type 0} (a b : Option X) → option_or a b ≡ None → (a ≡ None) × (b ≡ None)
option_or-none None b h = (refl, h)
option_or-none (Some x) b h = absurd (cc)

neither : (p q : Bool) (x y : CaseFault) → (if p then Some x else (if q then Some y else None)) ≡ None → (p ≡ false) × (q ≡ false)
neither true q x y h = absurd (cc)
neither false true x y h = absurd (cc)
neither false false x y h = (refl, refl)

not_less : (x y : ℤ) → int_lt x y ≡ false → y ≤ℤ x
not_less x y h = grind (arith, ints)

over-none : (k : ℕ) (row : List ℤ) (box : Box3) (limits : ℤ × ℤ) → over k row box limits ≡ None → (greatest_thrust row box ≤ℤ limits.1) × (limits.0 ≤ℤ least_thrust row box)
over-none k row box limits h =
    let n = neither (int_lt limits.1 (greatest_thrust row box)) (int_lt (least_thrust row box) limits.0) _ _ h in
    (not_less limits.1 (greatest_thrust row box) n.0, not_less (least_thrust row box) limits.0 n.1)

none_over : (k : ℕ) (box : Box3) (limits : List (ℤ × ℤ)) (rows : List (List ℤ)) → length limits ≡ length rows → first_over k box limits rows ≡ None →
    (m : ℕ) → m < length rows → (greatest_thrust (get_or rows m []) box ≤ℤ (get_or limits m (pos 0, pos 0)).1) × ((get_or limits m (pos 0, pos 0)).0 ≤ℤ least_thrust (get_or rows m []) box)
none_over k box [] [] w h m l = absurd (omega arith)
none_over k box [] (r ∷ rows) w h m l = absurd (omega arith)
none_over k box (x ∷ limits) [] w h m l = absurd (omega arith)
none_over k box (x ∷ limits) (r ∷ rows) w h zero l = over-none k r box x (option_or-none (over k r box x) (first_over (k + 1) box limits rows) h).0
none_over k box (x ∷ limits) (r ∷ rows) w h (suc m) l =
    none_over (k + 1) box limits rows (omega arith) (option_or-none (over k r box x) (first_over (k + 1) box limits rows) h).1 m (omega arith)

at-map : (f : List ℤ → ℤ) (rows : List (List ℤ)) (m : ℕ) → m < length rows → get_or (map f rows) m (pos 0) ≡ f (get_or rows m [])
at-map f [] m h = absurd (omega arith)
at-map f (r ∷ rows) zero h = refl
at-map f (r ∷ rows) (suc m) h = at-map f rows m (omega arith)

pub forces_within : (box : Box3) (limits : List (ℤ × ℤ)) (rows : List (List ℤ)) (a : List ℤ) → length limits ≡ length rows → first_over 0 box limits rows ≡ None → IsInBox box a →
    (m : ℕ) → m < length rows → IsWithinLimits (get_or limits m (pos 0, pos 0)) (get_or (map (thrust_of a) rows) m (pos 0))
forces_within box limits rows a w h i m l =
    let ends = none_over 0 box limits rows w h m l in
    let inside = between (get_or rows m []) box a i in
    subst (IsWithinLimits (get_or limits m (pos 0, pos 0))) (sym (at-map (thrust_of a) rows m l))
    (record { low = omega (arith, ints); high = omega (arith, ints) })
