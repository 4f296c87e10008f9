-- The test whether two states are the same tests equality.
use Rattle.std.proofs.Common.{◌≡◌, ◌↔◌, Bool, true, ◌&&◌, ◌==◌, List, [], ◌∷◌, refl, ap, subst, ◌∙◌, arith}
use Rattle.std.specs.Prelude.{ℤ, ◌≤ℤ◌, int_le}
use Rattle.std.proofs.lemmas.Bool.{and_parts, eq-eqb, eqb-true}
use Rattle.std.proofs.lemmas.Int.{ints}
use Rattle.std.proofs.Math.Path.{ap₂}
use Rattle.arrayvec.specs.ArrayVec.{ArrayVec}
use Rattle.dp_plant.specs.declared.place.Place.{Place}
use Rattle.dp_plant.specs.declared.plane.PlaneState.{PlaneState}
use Rattle.dp_plant.specs.declared.yaw.YawState.{YawState}
use Rattle.dp_reftest.specs.declared.kept.Kept.{Kept}
use Rattle.dp_machine.specs.declared.state.State.{State}
use Rattle.dp_exchange.specs.SameState.{is_same, same_all, same_number, same_place, same_plane, same_window, same_yaw}

both : (a b : Bool) → a ≡ true → b ≡ true → (a && b) ≡ true
both a b p q = rw (p, q) refl

-- ---- what passes the test is equal
all-eq : {A : Type 0} (same : A → A → Bool) → ((a b : A) → same a b ≡ true → a ≡ b) → (xs ys : List A) → same_all same xs ys ≡ true → xs ≡ ys
unfolding same_all
all-eq same one [] [] e = refl
all-eq same one [] (y ∷ ys) e = absurd cc
all-eq same one (x ∷ xs) [] e = absurd cc
all-eq same one (x ∷ xs) (y ∷ ys) e =
    let h = and_parts (same x y) (same_all same xs ys) e in
    ap₂ (λ a bs. a ∷ bs) (one x y h.0) (all-eq same one xs ys h.1)

le_of : (a b : ℤ) → int_le a b ≡ true → a ≤ℤ b
le_of a b h = grind (arith, ints)

of_le : (a : ℤ) → int_le a a ≡ true
of_le a = grind (arith, ints)

number-eq : (a b : ℤ) → same_number a b ≡ true → a ≡ b
unfolding same_number
number-eq a b e =
    let h = and_parts (int_le a b) (int_le b a) e in
    let up : a ≤ℤ b = le_of a b h.0 in
    let down : b ≤ℤ a = le_of b a h.1 in
    omega (arith, ints, up, down)

place-eq : (a b : Place) → same_place a b ≡ true → a ≡ b
unfolding same_place
place-eq a b e =
    let h = and_parts (same_number a.north b.north) (same_number a.east b.east) e in
    ap (λ n. record a { north = n }) (number-eq a.north b.north h.0) ∙ ap (λ n. record b { east = n }) (number-eq a.east b.east h.1)

plane-eq : (a b : PlaneState) → same_plane a b ≡ true → a ≡ b
unfolding same_plane
plane-eq a b e =
    let h = and_parts (same_place a.eta b.eta) _ e in
    let i = and_parts (same_place a.beta b.beta) _ h.1 in
    let j = and_parts (same_place a.vel b.vel) _ i.1 in
    let k = and_parts (same_place a.wave_p b.wave_p) _ j.1 in
    ap (λ p. record a { eta = p }) (place-eq a.eta b.eta h.0)
    ∙ ap (λ p. record a { eta = b.eta; beta = p }) (place-eq a.beta b.beta i.0)
    ∙ ap (λ p. record a { eta = b.eta; beta = b.beta; vel = p }) (place-eq a.vel b.vel j.0)
    ∙ ap (λ p. record b { wave_p = p; wave_q = a.wave_q }) (place-eq a.wave_p b.wave_p k.0)
    ∙ ap (λ p. record b { wave_q = p }) (place-eq a.wave_q b.wave_q k.1)

yaw-eq : (a b : YawState) → same_yaw a b ≡ true → a ≡ b
unfolding same_yaw
yaw-eq a b e =
    let h = and_parts (same_number a.psi b.psi) _ e in
    let i = and_parts (same_number a.beta b.beta) _ h.1 in
    ap (λ n. record a { psi = n }) (number-eq a.psi b.psi h.0)
    ∙ ap (λ n. record a { psi = b.psi; beta = n }) (number-eq a.beta b.beta i.0)
    ∙ ap (λ n. record b { rate = n }) (number-eq a.rate b.rate i.1)

list-eq : {A : Type 0} (a b : ArrayVec A) → a.items ≡ b.items → a ≡ b
list-eq a b e = ap (λ xs. record { items = xs }) e

window-eq : (a b : Kept) → same_window a b ≡ true → a ≡ b
unfolding same_window
window-eq a b e =
    let h = and_parts (a.last == b.last) _ e in
    ap (λ n. record a { last = n }) (eqb-true a.last b.last h.0)
    ∙ ap (λ l. record b { list = l }) (list-eq a.list b.list (all-eq same_place place-eq a.list.items b.list.items h.1))

pub same-eq : (s t : State) → is_same s t ≡ true → s ≡ t
unfolding is_same
same-eq s t e =
    let h = and_parts (s.count == t.count) _ e in
    let i = and_parts (same_plane s.plane t.plane) _ h.1 in
    let j = and_parts (same_yaw s.yaw t.yaw) _ i.1 in
    let k = and_parts (s.heading == t.heading) _ j.1 in
    let l = and_parts (s.wind == t.wind) _ k.1 in
    let m = and_parts (s.lost == t.lost) _ l.1 in
    let n = and_parts (same_all same_window s.samples t.samples) _ m.1 in
    ap (λ x. record s { count = x }) (eqb-true s.count t.count h.0)
    ∙ ap (λ x. record s { count = t.count; plane = x }) (plane-eq s.plane t.plane i.0)
    ∙ ap (λ x. record s { count = t.count; plane = t.plane; yaw = x }) (yaw-eq s.yaw t.yaw j.0)
    ∙ ap (λ x. record s { count = t.count; plane = t.plane; yaw = t.yaw; heading = x }) (eqb-true s.heading t.heading k.0)
    ∙ ap (λ x. record t { wind = x; lost = s.lost; samples = s.samples; demands = s.demands }) (eqb-true s.wind t.wind l.0)
    ∙ ap (λ x. record t { lost = x; samples = s.samples; demands = s.demands }) (eqb-true s.lost t.lost m.0)
    ∙ ap (λ x. record t { samples = x; demands = s.demands }) (all-eq same_window window-eq s.samples t.samples n.0)
    ∙ ap (λ x. record t { demands = x }) (list-eq s.demands t.demands (all-eq (same_all same_number) (all-eq same_number number-eq) s.demands.items t.demands.items n.1))

-- ---- and each is the same as itself
all-refl : {A : Type 0} (same : A → A → Bool) → ((a : A) → same a a ≡ true) → (xs : List A) → same_all same xs xs ≡ true
unfolding same_all
all-refl same one [] = refl
all-refl same one (x ∷ xs) = both (same x x) (same_all same xs xs) (one x) (all-refl same one xs)

number-refl : (a : ℤ) → same_number a a ≡ true
unfolding same_number
number-refl a = both (int_le a a) (int_le a a) (of_le a) (of_le a)

place-refl : (a : Place) → same_place a a ≡ true
unfolding same_place
place-refl a = both _ _ (number-refl a.north) (number-refl a.east)

plane-refl : (a : PlaneState) → same_plane a a ≡ true
unfolding same_plane
plane-refl a = both _ _ (place-refl a.eta) (both _ _ (place-refl a.beta) (both _ _ (place-refl a.vel) (both _ _ (place-refl a.wave_p) (place-refl a.wave_q))))

yaw-refl : (a : YawState) → same_yaw a a ≡ true
unfolding same_yaw
yaw-refl a = both _ _ (number-refl a.psi) (both _ _ (number-refl a.beta) (number-refl a.rate))

window-refl : (a : Kept) → same_window a a ≡ true
unfolding same_window
window-refl a = both _ _ (eq-eqb a.last a.last refl) (all-refl same_place place-refl a.list.items)

pub same-refl : (s : State) → is_same s s ≡ true
unfolding is_same
same-refl s =
    both _ _ (eq-eqb s.count s.count refl) (both _ _ (plane-refl s.plane) (both _ _ (yaw-refl s.yaw) (both _ _ (eq-eqb s.heading s.heading refl) (both _ _ (eq-eqb s.wind s.wind refl) (both _ _ (eq-eqb s.lost s.lost refl) (both _ _ (all-refl same_window window-refl s.samples) (all-refl (same_all same_number) (all-refl same_number number-refl) s.demands.items)))))))

pub same-is_equal : (s t : State) → (is_same s t ≡ true) ↔ (s ≡ t)
same-is_equal s t = (same-eq s t, λ e. subst (λ u. is_same s u ≡ true) e (same-refl s))
