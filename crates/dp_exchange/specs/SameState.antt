-- Whether two states are the same, part by part.
use Rattle.std.specs.Prelude.{◌≡◌, ◌↔◌, ℤ, Bool, true, false, ◌&&◌, ◌==◌, int_le, List, [], ◌∷◌}
use Rattle.dp_plant.specs.declared.place.Place.{Place}
use Rattle.dp_plant.specs.declared.plane.PlaneState.{PlaneState}
use Rattle.dp_plant.specs.declared.yaw.YawState.{YawState}
use Rattle.dp_reftest.specs.declared.kept.Kept.{Kept}
use Rattle.dp_machine.specs.declared.state.State.{State}

unfoldable pub same_all : {A : Type 0} → (A → A → Bool) → List A → List A → Bool
same_all same [] [] = true
same_all same (x ∷ xs) (y ∷ ys) = same x y && same_all same xs ys
same_all same xs ys = false

unfoldable pub same_number : ℤ → ℤ → Bool
same_number a b = int_le a b && int_le b a

unfoldable pub same_place : Place → Place → Bool
same_place a b = same_number a.north b.north && same_number a.east b.east

unfoldable pub same_plane : PlaneState → PlaneState → Bool
same_plane a b = same_place a.eta b.eta
    && (same_place a.beta b.beta
    && (same_place a.vel b.vel
    && (same_place a.wave_p b.wave_p && same_place a.wave_q b.wave_q)))

unfoldable pub same_yaw : YawState → YawState → Bool
same_yaw a b = same_number a.psi b.psi
    && (same_number a.beta b.beta && same_number a.rate b.rate)

unfoldable pub same_window : Kept → Kept → Bool
same_window a b = (a.last == b.last) && same_all same_place a.list.items b.list.items

unfoldable pub is_same : State → State → Bool
is_same s t = (s.count == t.count)
    && (same_plane s.plane t.plane
    && (same_yaw s.yaw t.yaw
    && ((s.heading == t.heading)
    && ((s.wind == t.wind)
    && ((s.lost == t.lost)
    && (same_all same_window s.samples t.samples
    && same_all (same_all same_number) s.demands.items t.demands.items))))))

-- the test is equality
abbrev pub SameStatesAreEqual : Type 0
SameStatesAreEqual = (s t : State) → (is_same s t ≡ true) ↔ (s ≡ t)
