-- The measured places of two runs that share two usable references are as close as these.
use Rattle.std.proofs.Common.{◌≡◌, ℕ, zero, suc, List, [], ◌∷◌, Option, Some, refl, sym, ap, subst, ◌∙◌, arith, ℤ, pos, ◌-ℤ◌, ◌≤ℤ◌}
use Rattle.std.proofs.lemmas.Int.{ints, clamps}
use Rattle.std.specs.Prelude.{◌≢◌, slice_index_or, unsigned_abs}
use Rattle.dp_fixed.specs.Order.{IsBetween}
use Rattle.dp_plant.specs.declared.frames.Frame.{Frame}
use Rattle.dp_plant.specs.declared.frames.Slot.{Slot}
use Rattle.dp_plant.specs.declared.place.Place.{Place}
use Rattle.dp_plant.specs.declared.plant.Plant.{Plant}
use Rattle.dp_reftest.specs.declared.kept.Kept.{Kept}
use Rattle.dp_reftest.specs.Verdict.{verdict_of}
use Rattle.dp_reftest.specs.Window.{slot_of, window_next}
use Rattle.dp_fuse.specs.declared.places.WeightedPlace.{WeightedPlace}
use Rattle.dp_fuse.specs.Laws.{FusedPlaceIsInHullOfTwo, IsInHull}
use Rattle.dp_fuse.specs.Places.{origin_by}
use Rattle.dp_cert.specs.TwinRuns.{AreMeasuredWithin, AreWithin}
use Rattle.dp_machine.specs.declared.state.State.{State}
use Rattle.dp_machine.specs.Step.{kept_at, limits_at, measured_at, measured_by, pair_in, sensed_of, verdict_at, window_at}
use Rattle.dp_machine.specs.ReplacedReference.{AreOthersWithin}
use Rattle.dp_machine.proofs.UsableWeights.{weight_of_origin}

-- ---- two places of one hull
between_close : (a b s x y : ℤ) → pos (unsigned_abs (a -ℤ b)) ≤ℤ s → IsBetween a b x → IsBetween a b y → pos (unsigned_abs (x -ℤ y)) ≤ℤ s
between_close a b s x y h i j = omega (arith, ints, clamps, i.low, i.high, j.low, j.high)

hulls_close : (s : ℤ) (a b : Place) (y y' : Option Place) → AreWithin s a b → IsInHull a b y → IsInHull a b y' → AreMeasuredWithin s y y'
hulls_close s a b y y' w h h' =
    let close : AreWithin s h.at h'.at = record {
      north = between_close a.north b.north s h.at.north h'.at.north w.north h.north h'.north;
      east = between_close a.east b.east s h.at.east h'.at.east w.east h.east h'.east;
    } in
    subst (λ z. AreMeasuredWithin s z y') (sym h.is) (subst (λ z. AreMeasuredWithin s (Some h.at) z) (sym h'.is) close)

-- ---- what two runs share
-- windows that are equal but for that of reference r, and wires likewise
unfoldable pub SameWindows : ℕ → List Kept → List Kept → Type 0
SameWindows r ks ks' = (i : ℕ) → i ≢ r → kept_at ks i ≡ kept_at ks' i

unfoldable pub SameSlots : ℕ → List (Slot Place) → List (Slot Place) → Type 0
SameSlots r ps ps' = (i : ℕ) → i ≢ r → slot_of ps i ≡ slot_of ps' i

window_same : (p : Plant) (s s' : State) (f f' : Frame) (i : ℕ) → s.count ≡ s'.count → kept_at s.samples i ≡ kept_at s'.samples i
    → slot_of f.pos i ≡ slot_of f'.pos i → window_at p s f i ≡ window_at p s' f' i
window_same p s s' f f' i n k e =
    let w = (limits_at p i).window in
    ap (λ z. window_next w z s.count (slot_of f.pos i).last) k ∙ ap (λ z. window_next w (kept_at s'.samples i) z (slot_of f.pos i).last) n
    ∙ ap (λ z. window_next w (kept_at s'.samples i) s'.count z.last) e

pub windows_kept : (p : Plant) (r : ℕ) (s s' : State) (f f' : Frame) → s.count ≡ s'.count → SameWindows r s.samples s'.samples → SameSlots r f.pos f'.pos
    → SameWindows r (window_at p s f 0 ∷ window_at p s f 1 ∷ window_at p s f 2 ∷ []) (window_at p s' f' 0 ∷ window_at p s' f' 1 ∷ window_at p s' f' 2 ∷ [])
unfolding SameWindows SameSlots
windows_kept p r s s' f f' n w e zero h = window_same p s s' f f' 0 n (w 0 h) (e 0 h)
windows_kept p r s s' f f' n w e (suc zero) h = window_same p s s' f f' 1 n (w 1 h) (e 1 h)
windows_kept p r s s' f f' n w e (suc (suc zero)) h = window_same p s s' f f' 2 n (w 2 h) (e 2 h)
windows_kept p r s s' f f' n w e (suc (suc (suc i))) h = refl

-- ---- a verdict rests on its own wire
-- where reference i says that the vessel's origin is
abbrev origin_at : Plant → ℤ × ℤ → State → Frame → ℕ → Option WeightedPlace
origin_at p pair s f i = origin_by pair (slice_index_or p.levers i (pos 0, pos 0)) (verdict_at p s f i)

origin_same : (p : Plant) (pair : ℤ × ℤ) (s s' : State) (f f' : Frame) (i : ℕ) → s.count ≡ s'.count → kept_at s.samples i ≡ kept_at s'.samples i
    → slot_of f.pos i ≡ slot_of f'.pos i → origin_at p pair s f i ≡ origin_at p pair s' f' i
origin_same p pair s s' f f' i n k e =
    let lever = slice_index_or p.levers i (pos 0, pos 0) in
    ap (λ z. origin_by pair lever (verdict_of (limits_at p i) z s.count)) (window_same p s s' f f' i n k e)
    ∙ ap (λ z. origin_by pair lever (verdict_of (limits_at p i) (window_at p s' f' i) z)) n

usable_weight : (p : Plant) (pair : ℤ × ℤ) (s : State) (f : Frame) (i : ℕ) (a : WeightedPlace) → origin_at p pair s f i ≡ Some a → pos 1 ≤ℤ a.weight
usable_weight p pair s f i a e = weight_of_origin pair (slice_index_or p.levers i (pos 0, pos 0)) (limits_at p i) (window_at p s f i) s.count a e

-- ---- so the measured places are close
pub measured_close : FusedPlaceIsInHullOfTwo → (p : Plant) (r : ℕ) (spread : ℤ) (s s' : State) (f f' : Frame) → s.count ≡ s'.count
    → SameWindows r s.samples s'.samples → SameSlots r f.pos f'.pos → AreOthersWithin p r spread s f
    → AreMeasuredWithin spread (measured_at p (pair_in s (sensed_of s f)) s f) (measured_at p (pair_in s (sensed_of s f)) s' f')
unfolding measured_by SameWindows SameSlots
measured_close hull p zero spread s s' f f' n w e o =
    let pair = pair_in s (sensed_of s f) in
    let a = usable_weight p pair s f 1 o.one o.one_usable in let b = usable_weight p pair s f 2 o.other o.other_usable in
    hulls_close spread o.one.at o.other.at _ _ o.near
    ((hull o.one o.other a b (origin_at p pair s f 0) (origin_at p pair s f 1) (origin_at p pair s f 2)).last_two o.one_usable o.other_usable)
    ((hull o.one o.other a b (origin_at p pair s' f' 0) (origin_at p pair s' f' 1) (origin_at p pair s' f' 2)).last_two
    (sym (origin_same p pair s s' f f' 1 n (w 1 (λ h. omega arith)) (e 1 (λ h. omega arith))) ∙ o.one_usable)
    (sym (origin_same p pair s s' f f' 2 n (w 2 (λ h. omega arith)) (e 2 (λ h. omega arith))) ∙ o.other_usable))
measured_close hull p (suc zero) spread s s' f f' n w e o =
    let pair = pair_in s (sensed_of s f) in
    let a = usable_weight p pair s f 0 o.one o.one_usable in let b = usable_weight p pair s f 2 o.other o.other_usable in
    hulls_close spread o.one.at o.other.at _ _ o.near
    ((hull o.one o.other a b (origin_at p pair s f 0) (origin_at p pair s f 1) (origin_at p pair s f 2)).outer_two o.one_usable o.other_usable)
    ((hull o.one o.other a b (origin_at p pair s' f' 0) (origin_at p pair s' f' 1) (origin_at p pair s' f' 2)).outer_two
    (sym (origin_same p pair s s' f f' 0 n (w 0 (λ h. omega arith)) (e 0 (λ h. omega arith))) ∙ o.one_usable)
    (sym (origin_same p pair s s' f f' 2 n (w 2 (λ h. omega arith)) (e 2 (λ h. omega arith))) ∙ o.other_usable))
measured_close hull p (suc (suc r)) spread s s' f f' n w e o =
    let pair = pair_in s (sensed_of s f) in
    let a = usable_weight p pair s f 0 o.one o.one_usable in let b = usable_weight p pair s f 1 o.other o.other_usable in
    hulls_close spread o.one.at o.other.at _ _ o.near
    ((hull o.one o.other a b (origin_at p pair s f 0) (origin_at p pair s f 1) (origin_at p pair s f 2)).first_two o.one_usable o.other_usable)
    ((hull o.one o.other a b (origin_at p pair s' f' 0) (origin_at p pair s' f' 1) (origin_at p pair s' f' 2)).first_two
    (sym (origin_same p pair s s' f f' 0 n (w 0 (λ h. omega arith)) (e 0 (λ h. omega arith))) ∙ o.one_usable)
    (sym (origin_same p pair s s' f f' 1 n (w 1 (λ h. omega arith)) (e 1 (λ h. omega arith))) ∙ o.other_usable))
