-- The window that is kept is the last of the readings that came.
use Rattle.std.proofs.Common.{◌≡◌, ◌<◌, ◌≤◌, ℕ, suc, ◌+◌, ◌-◌, List, [], ◌∷◌, ◌++◌, length, drop, Option, Some, None, refl, sym, ap, ◌∙◌, arith}
use Rattle.std.proofs.lemmas.List.{append-nil, append_assoc, drop-append-le, drop-drop, length-append, length-drop}
use Rattle.std.proofs.Math.Seq.{drop-nil}
use Rattle.std.specs.List.{cons_option}
use Rattle.std.specs.Prelude.{◌^◌, IfSome}
use Rattle.dp_plant.specs.declared.frames.Frame.{Frame}
use Rattle.dp_plant.specs.declared.place.Place.{Place}
use Rattle.dp_plant.specs.Ranges.{IsVectorWithin}
use Rattle.dp_reftest.proofs.Rings.{near_drop, near_push}
use Rattle.dp_reftest.specs.declared.kept.Kept.{Kept}
use Rattle.dp_reftest.specs.Laws.{VerdictRestsOnItsOwnWire, WindowIsTheLastReadings}
use Rattle.dp_reftest.specs.Verdict.{verdict_of}
use Rattle.dp_reftest.specs.Window.{IsDated, IsKept, brought_on, kept_by, last_of, newest_in, newest_of, no_samples, readings_of, window_after, window_next}

-- the last of what is kept and one more are the last of all and one more
last-kept : {X : Type 0} (w : ℕ) (xs : List X) (x : X) → last_of w (last_of w xs ++ x ∷ []) ≡ last_of w (xs ++ x ∷ [])
last-kept {X} w xs x =
    let b = length xs - w in let zs = xs ++ x ∷ [] in
    let joined : drop b xs ++ x ∷ [] ≡ drop b zs = sym (drop-append-le b xs (x ∷ []) (omega arith)) in
    let n : length zs ≡ length xs + 1 = length-append xs (x ∷ []) in
    let m : length (drop b zs) ≡ length zs - b = length-drop b zs in
    let e : b + (length (drop b zs) - w) ≡ length zs - w = omega (arith, n, m) in
    ap (last_of w) joined ∙ drop-drop (length (drop b zs) - w) b zs ∙ ap (λ k. drop {A = X} k zs) e

-- making room for one and then taking it in keeps the last w
pub room_then_one : (w : ℕ) (xs : List Place) (x : Place) → 0 < w → last_of (w - 1) xs ++ x ∷ [] ≡ last_of w (xs ++ x ∷ [])
room_then_one w xs x some =
    let b = length xs - (w - 1) in
    let n : length (xs ++ x ∷ []) ≡ length xs + 1 = length-append xs (x ∷ []) in
    let e : b ≡ length (xs ++ x ∷ []) - w = omega (arith, n, some) in
    sym (drop-append-le b xs (x ∷ []) (omega arith)) ∙ ap (λ k. drop k (xs ++ x ∷ [])) e

-- ---- a window stays one
few-last : (w : ℕ) (xs : List Place) → length (last_of w xs) ≤ w
few-last w xs = omega (arith, length-drop (length xs - w) xs)

dated-length : (next last : ℕ) (xs : List Place) → IsDated next last xs → length xs ≤ next
dated-length next last [] d = omega arith
dated-length next last (a ∷ xs) d = omega (arith, d.0, d.1)

dated-from : (next last : ℕ) (xs : List Place) → last < next → length xs ≤ next → next ≡ last + 1 → 0 < length xs → IsDated next last xs
dated-from next last [] below long e some = absurd (omega arith)
dated-from next last (a ∷ xs) below long e some = (below, omega (arith, long, e))

later : (next last : ℕ) (xs : List Place) → IsDated next last xs → IsDated (next + 1) last xs
later next last [] d = d
later next last (a ∷ xs) d = (omega (arith, d.0), d.1)

pub kept_next : (w cycle : ℕ) (kept : Kept) (reading : Option Place) → 0 < w → IsKept w cycle kept → IfSome reading (IsVectorWithin (2 ^ 43)) → IsKept w (cycle + 1) (window_next w kept cycle reading)
kept_next w cycle kept None some h near = record { few = h.few; near = h.near; dated = later cycle kept.last kept.list.items h.dated }
kept_next w cycle kept (Some at) some h near =
    let xs = kept.list.items in
    let n : length (xs ++ at ∷ []) ≡ length xs + 1 = length-append xs (at ∷ []) in
    let m : length (last_of w (xs ++ at ∷ [])) ≡ length (xs ++ at ∷ []) - (length (xs ++ at ∷ []) - w) = length-drop (length (xs ++ at ∷ []) - w) (xs ++ at ∷ []) in
    let d = dated-length cycle kept.last xs h.dated in
    record {
      few = few-last w (xs ++ at ∷ []);
      near = near_drop (length (xs ++ at ∷ []) - w) (xs ++ at ∷ []) (near_push xs at h.near near);
      dated = dated-from (cycle + 1) cycle (last_of w (xs ++ at ∷ [])) (omega arith) (omega (arith, n, m, d)) refl (omega (arith, n, m, some));
    }

pub last_below : (next last : ℕ) (xs : List Place) → IsDated next last xs → last ≤ next - 1
last_below next last [] d = omega (arith, d)
last_below next last (a ∷ xs) d = omega (arith, d.0)

-- ---- over all cycles
kept-items : (w n : ℕ) (kept : Kept) (ys : List Place) (o : Option Place) → kept.list.items ≡ last_of w ys → (window_next w kept n o).list.items ≡ last_of w (ys ++ cons_option o [])
kept-items w n kept ys None e = e ∙ ap (last_of w) (sym (append-nil ys))
kept-items w n kept ys (Some at) e = ap (λ z. last_of w (z ++ at ∷ [])) e ∙ last-kept w ys at

kept-last : (w n : ℕ) (kept : Kept) (o : Option Place) → (window_next w kept n o).last ≡ newest_in kept.last n o
kept-last w n kept None = refl
kept-last w n kept (Some at) = refl

joined-readings : (ys rs : List Place) (o : Option Place) → (ys ++ cons_option o []) ++ rs ≡ ys ++ cons_option o rs
joined-readings ys rs None = ap (λ z. z ++ rs) (append-nil ys)
joined-readings ys rs (Some at) = append_assoc ys (at ∷ []) rs

windows-from : (w n : ℕ) (kept : Kept) (ys : List Place) (os : List (Option Place)) → kept.list.items ≡ last_of w ys →
    window_after w kept n os ≡ kept_by (newest_of kept.last n os) (last_of w (ys ++ readings_of os))
windows-from w n kept ys [] e = ap (kept_by kept.last) (e ∙ ap (last_of w) (sym (append-nil ys)))
windows-from w n kept ys (o ∷ os) e =
    windows-from w (n + 1) (window_next w kept n o) (ys ++ cons_option o []) os (kept-items w n kept ys o e)
    ∙ ap (λ z. kept_by (newest_of z (n + 1) os) (last_of w ((ys ++ cons_option o []) ++ readings_of os))) (kept-last w n kept o)
    ∙ ap (λ z. kept_by (newest_of (newest_in kept.last n o) (n + 1) os) (last_of w z)) (joined-readings ys (readings_of os) o)

pub window_is_the_last_readings : WindowIsTheLastReadings
window_is_the_last_readings w os = windows-from w 0 no_samples [] os (sym (drop-nil (0 - w)))

-- the counts of frames agree, since what they bring does
same-count : (i : ℕ) (fs : List Frame) → length (brought_on i fs) ≡ length fs
same-count i [] = refl
same-count i (f ∷ fs) = ap suc (same-count i fs)

pub verdict_rests_on_its_own_wire : VerdictRestsOnItsOwnWire
verdict_rests_on_its_own_wire limits i fs gs e =
    let window : window_after limits.window no_samples 0 (brought_on i fs) ≡ window_after limits.window no_samples 0 (brought_on i gs) = ap (window_after limits.window no_samples 0) e in
    let n : length fs ≡ length gs = sym (same-count i fs) ∙ ap length e ∙ same-count i gs in
    (window, ap (λ k. verdict_of limits k (length fs - 1)) window ∙ ap (λ k. verdict_of limits (window_after limits.window no_samples 0 (brought_on i gs)) (k - 1)) n)
