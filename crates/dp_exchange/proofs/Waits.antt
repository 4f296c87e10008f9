-- The frames that wait, after each call.
use Rattle.std.proofs.Common.{◌≡◌, ℕ, zero, suc, ◌+◌, ◌-◌, ◌<◌, ◌≤◌, List, [], ◌∷◌, ◌++◌, length, drop, Some, false, ◌≢◌, refl, sym, ap, subst, ◌∙◌, arith}
use Rattle.std.specs.Prelude.{slice_get, ◌==◌}
use Rattle.std.specs.List.{AllByRecursion}
use Rattle.std.proofs.lemmas.Bool.{eqb-false}
use Rattle.std.proofs.lemmas.List.{length-append, length-drop}
use Rattle.circular_buffer.specs.Buffer.{Buffer, buffer, keep_last}
use Rattle.dp_plant.specs.declared.frames.Frame.{Frame}
use Rattle.dp_plant.specs.declared.plant.Plant.{Plant}
use Rattle.dp_plant.specs.FrameRanges.{IsFrameInRange}
use Rattle.circular_buffer.specs.Buffer.{keep_last}
use Rattle.dp_exchange.specs.Inside.{AreFrames, IsWaiting}

AreFrames-push : (n : ℕ) (fs : List Frame) (next : ℕ) (f : Frame) → AreFrames n fs next → f.cycle ≡ next → AreFrames n (fs ++ f ∷ []) (next + 1)
AreFrames-push n [] next f are is = (is ∙ sym are, omega (arith, are))
AreFrames-push n (g ∷ fs) next f are is = (are.0, AreFrames-push (suc n) fs next f are.1 is)

AreFrames-drop : (k n : ℕ) (fs : List Frame) (next : ℕ) → k ≤ length fs → AreFrames n fs next → AreFrames (n + k) (drop k fs) next
AreFrames-drop zero n fs next le are = let same : n ≡ n + 0 = omega arith in subst (λ m. AreFrames m fs next) same are
AreFrames-drop (suc k) n [] next le are = absurd (omega (arith, le))
AreFrames-drop (suc k) n (f ∷ fs) next le are =
    let same : suc n + k ≡ n + suc k = omega arith in
    subst (λ m. AreFrames m (drop k fs) next) same (AreFrames-drop k (suc n) fs next (omega (arith, le)) are.1)

all-push : (P : Frame → Type 0) (fs : List Frame) (f : Frame) → AllByRecursion P fs → P f → AllByRecursion P (fs ++ f ∷ [])
all-push P [] f all is = (is, tt)
all-push P (g ∷ fs) f all is = (all.0, all-push P fs f all.1 is)

all-drop : (P : Frame → Type 0) (k : ℕ) (fs : List Frame) → AllByRecursion P fs → AllByRecursion P (drop k fs)
all-drop P zero fs all = all
all-drop P (suc k) [] all = all
all-drop P (suc k) (f ∷ fs) all = all-drop P k fs all.1

-- the oldest frame is taken out
pub IsWaiting-pop : (g : ℕ) (a b : Buffer Frame) (next : ℕ) → IsWaiting g a next → 1 ≤ length a.items → b ≡ buffer (drop 1 a.items) a.capacity → IsWaiting g b next
IsWaiting-pop g a b next w le is =
    let len : length (drop 1 a.items) + 1 ≡ length a.items = omega (arith, length-drop 1 a.items) in
    let first : next - length a.items + 1 ≡ next - length (drop 1 a.items) = omega (arith, len, w.enough) in
    let frames : AreFrames (next - length (drop 1 a.items)) (drop 1 a.items) next = subst (λ m. AreFrames m (drop 1 a.items) next) first (AreFrames-drop 1 (next - length a.items) a.items next le w.frames) in
    let fresh : IsWaiting g (buffer (drop 1 a.items) a.capacity) next = record {
      capacity = w.capacity;
      few = omega (arith, len, w.few);
      enough = omega (arith, len, w.enough);
      frames = frames;
      within = all-drop (IsFrameInRange g) 1 a.items w.within;
    } in
    subst (λ (v : Buffer Frame). IsWaiting g v next) (sym is) fresh

pub no_items : (fs : List Frame) → length fs ≡ 0 → fs ≡ []
no_items [] e = refl
no_items (f ∷ fs) e = absurd (omega (arith, e))

-- where none waits, none waits after the next frame
pub IsWaiting-none : (g : ℕ) (b : Buffer Frame) (before next : ℕ) → IsWaiting g b before → length b.items ≡ 0 → IsWaiting g b next
IsWaiting-none g b before next w none =
    let empty = no_items b.items none in
    let fresh : (fs : List Frame) → fs ≡ [] → IsWaiting g (record { items = fs; capacity = b.capacity }) next = λ fs is. subst (λ (gs : List Frame). IsWaiting g (record { items = gs; capacity = b.capacity }) next) (sym is)
    (record { capacity = w.capacity; few = omega arith; enough = omega arith; frames = omega arith; within = tt }) in
    fresh b.items empty

-- no frame is left
pub IsWaiting-clear : (g : ℕ) (b : Buffer Frame) (next : ℕ) → b ≡ buffer [] 16 → IsWaiting g b next
IsWaiting-clear g b next is =
    let fresh : IsWaiting g (buffer [] 16) next = record { capacity = refl; few = omega arith; enough = omega arith; frames = omega arith; within = tt } in
    subst (λ (v : Buffer Frame). IsWaiting g v next) (sym is) fresh

-- a wider ring for a moment, which holds one more
pushed : (n : ℕ) (fs : List Frame) (next : ℕ) (f : Frame) (k : ℕ) → n ≡ next - length fs → length fs ≤ next → AreFrames n fs next → f.cycle ≡ next → k ≤ length (fs ++ f ∷ []) → AreFrames (next + 1 - length (drop k (fs ++ f ∷ []))) (drop k (fs ++ f ∷ [])) (next + 1)
pushed n fs next f k is enough are cycle le =
    let first : n + k ≡ next + 1 - length (drop k (fs ++ f ∷ [])) = omega (arith, is, enough, length-drop k (fs ++ f ∷ []), length-append fs (f ∷ []), le) in
    subst (λ m. AreFrames m (drop k (fs ++ f ∷ [])) (next + 1)) first (AreFrames-drop k n (fs ++ f ∷ []) (next + 1) le (AreFrames-push n fs next f are cycle))

-- a frame is put in, behind the others
pub IsWaiting-push : (g : ℕ) (a b : Buffer Frame) (next : ℕ) (f : Frame) → IsWaiting g a next → f.cycle ≡ next → IsFrameInRange g f → b ≡ buffer (keep_last a.capacity (a.items ++ f ∷ [])) a.capacity → IsWaiting g b (next + 1)
IsWaiting-push g a b next f w cycle is_within is =
    let k = length (a.items ++ f ∷ []) - a.capacity in
    let longer : length (a.items ++ f ∷ []) ≡ length a.items + 1 = omega (arith, length-append a.items (f ∷ [])) in
    let len : length (drop k (a.items ++ f ∷ [])) ≡ length (a.items ++ f ∷ []) - k = omega (arith, length-drop k (a.items ++ f ∷ [])) in
    let fresh : IsWaiting g (buffer (drop k (a.items ++ f ∷ [])) a.capacity) (next + 1) = record {
      capacity = w.capacity;
      few = omega (arith, len, longer, w.few, w.capacity);
      enough = omega (arith, len, longer, w.enough);
      frames = pushed (next - length a.items) a.items next f k refl w.enough w.frames cycle (omega arith);
      within = all-drop (IsFrameInRange g) k (a.items ++ f ∷ []) (all-push (IsFrameInRange g) a.items f w.within is_within);
    } in
    subst (λ (v : Buffer Frame). IsWaiting g v (next + 1)) (sym is) fresh

-- one more waits where there was room
pub length-push : (g : ℕ) (a b : Buffer Frame) (next : ℕ) (f : Frame) → IsWaiting g a next → length a.items < 16 → b ≡ buffer (keep_last a.capacity (a.items ++ f ∷ [])) a.capacity → length b.items ≡ length a.items + 1
length-push g a b next f w room is =
    ap (λ (v : Buffer Frame). length v.items) is ∙ omega (arith, w.capacity, length-append a.items (f ∷ []), length-drop (length (a.items ++ f ∷ []) - a.capacity) (a.items ++ f ∷ []))

prefix_is : (fs : List Frame) (f : Frame) → slice_get fs 0 ≡ Some f → 1 ≤ length fs
prefix_is [] f e = absurd cc
prefix_is (g ∷ fs) f e = omega arith

pub some_wait : (a : Buffer Frame) (f : Frame) → slice_get a.items 0 ≡ Some f → 1 ≤ length a.items
some_wait a f prefix = prefix_is a.items f prefix

pub length-pop : (a b : Buffer Frame) (f : Frame) → slice_get a.items 0 ≡ Some f → b ≡ buffer (drop 1 a.items) a.capacity → length b.items + 1 ≡ length a.items
length-pop a b f prefix is =
    let some : 1 ≤ length a.items = prefix_is a.items f prefix in
    let len : length b.items ≡ length (drop 1 a.items) = ap (λ (v : Buffer Frame). length v.items) is in
    omega (arith, len, length-drop 1 a.items, some)

pub not_full : (g : ℕ) (a : Buffer Frame) (next : ℕ) → IsWaiting g a next → false ≡ (length a.items == a.capacity) → length a.items < 16
not_full g a next w full =
    let ne : length a.items ≢ a.capacity = eqb-false _ _ (sym full) in
    omega (arith, ne, w.few, w.capacity)

-- the oldest frame is the one whose number is that of the frames done
oldest : (g : ℕ) (fs : List Frame) (n next : ℕ) (f : Frame) → slice_get fs 0 ≡ Some f → AreFrames n fs next → AllByRecursion (IsFrameInRange g) fs → (f.cycle ≡ n) × IsFrameInRange g f
oldest g [] n next f prefix are all = absurd cc
oldest g (h ∷ fs) n next f prefix are all =
    let same : h ≡ f = cc in
    (subst (λ (v : Frame). v.cycle ≡ n) same are.0, subst (IsFrameInRange g) same all.0)

pub prefix_cycle : (g : ℕ) (a : Buffer Frame) (next count : ℕ) (f : Frame) → IsWaiting g a next → slice_get a.items 0 ≡ Some f → count + length a.items ≡ next → f.cycle ≡ count
prefix_cycle g a next count f w prefix live =
    let first : next - length a.items ≡ count = omega (arith, live) in
    (oldest g a.items (next - length a.items) next f prefix w.frames w.within).0 ∙ first

pub prefix_within : (g : ℕ) (a : Buffer Frame) (next : ℕ) (f : Frame) → IsWaiting g a next → slice_get a.items 0 ≡ Some f → IsFrameInRange g f
prefix_within g a next f w prefix = (oldest g a.items (next - length a.items) next f prefix w.frames w.within).1

-- for a plant with as many groups
pub IsWaiting-same : (p q : Plant) (b : Buffer Frame) (next : ℕ) → q ≡ p → IsWaiting p.groups b next → IsWaiting q.groups b next
IsWaiting-same p q b next e w = subst (λ (r : Plant). IsWaiting r.groups b next) (sym e) w

-- the newest ones are kept
pub IsWaiting-keep : (g kept : ℕ) (a b : Buffer Frame) (next : ℕ) → IsWaiting g a next → kept ≤ length a.items → b ≡ buffer (keep_last kept a.items) a.capacity → IsWaiting g b next
IsWaiting-keep g kept a b next w le is =
    let k = length a.items - kept in
    let len : length (drop k a.items) + k ≡ length a.items = omega (arith, length-drop k a.items) in
    let first : next - length a.items + k ≡ next - length (drop k a.items) = omega (arith, len, w.enough) in
    let frames : AreFrames (next - length (drop k a.items)) (drop k a.items) next = subst (λ m. AreFrames m (drop k a.items) next) first (AreFrames-drop k (next - length a.items) a.items next (omega arith) w.frames) in
    let fresh : IsWaiting g (buffer (drop k a.items) a.capacity) next = record {
      capacity = w.capacity;
      few = omega (arith, len, w.few);
      enough = omega (arith, len, w.enough);
      frames = frames;
      within = all-drop (IsFrameInRange g) k a.items w.within;
    } in
    subst (λ (v : Buffer Frame). IsWaiting g v next) (sym is) fresh

pub length-keep : (kept : ℕ) (a b : Buffer Frame) → kept ≤ length a.items → b ≡ buffer (keep_last kept a.items) a.capacity → length b.items ≡ kept
length-keep kept a b le is = ap (λ (v : Buffer Frame). length v.items) is ∙ omega (arith, length-drop (length a.items - kept) a.items)

-- all of a few are their last ones
pub keep_all : (n : ℕ) (fs : List Frame) → length fs ≤ n → keep_last n fs ≡ fs
keep_all n fs le = let none : length fs - n ≡ 0 = omega arith in ap (λ (k : ℕ). drop k fs) none

pub keep_more : (a : Buffer Frame) (f : Frame) → a.capacity ≡ 16 → length a.items < 16 → keep_last a.capacity (a.items ++ f ∷ []) ≡ a.items ++ f ∷ []
keep_more a f capacity room = keep_all a.capacity (a.items ++ f ∷ []) (omega (arith, length-append a.items (f ∷ []), capacity))
