-- A computer that isn't off has the frames of all cycles, and each is of the world's plant.
use Rattle.std.proofs.Common.{Bool, List, None, Option, [], Some, arith, cond, eqb, false, inl, inr, length, map, refl, slice_set, subst, true, ℕ, ◌+◌, ◌∙◌, ◌∷◌, ◌≡◌}
use Rattle.std.specs.Prelude.{Err, Ok, Result, nat_lt, slice_get}
use Rattle.dp_core.proofs.Lists.{changed-at, map-at, set-at}
use Rattle.dp_machine.specs.declared.state.State.{State}
use Rattle.dp_exchange.specs.ComputerState.{ComputerState, Control, InControl, SwitchedOff, ToAlign, after_offer, after_restart, after_run, after_skew, after_state, after_step, after_stop, after_upgrade, after_wire, is_live, mode_of, offer_in, offered_by, oldest, run_in, run_over_oldest, skew_in, told_text, wire_in, with_frame, with_offer, with_overrun}
use Rattle.dp_exchange.specs.Offers.{is_confirmed}
use Rattle.dp_core.specs.WorldState.{change_at, with_text}
use Rattle.dp_core.specs.WorldView.{IsInStep}
use Rattle.dp_plant.specs.declared.frames.Frame.{Frame}
use Rattle.dp_plant.specs.declared.place.Place.{Place}
use Rattle.dp_plant.specs.declared.plant.Plant.{Plant}

wire_in-step : (n : ℕ) (x : ComputerState) (f : Frame) (c : Control) → x.control ≡ c → IsInStep n x → IsInStep (n + 1) (wire_in x f c)
unfolding wire_in
wire_in-step n x f SwitchedOff e s = λ o. absurd (o (rw e))
wire_in-step n x f ToAlign e s = λ o. (let t = s (λ q. (let u = rw e at q in cc)) in omega arith)
wire_in-step n x f (InControl state) e s = by (eqb (length x.waits) 16)
  where
    by : (b : Bool) → IsInStep (n + 1) (cond b (with_overrun x f) (with_frame x f))
    by true = λ o. (let t = s (λ q. (let u = rw e at q in cc)) in omega arith)
    by false = λ o. (let t = s (λ q. (let u = rw e at q in cc)) in omega arith)

pub wire-in_step : (n : ℕ) (x : ComputerState) (f : Frame) → IsInStep n x → IsInStep (n + 1) (after_wire x f)
unfolding after_wire
wire-in_step n x f s = wire_in-step n x f x.control refl s

oldest-in_step : (n : ℕ) (x : ComputerState) (state : State) (fs : List Frame) → x.next ≡ n → IsInStep n (run_over_oldest x state fs)
unfolding run_over_oldest after_step
oldest-in_step n x state [] s = λ _. s
oldest-in_step n x state (f ∷ fs) s = λ _. s

run_in-in_step : (n : ℕ) (x : ComputerState) (c : Control) → x.control ≡ c → IsInStep n x → IsInStep n (run_in x c)
unfolding run_in
run_in-in_step n x (InControl state) e s = oldest-in_step n x state x.waits (s (λ q. (let u = rw e at q in cc)))
run_in-in_step n x ToAlign e s = s
run_in-in_step n x SwitchedOff e s = s

pub run-in_step : (n : ℕ) (x : ComputerState) → IsInStep n x → IsInStep n (after_run x)
unfolding after_run
run-in_step n x s = run_in-in_step n x x.control refl s

pub stop-in_step : (n : ℕ) (x : ComputerState) → IsInStep n x → IsInStep n (after_stop x)
unfolding after_stop
stop-in_step n x s = λ o. absurd (o refl)

skew_in-in_step : (n : ℕ) (x : ComputerState) (at : Place) (c : Control) → x.control ≡ c → IsInStep n x → IsInStep n (skew_in x at c)
unfolding skew_in
skew_in-in_step n x at (InControl state) e s = λ _. s (λ q. (let u = rw e at q in cc))
skew_in-in_step n x at ToAlign e s = s
skew_in-in_step n x at SwitchedOff e s = s

pub skew-in_step : (n : ℕ) (x : ComputerState) (at : Place) → IsInStep n x → IsInStep n (after_skew x at)
unfolding after_skew
skew-in_step n x at s = skew_in-in_step n x at x.control refl s

pub restart-in_step : (n : ℕ) (x : ComputerState) → IsInStep n (after_restart x n)
unfolding after_restart
restart-in_step n x = λ _. refl

pub upgrade-in_step : (n : ℕ) (x : ComputerState) → IsInStep n (after_upgrade x n)
unfolding after_upgrade after_restart
upgrade-in_step n x = λ _. refl

with_offer-in_step : (n : ℕ) (x : ComputerState) (a : ℕ) (s : State) (both : Bool) → x.next ≡ n → IsInStep n (with_offer x a s both)
unfolding with_offer
with_offer-in_step n x a s false e = λ _. e
with_offer-in_step n x a s true e = λ _. e

after_state-in_step : (n : ℕ) (x : ComputerState) (a : ℕ) (s : State) → x.next ≡ n → IsInStep n (after_state x a s)
unfolding after_state
after_state-in_step n x a s e = by (nat_lt x.next s.count) (nat_lt s.count (oldest x))
  where
    by : (new old : Bool) → IsInStep n (cond new x (cond old x (with_offer x a s (is_confirmed x.offers a s))))
    by true old = λ _. e
    by false true = λ _. e
    by false false = with_offer-in_step n x a s (is_confirmed x.offers a s) e

offer_in-in_step : (n : ℕ) (x : ComputerState) (a : ℕ) (r : Result State ℕ) (c : Control) → x.control ≡ c → IsInStep n x → IsInStep n (offer_in x a r c)
unfolding offer_in
offer_in-in_step n x a (Ok s) ToAlign e t = after_state-in_step n x a s (t (λ q. (let u = rw e at q in cc)))
offer_in-in_step n x a (Err place) ToAlign e t = t
offer_in-in_step n x a (Ok s) (InControl state) e t = t
offer_in-in_step n x a (Err place) (InControl state) e t = t
offer_in-in_step n x a (Ok s) SwitchedOff e t = t
offer_in-in_step n x a (Err place) SwitchedOff e t = t

pub offer-in_step : (n : ℕ) (x : ComputerState) (a : ℕ) (r : Result State ℕ) → IsInStep n x → IsInStep n (after_offer x a r)
unfolding after_offer
offer-in_step n x a r t = offer_in-in_step n x a r x.control refl t

pub text-in_step : (n a : ℕ) (o : Option ComputerState) (x : ComputerState) → IsInStep n x → IsInStep n (with_text a o x)
text-in_step n a None x t = t
text-in_step n a (Some y) x t = by (is_live (mode_of y.control))
  where
    by : (live : Bool) → IsInStep n (cond live (after_offer x a (offered_by x (told_text y))) x)
    by true = offer-in_step n x a (offered_by x (told_text y)) t
    by false = t

-- ---- the plant stays

wire_in-plant : (x : ComputerState) (f : Frame) (c : Control) → (wire_in x f c).plant ≡ x.plant
unfolding wire_in
wire_in-plant x f SwitchedOff = refl
wire_in-plant x f ToAlign = refl
wire_in-plant x f (InControl state) = by (eqb (length x.waits) 16)
  where
    by : (b : Bool) → (cond b (with_overrun x f) (with_frame x f)).plant ≡ x.plant
    by true = refl
    by false = refl

wire-plant : (x : ComputerState) (f : Frame) → (after_wire x f).plant ≡ x.plant
unfolding after_wire
wire-plant x f = wire_in-plant x f x.control

oldest-plant : (x : ComputerState) (state : State) (fs : List Frame) → (run_over_oldest x state fs).plant ≡ x.plant
unfolding run_over_oldest after_step
oldest-plant x state [] = refl
oldest-plant x state (f ∷ fs) = refl

run_in-plant : (x : ComputerState) (c : Control) → (run_in x c).plant ≡ x.plant
unfolding run_in
run_in-plant x (InControl state) = oldest-plant x state x.waits
run_in-plant x ToAlign = refl
run_in-plant x SwitchedOff = refl

pub run-plant : (x : ComputerState) → (after_run x).plant ≡ x.plant
unfolding after_run
run-plant x = run_in-plant x x.control

pub stop-plant : (x : ComputerState) → (after_stop x).plant ≡ x.plant
unfolding after_stop
stop-plant x = refl

skew_in-plant : (x : ComputerState) (at : Place) (c : Control) → (skew_in x at c).plant ≡ x.plant
unfolding skew_in
skew_in-plant x at (InControl state) = refl
skew_in-plant x at ToAlign = refl
skew_in-plant x at SwitchedOff = refl

pub skew-plant : (x : ComputerState) (at : Place) → (after_skew x at).plant ≡ x.plant
unfolding after_skew
skew-plant x at = skew_in-plant x at x.control

pub restart-plant : (x : ComputerState) (n : ℕ) → (after_restart x n).plant ≡ x.plant
unfolding after_restart
restart-plant x n = refl

pub upgrade-plant : (x : ComputerState) (n : ℕ) → (after_upgrade x n).plant ≡ x.plant
unfolding after_upgrade after_restart
upgrade-plant x n = refl

with_offer-plant : (x : ComputerState) (a : ℕ) (s : State) (both : Bool) → (with_offer x a s both).plant ≡ x.plant
unfolding with_offer
with_offer-plant x a s false = refl
with_offer-plant x a s true = refl

after_state-plant : (x : ComputerState) (a : ℕ) (s : State) → (after_state x a s).plant ≡ x.plant
unfolding after_state
after_state-plant x a s = by (nat_lt x.next s.count) (nat_lt s.count (oldest x))
  where
    by : (new old : Bool) → (cond new x (cond old x (with_offer x a s (is_confirmed x.offers a s)))).plant ≡ x.plant
    by true old = refl
    by false true = refl
    by false false = with_offer-plant x a s (is_confirmed x.offers a s)

offer_in-plant : (x : ComputerState) (a : ℕ) (r : Result State ℕ) (c : Control) → (offer_in x a r c).plant ≡ x.plant
unfolding offer_in
offer_in-plant x a (Ok s) ToAlign = after_state-plant x a s
offer_in-plant x a (Err place) ToAlign = refl
offer_in-plant x a (Ok s) (InControl state) = refl
offer_in-plant x a (Err place) (InControl state) = refl
offer_in-plant x a (Ok s) SwitchedOff = refl
offer_in-plant x a (Err place) SwitchedOff = refl

pub offer-plant : (x : ComputerState) (a : ℕ) (r : Result State ℕ) → (after_offer x a r).plant ≡ x.plant
unfolding after_offer
offer-plant x a r = offer_in-plant x a r x.control

pub text-plant : (a : ℕ) (o : Option ComputerState) (x : ComputerState) → (with_text a o x).plant ≡ x.plant
text-plant a None x = refl
text-plant a (Some y) x = by (is_live (mode_of y.control))
  where
    by : (live : Bool) → (cond live (after_offer x a (offered_by x (told_text y))) x).plant ≡ x.plant
    by true = offer-plant x a (offered_by x (told_text y))
    by false = refl

-- ---- all of them

-- the same of a change of one, as it is
pub changed-keeps : (P : ComputerState → Type 0) (xs : List ComputerState) (k : ℕ) (change : ComputerState → ComputerState) → ((c : ℕ) (z : ComputerState) → slice_get xs c ≡ Some z → P z) → ((z : ComputerState) → P z → P (change z)) → (c : ℕ) (z : ComputerState) → slice_get (change_at xs k change) c ≡ Some z → P z
changed-keeps P xs k change all keeps c z e = elim (changed-at xs k c change z e) [
  | inl u ↦ subst P u.1.is (keeps u.1.before (all k u.1.before u.1.stood))
  | inr u ↦ all c z u.1
]

-- one of the computers changed, and what holds of all still does
pub one-keeps : (P : ComputerState → Type 0) (xs : List ComputerState) (k : ℕ) (x y : ComputerState) → ((c : ℕ) (z : ComputerState) → slice_get xs c ≡ Some z → P z) → slice_get xs k ≡ Some x → (P x → P y) → (c : ℕ) (z : ComputerState) → slice_get (slice_set xs k y) c ≡ Some z → P z
one-keeps P xs k x y all at keeps c z e = elim (set-at xs k c y z e) [
  | inl u ↦ subst P u.1 (keeps (all k x at))
  | inr u ↦ all c z u.1
]

-- all of them take one more frame
pub all-in_step : (xs : List ComputerState) (n : ℕ) (f : Frame) → ((c : ℕ) (z : ComputerState) → slice_get xs c ≡ Some z → IsInStep n z) → (c : ℕ) (z : ComputerState) → slice_get (map (λ x. after_wire x f) xs) c ≡ Some z → IsInStep (n + 1) z
all-in_step xs n f all c z e =
    let t = map-at xs c (λ x. after_wire x f) z e in
    subst (IsInStep (n + 1)) t.is (wire-in_step n t.before f (all c t.before t.stood))

pub all-of_plant : (xs : List ComputerState) (p : Plant) (f : Frame) → ((c : ℕ) (z : ComputerState) → slice_get xs c ≡ Some z → z.plant ≡ p) → (c : ℕ) (z : ComputerState) → slice_get (map (λ x. after_wire x f) xs) c ≡ Some z → z.plant ≡ p
all-of_plant xs p f all c z e =
    let t = map-at xs c (λ x. after_wire x f) z e in
    subst (λ (x : ComputerState). x.plant ≡ p) t.is (wire-plant t.before f ∙ all c t.before t.stood)

-- a frame is heard by all, and each runs
pub advanced-in_step : (xs : List ComputerState) (n : ℕ) (f : Frame) → ((c : ℕ) (z : ComputerState) → slice_get xs c ≡ Some z → IsInStep n z) → (c : ℕ) (z : ComputerState) → slice_get (map (λ x. after_run (after_wire x f)) xs) c ≡ Some z → IsInStep (n + 1) z
advanced-in_step xs n f all c z e =
    let t = map-at xs c (λ x. after_run (after_wire x f)) z e in
    subst (IsInStep (n + 1)) t.is (run-in_step (n + 1) (after_wire t.before f) (wire-in_step n t.before f (all c t.before t.stood)))

pub advanced-of_plant : (xs : List ComputerState) (p : Plant) (f : Frame) → ((c : ℕ) (z : ComputerState) → slice_get xs c ≡ Some z → z.plant ≡ p) → (c : ℕ) (z : ComputerState) → slice_get (map (λ x. after_run (after_wire x f)) xs) c ≡ Some z → z.plant ≡ p
advanced-of_plant xs p f all c z e =
    let t = map-at xs c (λ x. after_run (after_wire x f)) z e in
    subst (λ (x : ComputerState). x.plant ≡ p) t.is (run-plant (after_wire t.before f) ∙ (wire-plant t.before f ∙ all c t.before t.stood))
