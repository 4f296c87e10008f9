-- What a computer tells and shows, in code.
use Rattle.dp_core.specs.Mode as modes
use Rattle.std.proofs.Common.{Bool, List, None, Some, [], ap, arith, cond, false, length, refl, suc, sym, true, zero, ℕ, ◌∙◌, ◌∷◌, ◌≡◌, subst}
use Rattle.std.specs.Prelude.{slice_get}
use Rattle.dp_codec.specs.Spelling.{IsSoftware, state_read}
use Rattle.dp_exchange.specs.ComputerState.{ComputerState, InControl, after_offer, after_skew, control_in, is_live, mode_of, offer_answer, offered_by, skew_in, tell_in, text_at, told_text}
use Rattle.dp_exchange.specs.Offers.{told_state}
use Rattle.dp_exchange.specs.declared.answers.Offer.{Offer}
use Rattle.dp_machine.specs.Machine.{MachineValue}
use Rattle.dp_machine.specs.declared.state.State.{State}
use Rattle.dp_core.proofs.Lists.{below-get, changed-alike, changed-same, get-below}
use Rattle.dp_core.proofs.Worlds.{IsRead}
use Rattle.dp_core.specs.History.{history}
use Rattle.dp_core.specs.Moment.{Moment}
use Rattle.dp_core.specs.Represents.{ComputerRepresents, Represents}
use Rattle.dp_core.specs.Shown.{IsLeftOf, IsMachineOf, spelling_at}
use Rattle.dp_core.specs.Trajectory.{trajectory}
use Rattle.dp_core.specs.WorldState.{WorldState, change_at, text_answer, with_text}
use Rattle.dp_core.specs.declared.event.Event.{Event}
use Rattle.dp_plant.specs.declared.place.Place.{Place}
use Rattle.dp_plant.specs.declared.plant.Plant.{Plant}
use Rattle.dp_plant.specs.declared.voting.Mode.{Mode}
use Rattle.dp_plant.specs.declared.voting.Mode.TheVariants.{Aligning, Live, Off}

-- ---- a text is told

module _ (xs : List ComputerState) (a : ℕ) (y : ComputerState) (at : slice_get xs a ≡ Some y) where
  sent : (live : Bool) (x : ComputerState) → is_live (mode_of y.control) ≡ live → with_text a (slice_get xs a) x ≡ cond live (after_offer x a (offered_by x (told_text y))) x
  sent live x is = ap (λ o. with_text a o x) at ∙ ap (λ q. cond q (after_offer x a (offered_by x (told_text y))) x) is

  pub text-sent : (live : Bool) (x new : ComputerState) (text bytes : List ℕ) → live ≡ is_live (mode_of y.control) → live ≡ true → text ≡ told_text y → bytes ≡ text → new ≡ after_offer x a (offered_by x bytes) → new ≡ with_text a (slice_get xs a) x
  text-sent live x new text bytes is l t b e = e ∙ (ap (λ w. after_offer x a (offered_by x w)) (b ∙ t) ∙ sym (sent true x (sym is ∙ l)))

  pub text-unsent : (live : Bool) (b : ℕ) (x : ComputerState) → slice_get xs b ≡ Some x → live ≡ is_live (mode_of y.control) → live ≡ false → xs ≡ change_at xs b (with_text a (slice_get xs a))
  text-unsent live b x there is l = sym (changed-alike xs b x (with_text a (slice_get xs a)) (λ w. w) there (sent false x (sym is ∙ l)) ∙ changed-same xs b)

  answered : (live : Bool) (b : ℕ) (x : ComputerState) → slice_get xs b ≡ Some x → is_live (mode_of y.control) ≡ live → text_answer a (slice_get xs a) (slice_get xs b) ≡ cond live (Some (offer_answer x a (offered_by x (told_text y)))) None
  answered live b x there is =
      ap (λ o. text_answer a o (slice_get xs b)) at
      ∙ (ap (text_answer a (Some y)) there
      ∙ ap (λ q. cond q (Some (offer_answer x a (offered_by x (told_text y)))) None) is)

  pub text-answered : (live : Bool) (b : ℕ) (x : ComputerState) (o : Offer) (text bytes : List ℕ) → slice_get xs b ≡ Some x → live ≡ is_live (mode_of y.control) → live ≡ true → text ≡ told_text y → bytes ≡ text → o ≡ offer_answer x a (offered_by x bytes) → Some o ≡ text_answer a (slice_get xs a) (slice_get xs b)
  text-answered live b x o text bytes there is l t s e = ap Some (e ∙ ap (λ w. offer_answer x a (offered_by x w)) (s ∙ t)) ∙ sym (answered true b x there (sym is ∙ l))

  pub text-unanswered : (live : Bool) (b : ℕ) (x : ComputerState) → slice_get xs b ≡ Some x → live ≡ is_live (mode_of y.control) → live ≡ false → None ≡ text_answer a (slice_get xs a) (slice_get xs b)
  text-unanswered live b x there is l = sym (answered false b x there (sym is ∙ l))

  pub text-read : (text : List ℕ) → text ≡ told_text y → ((software : ℕ) (s : State) → IsSoftware software → y.control ≡ InControl s → state_read y.plant software text ≡ told_state software y.software s) → (z : ComputerState) → slice_get xs a ≡ Some z → IsRead z
  text-read text t read z there =
      let same : y ≡ z = cc in
      let own : IsRead y = λ n s k e. ap (state_read y.plant n) (sym t) ∙ read n s k e in
      subst IsRead same own

-- ---- a text at a place

text_at-mode : (p : Plant) (c : ℕ) (h : List Moment) (x : ComputerState) (at : Place) (m : Mode) → modes.mode c h ≡ m → ComputerRepresents p c h x → told_text (skew_in x at (control_in m (trajectory p c h))) ≡ spelling_at p c h at
unfolding told_text tell_in skew_in spelling_at
text_at-mode p c h x at Live e s = rw (e, s.plant, s.software)
text_at-mode p c h x at Aligning e s = ap (tell_in x) (s.control ∙ ap (λ m. control_in m (trajectory p c h)) e) ∙ rw e
text_at-mode p c h x at Off e s = ap (tell_in x) (s.control ∙ ap (λ m. control_in m (trajectory p c h)) e) ∙ rw e

text_at-represents : (p : Plant) (c : ℕ) (h : List Moment) (x : ComputerState) (at : Place) → ComputerRepresents p c h x → text_at x at ≡ spelling_at p c h at
unfolding text_at after_skew
text_at-represents p c h x at s = ap (λ k. told_text (skew_in x at k)) s.control ∙ text_at-mode p c h x at (modes.mode c h) refl s

pub spelling-shown : (es : List Event) (w : WorldState) (c : ℕ) (x : ComputerState) (at : Place) (text : List ℕ) → slice_get w.computers c ≡ Some x → text ≡ text_at x at → Represents es w → text ≡ spelling_at w.plant c (history w.plant es) at
spelling-shown es w c x at text there t r = t ∙ text_at-represents w.plant c (history w.plant es) x at (r.computers c x there)

-- ---- the machines

machine-of : (p : Plant) (c : ℕ) (h : List Moment) (x : ComputerState) (m : MachineValue) → IsLeftOf x m → ComputerRepresents p c h x → IsMachineOf p c h m
machine-of p c h x m left s = record {
  plant = left.plant ∙ s.plant;
  steps = left.steps ∙ s.steps;
  state = λ l. left.state (trajectory p c h) (s.control ∙ ap (λ z. control_in z (trajectory p c h)) l);
}

pub machine-shown : (es : List Event) (w : WorldState) (items : List ComputerState) (ms : List MachineValue) (c : ℕ) (m : MachineValue) → items ≡ w.computers → length ms ≡ 3
    → ((k : ℕ) (x : ComputerState) (n : MachineValue) → slice_get items k ≡ Some x → slice_get ms k ≡ Some n → IsLeftOf x n) → Represents es w → slice_get ms c ≡ Some m → IsMachineOf w.plant c (history w.plant es) m
machine-shown es w items ms c m same len left r at =
    let below = below-get ms c m at in
    let three = r.three in
    let x = get-below w.computers c (omega (arith, len, below, three)) in
    let there : slice_get items c ≡ Some x.0 = subst (λ xs. slice_get xs c ≡ Some x.0) (sym same) x.1 in
    machine-of w.plant c (history w.plant es) x.0 m (left c x.0 m there at) (r.computers c x.0 x.1)

left-same : (x a : ComputerState) (l b : MachineValue) → IsLeftOf x l → x ≡ a → l ≡ b → IsLeftOf a b
left-same x a l b p e f = subst (λ z. IsLeftOf z b) e (subst (IsLeftOf x) f p)

-- of three computers and their machines
pub three-left : (xs : List ComputerState) (x y z a : ComputerState) (l m n b : MachineValue) (c : ℕ) → length xs ≡ 3 → slice_get xs 0 ≡ Some x → slice_get xs 1 ≡ Some y → slice_get xs 2 ≡ Some z → IsLeftOf x l → IsLeftOf y m → IsLeftOf z n → slice_get xs c ≡ Some a → slice_get (l ∷ m ∷ n ∷ []) c ≡ Some b → IsLeftOf a b
three-left xs x y z a l m n b zero len ex ey ez px py pz e f =
    let first : x ≡ a = cc in
    let machine : l ≡ b = cc in
    left-same x a l b px first machine
three-left xs x y z a l m n b (suc zero) len ex ey ez px py pz e f =
    let second : y ≡ a = cc in
    let machine : m ≡ b = cc in
    left-same y a m b py second machine
three-left xs x y z a l m n b (suc (suc zero)) len ex ey ez px py pz e f =
    let third : z ≡ a = cc in
    let machine : n ≡ b = cc in
    left-same z a n b pz third machine
three-left xs x y z a l m n b (suc (suc (suc c))) len ex ey ez px py pz e f =
    let below = below-get xs (suc (suc (suc c))) a e in
    absurd (omega (arith, below, len))
