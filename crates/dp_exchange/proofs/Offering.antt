-- What an offer makes of a computer that waits to be aligned.
use Rattle.std.proofs.Common.{◌≡◌, ℕ, ◌-◌, ◌<◌, ◌≤◌, Bool, true, false, cond, List, length, Some, Ok, refl, sym, ap, subst, ◌∙◌, nat_lt, slice_set}
use Rattle.std.specs.List.{AllByRecursion}
use Rattle.std.proofs.lemmas.Bool.{le-ltb}
use Rattle.circular_buffer.specs.Buffer.{Buffer, keep_last}
use Rattle.dp_plant.specs.declared.frames.Frame.{Frame}
use Rattle.dp_plant.specs.declared.plant.Plant.{Plant}
use Rattle.dp_plant.specs.declared.voting.Mode.TheVariants.{Live, Aligning}
use Rattle.dp_machine.specs.declared.state.State.{State}
use Rattle.dp_machine.specs.Machine.{MachineValue, with_state}
use Rattle.dp_codec.specs.Laws.{SpellingsKeepApart, WrittenIsRead}
use Rattle.dp_codec.specs.Spelling.{IsPlantState, IsSpelled, spelling_of, state_read}
use Rattle.dp_exchange.specs.declared.answers.Offer.{Offer}
use Rattle.dp_exchange.specs.declared.answers.Offer.TheVariants.{Kept as OfferKept, Adopted}
use Rattle.dp_exchange.specs.declared.computer.Computer.TheInside.{Inside}
use Rattle.dp_exchange.specs.ComputerState.{ComputerState, ToAlign, after_offer, after_state, control_in, offer_answer, offer_answer_in, offer_in, offered_by, oldest, state_answer, with_offer}
use Rattle.dp_exchange.specs.Offers.{is_confirmed}
use Rattle.dp_exchange.specs.OfferTexts.{is_repeated}
use Rattle.dp_exchange.specs.Inside.{IsComputer, IsOfferText, computer_state, offers_of}
use Rattle.dp_exchange.proofs.Confirmations.{kept-offers, kept-spell, repeated-confirmed, spelled-read}

-- a state that fits the frames of a computer
pub record IsFit (x : ComputerState) (from : ℕ) (s : State) (confirmed : Bool) : Type 0 where
  pub aligning : x.control ≡ ToAlign
  pub old : s.count ≤ x.next
  pub new : oldest x ≤ s.count
  pub repeated : is_confirmed x.offers from s ≡ confirmed

pub fit-new : (x : ComputerState) (from : ℕ) (s : State) (b : Bool) → IsFit x from s b → after_offer x from (Ok s) ≡ with_offer x from s b
unfolding after_offer offer_in after_state
fit-new x from s b fit =
    let first : nat_lt x.next s.count ≡ false = le-ltb x.next s.count fit.old in
    let second : nat_lt s.count (oldest x) ≡ false = le-ltb s.count (oldest x) fit.new in
    rw (fit.aligning, first, second, fit.repeated) refl

pub fit-answer : (x : ComputerState) (from : ℕ) (s : State) (b : Bool) → IsFit x from s b → offer_answer x from (Ok s) ≡ cond b Adopted OfferKept
unfolding offer_answer offer_answer_in state_answer
fit-answer x from s b fit =
    let first : nat_lt x.next s.count ≡ false = le-ltb x.next s.count fit.old in
    let second : nat_lt s.count (oldest x) ≡ false = le-ltb s.count (oldest x) fit.new in
    rw (fit.aligning, first, second, fit.repeated) refl

-- a computer that keeps an offer, and one that goes on from it
pub kept-view : (i : Inside) (s : State) (from : ℕ) (texts : List (List ℕ)) → i.mode ≡ Aligning → offers_of i.machine.plant texts ≡ slice_set (offers_of i.machine.plant i.offers) from (Some s)
    → computer_state (record i { machine = with_state i.machine s; offers = texts }) ≡ with_offer (computer_state i) from s false
unfolding with_offer
kept-view i s from texts a o = rw (a, o) refl

pub adopted-view : (i : Inside) (s : State) (from : ℕ) (texts : List (List ℕ)) (waits : Buffer Frame) → waits.items ≡ keep_last (i.next - s.count) i.waits.items → offers_of i.machine.plant texts ≡ slice_set (offers_of i.machine.plant i.offers) from (Some s)
    → computer_state (record i { mode = Live; machine = with_state i.machine s; waits = waits; offers = texts }) ≡ with_offer (computer_state i) from s true
unfolding with_offer
adopted-view i s from texts waits w o = rw (w, o) refl

-- the plant stays when a state is read
pub plant-same : (m n : MachineValue) (s : State) → n ≡ with_state m s → n.plant ≡ m.plant
plant-same m n s e = ap (λ (k : MachineValue). k.plant) e

-- what a text that was kept says
pub record IsKept (i : Inside) (from : ℕ) (s : State) (texts : List (List ℕ)) : Type 0 where
  pub offers : offers_of i.machine.plant texts ≡ slice_set (offers_of i.machine.plant i.offers) from (Some s)
  pub repeated : is_repeated texts from ≡ is_confirmed (offers_of i.machine.plant i.offers) from s

pub kept-is : (i : Inside) (from : ℕ) (m : MachineValue) (texts : List (List ℕ)) → WrittenIsRead i.machine.plant → SpellingsKeepApart i.machine.plant → AllByRecursion (IsOfferText i.machine.plant) i.offers → from < 3
    → m ≡ with_state i.machine m.state → IsPlantState m.plant m.state → length i.offers ≡ 3 → texts ≡ slice_set i.offers from (spelling_of m.plant 2 m.state) → IsKept i from m.state texts
kept-is i from m texts law apart all low same is three e =
    let p = i.machine.plant in
    let plant : m.plant ≡ p = plant-same i.machine m m.state same in
    let state : IsPlantState p m.state = subst (λ (q : Plant). IsPlantState q m.state) plant is in
    let text : texts ≡ slice_set i.offers from (spelling_of p 2 m.state) = e ∙ ap (λ (q : Plant). slice_set i.offers from (spelling_of q 2 m.state)) plant in
    record {
      offers = ap (offers_of p) text ∙ kept-offers p law m.state state i.offers from;
      repeated = ap (λ (ts : List (List ℕ)). is_repeated ts from) text ∙ repeated-confirmed p apart m.state state i.offers three all from low;
    }

-- a state that was read, fits the frames, and is kept
pub record IsTaken (i : Inside) (from : ℕ) (bytes : List ℕ) (m : MachineValue) (texts : List (List ℕ)) (confirmed : Bool) : Type 0 where
  pub read : state_read i.machine.plant i.software bytes ≡ Ok m.state
  pub same : m ≡ with_state i.machine m.state
  pub kept : IsKept i from m.state texts
  pub aligning : i.mode ≡ Aligning
  pub fit : IsFit (computer_state i) from m.state confirmed

abbrev pub offered : ComputerState → ℕ → List ℕ → ComputerState
offered x from bytes = after_offer x from (offered_by x bytes)

abbrev pub answered : ComputerState → ℕ → List ℕ → Offer
answered x from bytes = offer_answer x from (offered_by x bytes)

taken-new : (i : Inside) (from : ℕ) (bytes : List ℕ) (m : MachineValue) (texts : List (List ℕ)) (b : Bool) → IsTaken i from bytes m texts b → with_offer (computer_state i) from m.state b ≡ offered (computer_state i) from bytes
taken-new i from bytes m texts b t = sym (ap (after_offer (computer_state i) from) t.read ∙ fit-new (computer_state i) from m.state b t.fit)

taken-answer : (i : Inside) (from : ℕ) (bytes : List ℕ) (m : MachineValue) (texts : List (List ℕ)) (b : Bool) → IsTaken i from bytes m texts b → cond b Adopted OfferKept ≡ answered (computer_state i) from bytes
taken-answer i from bytes m texts b t = sym (ap (offer_answer (computer_state i) from) t.read ∙ fit-answer (computer_state i) from m.state b t.fit)

kept-new : (i : Inside) (from : ℕ) (bytes : List ℕ) (m : MachineValue) (texts : List (List ℕ)) → IsTaken i from bytes m texts false → computer_state (record i { machine = m; offers = texts }) ≡ offered (computer_state i) from bytes
kept-new i from bytes m texts t =
    ap (λ (n : MachineValue). computer_state (record i { machine = n; offers = texts })) t.same
    ∙ kept-view i m.state from texts t.aligning t.kept.offers
    ∙ taken-new i from bytes m texts false t

adopted-new : (i : Inside) (from : ℕ) (bytes : List ℕ) (m : MachineValue) (texts : List (List ℕ)) (waits : Buffer Frame) → IsTaken i from bytes m texts true → waits.items ≡ keep_last (i.next - m.state.count) i.waits.items
    → computer_state (record i { mode = Live; machine = m; waits = waits; offers = texts }) ≡ offered (computer_state i) from bytes
adopted-new i from bytes m texts waits t w =
    ap (λ (n : MachineValue). computer_state (record i { mode = Live; machine = n; waits = waits; offers = texts })) t.same
    ∙ adopted-view i m.state from texts waits w t.kept.offers
    ∙ taken-new i from bytes m texts true t

-- what the calls of an offer ensure makes it
pub taken : (i : Inside) (from : ℕ) (bytes : List ℕ) (m : MachineValue) (texts : List (List ℕ)) (b : Bool) → WrittenIsRead i.machine.plant → SpellingsKeepApart i.machine.plant → IsComputer i → from < 3
    → i.mode ≡ Aligning → IsSpelled i.machine.plant i.software bytes m.state → m ≡ with_state i.machine m.state → m.state.count ≤ i.next → i.next - length i.waits.items ≤ m.state.count
    → IsPlantState m.plant m.state → length i.offers ≡ 3 → texts ≡ slice_set i.offers from (spelling_of m.plant 2 m.state) → is_repeated texts from ≡ b → IsTaken i from bytes m texts b
taken i from bytes m texts b law apart is low mode found same old new state three text repeated =
    let kept : IsKept i from m.state texts = kept-is i from m texts law apart is.offers low same state three text in
    record {
      read = spelled-read i.machine.plant law i.software is.software bytes m.state found;
      same = same;
      kept = kept;
      aligning = mode;
      fit = record {
        aligning = ap (λ x. control_in x i.machine.state) mode;
        old = old;
        new = new;
        repeated = sym kept.repeated ∙ repeated;
      };
    }

-- both at once: what an offer makes of a computer, and what it is answered
pub record IsAnswered (x after : ComputerState) (from : ℕ) (bytes : List ℕ) (told : Offer) : Type 0 where
  pub new : after ≡ offered x from bytes
  pub answer : told ≡ answered x from bytes

pub kept-both : (i : Inside) (x : ComputerState) (from : ℕ) (bytes : List ℕ) (m : MachineValue) (texts : List (List ℕ)) → computer_state i ≡ x → IsTaken i from bytes m texts false
    → IsAnswered x (computer_state (record i { machine = m; offers = texts })) from bytes OfferKept
kept-both i x from bytes m texts view t = record {
  new = kept-new i from bytes m texts t ∙ ap (λ z. offered z from bytes) view;
  answer = taken-answer i from bytes m texts false t ∙ ap (λ z. answered z from bytes) view;
}

pub adopted-both : (i : Inside) (x : ComputerState) (from : ℕ) (bytes : List ℕ) (m : MachineValue) (texts : List (List ℕ)) (waits : Buffer Frame) → computer_state i ≡ x → IsTaken i from bytes m texts true
    → waits.items ≡ keep_last (i.next - m.state.count) i.waits.items → IsAnswered x (computer_state (record i { mode = Live; machine = m; waits = waits; offers = texts })) from bytes Adopted
adopted-both i x from bytes m texts waits view t newest = record {
  new = adopted-new i from bytes m texts waits t newest ∙ ap (λ z. offered z from bytes) view;
  answer = taken-answer i from bytes m texts true t ∙ ap (λ z. answered z from bytes) view;
}

-- the texts still spell states of the plant
pub texts-spell : (i : Inside) (from : ℕ) (m : MachineValue) (texts : List (List ℕ)) → WrittenIsRead i.machine.plant → AllByRecursion (IsOfferText i.machine.plant) i.offers → m ≡ with_state i.machine m.state → IsPlantState m.plant m.state
    → texts ≡ slice_set i.offers from (spelling_of m.plant 2 m.state) → AllByRecursion (IsOfferText m.plant) texts
texts-spell i from m texts law all same is e =
    let p = i.machine.plant in
    let plant : m.plant ≡ p = plant-same i.machine m m.state same in
    let state : IsPlantState p m.state = subst (λ (q : Plant). IsPlantState q m.state) plant is in
    let text : texts ≡ slice_set i.offers from (spelling_of p 2 m.state) = e ∙ ap (λ (q : Plant). slice_set i.offers from (spelling_of q 2 m.state)) plant in
    let own : AllByRecursion (IsOfferText p) texts = subst (AllByRecursion (IsOfferText p)) (sym text) (kept-spell p law m.state state i.offers from all) in
    subst (λ (q : Plant). AllByRecursion (IsOfferText q) texts) (sym plant) own
