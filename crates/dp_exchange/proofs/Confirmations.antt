-- Offers that are kept as bytes are compared as the states that they spell.
use Rattle.std.proofs.Common.{◌≡◌, ℕ, zero, suc, ◌<◌, Bool, true, false, List, [], ◌∷◌, length, Option, Some, None, Ok, refl, sym, ap, subst, ◌∙◌, arith, inr, bytes_eq, slice_set}
use Rattle.std.specs.List.{AllByRecursion}
use Rattle.std.specs.Result.{result_ok}
use Rattle.std.proofs.lemmas.List.{map-set}
use Rattle.std.proofs.lemmas.Slice.Eq.{bytes_eq-Decides}
use Rattle.dp_plant.specs.declared.plant.Plant.{Plant}
use Rattle.dp_machine.specs.declared.state.State.{State}
use Rattle.dp_codec.specs.Laws.{SpellingsKeepApart, WrittenIsRead}
use Rattle.dp_codec.specs.Numbers.{unsigned_at, unsigned_text}
use Rattle.dp_codec.specs.Spelling.{IsPlantState, IsSpelled, IsSoftware, all_of, spelling_of, state_read}
use Rattle.dp_exchange.specs.SameState.{is_same}
use Rattle.dp_exchange.specs.Offers.{is_confirmed, no_offers, offers_same}
use Rattle.dp_exchange.specs.OfferTexts.{is_repeated, no_texts}
use Rattle.dp_exchange.specs.Inside.{IsOfferText, Spells, offer_of, offers_of}
use Rattle.dp_exchange.proofs.Equality.{same-eq, same-refl}

pub both_ways : (a b : Bool) → (a ≡ true → b ≡ true) → (b ≡ true → a ≡ true) → a ≡ b
both_ways true b to from = sym (to refl)
both_ways false true to from = from refl
both_ways false false to from = refl

-- ---- no bytes are no offer
no_offer : (p : Plant) → offer_of p [] ≡ None
unfolding state_read all_of unsigned_at
no_offer p = refl

pub none_offered : (p : Plant) → offers_of p no_texts ≡ no_offers
none_offered p = rw (no_offer p) refl

pub no_texts-spell : (p : Plant) → AllByRecursion (IsOfferText p) no_texts
no_texts-spell p =
    let one : IsOfferText p [] = subst (Spells p []) (sym (no_offer p)) refl in
    (one, (one, (one, tt)))

-- ---- the bytes of an offer are equal just where the state is the same
nonempty : (p : Plant) (s : State) → bytes_eq [] (spelling_of p 2 s) ≡ false
unfolding spelling_of unsigned_text
nonempty p s = refl

pub text-same : (p : Plant) → SpellingsKeepApart p → (s : State) → IsPlantState p s → (bytes : List ℕ) → IsOfferText p bytes → bytes_eq bytes (spelling_of p 2 s) ≡ offers_same (offer_of p bytes) s
unfolding offers_same
text-same p law s is bytes h = by_offer (offer_of p bytes) h
  where
    by_offer : (o : Option State) → Spells p bytes o → bytes_eq bytes (spelling_of p 2 s) ≡ offers_same o s
    by_offer None none = ap (λ (b : List ℕ). bytes_eq b (spelling_of p 2 s)) none ∙ nonempty p s
    by_offer (Some t) spelled =
        both_ways (bytes_eq bytes (spelling_of p 2 s)) (is_same t s)
        (λ e.
        let texts : spelling_of p 2 t ≡ spelling_of p 2 s = sym spelled.1 ∙ (bytes_eq-Decides bytes (spelling_of p 2 s)).0 e in
        subst (λ (u : State). is_same t u ≡ true) (law 2 t s (inr refl) spelled.0 is texts) (same-refl t))
        (λ e. (bytes_eq-Decides bytes (spelling_of p 2 s)).1 (spelled.1 ∙ ap (spelling_of p 2) (same-eq t s e)))

pub repeated-confirmed : (p : Plant) → SpellingsKeepApart p → (s : State) → IsPlantState p s → (texts : List (List ℕ)) → length texts ≡ 3 → AllByRecursion (IsOfferText p) texts → (from : ℕ) → from < 3
    → is_repeated (slice_set texts from (spelling_of p 2 s)) from ≡ is_confirmed (offers_of p texts) from s
unfolding is_repeated is_confirmed
repeated-confirmed p law s is [] len all from low = absurd (omega (arith, len))
repeated-confirmed p law s is (a ∷ []) len all from low = absurd (omega (arith, len))
repeated-confirmed p law s is (a ∷ b ∷ []) len all from low = absurd (omega (arith, len))
repeated-confirmed p law s is (a ∷ b ∷ c ∷ d ∷ rest) len all from low = absurd (omega (arith, len))
repeated-confirmed p law s is (a ∷ b ∷ c ∷ []) len all zero low = rw (text-same p law s is b all.1.0, text-same p law s is c all.1.1.0) refl
repeated-confirmed p law s is (a ∷ b ∷ c ∷ []) len all (suc zero) low = rw (text-same p law s is a all.0, text-same p law s is c all.1.1.0) refl
repeated-confirmed p law s is (a ∷ b ∷ c ∷ []) len all (suc (suc zero)) low = rw (text-same p law s is a all.0, text-same p law s is b all.1.0) refl
repeated-confirmed p law s is (a ∷ b ∷ c ∷ []) len all (suc (suc (suc k))) low = absurd (omega (arith, low))

-- ---- an offer is kept
kept-read : (p : Plant) → WrittenIsRead p → (s : State) → IsPlantState p s → offer_of p (spelling_of p 2 s) ≡ Some s
kept-read p law s is = ap result_ok (law 2 2 s (inr refl) (omega arith) (omega arith) is)

pub kept-offers : (p : Plant) → WrittenIsRead p → (s : State) → IsPlantState p s → (texts : List (List ℕ)) (from : ℕ) → offers_of p (slice_set texts from (spelling_of p 2 s)) ≡ slice_set (offers_of p texts) from (Some s)
kept-offers p law s is texts from = map-set (offer_of p) texts from (spelling_of p 2 s) ∙ ap (slice_set (offers_of p texts) from) (kept-read p law s is)

all-set : (P : List ℕ → Type 0) (texts : List (List ℕ)) (from : ℕ) (text : List ℕ) → AllByRecursion P texts → P text → AllByRecursion P (slice_set texts from text)
all-set P [] from text all is = all
all-set P (t ∷ texts) zero text all is = (is, all.1)
all-set P (t ∷ texts) (suc k) text all is = (all.0, all-set P texts k text all.1 is)

pub kept-spell : (p : Plant) → WrittenIsRead p → (s : State) → IsPlantState p s → (texts : List (List ℕ)) (from : ℕ) → AllByRecursion (IsOfferText p) texts → AllByRecursion (IsOfferText p) (slice_set texts from (spelling_of p 2 s))
kept-spell p law s is texts from all =
    all-set (IsOfferText p) texts from (spelling_of p 2 s) all (subst (Spells p (spelling_of p 2 s)) (sym (kept-read p law s is)) (is, refl))

-- what is read of bytes
pub spelled-read : (p : Plant) → WrittenIsRead p → (software : ℕ) → IsSoftware software → (bytes : List ℕ) (s : State) → IsSpelled p software bytes s → state_read p software bytes ≡ Ok s
spelled-read p law software sw bytes s h = ap (state_read p software) h.text ∙ law software h.version s sw h.first h.known h.state
