-- The timed acts of one cycle among timed acts in order.
use Rattle.std.proofs.Common.{◌≡◌, ℕ, ◌+◌, ◌-◌, ◌<◌, ◌≤◌, Bool, true, false, List, [], ◌∷◌, length, take, drop, filter, zero, suc, refl, arith, eqb, map, ltb, ltb-true, ltb-false}
use Rattle.std.specs.List.{AllWithin}
use Rattle.std.proofs.lemmas.Bool.Decides.{nat_tests}
use Rattle.dp_script.specs.declared.act.Act.TheVariants.{Run}
use Rattle.dp_script.specs.declared.timed_act.TimedAct.{TimedAct}
use Rattle.dp_script.specs.Acts.{usual_acts}
use Rattle.dp_script.specs.TimedActs.{or_usual, acts_at}

module _ {X : Type 0} where
  -- a test that passes from place a on, n times
  pub filter_run : (p : X → Bool) (xs : List X) (a n : ℕ) → a + n ≤ length xs → AllWithin (λ x. p x ≡ false) xs 0 a → AllWithin (λ x. p x ≡ true) xs a (a + n) → AllWithin (λ x. p x ≡ false) xs (a + n) (length xs)
      → filter p xs ≡ take n (drop a xs)
  filter_run p [] zero zero bound low mid high = refl
  filter_run p [] zero (suc n) bound low mid high = refl
  filter_run p [] (suc a) n bound low mid high = absurd (omega arith)
  filter_run p (x ∷ xs) (suc a) n bound low mid high =
      rw (low 0 x (omega arith) (omega arith)) (filter_run p xs a n (omega arith) (λ k d l h. low (suc k) d (omega arith) (omega arith)) (λ k d l h. mid (suc k) d (omega arith) (omega arith)) (λ k d l h. high (suc k) d (omega arith) (omega arith)))
  filter_run p (x ∷ xs) zero (suc n) bound low mid high =
      rw (mid 0 x (omega arith) (omega arith), filter_run p xs 0 n (omega arith) (λ k d l h. absurd (omega arith)) (λ k d l h. mid (suc k) d (omega arith) (omega arith)) (λ k d l h. high (suc k) d (omega arith) (omega arith))) refl
  filter_run p (x ∷ xs) zero zero bound low mid high =
      rw (high 0 x (omega arith) (omega arith)) (filter_run p xs 0 0 (omega arith) (λ k d l h. absurd (omega arith)) (λ k d l h. absurd (omega arith)) (λ k d l h. high (suc k) d (omega arith) (omega arith)))

-- no timed act is both before a cycle and after it
pub span_order : (timed_acts : List TimedAct) (cycle a b : ℕ) → a ≤ length timed_acts
    → AllWithin (λ timed_act. timed_act.cycle < cycle) timed_acts 0 a → AllWithin (λ timed_act. cycle < timed_act.cycle) timed_acts b (length timed_acts) → a ≤ b
span_order timed_acts cycle a b bound before after = by_test (ltb b a) refl
  where
    by_test : (v : Bool) → ltb b a ≡ v → a ≤ b
    by_test false le = ltb-false _ _ le
    by_test true lt =
        let timed_act : TimedAct = record { cycle = 0; act = Run 0 } in
        let past : b < a = ltb-true _ _ lt in
        let low = before b timed_act (omega arith) past in
        let high = after b timed_act (omega arith) (omega arith) in omega arith

-- the timed acts of a cycle stand between those before it and those after it
pub filter_cycle : (timed_acts : List TimedAct) (cycle a b : ℕ) → b ≤ length timed_acts
    → AllWithin (λ timed_act. timed_act.cycle < cycle) timed_acts 0 a → AllWithin (λ timed_act. cycle ≤ timed_act.cycle) timed_acts a (length timed_acts)
    → AllWithin (λ timed_act. timed_act.cycle ≤ cycle) timed_acts 0 b → AllWithin (λ timed_act. cycle < timed_act.cycle) timed_acts b (length timed_acts)
    → a ≤ b → filter (λ timed_act. eqb timed_act.cycle cycle) timed_acts ≡ take (b - a) (drop a timed_acts)
filter_cycle timed_acts cycle a b bound before rest upto after order =
    filter_run (λ timed_act. eqb timed_act.cycle cycle) timed_acts a (b - a) (omega arith)
    (λ k d l h. let below = before k d l h in grind (arith, nat_tests))
    (λ k d l h. let low = rest k d l (omega arith) in let high = upto k d (omega arith) (omega arith) in grind (arith, nat_tests))
    (λ k d l h. let above = after k d (omega arith) h in grind (arith, nat_tests))

-- the acts of a cycle, where it has timed acts and where it has none
pub acts_some : (timed_acts named : List TimedAct) (cycle : ℕ) → named ≡ filter (λ timed_act. eqb timed_act.cycle cycle) timed_acts → eqb (length named) 0 ≡ false → acts_at cycle timed_acts ≡ map (λ (timed_act : TimedAct). timed_act.act) named
acts_some timed_acts named cycle e some = rw (← e) (by_events named some)
  where
    by_events : (named : List TimedAct) → eqb (length named) 0 ≡ false → or_usual (map (λ (timed_act : TimedAct). timed_act.act) named) ≡ map (λ (timed_act : TimedAct). timed_act.act) named
    by_events [] some = absurd cc
    by_events (timed_act ∷ more) some = refl

is_none : (n : ℕ) → eqb (suc n) 0 ≡ true → ⊥
is_none n e = absurd (grind (arith, nat_tests))

pub acts_none : (timed_acts named : List TimedAct) (cycle : ℕ) → named ≡ filter (λ timed_act. eqb timed_act.cycle cycle) timed_acts → eqb (length named) 0 ≡ true → acts_at cycle timed_acts ≡ usual_acts
acts_none timed_acts named cycle e none = rw (← e) (by_events named none)
  where
    by_events : (named : List TimedAct) → eqb (length named) 0 ≡ true → or_usual (map (λ (timed_act : TimedAct). timed_act.act) named) ≡ usual_acts
    by_events [] none = refl
    by_events (timed_act ∷ more) none = absurd (is_none (length more) none)
