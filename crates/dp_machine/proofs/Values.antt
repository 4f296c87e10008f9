-- What a machine's calls make of its value.
use Rattle.std.proofs.Common.{◌≡◌, ℕ, List, [], ◌∷◌, length, All, refl, sym, ◌∙◌, ap, subst, arith, ℤ}
use Rattle.std.proofs.lemmas.List.Elements.{All-nil}
use Rattle.circular_buffer.specs.Buffer.{Buffer, buffer}
use Rattle.dp_plant.specs.declared.place.Place.{Place}
use Rattle.dp_plant.specs.declared.plane.PlaneState.{PlaneState}
use Rattle.dp_plant.specs.declared.plant.Plant.{Plant}
use Rattle.dp_plant.specs.Observer.{rest_at}
use Rattle.dp_reftest.specs.declared.kept.Kept.{Kept}
use Rattle.dp_reftest.specs.Tested.{Tested, untested}
use Rattle.dp_machine.specs.declared.estimates.Estimates.{Estimates}
use Rattle.dp_machine.specs.declared.references.References.{References}
use Rattle.dp_machine.specs.declared.state.State.{State}
use Rattle.dp_machine.specs.Machine.{MachineValue, first_machine, with_rest, with_state}
use Rattle.dp_machine.specs.Parts.{AreDemands, AreReferences, estimates_of, state_by}
use Rattle.dp_alloc.specs.Ranges.{IsDemandWithin}
use Rattle.dp_machine.specs.Step.{first_state, limits_in, rest_in}

-- a value of these parts
value : Plant → Estimates → List Kept → List (List ℤ) → ℕ → MachineValue
value p now samples demands steps = record {
  plant = p;
  state = record {
    count = now.count;
    plane = now.plane;
    yaw = now.yaw;
    heading = now.heading;
    wind = now.wind;
    lost = now.lost;
    samples = samples;
    demands = record { items = demands };
  };
  steps = steps;
}

value_same : (p q : Plant) (a b : Estimates) (ks ls : List Kept) (ds es : List (List ℤ)) (n : ℕ) → p ≡ q → a ≡ b → ks ≡ ls → ds ≡ es
    → value p a ks ds n ≡ value q b ls es n
value_same p q a b ks ls ds es n h i j k = cc

kept_same : (a b c d e f : Kept) → a ≡ d → b ≡ e → c ≡ f → (a ∷ b ∷ c ∷ []) ≡ (d ∷ e ∷ f ∷ [])
kept_same a b c d e f x y z = cc

pub skew_is : (m : MachineValue) (p : Plant) (now : Estimates) (refs : References) (ds : List (List ℤ)) (steps : ℕ) (plane : PlaneState) (at : Place)
    → record { plant = p; state = state_by now refs ds; steps = steps } ≡ m → plane ≡ rest_at at
    → record { plant = p; state = state_by (record now { plane = plane }) refs ds; steps = steps } ≡ with_rest m at
unfolding rest_in value
skew_is m p now refs ds steps plane at e h =
    ap (λ (x : PlaneState). value p (record now { plane = x }) (refs.first.kept ∷ refs.second.kept ∷ refs.third.kept ∷ []) ds steps) h
    ∙ ap (λ (v : MachineValue). with_rest v at) e

pub set_is : (m : MachineValue) (p : Plant) (now new : Estimates) (refs after : References) (ds es : List (List ℤ)) (steps : ℕ) (s : State)
    → record { plant = p; state = state_by now refs ds; steps = steps } ≡ m → new ≡ estimates_of s
    → (after.first.kept ∷ after.second.kept ∷ after.third.kept ∷ []) ≡ s.samples → es ≡ s.demands.items
    → record { plant = p; state = state_by new after es; steps = steps } ≡ with_state m s
unfolding value
set_is m p now new refs after ds es steps s e h k d =
    value_same p p new (estimates_of s) _ s.samples es s.demands.items steps refl h k d
    ∙ ap (λ (v : MachineValue). with_state v s) e

-- ---- a new machine
first_count : (p : Plant) → (estimates_of (first_state p)).count ≡ 0
unfolding first_state
first_count p = refl

pub count_new : (p : Plant) (now : Estimates) → now ≡ estimates_of (first_state p) → now.count ≡ 0
count_new p now e = ap (λ (x : Estimates). x.count) e ∙ first_count p

pub references_new : (p : Plant) (n : ℕ) (refs : References) → n ≡ 0 → refs.first ≡ untested (limits_in p.refs 0) → refs.second ≡ untested (limits_in p.refs 1)
    → refs.third ≡ untested (limits_in p.refs 2) → AreReferences p n refs
references_new p n refs z a b c = record {
  first_limits = ap (λ (t : Tested). t.limits) a;
  second_limits = ap (λ (t : Tested). t.limits) b;
  third_limits = ap (λ (t : Tested). t.limits) c;
  first_next = ap (λ (t : Tested). t.next) a ∙ sym z;
  second_next = ap (λ (t : Tested). t.next) b ∙ sym z;
  third_next = ap (λ (t : Tested). t.next) c ∙ sym z;
}

pub demands_new : (n : ℕ) (ring : Buffer (List ℤ)) → n ≡ 0 → ring ≡ buffer [] 60 → AreDemands n ring
demands_new n ring z e = record {
  capacity = ap (λ (b : Buffer (List ℤ)). b.capacity) e;
  few = (let none : length ring.items ≡ 0 = ap (λ (b : Buffer (List ℤ)). length b.items) e in omega (arith, none, z));
  within = subst (λ (b : Buffer (List ℤ)). All IsDemandWithin b.items) (sym e) (All-nil IsDemandWithin);
}

pub new_is : (p q : Plant) (now : Estimates) (refs : References) (ds : List (List ℤ)) → q ≡ p → now ≡ estimates_of (first_state p)
    → refs.first ≡ untested (limits_in p.refs 0) → refs.second ≡ untested (limits_in p.refs 1) → refs.third ≡ untested (limits_in p.refs 2) → ds ≡ []
    → record { plant = q; state = state_by now refs ds; steps = 0 } ≡ first_machine p
unfolding first_state value
new_is p q now refs ds h e a b c d =
    value_same q p now (estimates_of (first_state p)) _ _ ds [] 0 h e
    (kept_same _ _ _ _ _ _ (ap (λ (t : Tested). t.kept) a) (ap (λ (t : Tested). t.kept) b) (ap (λ (t : Tested). t.kept) c)) d
