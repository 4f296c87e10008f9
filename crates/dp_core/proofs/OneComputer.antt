-- A call changes one of the three computers: the world stays one, it represents one more event, and what the computer answers is known.
use Rattle.std.proofs.Common.{List, Some, ap, arith, get_or, refl, set, subst, sym, ℕ, ◌<◌, ◌∙◌, ◌∷◌, ◌≡◌}
use Rattle.std.specs.Prelude.{slice_get}
use Rattle.dp_exchange.specs.ComputerState.{ComputerState}
use Rattle.dp_core.specs.Represents.{Represents}
use Rattle.dp_core.specs.WorldState.{IsAllowed, WorldState, after, change_at}
use Rattle.dp_core.specs.WorldView.{IsInStep, IsWorld, world_of}
use Rattle.dp_core.specs.declared.event.Event.{Event}
use Rattle.dp_core.specs.declared.world.World.TheInside.{Inside}
use Rattle.dp_core.proofs.InStep.{one-keeps}
use Rattle.dp_core.proofs.Lists.{changed-read, read-at, read-is, set-length}
use Rattle.dp_core.proofs.Worlds.{went-on}

-- computer c was read as x, and y was written in its place
module _ (i : Inside) (c : ℕ) (x y : ComputerState) (change : ComputerState → ComputerState) (was : IsWorld i) (c3 : c < 3) (read : x ≡ get_or i.computers c x) (is : y ≡ change (get_or i.computers c x)) where
  pub one-world : ((z : ComputerState) → IsInStep i.cycles_begun z → IsInStep i.cycles_begun (change z)) → ((z : ComputerState) → (change z).plant ≡ z.plant) → IsWorld (record i { computers = set i.computers c y })
  one-world steps plants =
      let three = was.three in
      let at = read-at i.computers c x (omega arith) read in
      let new : y ≡ change x = is ∙ ap change (sym read) in
      record {
        three = set-length i.computers c y ∙ was.three;
        voters = was.voters;
        in_step = one-keeps (IsInStep i.cycles_begun) i.computers c x y was.in_step at (λ s. subst (IsInStep i.cycles_begun) (sym new) (steps x s));
        of_plant = one-keeps (λ (z : ComputerState). z.plant ≡ i.plant) i.computers c x y was.of_plant at (λ s. ap (λ (z : ComputerState). z.plant) new ∙ (plants x ∙ s));
        bounded = was.bounded;
      }

  -- the event makes just this change
  pub one-more : (es : List Event) (now : WorldState) (e : Event) → world_of i ≡ now → record (world_of i) { computers = change_at i.computers c change } ≡ after (world_of i) e
      → IsAllowed now e → Represents es now → Represents (e ∷ es) (record (world_of i) { computers = set i.computers c y })
  one-more es now e view step allowed r =
      let three = was.three in
      went-on es now _ e
      (ap (λ ws. record (world_of i) { computers = ws }) (changed-read i.computers i.computers _ c x y change refl (omega arith) read is refl) ∙ (step ∙ ap (λ w. after w e) view)) allowed r

-- what it answers is the answer of the computer that stands there
pub one-answered : (i : Inside) (now : WorldState) (c : ℕ) (x : ComputerState) {A : Type 0} (answer : ComputerState → A) (a : A) → IsWorld i → c < 3 → world_of i ≡ now
    → x ≡ get_or i.computers c x → a ≡ answer (get_or i.computers c x) → (z : ComputerState) → slice_get now.computers c ≡ Some z → a ≡ answer z
one-answered i now c x answer a was c3 view read told z s =
    let three = was.three in
    told ∙ ap answer (read-is i.computers now.computers c x z (ap (λ (w : WorldState). w.computers) view) (omega arith) read s)
