-- The tests of a reference from one cycle to the next.
use Rattle.std.proofs.Common.{◌≡◌, ◌<◌, ℕ, zero, suc, ◌+◌, ◌-◌, List, [], ◌∷◌, ◌++◌, length, drop, Option, Some, None, refl, sym, ap, subst, ◌∙◌, arith, pos}
use Rattle.std.specs.Prelude.{◌^◌, IfSome}
use Rattle.std.specs.Option.{unwrap_or}
use Rattle.circular_buffer.specs.Buffer.{Buffer, buffer, last_item}
use Rattle.dp_plant.specs.declared.place.Place.{Place}
use Rattle.dp_plant.specs.declared.references.RefLimits.{RefLimits}
use Rattle.dp_plant.specs.Ranges.{IsVectorWithin}
use Rattle.dp_plant.specs.SoundPlant.{AreRefLimits}
use Rattle.dp_reftest.proofs.Adding.{last_is_newest}
use Rattle.dp_reftest.proofs.Rings.{last_near, none_running}
use Rattle.dp_reftest.proofs.Windows.{kept_next}
use Rattle.dp_reftest.specs.declared.sums.Sums.{Sums}
use Rattle.dp_reftest.specs.Inside.{IsTest}
use Rattle.dp_reftest.specs.Running.{IsRunning}
use Rattle.dp_reftest.specs.Totals.{EndsIn}
use Rattle.dp_reftest.specs.Window.{AreNear, IsKept, kept_by, last_of}

abbrev no_sums : Sums
no_sums = record { n = 0; x = pos 0; y = pos 0; square = pos 0; jumps = 0; same = 0 }

pub origin_near : IsVectorWithin (2 ^ 43) (record { north = pos 0; east = pos 0 })
origin_near = record { north = omega arith; east = omega arith }

pub begun : (limits : RefLimits) (ring : Buffer Place) → AreRefLimits limits → ring ≡ buffer [] limits.window → IsTest (record { limits = limits; next = 0; last = 0; ring = ring; sums = record { n = 0; x = pos 0; y = pos 0; square = pos 0; jumps = 0; same = 0 }; newest = record { north = pos 0; east = pos 0 } })
begun limits ring within is = subst (λ (b : Buffer Place). IsTest (record { limits = limits; next = 0; last = 0; ring = b; sums = no_sums; newest = record { north = pos 0; east = pos 0 } })) (sym is) (record {
  limits = within;
  newest = tt;
  newest_near = origin_near;
  running = none_running limits.jump (buffer [] limits.window) limits.window refl within.window_high;
  capacity = refl;
  kept = record { few = omega arith; near = tt; dated = refl };
})

-- ---- the newest place, or the origin where there is none
pub newest_ends : (o : Option Place) (d p : Place) (xs : List Place) → p ≡ unwrap_or o d → o ≡ last_item xs → EndsIn p xs
newest_ends o d p [] e f = tt
newest_ends o d p (a ∷ xs) e f = sym (e ∙ ap (λ z. unwrap_or z d) (f ∙ last_is_newest a xs))

either-near : (o : Option Place) (d : Place) → IfSome o (IsVectorWithin (2 ^ 43)) → IsVectorWithin (2 ^ 43) d → IsVectorWithin (2 ^ 43) (unwrap_or o d)
either-near None d h k = k
either-near (Some p) d h k = h

pub newest_near : (o : Option Place) (d p : Place) (xs : List Place) → p ≡ unwrap_or o d → o ≡ last_item xs → AreNear xs → IsVectorWithin (2 ^ 43) d → IsVectorWithin (2 ^ 43) p
newest_near o d p xs e f near k = subst (IsVectorWithin (2 ^ 43)) (sym e) (either-near o d (subst (λ z. IfSome z (IsVectorWithin (2 ^ 43))) (sym f) (last_near xs near)) k)

-- what comes last in a list is its end, however many are taken off its front
ends-push : (p : Place) (xs : List Place) → EndsIn p (xs ++ p ∷ [])
ends-push p [] = refl
ends-push p (a ∷ []) = refl
ends-push p (a ∷ b ∷ xs) = ends-push p (b ∷ xs)

ends-rest : (p a : Place) (xs : List Place) → EndsIn p (a ∷ xs) → EndsIn p xs
ends-rest p a [] e = tt
ends-rest p a (b ∷ xs) e = e

ends-drop : (p : Place) (n : ℕ) (xs : List Place) → EndsIn p xs → EndsIn p (drop n xs)
ends-drop p zero xs e = e
ends-drop p (suc n) [] e = e
ends-drop p (suc n) (a ∷ xs) e = ends-drop p n xs (ends-rest p a xs e)

ends-kept : (p : Place) (w : ℕ) (xs : List Place) → EndsIn p (last_of w (xs ++ p ∷ []))
ends-kept p w xs = ends-drop p (length (xs ++ p ∷ []) - w) (xs ++ p ∷ []) (ends-push p xs)

-- ---- a cycle is taken
module _ (limits : RefLimits) (cycle last : ℕ) (ring : Buffer Place) (within : AreRefLimits limits) (capacity : ring.capacity ≡ limits.window) (kept : IsKept limits.window cycle (kept_by last ring.items)) where
  some-fit : 0 < limits.window
  some-fit = omega (arith, within.window_low)

  pub nothing_taken : (sums : Sums) (newest : Place) → IsRunning limits.jump ring sums → EndsIn newest ring.items → IsVectorWithin (2 ^ 43) newest → IsTest (record { limits = limits; next = cycle + 1; last = last; ring = ring; sums = sums; newest = newest })
  nothing_taken sums newest running ends near = record { limits = within; running = running; capacity = capacity; newest = ends; newest_near = near; kept = kept_next limits.window cycle (kept_by last ring.items) None some-fit kept tt }

  pub one_taken : (after : Buffer Place) (sums : Sums) (at : Place) → IsVectorWithin (2 ^ 43) at → after ≡ buffer (last_of ring.capacity (ring.items ++ at ∷ [])) ring.capacity → IsRunning limits.jump after sums →
      IsTest (record { limits = limits; next = cycle + 1; last = cycle; ring = after; sums = sums; newest = at })
  one_taken after sums at near is running =
      let items : last_of limits.window (ring.items ++ at ∷ []) ≡ after.items = ap (λ n. last_of n (ring.items ++ at ∷ [])) (sym capacity) ∙ sym (ap (λ (b : Buffer Place). b.items) is) in
      record {
        limits = within;
        running = running;
        capacity = ap (λ (b : Buffer Place). b.capacity) is ∙ capacity;
        newest = subst (EndsIn at) items (ends-kept at limits.window ring.items);
        newest_near = near;
        kept = subst (λ (xs : List Place). IsKept limits.window (cycle + 1) (kept_by cycle xs)) items (kept_next limits.window cycle (kept_by last ring.items) (Some at) some-fit kept near);
      }
