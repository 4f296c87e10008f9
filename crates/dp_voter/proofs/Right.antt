-- Two orders of one force decide against the third.
use Rattle.std.proofs.Common.{◌≡◌, ◌⊎◌, inl, inr, Bool, true, false, cond, [], ◌∷◌, ℤ, Option, Some, None, refl, sym, ◌∙◌, ap, arith}
use Rattle.std.proofs.lemmas.Int.{ints, clamps}
use Rattle.std.specs.Ordering.{int_eq}
use Rattle.dp_fixed.specs.Order.{mid3_of}
use Rattle.dp_voter.specs.Ballots.{agreed_of, held_forces}
use Rattle.dp_voter.specs.Laws.{IsIfTaken, OfTwo}

middle_of_two : (g a b c : ℤ) → ((a ≡ g) × (b ≡ g)) ⊎ ((a ≡ g) × (c ≡ g)) ⊎ ((b ≡ g) × (c ≡ g)) → mid3_of a b c ≡ g
middle_of_two g a b c (inl e) = (let x = e.0 in let y = e.1 in omega (arith, ints, clamps))
middle_of_two g a b c (inr (inl e)) = (let x = e.0 in let y = e.1 in omega (arith, ints, clamps))
middle_of_two g a b c (inr (inr e)) = (let x = e.0 in let y = e.1 in omega (arith, ints, clamps))

equal_are : (a b : ℤ) → int_eq a b ≡ true → a ≡ b
equal_are a b e = grind (arith, ints)

are_equal : (a b : ℤ) → a ≡ b → int_eq a b ≡ true
are_equal a b e = grind (arith, ints)

both_are : (a b f : ℤ) (equal : Bool) → int_eq a b ≡ equal → cond equal (Some a) None ≡ Some f → (f ≡ a) × (f ≡ b)
both_are a b f true e s = (let same : a ≡ f = cc in (sym same, sym same ∙ equal_are a b e))
both_are a b f false e s = cc

-- two forces of which one is right
of_two : (g a b f : ℤ) → (a ≡ g) ⊎ (b ≡ g) → agreed_of (a ∷ b ∷ []) ≡ Some f → f ≡ g
of_two g a b f (inl e) s = (both_are a b f (int_eq a b) refl s).0 ∙ e
of_two g a b f (inr e) s = (both_are a b f (int_eq a b) refl s).1 ∙ e

pub fresh_right : (g f : ℤ) (x y z : Option ℤ) → OfTwo (IsIfTaken g) x y z → agreed_of (held_forces (x ∷ y ∷ z ∷ [])) ≡ Some f → f ≡ g
fresh_right g f (Some a) (Some b) (Some c) two s = (let same : mid3_of a b c ≡ f = cc in sym same ∙ middle_of_two g a b c two)
fresh_right g f (Some a) (Some b) None (inl e) s = of_two g a b f (inl e.0) s
fresh_right g f (Some a) (Some b) None (inr (inl e)) s = of_two g a b f (inl e.0) s
fresh_right g f (Some a) (Some b) None (inr (inr e)) s = of_two g a b f (inr e.0) s
fresh_right g f (Some a) None (Some b) (inl e) s = of_two g a b f (inl e.0) s
fresh_right g f (Some a) None (Some b) (inr (inl e)) s = of_two g a b f (inl e.0) s
fresh_right g f (Some a) None (Some b) (inr (inr e)) s = of_two g a b f (inr e.1) s
fresh_right g f None (Some a) (Some b) (inl e) s = of_two g a b f (inl e.1) s
fresh_right g f None (Some a) (Some b) (inr (inl e)) s = of_two g a b f (inr e.1) s
fresh_right g f None (Some a) (Some b) (inr (inr e)) s = of_two g a b f (inl e.0) s
fresh_right g f (Some a) None None two s = cc
fresh_right g f None (Some a) None two s = cc
fresh_right g f None None (Some a) two s = cc
fresh_right g f None None None two s = cc

-- a force twice, and what else may be held
same_twice : (g : ℤ) → agreed_of (g ∷ g ∷ []) ≡ Some g
same_twice g = rw (are_equal g g refl)

third_last : (g : ℤ) (z : Option ℤ) → agreed_of (held_forces (Some g ∷ Some g ∷ z ∷ [])) ≡ Some g
third_last g None = same_twice g
third_last g (Some c) = ap Some (middle_of_two g g g c (inl (refl, refl)))

third_between : (g : ℤ) (y : Option ℤ) → agreed_of (held_forces (Some g ∷ y ∷ Some g ∷ [])) ≡ Some g
third_between g None = same_twice g
third_between g (Some b) = ap Some (middle_of_two g g b g (inr (inl (refl, refl))))

third_first : (g : ℤ) (x : Option ℤ) → agreed_of (held_forces (x ∷ Some g ∷ Some g ∷ [])) ≡ Some g
third_first g None = same_twice g
third_first g (Some a) = ap Some (middle_of_two g a g g (inr (inr (refl, refl))))

pub two_right : (g : ℤ) (x y z : Option ℤ) → OfTwo (λ order. order ≡ Some g) x y z → agreed_of (held_forces (x ∷ y ∷ z ∷ [])) ≡ Some g
two_right g x y z (inl e) = rw (e.0, e.1) (third_last g z)
two_right g x y z (inr (inl e)) = rw (e.0, e.1) (third_between g y)
two_right g x y z (inr (inr e)) = rw (e.0, e.1) (third_first g x)
