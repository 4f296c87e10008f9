-- The first six fields of a sentence say as much as all.
use Rattle.std.proofs.Common.{◌≡◌, ℕ, ◌⊎◌, inl, inr, List, [], ◌∷◌, take, refl, ap}
use Rattle.dp_nav.specs.declared.reading.WireKind.{WireKind}
use Rattle.dp_nav.specs.declared.reading.WireKind.TheVariants.{Position, Gyro, Wind, Group}
use Rattle.dp_nav.specs.Gga.{coordinate_of, fix_of}
use Rattle.dp_nav.specs.Hdt.{hdt_of}
use Rattle.dp_nav.specs.Mwv.{mwv_of, speed_of}
use Rattle.dp_nav.specs.Sensed.{sensed_of}
use Rattle.dp_nav.specs.Ths.{ths_of}
use Rattle.dp_nav.specs.Turns.{turn_in}

-- a list of six, or more, elements
record Six (fields : List (List ℕ)) : Type 0 where
  pub a : List ℕ
  pub b : List ℕ
  pub c : List ℕ
  pub d : List ℕ
  pub e : List ℕ
  pub f : List ℕ
  pub more : List (List ℕ)
  pub is : fields ≡ a ∷ b ∷ c ∷ d ∷ e ∷ f ∷ more

first-six : (fields : List (List ℕ)) → (take 6 fields ≡ fields) ⊎ Six fields
first-six [] = inl refl
first-six (a ∷ []) = inl refl
first-six (a ∷ b ∷ []) = inl refl
first-six (a ∷ b ∷ c ∷ []) = inl refl
first-six (a ∷ b ∷ c ∷ d ∷ []) = inl refl
first-six (a ∷ b ∷ c ∷ d ∷ e ∷ []) = inl refl
first-six (a ∷ b ∷ c ∷ d ∷ e ∷ f ∷ more) = inr (record { a = a; b = b; c = c; d = d; e = e; f = f; more = more; is = refl })

sensed-six : (kind : WireKind) (formatter a b c d e f : List ℕ) (more : List (List ℕ))
    → sensed_of kind formatter (a ∷ b ∷ c ∷ d ∷ e ∷ f ∷ []) ≡ sensed_of kind formatter (a ∷ b ∷ c ∷ d ∷ e ∷ f ∷ more)
unfolding sensed_of fix_of coordinate_of hdt_of ths_of turn_in mwv_of speed_of
sensed-six Position formatter a b c d e f more = refl
sensed-six Gyro formatter a b c d e f more = refl
sensed-six Wind formatter a b c d e f more = refl
sensed-six Group formatter a b c d e f more = refl

pub sensed-first : (kind : WireKind) (formatter : List ℕ) (fields : List (List ℕ)) → sensed_of kind formatter (take 6 fields) ≡ sensed_of kind formatter fields
sensed-first kind formatter fields =
    elim (first-six fields) [
      | inl is ↦ ap (sensed_of kind formatter) is
      | inr s ↦ rw s.is (sensed-six kind formatter s.a s.b s.c s.d s.e s.f s.more)
    ]
