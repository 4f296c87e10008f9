-- Fields by their numbers, and checks in order: the first that fails names the reason.
use Rattle.std.specs.Prelude.{ℕ, ◌-◌, Bool, true, false, List, slice_get, Option, Some, None, Result, Ok, Err}
use Rattle.dp_nav.specs.declared.reading.Skip.{Skip}
use Rattle.dp_nav.specs.declared.reading.Skip.TheVariants.{BadField, NotValid}

infixl 10 ◌>>=◌
abbrev pub ◌>>=◌ : {A B : Type 0} → Result A Skip → (A → Result B Skip) → Result B Skip
(Ok x) >>= f = f x
(Err skip) >>= f = Err skip

-- the value, or that field k is bad where there is none
abbrev pub or_bad : {A : Type 0} → ℕ → Option A → Result A Skip
or_bad k (Some x) = Ok x
or_bad k None = Err (BadField k)

-- field k, counted from 1
abbrev pub field : ℕ → List (List ℕ) → Result (List ℕ) Skip
field k fields = or_bad k (slice_get fields (k - 1))

-- data that the sender calls valid, or not
abbrev pub valid_of : Bool → Result (Unit {0}) Skip
valid_of true = Ok tt
valid_of false = Err NotValid
