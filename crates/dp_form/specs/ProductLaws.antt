-- The laws of whole numbers that this crate proves beyond what std has.
use Rattle.std.specs.Prelude.{◌≡◌, ℤ, pos, ◌+ℤ◌, ◌*ℤ◌, ◌≤ℤ◌, ◌<ℤ◌}

-- a product of three may be bracketed either way
abbrev pub ProductsAssociate : Type 0
ProductsAssociate = (a b c : ℤ) → (a *ℤ b) *ℤ c ≡ a *ℤ (b *ℤ c)

-- a sum's product is the sum of the products
abbrev pub ProductsDistribute : Type 0
ProductsDistribute = (a b c : ℤ) → a *ℤ (b +ℤ c) ≡ a *ℤ b +ℤ a *ℤ c

-- a square is at least 0
abbrev pub SquaresAreNonNegative : Type 0
SquaresAreNonNegative = (a : ℤ) → pos 0 ≤ℤ (a *ℤ a)

-- a factor from 0 up keeps an order
abbrev pub FactorsKeepOrder : Type 0
FactorsKeepOrder = (c a b : ℤ) → pos 0 ≤ℤ c → a ≤ℤ b → (c *ℤ a) ≤ℤ (c *ℤ b)

-- a factor above 0 may be dropped from both sides of an order
abbrev pub FactorsCancel : Type 0
FactorsCancel = (c a b : ℤ) → pos 0 <ℤ c → (c *ℤ a) ≤ℤ (c *ℤ b) → a ≤ℤ b
