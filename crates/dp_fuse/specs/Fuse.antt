-- How up to three numbers that measure the same thing become one.
use Rattle.std.specs.Prelude.{List, [], ◌∷◌, filter_map, slice_index_or, Option, Some, None, ℤ, pos, ◌+ℤ◌, ◌*ℤ◌}
use Rattle.dp_fixed.specs.Division.{floor_of}
use Rattle.dp_fixed.specs.Order.{mid3_of}
use Rattle.dp_fuse.specs.declared.weighted.Weighted.{Weighted}

-- the weighted mean of two, rounded down
abbrev pub mean_of : Weighted → Weighted → ℤ
mean_of a b = floor_of (a.weight *ℤ a.value +ℤ b.weight *ℤ b.value) (a.weight +ℤ b.weight)

-- of three the middle (mid-value select), of two the weighted mean rounded down, of one itself
abbrev pub fuse : List Weighted → Option ℤ
fuse [] = None
fuse (a ∷ []) = Some a.value
fuse (a ∷ b ∷ []) = Some (mean_of a b)
fuse (a ∷ b ∷ c ∷ _) = Some (mid3_of a.value b.value c.value)

-- a number that counts as much as any other
abbrev pub alike : ℤ → Weighted
alike x = record { weight = pos 1; value = x }

-- those of the three readings that are there
abbrev pub present : {X : Type 0} → List (Option X) → List X
present os = filter_map (λ i. slice_index_or os i None) (0 ∷ 1 ∷ 2 ∷ [])
