-- The names of the wires: pos0 to pos2, gyro0 to gyro2, wind0 to wind2, and grp0 on for the plant's
-- groups.
use Rattle.std.specs.Prelude.{ℕ, ◌+◌, ◌-◌, ◌<◌, ◌&&◌, ◌==◌, nat_eq, nat_le, nat_lt, List, length, slice_index, if◌then◌else◌, Option, Some, None, codes}
use Rattle.std.specs.List.{starts_with}
use Rattle.std.specs.Option.{option_map, option_or}
use Rattle.dp_plant.specs.declared.frames.Wire.{Wire}
use Rattle.dp_plant.specs.declared.frames.Wire.TheVariants.{Pos, Gyro, Wind, Group}

-- the number of a name that is a stem and one digit, where it is below the limit
unfoldable pub numbered : List ℕ → ℕ → List ℕ → Option ℕ
numbered stem limit name =
    if length name == length stem + 1 && (starts_with nat_eq name stem
    && (nat_le 48 (slice_index name (length stem))
    && nat_lt (slice_index name (length stem)) (48 + limit)))
    then Some (slice_index name (length stem) - 48) else None

-- the wire of a name, on a plant with so many groups
unfoldable pub wire_of : ℕ → List ℕ → Option Wire
wire_of groups name =
    option_or (option_map Pos (numbered (codes "pos") 3 name))
    (option_or (option_map Gyro (numbered (codes "gyro") 3 name))
    (option_or (option_map Wind (numbered (codes "wind") 3 name))
    (option_map Group (numbered (codes "grp") groups name))))

-- a wire of a plant with so many groups
abbrev pub IsWire : ℕ → Wire → Type 0
IsWire groups (Pos i) = i < 3
IsWire groups (Gyro i) = i < 3
IsWire groups (Wind i) = i < 3
IsWire groups (Group i) = i < groups
