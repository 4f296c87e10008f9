-- The lines of a cycle's alarms.
use Rattle.std.specs.Prelude.{ℕ, ◌+◌, Bool, false, if◌then◌else◌, List, [], ◌++◌, slice_index_or, Option, Some, None, codes}
use Rattle.std.specs.List.{flat_map, range_with_len}
use Rattle.std.specs.Fmt.{decimal}
use Rattle.dp_fixed.specs.{is_set}
use Rattle.dp_plant.specs.declared.alarms.Alarms.{Alarms}
use Rattle.dp_plant.specs.declared.alarms.Cause.{Cause}
use Rattle.dp_plant.specs.declared.alarms.Cause.TheVariants.{Good, Silent, Stale, Frozen, Jumped, Noisy}

-- the line of an alarm, if it is raised
unfoldable pub alarm_line : Bool → List ℕ → List ℕ
alarm_line raised words = if raised then codes "alarm " ++ (words ++ codes "\n") else []

-- the line of reference i and the word for what is wrong with it
unfoldable pub reference_line : ℕ → List ℕ → List ℕ
reference_line i word = codes "alarm ref " ++ (decimal i ++ (codes " " ++ (word ++ codes "\n")))

-- the line of reference i, if it isn't good
unfoldable pub cause_line : ℕ → Cause → List ℕ
cause_line i Good = []
cause_line i Silent = reference_line i (codes "silent")
cause_line i Stale = reference_line i (codes "stale")
cause_line i Frozen = reference_line i (codes "frozen")
cause_line i Jumped = reference_line i (codes "jumped")
cause_line i Noisy = reference_line i (codes "noisy")

-- what an array says of one place
abbrev pub cause_at : List Cause → ℕ → Cause
cause_at causes i = slice_index_or causes i Good

abbrev pub flag_at : List Bool → ℕ → Bool
flag_at flags i = slice_index_or flags i false

-- the lines of the position references
unfoldable pub reference_lines : List Cause → List ℕ
reference_lines causes =
    cause_line 0 (cause_at causes 0) ++ (cause_line 1 (cause_at causes 1)
    ++ cause_line 2 (cause_at causes 2))

-- the line of one of several things of a kind, whose number stands after the words
unfoldable pub numbered_line : Bool → List ℕ → ℕ → List ℕ
numbered_line raised words k = alarm_line raised (words ++ decimal k)

-- the lines of so many things of a kind, of which bit `first` of a mask is the first
unfoldable pub numbered_lines : List ℕ → ℕ → ℕ → ℕ → List ℕ
numbered_lines words mask first count =
    flat_map (λ k. numbered_line (is_set mask (first + k)) words k) (range_with_len 0 count)

-- the lines of the wires with damage, in the order of the wires
unfoldable pub damage_lines : ℕ → List ℕ
damage_lines mask =
    numbered_lines (codes "damage pos") mask 0 3 ++ (numbered_lines (codes "damage gyro") mask 3 3
    ++ (numbered_lines (codes "damage wind") mask 6 3
    ++ numbered_lines (codes "damage grp") mask 9 8))

-- the lines of the axes whose demand was limited
unfoldable pub limit_lines : List Bool → List ℕ
limit_lines limited =
    alarm_line (flag_at limited 0) (codes "limit surge")
    ++ (alarm_line (flag_at limited 1) (codes "limit sway")
    ++ alarm_line (flag_at limited 2) (codes "limit yaw"))

-- what can't be measured in a cycle
unfoldable pub sensor_lines : Alarms → List ℕ
sensor_lines a =
    alarm_line a.blind (codes "blind") ++ (alarm_line a.gyro (codes "gyro")
    ++ alarm_line a.wind (codes "wind"))

-- the lines of the groups whose loss would not be survived
unfoldable pub consequence_lines : ℕ → List ℕ
consequence_lines mask = numbered_lines (codes "consequence ") mask 0 8

-- what the thrusters can't give
unfoldable pub demand_lines : Alarms → List ℕ
demand_lines a =
    limit_lines a.limited ++ (alarm_line a.nocase (codes "nocase") ++ consequence_lines a.lost)

-- the lines of alarms, in their order
unfoldable pub alarm_lines : Alarms → List ℕ
alarm_lines a =
    reference_lines a.refs ++ (damage_lines a.damaged ++ (sensor_lines a ++ demand_lines a))

-- the alarms of a cycle, or that they aren't known
unfoldable pub alarm_text : Option Alarms → List ℕ
alarm_text None = codes "alarm unknown\n"
alarm_text (Some a) = alarm_lines a
