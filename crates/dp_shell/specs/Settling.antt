-- What a call of the system outside comes to.
use Rattle.std.specs.Prelude.{ℕ, Bool, Option, Some, None, Result, Ok, Err, if◌then◌else◌, nat_lt, ◌||◌, not}

-- the count that the call gave; none where it failed, or gave nothing where some was due
abbrev pub settled : {E : Type 0} → Result ℕ E → Bool → Option ℕ
settled (Ok count) is_due = if nat_lt 0 count || not is_due then Some count else None
settled (Err error) is_due = None
