use Rattle.std.proofs.Common.{◌≡◌, ◌≤◌, ◌<◌, ◌^◌, ◌+◌, ◌-◌, ℕ, Bool, List, ◌++◌, length, map, drop}
use Rattle.dp_fixed.specs.{bits_of}
use Rattle.dp_machine.specs.Alarms.{is_damaged}
use Rattle.dp_machine.proofs.alarms.damaged_before.Given as goal

abbrev pub decreases-loop-k : goal.decreases-loop-k
decreases-loop-k g l = l.k

abbrev pub invariant-loop-k : goal.invariant-loop-k
invariant-loop-k g l = record {
  few : l.k ≤ length l.slots;
  is : (bs : List Bool) → l.after ≡ bits_of bs → l.bits ≡ bits_of (map is_damaged (drop l.k l.slots) ++ bs);
  low : (n : ℕ) → l.after < 2 ^ n → l.bits < 2 ^ (n + (length l.slots - l.k));
}
