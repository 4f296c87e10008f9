use Rattle.std.proofs.Common.{◌≤ℤ◌, ◌<ℤ◌, ◌-ℤ◌, unsigned_abs}
use Rattle.dp_guide.specs.Course.{stopping_way}
use Rattle.dp_guide.proofs.velocity.fastest.Given as goal

abbrev pub invariant-loop-low : goal.invariant-loop-low
invariant-loop-low l = record {
  from : l.lo ≤ℤ l.low;
  order : l.low <ℤ l.over;
  to : l.over ≤ℤ l.hi;
  stops : stopping_way l.low l.accel ≤ℤ l.d;
  past : l.d <ℤ stopping_way l.over l.accel;
}

abbrev pub decreases-loop-low : goal.decreases-loop-low
decreases-loop-low l = unsigned_abs (l.over -ℤ l.low)
