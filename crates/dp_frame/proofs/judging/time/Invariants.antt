use Rattle.std.proofs.Common.{◌≡◌, ◌-◌, ◌^◌, ◌<◌, ◌≤◌, ℕ, Some, get_or, length, take, true}
use Rattle.std.specs.Char.{is_ascii_digit}
use Rattle.dp_text.specs.Numbers.{digits_after}
use Rattle.dp_frame.proofs.judging.time.Given as goal

-- the bytes so far are digits, and make this number
abbrev pub invariant-loop-count : goal.invariant-loop-count
invariant-loop-count l = record {
  within : l.count ≤ length l.line;
  digits : (k : ℕ) → k < l.count → is_ascii_digit (get_or l.line k 0) ≡ true;
  value : digits_after 0 (take l.count l.line) ≡ Some l.value;
  bound : l.value < 10 ^ l.count;
}

abbrev pub decreases-loop-count : goal.decreases-loop-count
decreases-loop-count l = length l.line - l.count
