use Rattle.std.proofs.Common.{◌≡◌, ◌<◌, ◌^◌, drop}
use Rattle.dp_text.specs.Numbers.{digits_after}
use Rattle.dp_text.proofs.numbers.decimal.Given as goal

-- the digits that are left, after the value so far
abbrev pub invariant-loop-byte : goal.invariant-loop-byte
invariant-loop-byte l = record {
  value : digits_after l.value (drop l.byte-index l.text) ≡ digits_after 0 l.text;
  bound : l.value < 10 ^ l.byte-index;
}
