use Rattle.std.proofs.Common.{◌≡◌, ◌<◌, ◌^◌, drop}
use Rattle.dp_text.specs.Numbers.{digits_after}
use Rattle.dp_nav.proofs.decimals.wide.Given as goal

-- the digits that are left, after the number so far
abbrev pub invariant-loop-byte : goal.invariant-loop-byte
invariant-loop-byte l = record {
  value : digits_after l.number (drop l.byte-index l.digits) ≡ digits_after 0 l.digits;
  bound : l.number < 10 ^ l.byte-index;
}
