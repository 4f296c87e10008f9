use Rattle.std.proofs.Common.{◌≡◌, take}
use Rattle.dp_sentence.specs.Checksum.{checksum}
use Rattle.dp_script.proofs.made_line.checksum.Given as goal

abbrev pub invariant-loop-byte : goal.invariant-loop-byte
invariant-loop-byte l = l.sum ≡ checksum (take l.byte-index l.bytes)
