use Rattle.std.proofs.Common.{◌≡◌, ◌-◌}
use Rattle.arrayvec.specs.ArrayVec.{array_vec_len}
use Rattle.dp_codec.specs.Format.{times_at}
use Rattle.dp_codec.specs.Parts.{sample_parts}
use Rattle.dp_codec.proofs.Loop.{with_front}
use Rattle.dp_codec.proofs.reading.list_of.Given as goal

abbrev pub invariant-loop : goal.invariant-loop
invariant-loop l = record {
  so_far : with_front l.list.items (times_at sample_parts.read (l.n - l.counter) l.rest) ≡ times_at sample_parts.read l.n l.bytes;
  many : array_vec_len l.list ≡ l.counter;
}
