use Rattle.std.proofs.Common.{◌≡◌, ◌+◌, ◌*◌, ◌++◌, take}
use Rattle.std.specs.List.{flat_map}
use Rattle.arrayvec.specs.ArrayVec.{array_vec_len}
use Rattle.dp_codec.specs.Parts.{sample_parts}
use Rattle.dp_codec.proofs.writing.put_kept.Given as goal

abbrev pub invariant-loop-p : goal.invariant-loop-p
invariant-loop-p l = record {
  items : l.out.items ≡ l.initial.out.items ++ flat_map sample_parts.spell (take l.p-index l.list);
  len : array_vec_len l.out ≡ array_vec_len l.initial.out + 16 * l.p-index;
}
