use Rattle.std.proofs.Common.{◌≡◌, ◌<◌, ◌+◌, ◌*◌, ◌++◌, ℕ, [], get_or, take}
use Rattle.std.specs.List.{flat_map}
use Rattle.arrayvec.specs.ArrayVec.{array_vec_len}
use Rattle.dp_codec.specs.Parts.{demand_parts}
use Rattle.dp_codec.specs.Spelling.{IsThree}
use Rattle.dp_codec.proofs.writing.put_demands.Given as goal

abbrev pub invariant-loop-demand : goal.invariant-loop-demand
invariant-loop-demand l = record {
  items : l.out.items ≡ l.initial.out.items ++ flat_map demand_parts.spell (take l.demand-index l.list);
  three : (k : ℕ) → k < l.demand-index → IsThree (get_or l.list k []);
  len : array_vec_len l.out ≡ array_vec_len l.initial.out + 24 * l.demand-index;
}
