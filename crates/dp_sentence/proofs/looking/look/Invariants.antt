use Rattle.std.proofs.Common.{◌≡◌, ◌≤◌, drop, take}
use Rattle.std.specs.Prelude.{bit_xor, count_by, fold}
use Rattle.std.specs.List.{list_any}
use Rattle.dp_sentence.specs.Damage.{is_bad}
use Rattle.dp_sentence.specs.Fields.{is_comma}
use Rattle.dp_sentence.proofs.looking.look.Given as goal

-- what the bytes so far give, and for the sum what is left
abbrev pub invariant-loop-byte : goal.invariant-loop-byte
invariant-loop-byte l = record {
  sum : fold bit_xor l.sum (drop l.byte-index l.text) ≡ fold bit_xor 0 l.text;
  bad : l.bad ≡ list_any is_bad (take l.byte-index l.text);
  commas : l.commas ≡ count_by is_comma (take l.byte-index l.text);
  few : l.commas ≤ l.byte-index;
}
