use Rattle.std.proofs.Common.{flat_map, string_bytes, [], drop, ◌++◌, ◌∷◌, ◌≡◌}
use Rattle.dp_test_rows.proofs.samples.text_of.Given as goal

abbrev pub invariant-loop-line : goal.invariant-loop-line
invariant-loop-line l = string_bytes l.text ++ flat_map (λ line. line.now ++ 10 ∷ []) (drop l.line-index l.lines) ≡ flat_map (λ line. line.now ++ 10 ∷ []) l.lines
