use Rattle.std.proofs.Common.{◌≡◌, ◌+◌, w64, of_z, to_z, ap, ◌∙◌}
use Rattle.std.specs.Prelude.{Some}
use Rattle.std.proofs.lemmas.Int.{to_z-of_z}
use Rattle.dp_reftest.specs.Running.{pair}
use Rattle.dp_reftest.specs.Verdict.{is_jump}
use Rattle.dp_reftest.proofs.sums.Sums.add.Goals as goal

pub returns-clause-jumps : goal.returns-clause-jumps
returns-clause-jumps c =
    let j : to_z w64 (of_z w64 c.args.limit) ≡ c.args.limit = to_z-of_z w64 c.args.limit c.ranges.limit in
    ap (λ k. c.args.self.now.jumps + k) c.jumps_in.ensures.value ∙ ap (λ z. c.args.self.now.jumps + pair (is_jump z) c.args.before (Some c.args.p)) j
