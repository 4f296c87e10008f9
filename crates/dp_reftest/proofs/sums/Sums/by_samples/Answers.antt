use Rattle.std.proofs.Common.{rules, ◌≡◌, of_z, to_z}
use mir.Syntax.{w128}
use Rattle.std.proofs.lemmas.Int.{to_z-of_z}
use Rattle.dp_reftest.proofs.Spreads.{variance_low}
use Rattle.dp_reftest.proofs.sums.Sums.by_samples.Goals as goal

pub weighed-requires-clause-low : goal.weighed-requires-clause-low
weighed-requires-clause-low c =
    let j : to_z w128 (of_z w128 c.variance.result) ≡ c.variance.result = to_z-of_z w128 c.variance.result (search rules) in
    rw (j, c.variance.ensures) (variance_low c.args.self.now c.requires.some c.requires.sums)
