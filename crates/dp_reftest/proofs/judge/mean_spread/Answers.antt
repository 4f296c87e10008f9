use Rattle.std.proofs.Common.{rules, ◌≡◌, ◌/◌, ℕ, ℤ, pos, ap, ◌∙◌, subst, of_z, to_z}
use mir.Syntax.{w128}
use Rattle.std.proofs.lemmas.Int.{to_z-of_z}
use Rattle.dp_fixed.specs.Division.{IsFloor}
use Rattle.dp_reftest.proofs.Shares.{mean_of_shortened}
use Rattle.dp_reftest.proofs.judge.mean_spread.Goals as goal

pub returns-then-spread-lt-SHORT_SPREAD : goal.returns-then-spread-lt-SHORT_SPREAD
returns-then-spread-lt-SHORT_SPREAD c =
    let j : to_z w128 (of_z w128 c.args.spread) ≡ c.args.spread = to_z-of_z w128 c.args.spread c.ranges.spread in
    let floor = subst (λ (z : ℤ). IsFloor z (pos 4096) (pos c.shortened.result)) j c.shortened.ensures in
    let r : to_z w128 (of_z w128 c.parted.result) ≡ c.parted.result = to_z-of_z w128 c.parted.result (search rules) in
    r ∙ c.parted.ensures ∙ ap (λ (k : ℕ). pos (c.shortened.result / k)) c.short_cells.ensures.value
    ∙ mean_of_shortened c.args.spread c.shortened.result c.args.n c.requires.some floor
