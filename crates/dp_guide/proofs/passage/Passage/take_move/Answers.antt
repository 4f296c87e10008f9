use Rattle.std.proofs.Common.{◌≡◌, ◌+◌, drop, subst, sym, ◌∙◌, arith}
use Rattle.dp_guide.specs.Passage.{PassageState, move_taken}
use Rattle.dp_guide.proofs.Taking.{not_due, went}
use Rattle.dp_guide.proofs.passage.Passage.take_move.Goals as goal

pub returns-then-cycle-self : goal.returns-then-cycle-self
returns-then-cycle-self c =
    subst (λ (p : PassageState). p ≡ move_taken p) c.self.view_is
    (not_due c.self.inside.guide c.self.inside.moves c.self.inside.taken c.self.inside.cycle (record { cycle = c.get-cycle.result.0; to = c.get-cycle.result.1 }) c.get-cycle.ensures.value (omega (arith, c.if-cycle-self.true)))

pub returns-then-go : goal.returns-then-go
returns-then-go c =
    subst (λ (p : PassageState). record { motion = c.go.new.self; waiting = drop (c.self.inside.taken + 1) c.self.inside.moves; cycle = c.self.inside.cycle } ≡ move_taken p) c.self.view_is
    (went c.self.inside.guide c.go.new.self c.self.inside.moves c.self.inside.taken c.self.inside.cycle (record { cycle = c.get-cycle.result.0; to = c.get-cycle.result.1 }) c.get-cycle.ensures.value (sym c.go.ensures.taken ∙ c.if-go.true) c.go.ensures.gone (omega (arith, c.if-cycle-self.false)))
