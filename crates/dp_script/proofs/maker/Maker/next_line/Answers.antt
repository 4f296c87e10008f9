use Rattle.std.proofs.Common.{sym, ap, ◌∙◌, arith}
use Rattle.dp_script.specs.Left.{lines_left}
use Rattle.dp_script.proofs.MadeLines.{line_given, none_left}
use Rattle.dp_script.proofs.maker.Maker.next_line.Goals as goal

pub returns-then-self-eq-LINES-clause-next : goal.returns-then-self-eq-LINES-clause-next
returns-then-self-eq-LINES-clause-next c =
    sym c.self.view_is ∙ ap (λ k. lines_left k c.self.inside.generator.state) c.if-self-eq-LINES.true
    ∙ none_left c.self.inside.generator.state

pub returns-clause-next : goal.returns-clause-next
returns-clause-next c =
    line_given c.self.inside.given c.self.inside.generator.state _ _ _ (omega arith) c.self.view_is c.write_line.ensures.line c.write_line.ensures.state
