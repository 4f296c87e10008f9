use Rattle.std.proofs.Common.{◌∙◌, ◌++◌, sym, arith}
use Rattle.dp_squares.specs.Text.{span_rows, wave_span_rows, step_rows}
use Rattle.dp_squares.proofs.RowLines.{line-left, line-right}
use Rattle.dp_squares.proofs.lines.five_list_line.Goals as goal

pub returns-then-i-lt-STEPS : goal.returns-then-i-lt-STEPS
unfolding step_rows
returns-then-i-lt-STEPS c = c.step_line.ensures ∙ sym (line-left (step_rows c.args.l.now) (span_rows c.args.l.now ++ wave_span_rows c.args.l.now) c.args.i (omega arith))

pub returns-else-i-lt-STEPS : goal.returns-else-i-lt-STEPS
unfolding step_rows
returns-else-i-lt-STEPS c = c.five_span_line.ensures ∙ sym (line-right (step_rows c.args.l.now) (span_rows c.args.l.now ++ wave_span_rows c.args.l.now) c.args.i (omega arith))
