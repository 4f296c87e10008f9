use Rattle.std.proofs.Common.{◌==◌, length, sym, ◌∙◌}
use Rattle.dp_text.proofs.FirstLine.{next_found, next_last, next_none, or_left, or_right}
use Rattle.dp_text.proofs.lines.next_line.Goals as goal
use Rattle.dp_text.proofs.lines.next_line.Goals.{then-goes_on-via-then-goes_on, then-goes_on-via-else-goes_on+then-is_empty}

pub returns-clause-next : goal.returns-clause-next
returns-clause-next c = next_found c.args.goes_on c.args.text.now c.strip.result.now c.in-Some.at c.in-Some.ensures.value c.strip.ensures

pub returns-in_default-clause-next : goal.returns-in_default-clause-next
returns-in_default-clause-next c = next_last c.args.goes_on c.args.text.now c.in_default.ensures.value c.if-goes_on.false (sym c.if-is_empty.ensures)

pub returns-then-goes_on-clause-next : goal.returns-then-goes_on-clause-next
returns-then-goes_on-clause-next c =
    elim c.then-goes_on.branch [
      | then-goes_on-via-then-goes_on w ↦ next_none c.args.goes_on c.args.text.now c.in_default.ensures.value (or_left c.args.goes_on (length c.args.text.now == 0) w.if-goes_on.true)
      | then-goes_on-via-else-goes_on+then-is_empty w ↦ next_none c.args.goes_on c.args.text.now c.in_default.ensures.value (or_right c.args.goes_on (length c.args.text.now == 0) (sym w.is_empty.ensures ∙ w.if-is_empty.true))
    ]
