use Rattle.std.proofs.Common.{refl, arith}
use Rattle.dp_frame.proofs.TextSteps.{ended-none, unfinished-none}
use Rattle.dp_frame.proofs.ProgressSteps.{represents-first}
use Rattle.dp_frame.proofs.Entering.{bounded-empty}
use Rattle.dp_frame.proofs.lines.Lines.new.Goals as goal

pub returns-clause-represents : goal.returns-clause-represents
returns-clause-represents c = record {
  bytes = refl;
  lines = rw ended-none (represents-first _ c.empty_frame-kept.result c.empty_frame-kept.result c.empty_frame-kept.ensures.value);
  prefix = λ _. record { prefix = rw (unfinished-none, c.new.ensures); prefix_len = rw unfinished-none };
}

pub invariant_of-result : goal.invariant_of-result
invariant_of-result c = record {
  progress = record {
    readable = record { step = c.requires.cycle; groups = c.requires.groups };
    bounded = rw c.empty_frame-kept.ensures.value (bounded-empty 0 0);
    range = c.empty_frame-kept.ensures.range (omega arith) c.args.plant.now.groups;
  };
  few = omega arith;
  fed = omega arith;
  short = rw c.new.ensures (omega arith);
}
