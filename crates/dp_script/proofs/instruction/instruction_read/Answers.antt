use Rattle.std.proofs.Common.{rules}
use Rattle.dp_script.specs.declared.instruction.Instruction.{Instruction}
use Rattle.dp_script.specs.Instructions.{instruction_of}
use Rattle.dp_script.proofs.WrittenLines.{written}
use Rattle.dp_script.proofs.instruction.instruction_read.Goals as goal

pub returns-clause-within : goal.returns-clause-within
unfolding instruction_of
returns-clause-within c =
    let said : Instruction = record { cycle = c.in_ok-cycle.cycle; acts = c.in_ok-acts.acts } in
    (written c.args.line.now said (search rules)).within
