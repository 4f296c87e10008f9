use Rattle.std.proofs.Common.{arith}
use Rattle.std.proofs.lemmas.List.Splits.{length-slice_split}
use Rattle.dp_text.specs.Parts.{is_space}
use Rattle.dp_text.proofs.FirstPart.{cut_some, cut_none}
use Rattle.dp_nav.proofs.plain_forms.first_part.Goals as goal

pub returns-in-Some-clause-parts : goal.returns-in-Some-clause-parts
returns-in-Some-clause-parts c = cut_some c.args.text.now c.in-Some.part.now c.in-Some.rest.now c.in-Some.ensures

pub returns-in-Some-clause-more : goal.returns-in-Some-clause-more
returns-in-Some-clause-more c = omega (arith, length-slice_split is_space c.in-Some.rest.now)

pub returns-in-None-clause-parts : goal.returns-in-None-clause-parts
returns-in-None-clause-parts c = cut_none c.args.text.now c.in-None.ensures
