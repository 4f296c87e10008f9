use Rattle.std.proofs.Common.{◌∙◌, ap, ◌==◌, List, Option, find, map}
use Rattle.std.specs.Option.{option_map}
use Rattle.dp_alloc.specs.declared.case.Case.{Case}
use Rattle.dp_alloc.specs.Cases.{CasesValue, case_in}
use Rattle.dp_alloc.proofs.KeptCases.{found_raw}
use Rattle.dp_alloc.proofs.cases.Cases.case_of.Goals as goal

pub returns : goal.returns
returns c =
    ap (λ (o : Option Case). option_map (λ k. k.raw) o) c.found.ensures
    ∙ found_raw c.args.lost c.as_slice.result.now
    ∙ ap (λ (cs : List Case). find (λ k. k.lost == c.args.lost) (map (λ k. k.raw) cs)) c.as_slice.ensures.value
    ∙ ap (λ (v : CasesValue). case_in v c.args.lost) c.self.view_is
