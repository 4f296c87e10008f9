use Rattle.std.proofs.Common.{◌∙◌, sym}
use Rattle.dp_consequence.specs.Survival.{is_unsurvived, unsurvived_bits, unsurvived_groups}
use Rattle.dp_consequence.proofs.Numbers.{Contains-names, bits_name, names-Contains}
use Rattle.dp_consequence.proofs.laws.bits_are_the_groups.Goals as goal

pub returns : goal.returns
unfolding unsurvived_bits unsurvived_groups
returns c = λ p lost mean group.
    let e = bits_name (is_unsurvived p lost mean) p.groups group in
    ((λ set. Contains-names group _ (sym e ∙ set)), (λ listed. e ∙ names-Contains group _ listed))
