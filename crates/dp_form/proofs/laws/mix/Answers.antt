use Rattle.dp_form.proofs.Mix.{mix, mix_below}
use Rattle.dp_form.proofs.laws.mix.Goals as goal

pub returns : goal.returns
returns c = record { of_forms = mix; below_a_bound = mix_below }
