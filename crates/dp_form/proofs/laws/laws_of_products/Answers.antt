use Rattle.dp_form.proofs.RingLaws.{*ℤ_assoc, *ℤ-+ℤ}
use Rattle.dp_form.proofs.laws.laws_of_products.Goals as goal

pub returns : goal.returns
returns c = record { associate = *ℤ_assoc; distribute = *ℤ-+ℤ }
