use Rattle.dp_form.proofs.Order.{square_nonneg, mul_le, le_cancel}
use Rattle.dp_form.proofs.laws.order_of_products.Goals as goal

pub returns : goal.returns
returns c = record { squares = square_nonneg; factors_keep = mul_le; factors_cancel = le_cancel }
