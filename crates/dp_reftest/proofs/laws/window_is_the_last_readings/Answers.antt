use Rattle.dp_reftest.proofs.Windows.{window_is_the_last_readings}
use Rattle.dp_reftest.proofs.laws.window_is_the_last_readings.Goals as goal

pub returns : goal.returns
returns c = window_is_the_last_readings
