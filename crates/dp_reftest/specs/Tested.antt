-- What a contract sees of the tests of a reference.
use Rattle.std.specs.Prelude.{ℕ}
use Rattle.dp_plant.specs.declared.references.RefLimits.{RefLimits}
use Rattle.dp_reftest.specs.declared.kept.Kept.{Kept}
use Rattle.dp_reftest.specs.Window.{no_samples}

-- the limits, the number of the next cycle, the window
pub record Tested : Type 0 where
  pub limits : RefLimits
  pub next : ℕ
  pub kept : Kept

abbrev pub tested_by : RefLimits → ℕ → Kept → Tested
tested_by limits next kept = record { limits = limits; next = next; kept = kept }

-- before the first cycle
abbrev pub untested : RefLimits → Tested
untested limits = tested_by limits 0 no_samples
