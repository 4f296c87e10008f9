-- What the fields of a reference's tests mean, and what holds of them.
use Rattle.std.specs.Prelude.{◌≡◌, ◌^◌}
use Rattle.dp_plant.specs.SoundPlant.{AreRefLimits}
use Rattle.dp_reftest.specs.declared.reference.RefTest.TheInside.{Inside}
use Rattle.dp_plant.specs.Ranges.{IsVectorWithin}
use Rattle.dp_reftest.specs.Running.{IsRunning}
use Rattle.dp_reftest.specs.Totals.{EndsIn}
use Rattle.dp_reftest.specs.Tested.{Tested, tested_by}
use Rattle.dp_reftest.specs.Window.{IsKept, kept_by}

abbrev pub tested : Inside → Tested
tested t = tested_by t.limits t.next (kept_by t.last t.ring.items)

pub record IsTest (t : Inside) : Type 0 where
  pub limits : AreRefLimits t.limits
  pub running : IsRunning t.limits.jump t.ring t.sums
  pub capacity : t.ring.capacity ≡ t.limits.window
  pub newest : EndsIn t.newest t.ring.items
  pub newest_near : IsVectorWithin (2 ^ 43) t.newest
  pub kept : IsKept t.limits.window t.next (kept_by t.last t.ring.items)
