use Rattle.std.proofs.Common.{◌-◌, ap, ◌∙◌, arith}
use Rattle.dp_reftest.specs.declared.sums.Sums.{Sums}
use Rattle.dp_reftest.specs.Running.{verdict_by}
use Rattle.dp_reftest.specs.Tested.{Tested}
use Rattle.dp_reftest.specs.Verdict.{verdict_of}
use Rattle.dp_reftest.specs.Window.{kept_by}
use Rattle.dp_reftest.proofs.Reading.{verdict_by_sums}
use Rattle.dp_reftest.proofs.Rings.{counted, sums_are}
use Rattle.dp_reftest.proofs.reference.RefTest.usable.Goals as goal

pub judged-requires-clause-few : goal.judged-requires-clause-few
judged-requires-clause-few c = omega (arith, counted c.self.inside.limits.jump c.self.inside.ring c.self.inside.sums c.self.invariant.running, c.self.invariant.kept.few)

pub judged-requires-clause-sums : goal.judged-requires-clause-sums
judged-requires-clause-sums c = sums_are c.self.inside.limits.jump c.self.inside.ring c.self.inside.sums c.self.invariant.running

pub returns-clause-value : goal.returns-clause-value
returns-clause-value c =
    let t = c.self.inside in
    let now = c.saturating_sub-now.result in
    c.judged.ensures.value
    ∙ ap (λ (s : Sums). verdict_by t.limits s t.newest (now - t.last)) c.self.invariant.running.kept
    ∙ verdict_by_sums t.limits t.newest t.ring.items t.last now c.self.invariant.newest
    ∙ ap (verdict_of t.limits (kept_by t.last t.ring.items)) c.saturating_sub-now.ensures
    ∙ ap (λ (s : Tested). verdict_of s.limits s.kept (s.next - 1)) c.self.view_is

pub returns-clause-within : goal.returns-clause-within
returns-clause-within c = c.judged.ensures.within c.self.invariant.newest_near
