use Rattle.std.proofs.Common.{◌≡◌, Some, arith, length, rules}
use Rattle.std.specs.Prelude.{slice_get}
use Rattle.dp_core.proofs.Lists.{read-at}
use Rattle.dp_core.proofs.Tells.{three-left}
use Rattle.dp_core.proofs.world.ends.Goals as goal

pub returns : goal.returns
returns c = λ k x m e f.
    let xs = c.args.computers in
    let three : length xs ≡ 3 = search rules in
    let first : slice_get xs 0 ≡ Some c.first-1.given.0 = read-at xs 0 c.first-1.given.0 (omega (arith, three)) c.first-1.given.1 in
    let second : slice_get xs 1 ≡ Some c.second-1.given.0 = read-at xs 1 c.second-1.given.0 (omega (arith, three)) c.second-1.given.1 in
    let third : slice_get xs 2 ≡ Some c.third-1.given.0 = read-at xs 2 c.third-1.given.0 (omega (arith, three)) c.third-1.given.1 in
    three-left xs c.first-1.given.0 c.second-1.given.0 c.third-1.given.0 x c.end.result c.end-2.result c.end-3.result m k three first second third
    (record { plant = c.end.ensures.plant; steps = c.end.ensures.steps; state = c.end.ensures.state })
    (record { plant = c.end-2.ensures.plant; steps = c.end-2.ensures.steps; state = c.end-2.ensures.state })
    (record { plant = c.end-3.ensures.plant; steps = c.end-3.ensures.steps; state = c.end-3.ensures.state }) e f
