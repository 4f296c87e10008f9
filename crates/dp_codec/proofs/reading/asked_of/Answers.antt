use Rattle.std.proofs.Common.{arith}
use Rattle.dp_codec.specs.Format.{times_at}
use Rattle.dp_codec.specs.Parts.{demand_parts}
use Rattle.dp_codec.proofs.Loop.{goes_on}
use Rattle.dp_codec.proofs.reading.asked_of.Goals as goal

pub loop-preserved : goal.loop-preserved
loop-preserved c = record {
  so_far = rw c.push.ensures.items (goes_on demand_parts.read c.loop.list.items c.args.n c.loop.counter c.loop.rest.now c.in_ok-demand.demand c.in_ok-demand.after.now (times_at demand_parts.read c.args.n c.args.bytes.now) c.loop-test.true c.in_ok-demand.ensures c.loop.invariant.so_far);
  many = omega (arith, c.push.ensures.len, c.loop.invariant.many);
}
