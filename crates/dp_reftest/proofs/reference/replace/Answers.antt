use Rattle.std.proofs.Common.{◌≡◌, [], ◌∷◌, ◌++◌, length, Some, w64, of_z, to_z, arith}
use Rattle.std.specs.Prelude.{slice_get}
use Rattle.std.proofs.lemmas.Int.{ints, to_z-of_z}
use Rattle.dp_reftest.proofs.Rings.{few, given_out, jumps_after, replaced_by, same_after, sums_are}
use Rattle.dp_reftest.proofs.reference.replace.Goals as goal

pub exchange-requires-clause-x : goal.exchange-requires-clause-x
exchange-requires-clause-x c =
    let run = c.requires.running in
    omega (arith, (sums_are c.args.limit c.args.ring.now c.args.sums.now run).x, few c.args.limit c.args.ring.now c.args.sums.now run)

pub exchange-requires-clause-y : goal.exchange-requires-clause-y
exchange-requires-clause-y c =
    let run = c.requires.running in
    omega (arith, (sums_are c.args.limit c.args.ring.now c.args.sums.now run).y, few c.args.limit c.args.ring.now c.args.sums.now run)

pub exchange-requires-clause-square : goal.exchange-requires-clause-square
exchange-requires-clause-square c =
    let run = c.requires.running in
    let are = sums_are c.args.limit c.args.ring.now c.args.sums.now run in
    omega (arith, ints, are.square_low, are.square_high, few c.args.limit c.args.ring.now c.args.sums.now run)

pub join-requires-clause-jumps : goal.join-requires-clause-jumps
join-requires-clause-jumps c =
    let run = c.requires.running in
    omega (arith, c.exchange.ensures.jumps, (sums_are c.args.limit c.args.ring.now c.args.sums.now run).jumps, few c.args.limit c.args.ring.now c.args.sums.now run)

pub join-requires-clause-same : goal.join-requires-clause-same
join-requires-clause-same c =
    let run = c.requires.running in
    omega (arith, c.exchange.ensures.same, (sums_are c.args.limit c.args.ring.now c.args.sums.now run).same, few c.args.limit c.args.ring.now c.args.sums.now run)

pub part-requires-clause-jumps : goal.part-requires-clause-jumps
part-requires-clause-jumps c =
    let j : to_z w64 (of_z w64 c.args.limit) ≡ c.args.limit = to_z-of_z w64 c.args.limit c.ranges.limit in
    let a = c.args.ring.now in
    let out : slice_get (a.items ++ c.args.at ∷ []) 0 ≡ Some c.in-Some.oldest = given_out (length a.items) a.capacity _ (Some c.in-Some.oldest) c.requires.full c.in-Some.ensures.value in
    rw j (jumps_after c.args.limit a c.args.sums.now c.args.at c.args.newest c.in-Some.oldest c.requires.running c.requires.near c.requires.some c.requires.full c.requires.newest out
    c.push_back.new.self c.push_back.ensures.items c.exchange.new.self.jumps c.join.new.self.jumps c.exchange.ensures.jumps (rw (← j) c.join.ensures.jumps))

pub part-requires-clause-same : goal.part-requires-clause-same
part-requires-clause-same c =
    let a = c.args.ring.now in
    let out : slice_get (a.items ++ c.args.at ∷ []) 0 ≡ Some c.in-Some.oldest = given_out (length a.items) a.capacity _ (Some c.in-Some.oldest) c.requires.full c.in-Some.ensures.value in
    same_after c.args.limit a c.args.sums.now c.args.at c.args.newest c.in-Some.oldest c.requires.running c.requires.near c.requires.some c.requires.full c.requires.newest out
    c.push_back.new.self c.push_back.ensures.items c.exchange.new.self.same c.join.new.self.same c.exchange.ensures.same c.join.ensures.same

pub returns-in-Some-clause-running : goal.returns-in-Some-clause-running
returns-in-Some-clause-running c =
    let j : to_z w64 (of_z w64 c.args.limit) ≡ c.args.limit = to_z-of_z w64 c.args.limit c.ranges.limit in
    let a = c.args.ring.now in
    let out : slice_get (a.items ++ c.args.at ∷ []) 0 ≡ Some c.in-Some.oldest = given_out (length a.items) a.capacity _ (Some c.in-Some.oldest) c.requires.full c.in-Some.ensures.value in
    let u = c.exchange.ensures in let v = c.join.ensures in let t = c.part.ensures in
    replaced_by c.args.limit a c.args.sums.now c.args.at c.args.newest c.in-Some.oldest c.requires.running c.requires.near c.requires.some c.requires.full c.requires.newest out
    c.push_back.new.self c.push_back.ensures.items c.part.new.sums c.exchange.new.self c.join.new.self
    u.n v.n t.n u.x v.x t.x u.y v.y t.y u.square v.square t.square
    u.jumps (rw (← j) v.jumps) (rw (← j) t.jumps) u.same v.same t.same
