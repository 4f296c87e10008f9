use Rattle.std.proofs.Common.{◌≡◌, List, [], ◌∷◌, ◌++◌, w64, of_z, to_z, ap, ◌∙◌, arith}
use Rattle.std.proofs.lemmas.Int.{to_z-of_z}
use Rattle.circular_buffer.specs.Buffer.{buffer, last_item}
use Rattle.std.proofs.lemmas.List.{length-append}
use Rattle.dp_plant.specs.declared.place.Place.{Place}
use Rattle.dp_reftest.specs.Running.{with_more}
use Rattle.dp_reftest.proofs.Adding.{same_sums}
use Rattle.dp_reftest.proofs.Rings.{counted, entered, keep_all, last_near, sums_are}
use Rattle.dp_reftest.proofs.reference.enter.Goals as goal

pub add-requires-clause-sums : goal.add-requires-clause-sums
add-requires-clause-sums c = sums_are c.args.limit c.args.ring.now c.args.sums.now c.requires.running

pub add-requires-clause-room : goal.add-requires-clause-room
add-requires-clause-room c = omega (arith, counted c.args.limit c.args.ring.now c.args.sums.now c.requires.running, c.requires.room, c.requires.running.capacity)

pub add-requires-clause-before : goal.add-requires-clause-before
add-requires-clause-before c = rw (c.copied-before.ensures, c.back.ensures) (last_near c.args.ring.now.items c.requires.running.near)

pub returns-clause-running : goal.returns-clause-running
returns-clause-running c =
    let j : to_z w64 (of_z w64 c.args.limit) ≡ c.args.limit = to_z-of_z w64 c.args.limit c.ranges.limit in
    let before = c.copied-before.ensures ∙ c.back.ensures in
    let a = c.args.ring.now in
    let more : c.add.new.self ≡ with_more c.args.limit (last_item a.items) c.args.at c.args.sums.now =
    same_sums c.add.new.self (with_more c.args.limit (last_item a.items) c.args.at c.args.sums.now) c.add.ensures.n c.add.ensures.x c.add.ensures.y c.add.ensures.square
    (rw (← before, ← j) c.add.ensures.jumps) (rw (← before) c.add.ensures.same) in
    let items = c.push_back-oldest.ensures.items ∙ ap (λ (ps : List Place). buffer ps a.capacity) (keep_all a.capacity (a.items ++ c.args.at ∷ []) (omega (arith, length-append a.items (c.args.at ∷ []), c.requires.room))) in
    entered c.args.limit a c.args.sums.now c.requires.running c.push_back-oldest.new.self c.add.new.self c.args.at c.requires.near c.requires.room items more
