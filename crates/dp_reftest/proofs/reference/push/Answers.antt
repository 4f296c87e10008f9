use Rattle.std.proofs.Common.{◌≤◌, ◌<◌, rules, List, [], ◌∷◌, ◌++◌, length, sym, ap, ◌∙◌, arith}
use Rattle.std.proofs.lemmas.List.{length-append}
use Rattle.circular_buffer.specs.Buffer.{buffer}
use Rattle.dp_plant.specs.declared.place.Place.{Place}
use Rattle.dp_reftest.proofs.Rings.{keep_all}
use Rattle.dp_reftest.proofs.reference.push.Goals as goal

pub returns-else-is_full-clause-items : goal.returns-else-is_full-clause-items
returns-else-is_full-clause-items c =
    let a = c.args.ring.now in
    let room : length a.items < a.capacity = search rules in
    let fits : length (a.items ++ c.args.at ∷ []) ≤ a.capacity = omega (arith, length-append a.items (c.args.at ∷ []), room) in
    c.enter.ensures.items ∙ ap (λ (ps : List Place). buffer ps a.capacity) (sym (keep_all a.capacity (a.items ++ c.args.at ∷ []) fits))
