use Rattle.std.proofs.Common.{rules, w64, of_z, to_z}
use Rattle.dp_fixed.specs.Order.{mid3_of}
use Rattle.dp_fuse.proofs.Lists.{place_is}
use Rattle.dp_fuse.proofs.Middles.{middle_within}
use Rattle.dp_fuse.proofs.places.middle_place.Goals as goal

pub returns-clause-value : goal.returns-clause-value
returns-clause-value c =
    let a = c.args.a in let b = c.args.b in let d = c.args.c in
    place_is (to_z w64 (of_z w64 c.middle.result)) (to_z w64 (of_z w64 c.middle-2.result)) (mid3_of a.north b.north d.north) (mid3_of a.east b.east d.east) (search rules) (search rules)

pub returns-clause-within : goal.returns-clause-within
returns-clause-within c =
    let a = c.args.a in let b = c.args.b in let d = c.args.c in
    record {
      north = middle_within (to_z w64 (of_z w64 c.middle.result)) a.north b.north d.north (search rules) c.requires.first.north c.requires.second.north c.requires.third.north;
      east = middle_within (to_z w64 (of_z w64 c.middle-2.result)) a.east b.east d.east (search rules) c.requires.first.east c.requires.second.east c.requires.third.east;
    }
