use Rattle.std.proofs.Common.{List, [], refl, subst}
use Rattle.dp_core.specs.declared.event.Event.{Event}
use Rattle.dp_core.specs.Represents.{Represents}
use Rattle.dp_app.proofs.Plays.{played_none}
use Rattle.dp_app.proofs.Tallies.{none_counted}
use Rattle.dp_app.proofs.player.Player.new.Goals as goal

pub returns-clause-played : goal.returns-clause-played
returns-clause-played c = record {
  plant = refl;
  script_is = refl;
  writes_is = refl;
  world = c.in_ok-world.ensures.plant;
  represents = subst (λ (l : List Event). Represents l c.in_ok-world.world) (played_none c.args.plant.plant c.args.script []) c.in_ok-world.ensures.represents;
  count = refl;
  counted = none_counted c.args.plant.plant c.args.script c.args.tally c.requires.empty;
}
