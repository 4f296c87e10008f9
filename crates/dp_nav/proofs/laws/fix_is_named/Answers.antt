use Rattle.dp_nav.proofs.NamedPlaces.{fix_is_named}
use Rattle.dp_nav.proofs.laws.fix_is_named.Goals as goal

pub returns : goal.returns
returns c = fix_is_named
