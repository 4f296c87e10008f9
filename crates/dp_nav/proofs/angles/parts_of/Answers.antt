use Rattle.dp_text.proofs.Digits.{small_power}
use Rattle.dp_nav.proofs.angles.parts_of.Goals as goal

pub returns-clause-bound : goal.returns-clause-bound
returns-clause-bound c =
    (small_power _ 3 _ c.in_ok-degrees.ensures.bound c.requires.first, small_power _ 2 _ c.in_ok-minutes.ensures.bound c.requires.second, c.in_ok-rest.ensures.bound)
