use Rattle.dp_voter.proofs.Limits.{none_within, ordered_within, voted_within}
use Rattle.dp_voter.proofs.laws.orders_stay_within.Goals as goal

pub returns : goal.returns
returns c = record {
  new = none_within;
  begin = λ v cycle. none_within v.low v.high;
  order = ordered_within;
  vote = voted_within;
}
