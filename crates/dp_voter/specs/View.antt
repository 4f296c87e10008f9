-- A voter's fields as what it knows.
use Rattle.dp_voter.specs.declared.voter.Voter.TheInside.{Inside}
use Rattle.dp_voter.specs.VoterState.{VoterState}

abbrev pub view_of : Inside → VoterState
view_of v = record {
  low = v.min;
  high = v.max;
  cycle = v.cycle;
  orders = v.orders;
  ballot = v.ballot;
  last_fresh = v.last_fresh;
  run = v.run;
}
