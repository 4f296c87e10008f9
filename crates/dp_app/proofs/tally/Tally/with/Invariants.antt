use Rattle.std.proofs.Common.{◌≡◌, ◌+◌, ◌++◌, ℕ, List, take}
use Rattle.dp_plant.specs.declared.voting.Ballot.{Ballot}
use Rattle.dp_app.specs.Tally.{IsTallyWithin, tally_of}
use Rattle.dp_app.proofs.tally.Tally.with.Given as goal

-- the first ballots were counted
abbrev pub invariant-loop-ballot : goal.invariant-loop-ballot
invariant-loop-ballot l = record {
  value : (bs : List Ballot) → l.fn.self ≡ tally_of bs → l.tally ≡ tally_of (bs ++ take l.ballot-index l.ballots);
  within : (n : ℕ) → IsTallyWithin n l.fn.self → IsTallyWithin (n + l.ballot-index) l.tally;
}
