-- What a voter knows, as its callers see it.
use Rattle.std.specs.Prelude.{ℕ, ◌+◌, min, List, [], ◌∷◌, ℤ, pos, Option, Some, None}
use Rattle.dp_plant.specs.declared.voting.Ballot.{Ballot}

pub record VoterState : Type 0 where
  -- the least and the greatest force of the thruster
  pub low : ℤ
  pub high : ℤ
  -- the voter's cycle, none before the first begins
  pub cycle : Option ℕ
  -- the orders taken in this cycle, one place for each computer
  pub orders : List (Option ℤ)
  -- the ballot of this cycle, once it was given
  pub ballot : Option Ballot
  -- the force of the last fresh ballot, 0 before the first
  pub last_fresh : ℤ
  -- how many cycles in a row, up to this one, have no fresh ballot; counted up to 6
  pub run : ℕ

abbrev pub no_orders : List (Option ℤ)
no_orders = None ∷ None ∷ None ∷ []

abbrev pub new_voter : ℤ → ℤ → VoterState
new_voter low high = record {
  low = low;
  high = high;
  cycle = None;
  orders = no_orders;
  ballot = None;
  last_fresh = pos 0;
  run = 0;
}

-- a cycle begins: it has no orders and no ballot yet, so it has no fresh one
abbrev pub begun : VoterState → ℕ → VoterState
begun v cycle =
    record v { cycle = Some cycle; orders = no_orders; ballot = None; run = min 6 (v.run + 1) }
