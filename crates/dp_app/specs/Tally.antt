-- The ballots of a replay, counted.
use Rattle.std.specs.Prelude.{◌≡◌, ◌*◌, Option, IfSome, ◌^◌, ◌≤◌, ◌≤ℤ◌, ℕ, ℤ, Bool, true, false, List, [], ◌++◌, map, pos, neg_ℤ, codes}
use Rattle.std.specs.Fmt.{decimal, signed_decimal}
use Rattle.std.specs.List.{count_by, flat_map}
use Rattle.dp_consequence.specs.Demands.{sum_of}
use Rattle.dp_plant.specs.declared.voting.Ballot.{Ballot}
use Rattle.dp_plant.specs.declared.voting.Ballot.TheVariants.{Fresh, Held, Zero}
use Rattle.dp_report.specs.declared.block.Block.{Block}
use Rattle.dp_app.specs.declared.tally.Tally.{Tally}

abbrev pub is_fresh : Ballot → Bool
is_fresh (Fresh force) = true
is_fresh (Held force) = false
is_fresh Zero = false

abbrev pub is_held : Ballot → Bool
is_held (Fresh force) = false
is_held (Held force) = true
is_held Zero = false

abbrev pub is_zero : Ballot → Bool
is_zero (Fresh force) = false
is_zero (Held force) = false
is_zero Zero = true

-- what the thruster is given, in newtons
abbrev pub voted_force : Ballot → ℤ
voted_force (Fresh force) = force
voted_force (Held force) = force
voted_force Zero = pos 0

-- all ballots of these cycles
abbrev pub ballots_in : List Block → List Ballot
ballots_in bs = flat_map (λ b. b.ballots.items) bs

-- how many of each kind there are, and the sum of their forces
abbrev pub tally_of : List Ballot → Tally
tally_of bs = record {
  fresh = count_by is_fresh bs;
  held = count_by is_held bs;
  zero = count_by is_zero bs;
  sum = sum_of (map voted_force bs);
}

-- what n ballots can come to
pub record IsTallyWithin (n : ℕ) (t : Tally) : Type 0 where
  pub fresh : t.fresh ≤ n
  pub held : t.held ≤ n
  pub zero : t.zero ≤ n
  pub least : neg_ℤ (pos (n * 2 ^ 63)) ≤ℤ t.sum
  pub most : t.sum ≤ℤ pos (n * 2 ^ 63)

-- nothing was counted yet
abbrev pub IsEmptyTally : Option Tally → Type 0
IsEmptyTally tally = IfSome tally (λ t. (t ≡ tally_of []) × IsTallyWithin 0 t)

-- a line of a summary: what is counted, and the number
abbrev pub count_line : List ℕ → ℕ → List ℕ
count_line name n = name ++ (decimal n ++ codes "\n")

-- the five lines that sum up so many cycles with these ballots
unfoldable pub summary_text : ℕ → Tally → List ℕ
summary_text cycles t =
    count_line (codes "cycles ") cycles
    ++ (count_line (codes "fresh ") t.fresh
    ++ (count_line (codes "held ") t.held
    ++ (count_line (codes "zero ") t.zero
    ++ (codes "sum " ++ (signed_decimal t.sum ++ codes "\n")))))
