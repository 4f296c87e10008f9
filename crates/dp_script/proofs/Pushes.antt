-- One more act of a list of acts that all get one cycle.
use Rattle.std.proofs.Common.{◌≡◌, ℕ, ◌+◌, List, [], ◌∷◌, ◌++◌, drop, Some, append_assoc}
use Rattle.std.specs.Prelude.{slice_get}
use Rattle.std.proofs.lemmas.Option.{slice_get_within, get_or_from_slice_get}
use Rattle.std.proofs.lemmas.List.{drop_more}
use Rattle.dp_script.specs.declared.act.Act.{Act}
use Rattle.dp_script.specs.declared.timed_act.TimedAct.{TimedAct}
use Rattle.dp_script.specs.TimedActs.{timed_acts_with}

drop_one : (acts : List Act) (i : ℕ) (act : Act) → slice_get acts i ≡ Some act → drop i acts ≡ act ∷ drop (i + 1) acts
drop_one acts i act e =
    let lt = slice_get_within acts i act e in
    rw (get_or_from_slice_get acts i act act e) at (drop_more acts i act lt)

pub one_pushed : (timed_acts new all : List TimedAct) (cycle i : ℕ) (acts : List Act) (act : Act) → slice_get acts i ≡ Some act → new ≡ timed_acts ++ record { cycle = cycle; act = act } ∷ []
    → timed_acts ++ timed_acts_with cycle (drop i acts) ≡ all → new ++ timed_acts_with cycle (drop (i + 1) acts) ≡ all
one_pushed timed_acts new all cycle i acts act e pushed before =
    rw (pushed, append_assoc) (rw (drop_one acts i act e) at before)
