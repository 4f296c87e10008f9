use Rattle.std.proofs.Common.{◌≡◌, ◌+◌, ◌++◌, ℕ, List, length, take, sym, ap, ◌∙◌, subst, arith}
use Rattle.std.proofs.lemmas.List.{append-nil, take_all}
use Rattle.dp_plant.specs.declared.voting.Ballot.{Ballot}
use Rattle.dp_app.specs.Tally.{IsTallyWithin, tally_of}
use Rattle.dp_app.proofs.Tallies.{next_counted}
use Rattle.dp_app.proofs.tally.Tally.with.Goals as goal

pub loop-ballot-init : goal.loop-ballot-init
loop-ballot-init c = record {
  value = λ bs is. is ∙ ap tally_of (sym (append-nil bs));
  within = λ n h. subst (λ (m : ℕ). IsTallyWithin m c.args.self) (let e : n ≡ n + 0 = omega arith in e) h;
}

pub with_one-tally-requires : goal.with_one-tally-requires
with_one-tally-requires c =
    let n = c.requires.within.0 in
    record {
      within = (n + c.loop-ballot.ballot-index, omega (arith, c.requires.within.1, c.requires.few, c.loop-ballot-test.true), c.loop-ballot.invariant.within n c.requires.within.2);
    }

pub loop-ballot-preserved : goal.loop-ballot-preserved
loop-ballot-preserved c =
    let i = c.loop-ballot.ballot-index in
    let inv = c.loop-ballot.invariant in
    record {
      value = λ bs is.
          next_counted bs c.args.ballots.now i _ c.with_one-tally.result c.loop-ballot-test.true
          (c.with_one-tally.ensures.value (bs ++ take i c.args.ballots.now) (inv.value bs is));
      within = λ n h.
          subst (λ (m : ℕ). IsTallyWithin m c.with_one-tally.result) (let e : n + i + 1 ≡ n + (i + 1) = omega arith in e)
          (c.with_one-tally.ensures.within _ (inv.within n h));
    }

pub returns-clause-value : goal.returns-clause-value
returns-clause-value c = λ bs is.
    c.loop-ballot.invariant.value bs is ∙ ap (λ (l : List Ballot). tally_of (bs ++ l)) (take_all _ c.args.ballots.now c.loop-ballot-test.false)

pub returns-clause-within : goal.returns-clause-within
returns-clause-within c = λ n h.
    let end : c.loop-ballot.ballot-index ≡ length c.args.ballots.now = omega (arith, c.loop-ballot-test.false, c.loop-ballot.auto.ballot-index-end) in
    subst (λ (m : ℕ). IsTallyWithin (n + m) c.loop-ballot.tally) end (c.loop-ballot.invariant.within n h)
