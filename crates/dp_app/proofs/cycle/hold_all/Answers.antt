use Rattle.std.proofs.Common.{◌≡◌, ◌++◌, ◌∷◌, [], ℕ, List, Option, ℤ, map, ap, sym, ◌∙◌, arith, rules}
use Rattle.std.specs.List.{range_with_len}
use Rattle.dp_plant.specs.declared.plant.Plant.{Plant}
use Rattle.dp_core.specs.History.{history}
use Rattle.dp_core.specs.Voting.{taken_forces}
use Rattle.dp_app.specs.Acting.{voters}
use Rattle.dp_app.proofs.Lists.{map_next}
use Rattle.dp_app.proofs.cycle.hold_all.Goals as goal

pub loop-k-preserved : goal.loop-k-preserved
loop-k-preserved c =
    let p = c.args.plant.now in
    record {
      held = λ es r.
          let of : ℕ → List (Option ℤ) = λ k. taken_forces k (history p es) in
          let asked : c.held.result ≡ of c.loop-k.k =
          c.held.ensures es r
          ∙ ap (λ (q : Plant). taken_forces c.loop-k.k (history q es)) c.requires.plant in
          c.push.ensures.items ∙ ap (λ (l : List (List (Option ℤ))). l ++ c.held.result ∷ []) (c.loop-k.invariant.held es r)
          ∙ ap (λ (b : List (Option ℤ)). map of (range_with_len 0 c.loop-k.k) ++ b ∷ []) asked
          ∙ sym (map_next of c.loop-k.k);
      count = search rules;
    }

pub returns-clause-held : goal.returns-clause-held
returns-clause-held c =
    let p = c.args.plant.now in
    let end : c.loop-k.k ≡ voters p = omega (arith, c.voters_of-k-end.ensures.value) in
    λ es r. c.loop-k.invariant.held es r
    ∙ ap (λ (n : ℕ). map (λ k. taken_forces k (history p es)) (range_with_len 0 n)) end
