use Rattle.std.proofs.Common.{◌≡◌, ◌++◌, ◌+◌, ◌-◌, ◌≤◌, List, [], ◌∷◌, length, ap, sym, subst, ◌∙◌, arith}
use Rattle.std.proofs.lemmas.List.Elements.{All-push}
use Rattle.std.specs.Prelude.{All}
use Rattle.dp_form.specs.Range.{IsSmallSquare}
use Rattle.dp_form.specs.Residual.{residual}
use Rattle.dp_form.specs.Made.{made_from}
use Rattle.dp_form.specs.declared.Square.{Square}
use Rattle.dp_form.specs.declared.Squares.{Squares}
use Rattle.dp_form.proofs.MadeLaws.{round_none, round_some}
use Rattle.dp_form.proofs.maker.made.Goals as goal
use Rattle.dp_form.proofs.maker.made.Goals.{in-Some, in_default}

pub loop-i-preserved : goal.loop-i-preserved
loop-i-preserved g c =
    let inv = c.loop-i.invariant in
    let s = c.args.s.now.at in
    let qs = c.loop-i.made.list.items in
    let i = c.loop-i.i in
    let whole = made_from {n = g.row.N} (g.row.N - 1) 0 s in
    elim c.match-next_square.branch [
      | in-Some w ↦
          let q = w.in-Some.square in
          let now : c.match-next_square.made.list.items ≡ qs ++ q ∷ [] = ap (λ (z : Squares g.row.N). z.list.items) w.made-is ∙ w.push.ensures.items in
          let more = round_some {n = g.row.N} s qs whole q i c.loop-i-test.true (sym w.in-Some.is ∙ c.next_square.ensures.value) inv.whole in
          record {
            whole = subst (λ (z : List (Square g.row.N)). z ++ made_from {n = g.row.N} (g.row.N - 1 - (i + 1)) (i + 1) (residual s z) ≡ whole) (sym now) more;
            small = subst (λ (z : List (Square g.row.N)). All IsSmallSquare z) (sym now) (All-push IsSmallSquare qs q inv.small w.in-Some.ensures.small);
            few = omega (arith, ap (λ (z : Squares g.row.N). length z.list.items) w.made-is, w.push.ensures.len, inv.few);
          }
      | in_default w ↦
          let now : c.match-next_square.made.list.items ≡ qs = ap (λ (z : Squares g.row.N). z.list.items) w.made-is in
          let more = round_none {n = g.row.N} s qs whole i c.loop-i-test.true (sym w.in_default.is ∙ c.next_square.ensures.value) inv.whole in
          record {
            whole = subst (λ (z : List (Square g.row.N)). z ++ made_from {n = g.row.N} (g.row.N - 1 - (i + 1)) (i + 1) (residual s z) ≡ whole) (sym now) more;
            small = subst (λ (z : List (Square g.row.N)). All IsSmallSquare z) (sym now) inv.small;
            few = subst (λ (z : List (Square g.row.N)). length z ≤ i + 1) (sym now) (omega (arith, inv.few));
          }
    ]
