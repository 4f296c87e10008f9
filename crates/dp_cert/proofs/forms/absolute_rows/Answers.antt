use Rattle.std.proofs.Common.{◌^◌, ℤ, List, [], pos, arith, map, unsigned_abs}
use Rattle.std.specs.Prelude.{All}
use Rattle.dp_form.specs.Range.{IsWithin}
use Rattle.dp_cert.proofs.Tables.{all_at, mapped}
use Rattle.dp_cert.proofs.forms.absolute_rows.Goals as goal

pub returns-clause-value : goal.returns-clause-value
returns-clause-value g c =
    let inv = c.loop-i.invariant in
    mapped (λ (r : List ℤ). map (λ (z : ℤ). pos (unsigned_abs z)) r) [] [] c.args.p.now c.loop-i.at (omega (arith, inv.tall)) (λ k h. inv.is k (omega arith))

pub returns-clause-small : goal.returns-clause-small
returns-clause-small g c =
    let inv = c.loop-i.invariant in
    all_at (All (IsWithin (2 ^ 40))) c.loop-i.at g.row.N [] inv.tall (λ k h. inv.small k (omega arith))
