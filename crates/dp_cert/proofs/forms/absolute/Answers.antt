use Rattle.std.proofs.Common.{◌^◌, ℤ, pos, arith, unsigned_abs}
use Rattle.dp_form.specs.Range.{IsWithin}
use Rattle.dp_cert.proofs.Tables.{all_at, mapped}
use Rattle.dp_cert.proofs.forms.absolute.Goals as goal

pub returns-clause-value : goal.returns-clause-value
returns-clause-value g c =
    let inv = c.loop-j.invariant in
    mapped (λ (z : ℤ). pos (unsigned_abs z)) (pos 0) (pos 0) c.args.row.now c.loop-j.sizes (omega (arith, inv.wide)) (λ k h. inv.is k (omega arith))

pub returns-clause-small : goal.returns-clause-small
returns-clause-small g c =
    let inv = c.loop-j.invariant in
    all_at (IsWithin (2 ^ 40)) c.loop-j.sizes g.row.N (pos 0) inv.wide (λ k h. inv.small k (omega arith))
