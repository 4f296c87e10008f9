use Rattle.std.proofs.Common.{◌≡◌, ◌*◌, ◌^◌, take}
use Rattle.dp_form.specs.Range.{IsWithin}
use Rattle.dp_form.specs.Vectors.{apply, dot}
use Rattle.dp_cert.proofs.inside.form_of.Given as goal

abbrev pub invariant-loop-i : goal.invariant-loop-i
invariant-loop-i g l = record {
  is : l.sum ≡ dot (take l.i l.x) (apply l.p l.x);
  bound : IsWithin (l.i * (5 * 2 ^ 120)) l.sum;
}
