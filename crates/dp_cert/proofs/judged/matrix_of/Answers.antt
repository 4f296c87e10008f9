use Rattle.std.proofs.Common.{◌^◌, inl, inr, lit<, arith, FitsSigned}
use Rattle.std.proofs.lemmas.Int.{ints, to_z-of_z}
use mir.Syntax.{w64}
use Rattle.dp_form.specs.Range.{IsWithin}
use Rattle.dp_cert.proofs.judged.matrix_of.Goals as goal

-- the first parts of each are that the matrices fit the memory
pub contraction-requires : goal.contraction-requires
contraction-requires g c =
    let up = c.requires.numbers.rho in
    let f : FitsSigned w64 c.args.c.now.rho = omega (arith, ints, up.low, up.high) in
    let rate : IsWithin (2 ^ 30) c.args.c.now.rho = record { low = omega (arith, ints, up.low); high = up.high } in
    (elim c.requires.size [ inl e ↦ rw e (lit< tt) | inr e ↦ rw e (lit< tt) ], (elim c.requires.size [ inl e ↦ rw e (lit< tt) | inr e ↦ rw e (lit< tt) ], (elim c.requires.size [ inl e ↦ rw e (lit< tt) | inr e ↦ rw e (lit< tt) ], (elim c.requires.size [ inl e ↦ rw e (lit< tt) | inr e ↦ rw e (lit< tt) ], (elim c.requires.size [ inl e ↦ rw e (lit< tt) | inr e ↦ rw e (lit< tt) ], (c.requires.lists.p, (c.vertex_of.ensures.small, simp to_z-of_z rate)))))))

pub output-requires : goal.output-requires
output-requires g c =
    let up = c.requires.numbers.demands c.in-Output.axis in
    let f : FitsSigned w64 c.number_of-bound.result = record { sfits = c.number_of-bound.type_inv } in
    let e = c.number_of-bound.ensures.value in
    let bound : IsWithin (2 ^ 40) c.number_of-bound.result = record { low = omega (arith, ints, up.low, e); high = omega (arith, ints, up.high, e) } in
    (elim c.requires.size [ inl e ↦ rw e (lit< tt) | inr e ↦ rw e (lit< tt) ], (elim c.requires.size [ inl e ↦ rw e (lit< tt) | inr e ↦ rw e (lit< tt) ], (elim c.requires.size [ inl e ↦ rw e (lit< tt) | inr e ↦ rw e (lit< tt) ], (c.requires.lists.p, (c.output_of.ensures.small, simp to_z-of_z bound)))))

pub output-requires-in-Span : goal.output-requires-in-Span
output-requires-in-Span g c =
    let up = c.requires.lists.span c.in-Span.coordinate in
    let f : FitsSigned w64 c.number_of-bound-in-Span.result = record { sfits = c.number_of-bound-in-Span.type_inv } in
    let e = c.number_of-bound-in-Span.ensures.value in
    let bound : IsWithin (2 ^ 40) c.number_of-bound-in-Span.result = record { low = omega (arith, ints, up.low, e); high = omega (arith, ints, up.high, e) } in
    (elim c.requires.size [ inl e ↦ rw e (lit< tt) | inr e ↦ rw e (lit< tt) ], (elim c.requires.size [ inl e ↦ rw e (lit< tt) | inr e ↦ rw e (lit< tt) ], (elim c.requires.size [ inl e ↦ rw e (lit< tt) | inr e ↦ rw e (lit< tt) ], (c.requires.lists.p, (c.unit.ensures.small, simp to_z-of_z bound)))))

pub returns-in-Vertex-clause-symmetric : goal.returns-in-Vertex-clause-symmetric
returns-in-Vertex-clause-symmetric g c = c.contraction.ensures.symmetric c.args.l.now.symmetric

pub returns-in-Output-clause-symmetric : goal.returns-in-Output-clause-symmetric
returns-in-Output-clause-symmetric g c = c.output.ensures.symmetric c.args.l.now.symmetric

pub returns-in-Span-clause-symmetric : goal.returns-in-Span-clause-symmetric
returns-in-Span-clause-symmetric g c = c.output-in-Span.ensures.symmetric c.args.l.now.symmetric
