use Rattle.std.proofs.Common.{◌≡◌, List, ℕ, ◌++◌, refl, sym, ap, ◌∙◌, inl, inr, arith}
use Rattle.std.specs.Int.{w32}
use Rattle.dp_codec.specs.Numbers.{unsigned_text}
use Rattle.dp_codec.specs.Parts.{state_parts}
use Rattle.dp_codec.specs.Spelling.{length_text}
use Rattle.dp_codec.proofs.Lengths.{length_none, length_some}
use Rattle.dp_codec.proofs.writing.put_length.Goals as goal

pub returns-then-version-eq1-clause-items : goal.returns-then-version-eq1-clause-items
returns-then-version-eq1-clause-items c = λ p x. length_none c.args.version ((state_parts p c.args.version).spell (record c.args.s.now { plane = x })) c.args.out.now.items c.if-version-eq1.true

pub returns-clause-items : goal.returns-clause-items
returns-clause-items c = λ p x.
    let s = record c.args.s.now { plane = x } in
    let old = c.args.out.now.items in
    let two : c.args.version ≡ 2 = elim c.requires.software [ inl e ↦ absurd (omega (arith, e, c.if-version-eq1.false)) | inr e ↦ e ] in
    let whole = c.whole_length.ensures.value p x in
    let put = c.put_u32.ensures.items ∙ ap (λ (n : ℕ). old ++ unsigned_text w32 n) whole in
    put ∙ ap (λ (t : List ℕ). old ++ t) (sym (length_some 2 ((state_parts p 2).spell s) refl))
    ∙ ap (λ (v : ℕ). old ++ length_text v ((state_parts p v).spell s)) (sym two)
