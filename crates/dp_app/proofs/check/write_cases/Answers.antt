use Rattle.std.proofs.Common.{◌≡◌, ℕ, ◌+◌, ◌<◌, All, List, get_or, length, ap, sym, ◌∙◌, subst, arith, rules}
use Rattle.std.specs.Io.KnownBytes.{Appends}
use Rattle.dp_shell.proofs.Taken.{appends_then, cut_after}
use Rattle.dp_shell.specs.Taken.{AppendsCut}
use Rattle.dp_cert.specs.Bound.{IsShareRow}
use Rattle.dp_plant.specs.declared.thrusters.RawCase.{RawCase}
use Rattle.dp_app.specs.Check.{case_text, cases_text}
use Rattle.dp_app.proofs.CheckTexts.{all_cases, cut_within, none_yet, one_more, text_so_far}
use Rattle.dp_app.proofs.PlantFacts.{share_rows}
use Rattle.dp_app.proofs.check.write_cases.Goals as goal

pub returns-in_err-write_all-clause-err : goal.returns-in_err-write_all-clause-err
returns-in_err-write_all-clause-err g c =
    let old = g.K.Sink.taken c.args.out.now in
    let new = g.K.Sink.taken c.write_all.new.out in
    let p = c.args.plant.now.plant in
    let cut : AppendsCut old new (cases_text p) = cut_within p old new 0 (subst (λ (l : List ℕ). AppendsCut old new l) (none_yet p) c.in_err-write_all.ensures.err) in
    search (rules, cut)

pub loop-case-init : goal.loop-case-init
loop-case-init g c =
    let old = g.K.Sink.taken c.args.out.now in
    let new = g.K.Sink.taken c.write_all.new.out in
    record {
      written = subst (λ (l : List ℕ). Appends old new l) (none_yet c.args.plant.now.plant) c.in_ok-write_all.ensures.ok;
      no_less = search rules;
    }

pub case_text-requires : goal.case_text-requires
case_text-requires g c =
    let cs = c.args.plant.now.plant.cases.items in
    let i = c.loop-case.case-index in
    let within : i < length cs = omega (arith, ap length c.as_slice-case-items.ensures.value, c.loop-case-test.true) in
    subst (λ (x : RawCase). All IsShareRow x.b.items)
    (sym (c.case-item.is ∙ ap (λ (l : List RawCase). get_or l i c.case-item.result) c.as_slice-case-items.ensures.value))
    (share_rows c.args.plant.now.plant i c.case-item.result within)

pub loop-case-preserved : goal.loop-case-preserved
loop-case-preserved g c =
    let old = g.K.Sink.taken c.args.out.now in
    let mid = g.K.Sink.taken c.loop-case.out in
    let new = g.K.Sink.taken c.write_all-in-loop-case.new.out in
    let p = c.args.plant.now.plant in
    let i = c.loop-case.case-index in
    let within : i < length p.cases.items = omega (arith, ap length c.as_slice-case-items.ensures.value, c.loop-case-test.true) in
    let item : c.case-item.result ≡ get_or p.cases.items i c.case-item.result =
    c.case-item.is ∙ ap (λ (l : List RawCase). get_or l i c.case-item.result) c.as_slice-case-items.ensures.value in
    let told : c.deref.result.now ≡ case_text p.cert c.case-item.result = search (rules, c.requires.cert) in
    let text : c.deref.result.now ≡ case_text p.cert (get_or p.cases.items i c.case-item.result) = told ∙ ap (case_text p.cert) item in
    record {
      written = subst (λ (l : List ℕ). Appends old new l) (one_more p i c.case-item.result within)
          (appends_then old mid new (text_so_far p i) (case_text p.cert (get_or p.cases.items i c.case-item.result)) c.loop-case.invariant.written
          (subst (λ (l : List ℕ). Appends mid new l) text c.in_ok-write_all-2.ensures.ok));
      no_less = search rules;
    }

pub returns-in_err-write_all-2-clause-err : goal.returns-in_err-write_all-2-clause-err
returns-in_err-write_all-2-clause-err g c =
    let old = g.K.Sink.taken c.args.out.now in
    let mid = g.K.Sink.taken c.loop-case.out in
    let new = g.K.Sink.taken c.write_all-in-loop-case.new.out in
    let p = c.args.plant.now.plant in
    let i = c.loop-case.case-index in
    let within : i < length p.cases.items = omega (arith, ap length c.as_slice-case-items.ensures.value, c.loop-case-test.true) in
    let item : c.case-item.result ≡ get_or p.cases.items i c.case-item.result =
    c.case-item.is ∙ ap (λ (l : List RawCase). get_or l i c.case-item.result) c.as_slice-case-items.ensures.value in
    let told : c.deref.result.now ≡ case_text p.cert c.case-item.result = search (rules, c.requires.cert) in
    let text : c.deref.result.now ≡ case_text p.cert (get_or p.cases.items i c.case-item.result) = told ∙ ap (case_text p.cert) item in
    let next : AppendsCut old new (text_so_far p (i + 1)) = subst (λ (l : List ℕ). AppendsCut old new l) (one_more p i c.case-item.result within)
    (cut_after old mid new (text_so_far p i) (case_text p.cert (get_or p.cases.items i c.case-item.result)) c.loop-case.invariant.written
    (subst (λ (l : List ℕ). AppendsCut mid new l) text c.in_err-write_all-2.ensures.err)) in
    let cut : AppendsCut old new (cases_text p) = cut_within p old new (i + 1) next in
    search (rules, cut)

pub returns-clause-ok : goal.returns-clause-ok
returns-clause-ok g c =
    let p = c.args.plant.now.plant in
    subst (λ (l : List ℕ). Appends (g.K.Sink.taken c.args.out.now) (g.K.Sink.taken c.loop-case.out) l)
    (all_cases p c.loop-case.case-index (omega (arith, ap length c.as_slice-case-items.ensures.value, c.loop-case-test.false))) c.loop-case.invariant.written
