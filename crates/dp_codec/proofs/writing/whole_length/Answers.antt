use Rattle.std.proofs.Common.{◌≡◌, length, ap, arith, rules}
use Rattle.dp_reftest.specs.declared.kept.Kept.{Kept}
use Rattle.dp_reftest.specs.Window.{no_samples}
use Rattle.dp_codec.proofs.Lengths.{entry_is, length-state, samples_in}
use Rattle.dp_codec.proofs.writing.whole_length.Goals as goal

pub returns : goal.returns
unfolding samples_in
returns c =
    let s = c.args.s.now in
    let three : length s.samples ≡ 3 = search rules in
    let first = ap (λ (k : Kept). length k.list.items) (entry_is s.samples 0 c.index-s-0.result no_samples (omega (arith, three)) c.index-s-0.is) in
    let second = ap (λ (k : Kept). length k.list.items) (entry_is s.samples 1 c.index-s-1.result no_samples (omega (arith, three)) c.index-s-1.is) in
    let third = ap (λ (k : Kept). length k.list.items) (entry_is s.samples 2 c.index-s-2.result no_samples (omega (arith, three)) c.index-s-2.is) in
    let size = λ (k : Kept). length k.list.items in
    record { value = λ p x. omega (arith, length-state p (record s { plane = x }), first, second, third, ap size c.index-s-0.is, ap size c.index-s-1.is, ap size c.index-s-2.is, c.len.ensures.value, c.len-2.ensures.value, c.len-3.ensures.value, c.len-4.ensures.value) }
