use Rattle.std.proofs.Common.{◌≡◌, ◌∙◌, ap, ℤ, ℕ, FitsSigned}
use Rattle.std.proofs.lemmas.Int.{to_z-of_z}
use mir.Syntax.{w64, w128}
use Rattle.dp_drift.specs.declared.drift.Drift.{Drift}
use Rattle.dp_drift.specs.Drift.{drift_by, lacking}
use Rattle.dp_drift.proofs.drift.drift_of.Goals as goal

lacking_at : (r m l h p q s : ℤ) → r ≡ lacking m l h → m ≡ p → l ≡ q → h ≡ s → r ≡ lacking p q s
lacking_at r m l h p q s a b c d = a ∙ ap (λ (z : ℤ). lacking z l h) b ∙ ap (λ (z : ℤ). lacking p z h) c ∙ ap (λ (z : ℤ). lacking p q z) d

both : (damp limit u w x y : ℤ) (n : ℕ) (r : Drift) → r ≡ drift_by damp limit u w n → u ≡ x → w ≡ y → r ≡ drift_by damp limit x y n
both damp limit u w x y n r e f g = e ∙ ap (λ z. drift_by damp limit z w n) f ∙ ap (λ z. drift_by damp limit x z n) g

pub returns : goal.returns
returns c =
    let fd = c.ranges.damp in
    let fl = c.ranges.limit in
    let f1 : FitsSigned w128 c.lacking-surge.result = record { sfits = c.lacking-surge.type_inv } in
    let f2 : FitsSigned w128 c.lacking-sway.result = record { sfits = c.lacking-sway.type_inv } in
    let g1 : FitsSigned w64 c.entry_of.result = record { sfits = c.entry_of.type_inv } in
    let g2 : FitsSigned w64 c.entry_of-2.result = record { sfits = c.entry_of-2.type_inv } in
    let g3 : FitsSigned w64 c.entry_of-3.result = record { sfits = c.entry_of-3.type_inv } in
    let g4 : FitsSigned w64 c.entry_of-4.result = record { sfits = c.entry_of-4.type_inv } in
    let g5 : FitsSigned w64 c.entry_of-5.result = record { sfits = c.entry_of-5.type_inv } in
    let g6 : FitsSigned w64 c.entry_of-6.result = record { sfits = c.entry_of-6.type_inv } in
    let a = simp to_z-of_z at c.lacking-surge.ensures.value in
    let b = simp to_z-of_z at c.lacking-sway.ensures.value in
    let p = lacking_at c.lacking-surge.result _ _ _ _ _ _ a c.entry_of.ensures c.entry_of-2.ensures c.entry_of-3.ensures in
    let q = lacking_at c.lacking-sway.result _ _ _ _ _ _ b c.entry_of-4.ensures c.entry_of-5.ensures c.entry_of-6.ensures in
    let d = simp to_z-of_z at c.drift_by.ensures in
    both c.args.damp c.args.limit c.lacking-surge.result c.lacking-sway.result _ _ c.args.cycles c.drift_by.result d p q
