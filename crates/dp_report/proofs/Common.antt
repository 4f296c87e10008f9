-- The line of a thruster whose fresh force is what each computer ordered.
use Rattle.std.proofs.Common.{◌≡◌, ℕ, List, [], ◌∷◌, ◌++◌, ℤ, Some, sym, ap, ◌∙◌, append_assoc}
use Rattle.std.specs.Prelude.{codes}
use Rattle.std.specs.Fmt.{decimal, signed_decimal}
use Rattle.std.proofs.lemmas.List.{append-nil}
use Rattle.dp_plant.specs.declared.voting.Ballot.TheVariants.{Fresh}
use Rattle.dp_text.specs.Repeated.{four_times}
use Rattle.dp_report.proofs.Pieces.{two_pieces, three_pieces}
use Rattle.dp_report.specs.Text.{ballot_text, order_text, thruster_line}

-- the three orders, after the ballot's force
rest : (s end : List ℕ) → s ++ ((32 ∷ (s ++ (32 ∷ (s ++ (32 ∷ (s ++ [])))))) ++ end) ≡ four_times s ++ end
rest s end =
    ap (λ t. s ++ ((32 ∷ (s ++ (32 ∷ (s ++ (32 ∷ t))))) ++ end)) (append-nil s)
    ∙ sym (append_assoc s (32 ∷ (s ++ (32 ∷ (s ++ (32 ∷ s))))) end)

line : (k : ℕ) (force : ℤ)
    → codes "t" ++ (decimal k ++ (codes " F " ++ (four_times (signed_decimal force) ++ codes "\n")))
    ≡ thruster_line k (Fresh force) (Some force ∷ Some force ∷ Some force ∷ [])
unfolding thruster_line ballot_text order_text
line k force = ap (λ t. codes "t" ++ (decimal k ++ (codes " F " ++ t))) (sym (rest (signed_decimal force) (codes "\n")))

pub same_line : (old first second third fourth new : List ℕ) (k : ℕ) (force : ℤ) → first ≡ old ++ codes "t" → second ≡ first ++ decimal k
    → third ≡ second ++ codes " F " → fourth ≡ third ++ four_times (signed_decimal force) → new ≡ fourth ++ codes "\n"
    → new ≡ old ++ thruster_line k (Fresh force) (Some force ∷ Some force ∷ Some force ∷ [])
same_line old first second third fourth new k force a b c d e =
    let s = four_times (signed_decimal force) in
    two_pieces old first new (codes "t") (decimal k ++ (codes " F " ++ (s ++ codes "\n"))) a
    (two_pieces first second new (decimal k) (codes " F " ++ (s ++ codes "\n")) b
    (three_pieces second third fourth new (codes " F ") s (codes "\n") c d e))
    ∙ ap (λ t. old ++ t) (line k force)
