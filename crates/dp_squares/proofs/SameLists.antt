-- Lists of a certificate are the same where their parts are: that a matrix is symmetric has one proof.
use Rattle.std.proofs.Common.{◌≡◌, ℕ, List, ℤ, ap}
use Rattle.std.proofs.Math.IntN.{ℤ_set}
use Rattle.std.specs.Coded.{Π_prop, →_prop}
use Rattle.dp_form.specs.Form.{IsSymmetric}
use Rattle.dp_form.specs.declared.Squares.{Squares}
use Rattle.dp_form.specs.declared.Sym.{Sym}
use Rattle.dp_plant.specs.declared.cert.Lists.{Lists}

symmetric_prop : (n : ℕ) (p : List (List ℤ)) → IsProp (IsSymmetric n p)
symmetric_prop n p = Π_prop (λ i. Π_prop (λ j. →_prop (→_prop (ℤ_set _ _))))

abbrev pub listed : {n : ℕ} → (p : Sym n) → List ℤ → Squares n → List (List (Squares n)) → List (List (Squares n)) → List (Squares n) → IsSymmetric n p.at → Lists n
listed p span form vertex output spans s = record { p = p; span = span; form = form; vertex = vertex; output = output; spans = spans; symmetric = s }

pub same_lists : {n : ℕ} (p : Sym n) (span : List ℤ) (form : Squares n) (vertex output : List (List (Squares n))) (spans : List (Squares n)) (s t : IsSymmetric n p.at)
    → listed p span form vertex output spans s ≡ listed p span form vertex output spans t
same_lists {n} p span form vertex output spans s t = ap (listed p span form vertex output spans) (symmetric_prop n p.at s t)
