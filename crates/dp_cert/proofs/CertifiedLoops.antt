-- A sound certificate of three states or of five, as the loop that it is of.
use Rattle.std.proofs.Common.{◌≡◌, ◌<◌, ℕ, zero, suc, List, [], ◌∷◌, refl, ap, subst, ◌∙◌, arith, ℤ, pos, ◌+ℤ◌, ◌*ℤ◌, ◌≤ℤ◌, ◌<ℤ◌, replicate}
use Rattle.dp_form.proofs.Ring.{var, num, ◌⊕◌, ◌⊗◌, ring}
use Rattle.dp_fixed.specs.Scale.{full_scale}
use Rattle.dp_form.specs.Vectors.{dot}
use Rattle.dp_form.specs.Form.{form}
use Rattle.dp_form.proofs.Entries.{place}
use Rattle.dp_plant.specs.declared.cert.Cert.{Cert}
use Rattle.dp_plant.specs.declared.cert.Lists.{Lists}
use Rattle.dp_plant.specs.declared.cert.Parts.{Parts}
use Rattle.dp_plant.specs.declared.cert.Parts.TheVariants.{Three, Five}
use Rattle.dp_plant.specs.declared.gains.Gains.{Gains}
use Rattle.dp_plant.specs.declared.gains.YawGains.{YawGains}
use Rattle.dp_plant.specs.Vectors.{entry}
use Rattle.dp_cert.specs.InRange.{AreNumbers, AreParts}
use Rattle.dp_cert.specs.Matrices.{unit}
use Rattle.dp_cert.specs.Sound.{IsSound, BoundsCoordinate}
use Rattle.dp_cert.specs.States.{matrix_of, state_count}
use Rattle.dp_cert.specs.Valid.{IsValid}
use Rattle.dp_cert.proofs.MatrixForms.{output_below}
use Rattle.dp_cert.proofs.RangeFacts.{HasNoWaveFilter, in_range, no_filter}
use Rattle.dp_cert.proofs.Steps.{Observer, Certified, BoundsDemands}
use Rattle.dp_cert.proofs.ValidFacts.{numbers_of, rate_of}
use Rattle.dp_cert.proofs.Vertices.{observer_three, certified_three, demands_three}
use Rattle.dp_cert.proofs.WaveVertices.{observer_five, certified_five, demands_five}

abbrev pub observer_by : Gains → Parts → Observer
observer_by g (Three l) = observer_three g
observer_by g (Five l) = observer_five g

-- the observer of a certificate's parts: over the scale, whatever the parts are
abbrev pub observer_of : Gains → Parts → Observer
observer_of g parts = record {
  q = full_scale;
  m = (observer_by g parts).m;
  correction = (observer_by g parts).correction;
  thrust = (observer_by g parts).thrust;
  bias = (observer_by g parts).bias;
  held0 = (observer_by g parts).held0;
  free0 = (observer_by g parts).free0;
  held1 = (observer_by g parts).held1;
  free1 = (observer_by g parts).free1;
}

abbrev pub span_of : Parts → List ℤ
span_of (Three l) = l.span
span_of (Five l) = l.span

-- the gains have a wave filter only where the certificate is of one
abbrev pub HasFilterOf : Gains → Parts → Type 0
HasFilterOf g (Three l) = HasNoWaveFilter g
HasFilterOf g (Five l) = Unit {0}

pub record CertifiedLoop (g : Gains) (c : Cert) (parts : Parts) : Type 0 where
  pub numbers : AreNumbers c
  pub rate : c.rho <ℤ full_scale
  pub filter : HasFilterOf g parts
  pub loop : Certified (observer_of g parts) (matrix_of parts) c.rho c.b c.r
  pub demands : BoundsDemands (observer_of g parts) (matrix_of parts) (entry c.g 0) (entry c.g 1)
  pub spans : (i : ℕ) → pos 0 ≤ℤ entry (span_of parts) i
  pub coordinates : (i : ℕ) → i < state_count parts → (x : List ℤ) → (full_scale *ℤ place x i *ℤ (full_scale *ℤ place x i)) ≤ℤ (entry (span_of parts) i *ℤ entry (span_of parts) i *ℤ form (matrix_of parts) x)

-- ---- coordinates by their unit vectors
dot_none : (n : ℕ) (x : List ℤ) → dot (replicate n (pos 0)) x ≡ pos 0
dot_none zero x = refl
dot_none (suc n) [] = refl
dot_none (suc n) (a ∷ x) = ap (λ (z : ℤ). pos 0 *ℤ a +ℤ z) (dot_none n x) ∙ (ring (a ∷ []) (num (pos 0) ⊗ var 0 ⊕ num (pos 0)) (num (pos 0)) tt)

dot_unit : (n i : ℕ) (x : List ℤ) → i < n → dot (unit n i) x ≡ full_scale *ℤ place x i
dot_unit zero i x h = absurd (omega arith)
dot_unit (suc n) zero [] h = refl
dot_unit (suc n) zero (a ∷ x) h = ap (λ (z : ℤ). full_scale *ℤ a +ℤ z) (dot_none n x) ∙ (ring (full_scale ∷ (a ∷ [])) (var 0 ⊗ var 1 ⊕ num (pos 0)) (var 0 ⊗ var 1) tt)
dot_unit (suc n) (suc i) [] h = refl
dot_unit (suc n) (suc i) (a ∷ x) h = ap (λ (z : ℤ). pos 0 *ℤ a +ℤ z) (dot_unit n i x (omega arith)) ∙ (ring (full_scale ∷ (a ∷ (place x i ∷ []))) (num (pos 0) ⊗ var 1 ⊕ var 0 ⊗ var 2) (var 0 ⊗ var 2) tt)

pub coordinate_below : {n : ℕ} (l : Lists n) (i : ℕ) → BoundsCoordinate l i → i < n → (x : List ℤ) → (full_scale *ℤ place x i *ℤ (full_scale *ℤ place x i)) ≤ℤ (entry l.span i *ℤ entry l.span i *ℤ form l.p.at x)
coordinate_below {n} l i b h x = subst (λ (o : ℤ). (o *ℤ o) ≤ℤ (entry l.span i *ℤ entry l.span i *ℤ form l.p.at x)) (dot_unit n i x h) (output_below l.p.at (entry l.span i) (unit n i) b.nonneg x)

loop_by : (g : Gains) (y : YawGains) (c : Cert) → IsValid g y c → IsSound g c → (parts : Parts) → c.parts ≡ parts → AreParts parts → CertifiedLoop g c parts
loop_by g y c v s (Three l) e a =
    let n = numbers_of g y c v in record {
      numbers = n;
      rate = rate_of g c v.no_fault;
      filter = no_filter g y c l e v.in_range;
      loop = certified_three g c l n (s.three l e);
      demands = demands_three g c l n (s.three l e);
      spans = λ i. (a.span i).low;
      coordinates = λ i h. coordinate_below l i (s.three_spans l e i h) h;
    }
loop_by g y c v s (Five l) e a =
    let n = numbers_of g y c v in record {
      numbers = n;
      rate = rate_of g c v.no_fault;
      filter = tt;
      loop = certified_five g c l n (s.five l e);
      demands = demands_five g c l n (s.five l e);
      spans = λ i. (a.0.span i).low;
      coordinates = λ i h. coordinate_below l i (s.five_spans l e i h) h;
    }

pub certified_loop : (g : Gains) (y : YawGains) (c : Cert) → IsValid g y c → IsSound g c → CertifiedLoop g c c.parts
certified_loop g y c v s = loop_by g y c v s c.parts refl (in_range g y c v.in_range).parts
