-- What an accepted certificate says of its parts.
use Rattle.std.proofs.Common.{◌≡◌, ◌↔◌, subst, sym, ap, ap₂, ◌∙◌, Bool, List, None, IsTrue, ℤ, ◌*ℤ◌, ◌≤ℤ◌}
use Rattle.std.specs.Prelude.{int_le}
use Rattle.dp_form.specs.Form.{plane_form}
use Rattle.dp_plant.specs.declared.cert.Cert.{Cert}
use Rattle.dp_plant.specs.declared.cert.Lists.{Lists}
use Rattle.dp_plant.specs.declared.cert.Parts.{Parts}
use Rattle.dp_plant.specs.declared.cert.Parts.TheVariants.{Three, Five}
use Rattle.dp_plant.specs.declared.gains.Gains.{Gains}
use Rattle.dp_plant.specs.declared.gains.YawGains.{YawGains}
use Rattle.dp_plant.specs.declared.plane.Component.{Component}
use Rattle.dp_plant.specs.declared.plane.PlaneState.{PlaneState}
use Rattle.dp_plant.specs.Observer.{north_of, east_of}
use Rattle.dp_cert.specs.CertifiedSet.{reach_by}
use Rattle.dp_cert.specs.States.{matrix_of, state_form, states_of}
use Rattle.dp_cert.specs.InRange.{AreLists, AreParts}
use Rattle.dp_cert.specs.Valid.{IsValid}
use Rattle.dp_cert.specs.Width.{first_too_wide}
use Rattle.dp_cert.proofs.Lights.{le_true}
use Rattle.dp_cert.proofs.RangeFacts.{in_range, le_from}
use Rattle.dp_cert.proofs.ValidFacts.{IsNoneTooWide, none_too_wide}

pub lists_three : (g : Gains) (y : YawGains) (c : Cert) (l : Lists 3) → IsValid g y c → c.parts ≡ Three l → AreLists l
lists_three g y c l v e = subst (λ (p : Parts). AreParts p) e (in_range g y c v.in_range).parts

pub lists_five : (g : Gains) (y : YawGains) (c : Cert) (l : Lists 5) → IsValid g y c → c.parts ≡ Five l → AreLists l
lists_five g y c l v e = (subst (λ (p : Parts). AreParts p) e (in_range g y c v.in_range).parts).0

pub narrow_three : (g : Gains) (y : YawGains) (c : Cert) (l : Lists 3) → IsValid g y c → c.parts ≡ Three l → first_too_wide c l ≡ None
narrow_three g y c l v e = subst (λ (p : Parts). IsNoneTooWide c p) e (none_too_wide g c v.no_fault)

pub narrow_five : (g : Gains) (y : YawGains) (c : Cert) (l : Lists 5) → IsValid g y c → c.parts ≡ Five l → first_too_wide c l ≡ None
narrow_five g y c l v e = subst (λ (p : Parts). IsNoneTooWide c p) e (none_too_wide g c v.no_fault)

-- ---- the test of the certified set
le_test : (b : Bool) (f g m : ℤ) → f ≡ g → b ≡ int_le f m → IsTrue b ↔ (g ≤ℤ m)
le_test b f g m e t = (λ h. subst (λ (z : ℤ). z ≤ℤ m) e (le_from f m (sym t ∙ h)), λ h. t ∙ le_true f m (subst (λ (z : ℤ). z ≤ℤ m) (sym e) h))

-- by the states that the code makes of a plane state's components
pub inside_is : (b : Bool) (c : Cert) (parts q : Parts) (x : PlaneState) (north east : Component) (xs ys : List ℤ) → parts ≡ q → north ≡ north_of x → east ≡ east_of x → xs ≡ states_of q north → ys ≡ states_of q east →
    b ≡ int_le (plane_form (matrix_of q) xs ys) (reach_by c q *ℤ reach_by c q) → IsTrue b ↔ (state_form parts x ≤ℤ (reach_by c parts *ℤ reach_by c parts))
inside_is b c parts q x north east xs ys e n f xe ye t =
    let p = matrix_of q in
    subst (λ (k : Parts). IsTrue b ↔ (state_form k x ≤ℤ (reach_by c k *ℤ reach_by c k))) (sym e)
    (le_test b (plane_form p xs ys) (state_form q x) (reach_by c q *ℤ reach_by c q)
    (ap₂ (λ (u v : List ℤ). plane_form p u v) (xe ∙ ap (λ (k : Component). states_of q k) n) (ye ∙ ap (λ (k : Component). states_of q k) f)) t)
