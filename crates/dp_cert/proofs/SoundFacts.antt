-- What the parts of a certificate say of the whole.
use Rattle.std.proofs.Common.{◌≡◌, zero, suc, sym, subst, ◌∙◌, arith}
use Rattle.dp_plant.specs.declared.cert.Cert.{Cert}
use Rattle.dp_plant.specs.declared.cert.Lists.{Lists}
use Rattle.dp_plant.specs.declared.cert.Parts.{Parts}
use Rattle.dp_plant.specs.declared.cert.Parts.TheVariants.{Three, Five}
use Rattle.dp_plant.specs.declared.gains.Gains.{Gains}
use Rattle.dp_cert.specs.Loop.{loop_three}
use Rattle.dp_cert.specs.WaveLoop.{loop_five}
use Rattle.dp_cert.specs.Sound.{IsSound, IsSoundLoop, AreBounded, BoundsCoordinate}

same_three : (l m : Lists 3) (parts : Parts) → parts ≡ Three l → parts ≡ Three m → l ≡ m
same_three l m parts e f = let h : Three l ≡ Three m = sym e ∙ f in cc

same_five : (l m : Lists 5) (parts : Parts) → parts ≡ Five l → parts ≡ Five m → l ≡ m
same_five l m parts e f = let h : Five l ≡ Five m = sym e ∙ f in cc

not_both : {P : Type 0} (l : Lists 3) (m : Lists 5) (parts : Parts) → parts ≡ Three l → parts ≡ Five m → P
not_both l m parts e f = let h : Three l ≡ Five m = sym e ∙ f in absurd (cc)

pub sound_three : (g : Gains) (c : Cert) (l : Lists 3) → c.parts ≡ Three l → IsSoundLoop c l (loop_three g) → AreBounded l → IsSound g c
sound_three g c l e h b = record {
  three = λ m f. subst (λ (k : Lists 3). IsSoundLoop c k (loop_three g)) (same_three l m c.parts e f) h;
  three_spans = λ m f. subst (λ (k : Lists 3). AreBounded k) (same_three l m c.parts e f) b;
  five = λ m f. not_both l m c.parts e f;
  five_spans = λ m f. not_both l m c.parts e f;
}

pub sound_five : (g : Gains) (c : Cert) (l : Lists 5) → c.parts ≡ Five l → IsSoundLoop c l (loop_five g) → AreBounded l → IsSound g c
sound_five g c l e h b = record {
  three = λ m f. not_both m l c.parts f e;
  three_spans = λ m f. not_both m l c.parts f e;
  five = λ m f. subst (λ (k : Lists 5). IsSoundLoop c k (loop_five g)) (same_five l m c.parts e f) h;
  five_spans = λ m f. subst (λ (k : Lists 5). AreBounded k) (same_five l m c.parts e f) b;
}

pub three_bounded : (l : Lists 3) → BoundsCoordinate l 0 → BoundsCoordinate l 1 → BoundsCoordinate l 2 → AreBounded l
three_bounded l a b c zero h = a
three_bounded l a b c (suc zero) h = b
three_bounded l a b c (suc (suc zero)) h = c
three_bounded l a b c (suc (suc (suc i))) h = absurd (omega arith)

pub five_bounded : (l : Lists 5) → BoundsCoordinate l 0 → BoundsCoordinate l 1 → BoundsCoordinate l 2 → BoundsCoordinate l 3 → BoundsCoordinate l 4 → AreBounded l
five_bounded l a b c d e zero h = a
five_bounded l a b c d e (suc zero) h = b
five_bounded l a b c d e (suc (suc zero)) h = c
five_bounded l a b c d e (suc (suc (suc zero))) h = d
five_bounded l a b c d e (suc (suc (suc (suc zero)))) h = e
five_bounded l a b c d e (suc (suc (suc (suc (suc i))))) h = absurd (omega arith)
