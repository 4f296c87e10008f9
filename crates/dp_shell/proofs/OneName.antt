-- Reads of one name, one after another.
use Rattle.std.proofs.Common.{◌≡◌, ℕ, ◌≤◌, Bool, List, Option, ap, ◌∙◌, refl, arith}
use Rattle.dp_shell.specs.Reads.{ReadsOnly}
use Rattle.dp_shell.specs.Texts.{Files}

pub reads_none : {S : Type 0} (texts : S → Option Files) (names : S → List ℕ → Bool) (numbers : S → List ℕ → ℕ) (name : List ℕ) (a : S) → ReadsOnly texts names numbers name a a
reads_none texts names numbers name a = record {
  files = refl;
  apart = refl;
  others = λ other is ne. refl;
  none_falls = λ other. omega arith;
}

pub reads_more : {S : Type 0} (texts : S → Option Files) (names : S → List ℕ → Bool) (numbers : S → List ℕ → ℕ) (name : List ℕ) (a b c : S)
    → ReadsOnly texts names numbers name a b → ReadsOnly texts names numbers name b c → ReadsOnly texts names numbers name a c
reads_more texts names numbers name a b c first then = record {
  files = then.files ∙ first.files;
  apart = then.apart ∙ first.apart;
  others = λ other is ne. then.others other (ap (λ (test : List ℕ → Bool). test other) first.apart ∙ is) ne ∙ first.others other is ne;
  none_falls = λ other. omega (arith, first.none_falls other, then.none_falls other);
}
