-- The first coordinate that can grow too far.
use Rattle.std.proofs.Common.{◌≡◌, ◌<◌, ◌^◌, ℕ, List, [], ◌∷◌, zero, suc, Option, Some, None, refl, sym, ◌∙◌, ap, ℤ, pos, ◌*ℤ◌, ◌≤ℤ◌, false, unsigned_abs}
use lib.IntN.{zero-*ℤ}
use Rattle.std.specs.Prelude.{map, is_some}
use Rattle.dp_fixed.specs.Scale.{full_scale}
use Rattle.dp_fixed.specs.Division.{ceil_of}
use Rattle.dp_form.specs.Vectors.{row}
use Rattle.dp_plant.specs.Vectors.{entry}
use Rattle.std.specs.Option.{option_or}
use Rattle.dp_plant.specs.declared.cert.Cert.{Cert}
use Rattle.dp_plant.specs.declared.cert.Lists.{Lists}
use Rattle.dp_cert.specs.Width.{width, is_wide, is_heavy, row_heavy, first_wide, first_heavy, reach_of, first_too_wide}
use Rattle.dp_cert.proofs.FirstLaws.{none_below}
use Rattle.dp_cert.proofs.ValidFacts.{option_or-none}
use Rattle.dp_cert.proofs.Widths.{from_lt_false}

too_wide_at : {n : ℕ} (c : Cert) (l : Lists n) (k : ℤ) → k ≡ reach_of c l →
    option_or (first_wide n (map (width k) l.span)) (first_heavy n l.p.at (map (width k) l.span)) ≡ first_too_wide c l
unfolding first_too_wide
too_wide_at {n} c l k e = ap (λ (z : ℤ). option_or (first_wide n (map (width z) l.span)) (first_heavy n l.p.at (map (width z) l.span))) e

pub too_wide : {n : ℕ} (c : Cert) (l : Lists n) (k : ℤ) (i : ℕ) → k ≡ reach_of c l → first_wide n (map (width k) l.span) ≡ Some i → Some i ≡ first_too_wide c l
too_wide {n} c l k i e h = sym (ap (λ (o : _). option_or o (first_heavy n l.p.at (map (width k) l.span))) h) ∙ too_wide_at c l k e

pub not_too_wide : {n : ℕ} (c : Cert) (l : Lists n) (k : ℤ) (ws : List ℤ) → k ≡ reach_of c l → first_wide n (map (width k) l.span) ≡ None → ws ≡ map (width k) l.span →
    first_heavy n l.p.at ws ≡ first_too_wide c l
not_too_wide {n} c l k ws e h w =
    ap (first_heavy n l.p.at) w ∙ sym (ap (λ (o : _). option_or o (first_heavy n l.p.at (map (width k) l.span))) h) ∙ too_wide_at c l k e

-- ---- where none is too wide
widths_narrow : {n : ℕ} (c : Cert) (l : Lists n) → first_too_wide c l ≡ None → (first_wide n (map (width (reach_of c l)) l.span) ≡ None) × (first_heavy n l.p.at (map (width (reach_of c l)) l.span) ≡ None)
unfolding first_too_wide
widths_narrow {n} c l h = option_or-none (first_wide n (map (width (reach_of c l)) l.span)) (first_heavy n l.p.at (map (width (reach_of c l)) l.span)) h

width_none : (n : ℤ) → width n (pos 0) ≡ pos 0
unfolding width
width_none n = ap (λ (z : ℤ). ceil_of z full_scale) (zero-*ℤ n)

-- past the end there are zeros
pub width_at : (n : ℤ) (xs : List ℤ) (i : ℕ) → entry (map (width n) xs) i ≡ width n (entry xs i)
width_at n [] i = sym (width_none n)
width_at n (x ∷ xs) zero = refl
width_at n (x ∷ xs) (suc i) = width_at n xs i

pub width_within : {n : ℕ} (c : Cert) (l : Lists n) → first_too_wide c l ≡ None → (i : ℕ) → i < n → width (reach_of c l) (entry l.span i) ≤ℤ pos (2 ^ 56)
unfolding first_wide
width_within {n} c l h i b =
    let ws = map (width (reach_of c l)) l.span in
    let none = none_below n (λ (k : ℕ). is_wide (entry ws k)) (widths_narrow c l h).0 i b in
    from_lt_false (pos (2 ^ 56)) (width (reach_of c l) (entry l.span i)) (ap is_wide (sym (width_at (reach_of c l) l.span i)) ∙ none)

no-some : {X : Type 0} (o : Option X) → is_some o ≡ false → o ≡ None
no-some None h = refl
no-some (Some x) h = absurd (cc)

pub part_within : {n : ℕ} (c : Cert) (l : Lists n) → first_too_wide c l ≡ None → let ws = map (width (reach_of c l)) l.span in (i j : ℕ) → i < n → j < n →
    (pos (unsigned_abs (entry (row l.p.at i) j)) *ℤ (entry ws i *ℤ entry ws j)) ≤ℤ pos (2 ^ 120)
unfolding first_heavy row_heavy
part_within {n} c l h i j b d =
    let ws = map (width (reach_of c l)) l.span in
    let heavy = none_below n (λ (k : ℕ). row_heavy n (row l.p.at k) ws k) (widths_narrow c l h).1 i b in
    let none = none_below n (λ (k : ℕ). is_heavy (entry (row l.p.at i) k) (entry ws i) (entry ws k)) (no-some _ heavy) j d in
    from_lt_false (pos (2 ^ 120)) _ none

pub never_wide : {P : Type 0} {i : ℕ} {o : Option ℕ} → Some i ≡ o → o ≡ None → P
never_wide e h = absurd (let f = e ∙ h in cc)
