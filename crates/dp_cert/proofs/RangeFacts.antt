-- What no key out of range means for each number.
use Rattle.std.proofs.Common.{◌≡◌, ◌≤◌, ◌^◌, ℕ, zero, suc, List, [], ◌∷◌, length, Bool, true, false, ◌&&◌, Option, Some, None, refl, subst, arith, ℤ, pos, neg_ℤ, ◌≤ℤ◌, get_or, unsigned_abs}
use Rattle.std.specs.Prelude.{int_le, nat_le, IfSome, All}
use Rattle.std.specs.List.{list_all}
use Rattle.std.proofs.lemmas.Int.{ints}
use Rattle.std.proofs.lemmas.Bool.{and_parts, leb-true}
use Rattle.std.proofs.lemmas.List.Elements.{All-nil, All-cons}
use Rattle.dp_fixed.specs.Scale.{full_scale}
use Rattle.dp_form.specs.Range.{IsWithin, IsSmallSquare}
use Rattle.dp_form.specs.declared.Square.{Square}
use Rattle.dp_plant.specs.Ranges.{IsShare, IsBiasLimit, IsObserverGains, IsLawGains}
use Rattle.dp_plant.specs.YawRanges.{IsGainBetween, IsYawGains}
use Rattle.dp_plant.specs.declared.cert.Cert.{Cert}
use Rattle.dp_plant.specs.declared.cert.Lists.{Lists}
use Rattle.dp_plant.specs.declared.cert.Parts.{Parts}
use Rattle.dp_plant.specs.declared.cert.Parts.TheVariants.{Three, Five}
use Rattle.dp_plant.specs.declared.gains.Gains.{Gains}
use Rattle.dp_plant.specs.declared.gains.YawGains.{YawGains}
use Rattle.dp_cert.specs.InRange.{IsUpTo, AreNumbers, AreLists, AreWaveSpans, AreParts, IsInRange}
use Rattle.dp_cert.specs.Ranges.{Row, unfit, first_unfit, are_within, are_shares, are_sizes, are_small, are_squares, are_filter, observer_rows, law_rows, yaw_rows, number_rows, form_rows, vertex_rows, output_rows, span_rows, wave_span_rows, list_out, part_out, first_out}

Fits : Row → Type 0
Fits row = row.1 ≡ true

unfit-none : (found : Option (List ℕ)) (row : Row) → unfit found row ≡ None → (found ≡ None) × (row.1 ≡ true)
unfit-none (Some name) row h = absurd (cc)
unfit-none None (name, true) h = (refl, refl)
unfit-none None (name, false) h = absurd (cc)

all_fit : (found : Option (List ℕ)) (rows : List Row) → first_unfit found rows ≡ None → (found ≡ None) × All (λ (row : Row). row.1 ≡ true) rows
all_fit found [] h = (h, All-nil (λ (row : Row). row.1 ≡ true))
all_fit found (row ∷ rows) h =
    let rest = all_fit (unfit found row) rows h in
    let here = unfit-none found row rest.0 in
    (here.0, All-cons (λ (r : Row). r.1 ≡ true) row rows here.1 rest.1)

pub le_from : (a b : ℤ) → int_le a b ≡ true → a ≤ℤ b
le_from a b h = grind (arith, ints)

pub both_from : (low high z : ℤ) → (int_le low z && int_le z high) ≡ true → (low ≤ℤ z) × (z ≤ℤ high)
both_from low high z h = let p = and_parts (int_le low z) (int_le z high) h in (le_from low z p.0, le_from z high p.1)

pub all_from : {X : Type 0} (p : X → Bool) (xs : List X) → list_all p xs ≡ true → All (λ (x : X). p x ≡ true) xs
all_from {X} p [] h = All-nil (λ (x : X). p x ≡ true)
all_from {X} p (x ∷ xs) h = let q = and_parts (p x) (list_all p xs) h in All-cons (λ (y : X). p y ≡ true) x xs q.0 (all_from p xs q.1)

-- the first, and any with 0 past the end
first_within : (low high z : ℤ) → are_within low high (z ∷ []) ≡ true → (low ≤ℤ z) × (z ≤ℤ high)
first_within low high z h = both_from low high z (and_parts (int_le low z && int_le z high) true h).0

place_within : (high : ℤ) (zs : List ℤ) (j : ℕ) → pos 0 ≤ℤ high → are_within (pos 0) high zs ≡ true → (pos 0 ≤ℤ get_or zs j (pos 0)) × (get_or zs j (pos 0) ≤ℤ high)
place_within high [] j k h = (omega (arith, ints), k)
place_within high (z ∷ zs) zero k h = both_from (pos 0) high z (and_parts (int_le (pos 0) z && int_le z high) (are_within (pos 0) high zs) h).0
place_within high (z ∷ zs) (suc j) k h = place_within high zs j k (and_parts (int_le (pos 0) z && int_le z high) (are_within (pos 0) high zs) h).1

small_within : (zs : List ℤ) → are_small zs ≡ true → All (IsWithin (2 ^ 40)) zs
small_within zs h = λ k d l. let p = both_from (neg_ℤ (pos (2 ^ 40))) (pos (2 ^ 40)) (get_or zs k d) (all_from (λ (z : ℤ). int_le (neg_ℤ (pos (2 ^ 40))) z && int_le z (pos (2 ^ 40))) zs h k d l) in record { low = p.0; high = p.1 }

matrix_within : (p : List (List ℤ)) → list_all are_small p ≡ true → All (All (IsWithin (2 ^ 40))) p
matrix_within p h = λ k d l. small_within (get_or p k d) (all_from are_small p h k d l)

squares_small : {n : ℕ} (qs : List (Square n)) → are_squares qs ≡ true → All IsSmallSquare qs
squares_small {n} qs h = λ k d l.
    let q = get_or qs k d in
    let p = and_parts (are_sizes (q.d ∷ [])) (are_small q.l) (all_from (λ (s : Square n). are_sizes (s.d ∷ []) && are_small s.l) qs h k d l) in
    let w = first_within (pos 0) (pos (2 ^ 40)) q.d p.0 in
    record { weight_low = w.0; weight_high = w.1; vector = small_within q.l p.1 }

share_from : (z : ℤ) → are_shares (z ∷ []) ≡ true → IsShare z
share_from z h = let w = first_within (pos 0) full_scale z h in record { low = w.0; high = w.1 }

share_at : (zs : List ℤ) (j : ℕ) → are_shares zs ≡ true → IsShare (get_or zs j (pos 0))
share_at zs j h = let w = place_within full_scale zs j (omega (arith, ints)) h in record { low = w.0; high = w.1 }

size_at : (zs : List ℤ) (j : ℕ) → are_sizes zs ≡ true → IsUpTo (pos (2 ^ 40)) (get_or zs j (pos 0))
size_at zs j h = let w = place_within (pos (2 ^ 40)) zs j (omega (arith, ints)) h in record { low = w.0; high = w.1 }

between_from : (low high z : ℤ) → are_within low high (z ∷ []) ≡ true → IsGainBetween low high z
between_from low high z h = let w = first_within low high z h in record { low = w.0; high = w.1 }

bias_at : (zs : List ℤ) (j : ℕ) → are_within (pos 0) (pos (2 ^ 31)) zs ≡ true → IsBiasLimit (get_or zs j (pos 0))
bias_at zs j h = let w = place_within (pos (2 ^ 31)) zs j (omega (arith, ints)) h in record { low = w.0; high = omega (arith, ints, w.0, w.1) }

upto_from : (high z : ℤ) → are_within (pos 0) high (z ∷ []) ≡ true → IsUpTo high z
upto_from high z h = let w = first_within (pos 0) high z h in record { low = w.0; high = w.1 }

-- a gain of the wave filter is within one of zero
between_at : (limit : ℤ) (zs : List ℤ) (j : ℕ) → pos 0 ≤ℤ limit → are_within (neg_ℤ limit) limit zs ≡ true → (neg_ℤ limit ≤ℤ get_or zs j (pos 0)) × (get_or zs j (pos 0) ≤ℤ limit)
between_at limit [] j k h = (omega (arith, ints, k), k)
between_at limit (z ∷ zs) zero k h = both_from (neg_ℤ limit) limit z (and_parts (int_le (neg_ℤ limit) z && int_le z limit) (are_within (neg_ℤ limit) limit zs) h).0
between_at limit (z ∷ zs) (suc j) k h = between_at limit zs j k (and_parts (int_le (neg_ℤ limit) z && int_le z limit) (are_within (neg_ℤ limit) limit zs) h).1

filter_at : (parts : Parts) (zs : List ℤ) (j : ℕ) → are_filter parts zs ≡ true → unsigned_abs (get_or zs j (pos 0)) ≤ 2 ^ 30
filter_at (Three l) zs j h = let w = place_within (pos 0) zs j (omega (arith, ints)) h in omega (arith, ints, w.0, w.1)
filter_at (Five l) zs j h = let w = between_at full_scale zs j (omega (arith, ints)) h in omega (arith, ints, w.0, w.1)

no_filter_at : (l : Lists 3) (zs : List ℤ) (j : ℕ) → are_filter (Three l) zs ≡ true → get_or zs j (pos 0) ≡ pos 0
no_filter_at l zs j h = let w = place_within (pos 0) zs j (omega (arith, ints)) h in omega (arith, ints, w.0, w.1)

dummy : Row
dummy = ([], true)

observer_facts : (g : Gains) (parts : Parts) → All (λ (row : Row). row.1 ≡ true) (observer_rows g) → All (λ (row : Row). row.1 ≡ true) (law_rows g parts) → IsObserverGains g
unfolding observer_rows law_rows
observer_facts g parts h k = record {
  k2 = share_from g.k2 (h 0 dummy (omega arith));
  k3 = share_from g.k3 (h 1 dummy (omega arith));
  k4 = share_from g.k4 (h 2 dummy (omega arith));
  leak = share_from g.leak (h 3 dummy (omega arith));
  damp = share_from g.damp (h 4 dummy (omega arith));
  wave_pp = filter_at parts g.wave 0 (k 3 dummy (omega arith));
  wave_pq = filter_at parts g.wave 1 (k 3 dummy (omega arith));
  wave_qp = filter_at parts g.wave 2 (k 3 dummy (omega arith));
  wave_qq = filter_at parts g.wave 3 (k 3 dummy (omega arith));
  k1_p = filter_at parts g.k1 0 (k 4 dummy (omega arith));
  k1_q = filter_at parts g.k1 1 (k 4 dummy (omega arith));
}

law_facts : (g : Gains) (parts : Parts) → All (λ (row : Row). row.1 ≡ true) (law_rows g parts) → IsLawGains g
unfolding law_rows
law_facts g parts h = record {
  kp_surge = share_at g.kp 0 (h 0 dummy (omega arith));
  kp_sway = share_at g.kp 1 (h 0 dummy (omega arith));
  kd_surge = share_at g.kd 0 (h 1 dummy (omega arith));
  kd_sway = share_at g.kd 1 (h 1 dummy (omega arith));
  bias_surge = bias_at g.bias 0 (h 2 dummy (omega arith));
  bias_sway = bias_at g.bias 1 (h 2 dummy (omega arith));
}

yaw_facts : (y : YawGains) → All (λ (row : Row). row.1 ≡ true) (yaw_rows y) → IsYawGains y
unfolding yaw_rows
yaw_facts y h = record {
  k2 = share_from y.k2 (h 0 dummy (omega arith));
  kp = share_from y.kp (h 1 dummy (omega arith));
  kd = share_from y.kd (h 2 dummy (omega arith));
  k3 = between_from _ _ y.k3 (h 3 dummy (omega arith));
  k4 = between_from _ _ y.k4 (h 4 dummy (omega arith));
  leak = between_from _ _ y.leak (h 5 dummy (omega arith));
  damp = between_from _ _ y.damp (h 6 dummy (omega arith));
  bias = between_from _ _ y.bias (h 7 dummy (omega arith));
}

number_facts : (c : Cert) → All (λ (row : Row). row.1 ≡ true) (number_rows c) → AreNumbers c
unfolding number_rows
number_facts c h = record {
  rho = upto_from _ c.rho (h 0 dummy (omega arith));
  b = upto_from _ c.b (h 1 dummy (omega arith));
  r = upto_from _ c.r (h 2 dummy (omega arith));
  demands = λ j. size_at c.g j (h 3 dummy (omega arith));
}

list_facts : {n : ℕ} (found : Option (List ℕ)) (l : Lists n) → list_out found l ≡ None → All (λ (row : Row). row.1 ≡ true) (span_rows l) → (found ≡ None) × AreLists l
unfolding list_out form_rows vertex_rows output_rows span_rows
list_facts found l h s =
    let o = all_fit _ (output_rows l) h in
    let v = all_fit _ (vertex_rows l) o.0 in
    let n = all_fit found (form_rows l) v.0 in (
      n.0,
      record {
        p = matrix_within l.p.at (n.1 0 dummy (omega arith));
        span = λ j. size_at l.span j (n.1 1 dummy (omega arith));
        form = squares_small l.form.list.items (n.1 2 dummy (omega arith));
        surge0 = squares_small _ (v.1 0 dummy (omega arith));
        surge1 = squares_small _ (v.1 1 dummy (omega arith));
        surge2 = squares_small _ (v.1 2 dummy (omega arith));
        sway0 = squares_small _ (v.1 3 dummy (omega arith));
        sway1 = squares_small _ (v.1 4 dummy (omega arith));
        sway2 = squares_small _ (v.1 5 dummy (omega arith));
        out_surge0 = squares_small _ (o.1 0 dummy (omega arith));
        out_surge1 = squares_small _ (o.1 1 dummy (omega arith));
        out_sway0 = squares_small _ (o.1 2 dummy (omega arith));
        out_sway1 = squares_small _ (o.1 3 dummy (omega arith));
        span0 = squares_small _ (s 0 dummy (omega arith));
        span1 = squares_small _ (s 1 dummy (omega arith));
        span2 = squares_small _ (s 2 dummy (omega arith));
      },
    )

wave_facts : (l : Lists 5) → All (λ (row : Row). row.1 ≡ true) (wave_span_rows l) → AreWaveSpans l
unfolding wave_span_rows
wave_facts l h = record { span3 = squares_small _ (h 0 dummy (omega arith)); span4 = squares_small _ (h 1 dummy (omega arith)) }

part_facts : (found : Option (List ℕ)) (parts : Parts) → part_out found parts ≡ None → (found ≡ None) × AreParts parts
part_facts found (Three l) h =
    let s = all_fit _ (span_rows l) h in
    list_facts found l s.0 s.1
part_facts found (Five l) h =
    let w = all_fit _ (wave_span_rows l) h in
    let s = all_fit _ (span_rows l) w.0 in
    let f = list_facts found l s.0 s.1 in
    (f.0, (f.1, wave_facts l w.1))

pub in_range : (g : Gains) (y : YawGains) (c : Cert) → first_out g y c ≡ None → IsInRange g y c
unfolding first_out
in_range g y c h =
    let p = part_facts _ c.parts h in
    let n = all_fit _ (number_rows c) p.0 in
    let w = all_fit _ (yaw_rows y) n.0 in
    let l = all_fit _ (law_rows g c.parts) w.0 in
    let o = all_fit _ (observer_rows g) l.0 in
    record {
      gains = record { observer = observer_facts g c.parts o.1 l.1; law = law_facts g c.parts l.1; yaw = yaw_facts y w.1 };
      numbers = number_facts c n.1;
      parts = p.1;
    }

-- ---- without a wave filter its gains are zeros
pub record HasNoWaveFilter (g : Gains) : Type 0 where
  pub wave : (j : ℕ) → get_or g.wave j (pos 0) ≡ pos 0
  pub k1 : (j : ℕ) → get_or g.k1 j (pos 0) ≡ pos 0

no_filter_facts : (g : Gains) (l : Lists 3) → All (λ (row : Row). row.1 ≡ true) (law_rows g (Three l)) → HasNoWaveFilter g
unfolding law_rows
no_filter_facts g l h = record { wave = λ j. no_filter_at l g.wave j (h 3 dummy (omega arith)); k1 = λ j. no_filter_at l g.k1 j (h 4 dummy (omega arith)) }

pub no_filter : (g : Gains) (y : YawGains) (c : Cert) (l : Lists 3) → c.parts ≡ Three l → first_out g y c ≡ None → HasNoWaveFilter g
unfolding first_out
no_filter g y c l e h =
    let p = part_facts _ c.parts h in
    let n = all_fit _ (number_rows c) p.0 in
    let w = all_fit _ (yaw_rows y) n.0 in
    let f = all_fit _ (law_rows g c.parts) w.0 in
    no_filter_facts g l (subst (λ (parts : Parts). All (λ (row : Row). row.1 ≡ true) (law_rows g parts)) e f.1)

-- ---- the names are short
abbrev IsShort : List ℕ → Type 0
IsShort name = length name ≤ 48

abbrev short_row : Row → Bool
short_row row = nat_le (length row.0) 48

unfit-short : (found : Option (List ℕ)) (row : Row) → IfSome found (λ n. length n ≤ 48) → short_row row ≡ true → IfSome (unfit found row) (λ n. length n ≤ 48)
unfit-short (Some name) row h k = h
unfit-short None (name, true) h k = tt
unfit-short None (name, false) h k = leb-true (length name) 48 k

all_short : (found : Option (List ℕ)) (rows : List Row) → IfSome found (λ n. length n ≤ 48) → list_all short_row rows ≡ true → IfSome (first_unfit found rows) (λ n. length n ≤ 48)
all_short found [] h k = h
all_short found (row ∷ rows) h k =
    let p = and_parts (short_row row) (list_all short_row rows) k in
    all_short (unfit found row) rows (unfit-short found row h p.0) p.1

list_short : {n : ℕ} (found : Option (List ℕ)) (l : Lists n) → IfSome found (λ n. length n ≤ 48) → IfSome (list_out found l) (λ n. length n ≤ 48)
unfolding list_out form_rows vertex_rows output_rows
list_short found l h = all_short _ (output_rows l) (all_short _ (vertex_rows l) (all_short found (form_rows l) h refl) refl) refl

part_short : (found : Option (List ℕ)) (parts : Parts) → IfSome found (λ n. length n ≤ 48) → IfSome (part_out found parts) (λ n. length n ≤ 48)
unfolding span_rows wave_span_rows
part_short found (Three l) h = all_short _ (span_rows l) (list_short found l h) refl
part_short found (Five l) h = all_short _ (wave_span_rows l) (all_short _ (span_rows l) (list_short found l h) refl) refl

pub first_out-short : (g : Gains) (y : YawGains) (c : Cert) → IfSome (first_out g y c) (λ n. length n ≤ 48)
unfolding first_out observer_rows law_rows yaw_rows number_rows
first_out-short g y c =
    part_short _ c.parts (all_short _ (number_rows c) (all_short _ (yaw_rows y) (all_short _ (law_rows g c.parts) (all_short None (observer_rows g) tt refl) refl) refl) refl)
