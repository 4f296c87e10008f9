-- Gains whose certificate is valid are accepted, where all of the certificate's lists are whole.
use Rattle.std.proofs.Common.{◌≡◌, ◌≤◌, ℕ, List, [], ◌∷◌, length, Bool, true, false, Option, Some, None, refl, arith, ℤ, pos, ◌*ℤ◌, ◌≤ℤ◌, ◌<ℤ◌, All}
use Rattle.std.specs.Prelude.{int_le, int_lt}
use Rattle.std.specs.Option.{option_map, option_or}
use Rattle.std.proofs.lemmas.Int.{ints}
use Rattle.dp_fixed.specs.Scale.{full_scale}
use Rattle.dp_form.specs.Form.{form, HasSize, IsNonNegative, IsSymmetric}
use Rattle.dp_form.specs.Range.{IsSmallSquare}
use Rattle.dp_form.specs.Residual.{residual}
use Rattle.dp_form.specs.Shown.{shortfall}
use Rattle.dp_form.specs.declared.NotShown.{NotShown}
use Rattle.dp_form.specs.declared.Square.{Square}
use Rattle.dp_form.proofs.Shown.{shown_nonneg}
use Rattle.dp_plant.specs.PlantFile.{parts_view}
use Rattle.dp_plant.specs.Vectors.{entry}
use Rattle.dp_plant.specs.declared.cert.Cert.{Cert}
use Rattle.dp_plant.specs.declared.cert.Lists.{Lists}
use Rattle.dp_plant.specs.declared.cert.Parts.{Parts}
use Rattle.dp_plant.specs.declared.cert.Parts.TheVariants.{Three, Five}
use Rattle.dp_plant.specs.declared.gains.Gains.{Gains}
use Rattle.dp_plant.specs.declared.gains.YawGains.{YawGains}
use Rattle.dp_cert.specs.declared.faults.CertFault.{CertFault}
use Rattle.dp_cert.specs.declared.faults.CertFault.TheVariants.{Rate, InputShort, RoundShort}
use Rattle.dp_cert.specs.declared.loops.AxisLoop.{AxisLoop}
use Rattle.dp_cert.specs.declared.loops.Loop.{Loop}
use Rattle.dp_cert.specs.First.{first_below}
use Rattle.dp_cert.specs.InRange.{AreLists, AreParts, AreWaveSpans}
use Rattle.dp_cert.specs.Loop.{axis_three, loop_three}
use Rattle.dp_cert.specs.WaveLoop.{axis_five, loop_five}
use Rattle.dp_cert.specs.Matrices.{absolute_rows, contraction_matrix, output_matrix, unit}
use Rattle.dp_cert.specs.Ranges.{squares_at, squares_of}
use Rattle.dp_cert.specs.Sound.{AreBounded, BoundsCoordinate, BoundsOutput, IsSound, IsSoundLoop, Shrinks}
use Rattle.dp_cert.specs.Valid.{IsValid, first_fault, first_of, first_output, first_shape, first_short, first_span, first_vertex, first_wave_span, form_condition, input_condition, list_fault, output_condition, part_fault, rate_condition, round_condition, short_row, shown, span_condition, unless, vertex_condition, width_condition}
use Rattle.dp_cert.proofs.FirstLaws.{none_below}
use Rattle.dp_cert.proofs.MatrixForms.{FitsIn, contraction_size, contraction_symmetric, full_fits, output_size, output_symmetric}
use Rattle.dp_cert.proofs.RangeFacts.{in_range, le_from}
use Rattle.dp_cert.proofs.SoundFacts.{five_bounded, sound_five, sound_three, three_bounded}
use Rattle.dp_cert.proofs.Tables.{all_three, all_five}
use Rattle.dp_cert.proofs.ValidFacts.{option_or-none}
use Rattle.dp_accept.proofs.FileSizes.{AreWhole, HasWholeLists, HasWholeParts, lists_whole}

-- ---- no condition of a list fails

abbrev pub AreNone : List (Option CertFault) → Type 0
AreNone [] = Unit {0}
AreNone (o ∷ os) = (o ≡ None) × AreNone os

none_fails : (found : Option CertFault) (conditions : List (Option CertFault)) → first_of found conditions ≡ None → (found ≡ None) × AreNone conditions
none_fails found [] h = (h, tt)
none_fails found (o ∷ os) h =
    let later = none_fails (option_or found o) os h in
    let both = option_or-none found o later.0 in
    (both.0, (both.1, later.1))

pub no_fault : {X Y : Type 0} (f : X → Y) (o : Option X) → option_map f o ≡ None → o ≡ None
no_fault f None h = refl
no_fault f (Some x) h = absurd (cc)

holds : (b : Bool) (fault : CertFault) → unless b fault ≡ None → b ≡ true
holds true fault h = refl
holds false fault h = absurd (cc)

less_from : (x y : ℤ) → int_lt x y ≡ true → x <ℤ y
less_from x y h = grind (arith, ints)

not_short : (z : ℤ) → int_lt (pos 0) z ≡ false → z ≤ℤ pos 0
not_short z h = grind (arith, ints)

-- ---- a matrix that squares show

-- a list of squares whose vectors are whole and whose numbers are in range
record AreFit {n : ℕ} (qs : List (Square n)) : Type 0 where
  whole : AreWhole qs
  small : All IsSmallSquare qs

is_nonneg : {n : ℕ} (p : List (List ℤ)) (qs : List (Square n)) (fault : NotShown → CertFault) → HasSize n p → IsSymmetric n p → AreFit qs → shown p qs fault ≡ None → IsNonNegative p
unfolding first_short
is_nonneg {n} p qs fault size symmetric fit h =
    let none = no_fault (short_row (residual p qs)) (first_below n (λ i. int_lt (pos 0) (shortfall (residual p qs) i))) (no_fault fault (first_short p qs) h) in
    shown_nonneg p qs size fit.whole (λ k d lt. (fit.small k d lt).weight_low) symmetric
    (λ i lt. not_short (shortfall (residual p qs) i) (none_below n (λ j. int_lt (pos 0) (shortfall (residual p qs) j)) none i lt))

module _ {n : ℕ} (c : Cert) (l : Lists n) (size : HasSize n l.p.at) where
  shrinks : (a : List (List ℤ)) (axis v : ℕ) → FitsIn n a → AreFit (squares_at l.vertex axis v) → vertex_condition c l a axis v ≡ None → Shrinks c l a
  unfolding vertex_condition
  shrinks a axis v fits fit h = record {
    nonneg = is_nonneg (contraction_matrix c.rho l.p.at a) (squares_at l.vertex axis v) _ (contraction_size n c.rho l.p.at a size fits)
        (contraction_symmetric n c.rho l.p.at a size l.symmetric) fit h;
  }

  output_is : (g : List ℤ) (k : ℤ) (qs : List (Square n)) (fault : NotShown → CertFault) → length g ≤ n → AreFit qs → shown (output_matrix k l.p.at g) qs fault ≡ None
      → IsNonNegative (output_matrix k l.p.at g)
  output_is g k qs fault fits fit h = is_nonneg (output_matrix k l.p.at g) qs fault (output_size n k l.p.at g size fits) (output_symmetric n k l.p.at g size l.symmetric) fit h

  bounds_output : (g : List ℤ) (axis which : ℕ) → length g ≤ n → AreFit (squares_at l.output axis which) → output_condition c l g axis which ≡ None → BoundsOutput c l g axis
  unfolding output_condition
  bounds_output g axis which fits fit h = record { nonneg = output_is g (entry c.g axis) (squares_at l.output axis which) _ fits fit h }

  bounds_coordinate : (i : ℕ) → length (unit n i) ≤ n → AreFit (squares_of l.spans i) → span_condition l i ≡ None → BoundsCoordinate l i
  unfolding span_condition
  bounds_coordinate i fits fit h = record { nonneg = output_is (unit n i) (entry l.span i) (squares_of l.spans i) _ fits fit h }

-- ---- a loop

record IsAxisWhole {n : ℕ} (a : AxisLoop n) : Type 0 where
  saturated : FitsIn n a.saturated
  clamped : FitsIn n a.clamped
  free : FitsIn n a.free
  output : length a.output ≤ n
  clamped_output : length a.clamped_output ≤ n

record IsLoopWhole {n : ℕ} (m : Loop n) : Type 0 where
  surge : IsAxisWhole m.surge
  sway : IsAxisWhole m.sway

rate_is : (c : Cert) → rate_condition c ≡ None → c.rho <ℤ full_scale
unfolding rate_condition
rate_is c h = less_from c.rho full_scale (holds (int_lt c.rho full_scale) Rate h)

form_is : {n : ℕ} (l : Lists n) → HasSize n l.p.at → AreFit l.form.list.items → form_condition l ≡ None → IsNonNegative l.p.at
unfolding form_condition
form_is {n} l size fit h = is_nonneg l.p.at l.form.list.items _ size l.symmetric fit h

input_is : {n : ℕ} (c : Cert) (l : Lists n) (m : Loop n) → input_condition c l m ≡ None → (pos 2 *ℤ form l.p.at m.correction) ≤ℤ (c.b *ℤ c.b)
unfolding input_condition
input_is c l m h = le_from (pos 2 *ℤ form l.p.at m.correction) (c.b *ℤ c.b) (holds (int_le (pos 2 *ℤ form l.p.at m.correction) (c.b *ℤ c.b)) InputShort h)

round_is : {n : ℕ} (c : Cert) (l : Lists n) (m : Loop n) → round_condition c l m ≡ None → (pos 2 *ℤ form (absolute_rows l.p.at) m.rounding) ≤ℤ (c.r *ℤ c.r)
unfolding round_condition
round_is c l m h =
    le_from (pos 2 *ℤ form (absolute_rows l.p.at) m.rounding) (c.r *ℤ c.r) (holds (int_le (pos 2 *ℤ form (absolute_rows l.p.at) m.rounding) (c.r *ℤ c.r)) RoundShort h)

module _ {n : ℕ} (c : Cert) (l : Lists n) (m : Loop n) (whole : HasWholeLists l) (small : AreLists l) (loop : IsLoopWhole m) where
  record AllShrink : Type 0 where
    surge_saturated : Shrinks c l m.surge.saturated
    surge_clamped : Shrinks c l m.surge.clamped
    surge_free : Shrinks c l m.surge.free
    sway_saturated : Shrinks c l m.sway.saturated
    sway_clamped : Shrinks c l m.sway.clamped
    sway_free : Shrinks c l m.sway.free

  record AllBound : Type 0 where
    surge_output : BoundsOutput c l m.surge.output 0
    surge_clamped_output : BoundsOutput c l m.surge.clamped_output 0
    sway_output : BoundsOutput c l m.sway.output 1
    sway_clamped_output : BoundsOutput c l m.sway.clamped_output 1

  all_shrink : first_vertex c l m ≡ None → AllShrink
  unfolding first_vertex
  all_shrink h =
      let none = none_fails (vertex_condition c l m.surge.saturated 0 0) (
      vertex_condition c l m.surge.clamped 0 1 ∷ vertex_condition c l m.surge.free 0 2 ∷ vertex_condition c l m.sway.saturated 1 0
      ∷ vertex_condition c l m.sway.clamped 1 1 ∷ vertex_condition c l m.sway.free 1 2 ∷ []) h in
      record {
        surge_saturated = shrinks c l whole.p m.surge.saturated 0 0 loop.surge.saturated (record { whole = whole.vertex 0 0; small = small.surge0 }) none.0;
        surge_clamped = shrinks c l whole.p m.surge.clamped 0 1 loop.surge.clamped (record { whole = whole.vertex 0 1; small = small.surge1 }) none.1.0;
        surge_free = shrinks c l whole.p m.surge.free 0 2 loop.surge.free (record { whole = whole.vertex 0 2; small = small.surge2 }) none.1.1.0;
        sway_saturated = shrinks c l whole.p m.sway.saturated 1 0 loop.sway.saturated (record { whole = whole.vertex 1 0; small = small.sway0 }) none.1.1.1.0;
        sway_clamped = shrinks c l whole.p m.sway.clamped 1 1 loop.sway.clamped (record { whole = whole.vertex 1 1; small = small.sway1 }) none.1.1.1.1.0;
        sway_free = shrinks c l whole.p m.sway.free 1 2 loop.sway.free (record { whole = whole.vertex 1 2; small = small.sway2 }) none.1.1.1.1.1.0;
      }

  all_bound : first_output c l m ≡ None → AllBound
  unfolding first_output
  all_bound h =
      let none = none_fails (output_condition c l m.surge.output 0 0) (
      output_condition c l m.surge.clamped_output 0 1 ∷ output_condition c l m.sway.output 1 0 ∷ output_condition c l m.sway.clamped_output 1 1 ∷ []) h in
      record {
        surge_output = bounds_output c l whole.p m.surge.output 0 0 loop.surge.output (record { whole = whole.output 0 0; small = small.out_surge0 }) none.0;
        surge_clamped_output = bounds_output c l whole.p m.surge.clamped_output 0 1 loop.surge.clamped_output (record { whole = whole.output 0 1; small = small.out_surge1 }) none.1.0;
        sway_output = bounds_output c l whole.p m.sway.output 1 0 loop.sway.output (record { whole = whole.output 1 0; small = small.out_sway0 }) none.1.1.0;
        sway_clamped_output = bounds_output c l whole.p m.sway.clamped_output 1 1 loop.sway.clamped_output (record { whole = whole.output 1 1; small = small.out_sway1 }) none.1.1.1.0;
      }

  sound_loop : (spans : Option CertFault) → list_fault c l m spans ≡ None → IsSoundLoop c l m × (spans ≡ None)
  unfolding list_fault first_shape
  sound_loop spans h =
      let none = none_fails (rate_condition c) (
      form_condition l ∷ first_vertex c l m ∷ input_condition c l m ∷ round_condition c l m ∷ first_output c l m ∷ spans ∷ []) (option_or-none (first_shape c l m spans) (width_condition c l) h).0 in
      let shrink = all_shrink none.1.1.0 in
      let bound = all_bound none.1.1.1.1.1.0 in (
        record {
          rate = rate_is c none.0;
          shape = form_is l whole.p (record { whole = whole.form; small = small.form }) none.1.0;
          input = input_is c l m none.1.1.1.0;
          rounding = round_is c l m none.1.1.1.1.0;
          surge = record {
            saturated = shrink.surge_saturated;
            clamped = shrink.surge_clamped;
            free = shrink.surge_free;
            output = bound.surge_output;
            clamped_output = bound.surge_clamped_output;
          };
          sway = record {
            saturated = shrink.sway_saturated;
            clamped = shrink.sway_clamped;
            free = shrink.sway_free;
            output = bound.sway_output;
            clamped_output = bound.sway_clamped_output;
          };
        },
        none.1.1.1.1.1.1.0,
      )

-- ---- of three states

three_fits : (a b c : List ℤ) → length a ≡ 3 → length b ≡ 3 → length c ≡ 3 → FitsIn 3 (a ∷ b ∷ c ∷ [])
three_fits a b c x y z = full_fits 3 (a ∷ b ∷ c ∷ []) (record { rows = refl; columns = all_three (λ (r : List ℤ). length r ≡ 3) a b c x y z })

axis_is_three : (g : Gains) (axis : ℕ) → IsAxisWhole (axis_three g axis)
axis_is_three g axis = record {
  saturated = three_fits _ _ _ refl refl refl;
  clamped = three_fits _ _ _ refl refl refl;
  free = three_fits _ _ _ refl refl refl;
  output = omega arith;
  clamped_output = omega arith;
}

loop_is_three : (g : Gains) → IsLoopWhole (loop_three g)
unfolding loop_three
loop_is_three g = record { surge = axis_is_three g 0; sway = axis_is_three g 1 }

spans_of_three : (c : Cert) (l : Lists 3) → HasWholeLists l → AreLists l → first_span l ≡ None → AreBounded l
unfolding first_span
spans_of_three c l whole small h =
    let none = none_fails (span_condition l 0) (span_condition l 1 ∷ span_condition l 2 ∷ []) h in
    three_bounded l
    (bounds_coordinate c l whole.p 0 (omega arith) (record { whole = whole.spans 0; small = small.span0 }) none.0)
    (bounds_coordinate c l whole.p 1 (omega arith) (record { whole = whole.spans 1; small = small.span1 }) none.1.0)
    (bounds_coordinate c l whole.p 2 (omega arith) (record { whole = whole.spans 2; small = small.span2 }) none.1.1.0)

-- ---- and of five

five_fits : (a b c d e : List ℤ) → length a ≡ 5 → length b ≡ 5 → length c ≡ 5 → length d ≡ 5 → length e ≡ 5 → FitsIn 5 (a ∷ b ∷ c ∷ d ∷ e ∷ [])
five_fits a b c d e x y z u v = full_fits 5 (a ∷ b ∷ c ∷ d ∷ e ∷ []) (record { rows = refl; columns = all_five (λ (r : List ℤ). length r ≡ 5) a b c d e x y z u v })

axis_is_five : (g : Gains) (axis : ℕ) → IsAxisWhole (axis_five g axis)
axis_is_five g axis = record {
  saturated = five_fits _ _ _ _ _ refl refl refl refl refl;
  clamped = five_fits _ _ _ _ _ refl refl refl refl refl;
  free = five_fits _ _ _ _ _ refl refl refl refl refl;
  output = omega arith;
  clamped_output = omega arith;
}

loop_is_five : (g : Gains) → IsLoopWhole (loop_five g)
unfolding loop_five
loop_is_five g = record { surge = axis_is_five g 0; sway = axis_is_five g 1 }

spans_of_five : (c : Cert) (l : Lists 5) → HasWholeLists l → AreLists l → AreWaveSpans l → first_wave_span l ≡ None → AreBounded l
unfolding first_span first_wave_span
spans_of_five c l whole small wave h =
    let later = none_fails (first_span l) (span_condition l 3 ∷ span_condition l 4 ∷ []) h in
    let none = none_fails (span_condition l 0) (span_condition l 1 ∷ span_condition l 2 ∷ []) later.0 in
    five_bounded l
    (bounds_coordinate c l whole.p 0 (omega arith) (record { whole = whole.spans 0; small = small.span0 }) none.0)
    (bounds_coordinate c l whole.p 1 (omega arith) (record { whole = whole.spans 1; small = small.span1 }) none.1.0)
    (bounds_coordinate c l whole.p 2 (omega arith) (record { whole = whole.spans 2; small = small.span2 }) none.1.1.0)
    (bounds_coordinate c l whole.p 3 (omega arith) (record { whole = whole.spans 3; small = wave.span3 }) later.1.0)
    (bounds_coordinate c l whole.p 4 (omega arith) (record { whole = whole.spans 4; small = wave.span4 }) later.1.1.0)

-- ---- of either

sound_by : (g : Gains) (c : Cert) (parts : Parts) → c.parts ≡ parts → HasWholeParts (parts_view parts) → AreParts parts → part_fault g c parts ≡ None → IsSound g c
sound_by g c (Three l) is whole small h =
    let lists = lists_whole l whole in
    let loop = sound_loop c l (loop_three g) lists small (loop_is_three g) (first_span l) h in
    sound_three g c l is loop.0 (spans_of_three c l lists small loop.1)
sound_by g c (Five l) is whole small h =
    let lists = lists_whole l whole in
    let loop = sound_loop c l (loop_five g) lists small.0 (loop_is_five g) (first_wave_span l) h in
    sound_five g c l is loop.0 (spans_of_five c l lists small.0 small.1 loop.1)

pub valid_sound : (g : Gains) (y : YawGains) (c : Cert) → HasWholeParts (parts_view c.parts) → IsValid g y c → IsSound g c
unfolding first_fault
valid_sound g y c whole v = sound_by g c c.parts refl whole (in_range g y c v.in_range).parts v.no_fault
