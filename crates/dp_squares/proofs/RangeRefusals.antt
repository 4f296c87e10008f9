-- No condition behind the ranges is refused as a range.
use Rattle.std.proofs.Common.{◌≡◌, ℕ, ℤ, List, [], ◌∷◌, Bool, true, false, Option, Some, None, refl, ap, ◌∙◌}
use Rattle.std.specs.Option.{option_map, option_or}
use Rattle.dp_form.specs.declared.NotShown.{NotShown}
use Rattle.dp_plant.specs.declared.cert.Cert.{Cert}
use Rattle.dp_plant.specs.declared.cert.Lists.{Lists}
use Rattle.dp_plant.specs.declared.cert.Parts.{Parts}
use Rattle.dp_plant.specs.declared.cert.Parts.TheVariants.{Three, Five}
use Rattle.dp_plant.specs.declared.gains.Gains.{Gains}
use Rattle.dp_cert.specs.declared.faults.CertFault.{CertFault}
use Rattle.dp_cert.specs.declared.faults.CertFault.TheVariants.{Range, Rate, FormNotShown, VertexNotShown, InputShort, RoundShort, OutputNotShown, SpanNotShown, TooWide}
use Rattle.dp_cert.specs.declared.loops.Loop.{Loop}
use Rattle.dp_cert.specs.Loop.{loop_three}
use Rattle.dp_cert.specs.WaveLoop.{loop_five}
use Rattle.dp_cert.specs.Valid.{IsRefusal, first_fault, first_of, first_output, first_shape, first_span, first_vertex, first_wave_span, form_condition, input_condition, list_fault, output_condition, part_fault, rate_condition, round_condition, span_condition, unless, vertex_condition, width_condition}
use Rattle.dp_squares.specs.Ranges.{range_of}

-- a condition whose fault, if there is one, names no range
abbrev pub NamesNone : Option CertFault → Type 0
NamesNone None = Unit {0}
NamesNone (Some fault) = range_of fault ≡ None

abbrev pub EachNamesNone : List (Option CertFault) → Type 0
EachNamesNone [] = Unit {0}
EachNamesNone (o ∷ os) = NamesNone o × EachNamesNone os

or_none : (a b : Option CertFault) → NamesNone a → NamesNone b → NamesNone (option_or a b)
or_none None b h k = k
or_none (Some fault) b h k = h

first_none : (found : Option CertFault) (os : List (Option CertFault)) → NamesNone found → EachNamesNone os → NamesNone (first_of found os)
first_none found [] h k = h
first_none found (o ∷ os) h k = first_none (option_or found o) os (or_none found o h k.0) k.1

mapped_none : {X : Type 0} (f : X → CertFault) (o : Option X) → ((x : X) → range_of (f x) ≡ None) → NamesNone (option_map f o)
mapped_none f None h = tt
mapped_none f (Some x) h = h x

unless_none : (holds : Bool) (fault : CertFault) → range_of fault ≡ None → NamesNone (unless holds fault)
unless_none true fault h = tt
unless_none false fault h = h

-- ---- each condition
vertex_none : {n : ℕ} (c : Cert) (l : Lists n) (a : List (List ℤ)) (axis v : ℕ) → NamesNone (vertex_condition c l a axis v)
unfolding vertex_condition
vertex_none c l a axis v = mapped_none (λ (s : NotShown). VertexNotShown axis v s.row s.short) _ (λ s. refl)

output_none : {n : ℕ} (c : Cert) (l : Lists n) (followed : List ℤ) (axis w : ℕ) → NamesNone (output_condition c l followed axis w)
unfolding output_condition
output_none c l followed axis w = mapped_none (λ (s : NotShown). OutputNotShown axis w s.row s.short) _ (λ s. refl)

span_none : {n : ℕ} (l : Lists n) (i : ℕ) → NamesNone (span_condition l i)
unfolding span_condition
span_none l i = mapped_none (λ (s : NotShown). SpanNotShown i s.row s.short) _ (λ s. refl)

vertices_none : {n : ℕ} (c : Cert) (l : Lists n) (m : Loop n) → NamesNone (first_vertex c l m)
unfolding first_vertex
vertices_none c l m = first_none (vertex_condition c l m.surge.saturated 0 0)
    (vertex_condition c l m.surge.clamped 0 1 ∷ vertex_condition c l m.surge.free 0 2 ∷ vertex_condition c l m.sway.saturated 1 0 ∷ vertex_condition c l m.sway.clamped 1 1 ∷ vertex_condition c l m.sway.free 1 2 ∷ [])
    (vertex_none c l m.surge.saturated 0 0) (vertex_none c l m.surge.clamped 0 1, (vertex_none c l m.surge.free 0 2, (vertex_none c l m.sway.saturated 1 0, (vertex_none c l m.sway.clamped 1 1, (vertex_none c l m.sway.free 1 2, tt)))))

outputs_none : {n : ℕ} (c : Cert) (l : Lists n) (m : Loop n) → NamesNone (first_output c l m)
unfolding first_output
outputs_none c l m = first_none (output_condition c l m.surge.output 0 0)
    (output_condition c l m.surge.clamped_output 0 1 ∷ output_condition c l m.sway.output 1 0 ∷ output_condition c l m.sway.clamped_output 1 1 ∷ [])
    (output_none c l m.surge.output 0 0) (output_none c l m.surge.clamped_output 0 1, (output_none c l m.sway.output 1 0, (output_none c l m.sway.clamped_output 1 1, tt)))

spans_none : {n : ℕ} (l : Lists n) → NamesNone (first_span l)
unfolding first_span
spans_none l = first_none (span_condition l 0) (span_condition l 1 ∷ span_condition l 2 ∷ []) (span_none l 0) (span_none l 1, (span_none l 2, tt))

wave_spans_none : (l : Lists 5) → NamesNone (first_wave_span l)
unfolding first_wave_span
wave_spans_none l = first_none (first_span l) (span_condition l 3 ∷ span_condition l 4 ∷ []) (spans_none l) (span_none l 3, (span_none l 4, tt))

rate_none : (c : Cert) → NamesNone (rate_condition c)
unfolding rate_condition
rate_none c = unless_none _ Rate refl

form_none : {n : ℕ} (l : Lists n) → NamesNone (form_condition l)
unfolding form_condition
form_none l = mapped_none (λ (s : NotShown). FormNotShown s.row s.short) _ (λ s. refl)

input_none : {n : ℕ} (c : Cert) (l : Lists n) (m : Loop n) → NamesNone (input_condition c l m)
unfolding input_condition
input_none c l m = unless_none _ InputShort refl

round_none : {n : ℕ} (c : Cert) (l : Lists n) (m : Loop n) → NamesNone (round_condition c l m)
unfolding round_condition
round_none c l m = unless_none _ RoundShort refl

width_none : {n : ℕ} (c : Cert) (l : Lists n) → NamesNone (width_condition c l)
unfolding width_condition
width_none c l = mapped_none TooWide _ (λ i. refl)

list_none : {n : ℕ} (c : Cert) (l : Lists n) (m : Loop n) (spans : Option CertFault) → NamesNone spans → NamesNone (list_fault c l m spans)
unfolding list_fault first_shape
list_none c l m spans h =
    or_none (first_of (rate_condition c) (form_condition l ∷ first_vertex c l m ∷ input_condition c l m ∷ round_condition c l m ∷ first_output c l m ∷ spans ∷ [])) (width_condition c l)
    (first_none (rate_condition c) (form_condition l ∷ first_vertex c l m ∷ input_condition c l m ∷ round_condition c l m ∷ first_output c l m ∷ spans ∷ []) (rate_none c) (form_none l, (vertices_none c l m, (input_none c l m, (round_none c l m, (outputs_none c l m, (h, tt))))))) (width_none c l)

part_none : (g : Gains) (c : Cert) (parts : Parts) → NamesNone (part_fault g c parts)
part_none g c (Three l) = list_none c l (loop_three g) (first_span l) (spans_none l)
part_none g c (Five l) = list_none c l (loop_five g) (first_wave_span l) (wave_spans_none l)

first_fault_none : (g : Gains) (c : Cert) → NamesNone (first_fault g c)
unfolding first_fault
first_fault_none g c = part_none g c c.parts

-- ---- what a refusal names is the first key out of range
names : (first : Option (List ℕ)) (condition : Option CertFault) (fault : CertFault) → NamesNone condition → IsRefusal first condition fault → range_of fault ≡ first
names (Some name) condition (Range key) h r = ap Some r
names (Some name) condition Rate h r = absurd r
names (Some name) condition (FormNotShown row short) h r = absurd r
names (Some name) condition (VertexNotShown axis v row short) h r = absurd r
names (Some name) condition InputShort h r = absurd r
names (Some name) condition RoundShort h r = absurd r
names (Some name) condition (OutputNotShown axis w row short) h r = absurd r
names (Some name) condition (SpanNotShown i row short) h r = absurd r
names (Some name) condition (TooWide i) h r = absurd r
names None (Some condition) fault h r = ap range_of r ∙ h
names None None fault h r = absurd r

pub refusal_names : (g : Gains) (c : Cert) (first : Option (List ℕ)) (fault : CertFault) → IsRefusal first (first_fault g c) fault → range_of fault ≡ first
refusal_names g c first fault r = names first (first_fault g c) fault (first_fault_none g c) r
