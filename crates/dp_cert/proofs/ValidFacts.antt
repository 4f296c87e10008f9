-- What a valid certificate says.
use Rattle.std.proofs.Common.{◌≡◌, ℕ, List, [], ◌∷◌, Bool, true, false, Option, Some, None, refl, arith, ℤ, ◌<ℤ◌, if◌then◌else◌}
use Rattle.std.specs.Prelude.{int_lt}
use Rattle.std.specs.Option.{option_map, option_or}
use Rattle.std.proofs.lemmas.Int.{ints}
use Rattle.dp_fixed.specs.Scale.{full_scale}
use Rattle.dp_plant.specs.declared.cert.Cert.{Cert}
use Rattle.dp_plant.specs.declared.cert.Lists.{Lists}
use Rattle.dp_plant.specs.declared.cert.Parts.{Parts}
use Rattle.dp_plant.specs.declared.cert.Parts.TheVariants.{Three, Five}
use Rattle.dp_plant.specs.declared.gains.Gains.{Gains}
use Rattle.dp_plant.specs.declared.gains.YawGains.{YawGains}
use Rattle.dp_cert.specs.declared.faults.CertFault.{CertFault}
use Rattle.dp_cert.specs.declared.faults.CertFault.TheVariants.{Rate, TooWide}
use Rattle.dp_cert.specs.declared.loops.Loop.{Loop}
use Rattle.dp_cert.specs.InRange.{AreNumbers}
use Rattle.dp_cert.specs.Loop.{loop_three}
use Rattle.dp_cert.specs.WaveLoop.{loop_five}
use Rattle.dp_cert.specs.Valid.{IsValid, first_fault, part_fault, list_fault, first_shape, first_of, rate_condition, form_condition, first_vertex, input_condition, round_condition, first_output, first_span, first_wave_span, width_condition}
use Rattle.dp_cert.specs.Width.{first_too_wide}
use Rattle.dp_cert.proofs.RangeFacts.{in_range}

pub option_or-none : {X : Type 0} (a b : Option X) → option_or a b ≡ None → (a ≡ None) × (b ≡ None)
option_or-none None b h = (refl, h)
option_or-none (Some x) b h = absurd (cc)

first_of-none : (found : Option CertFault) (conditions : List (Option CertFault)) → first_of found conditions ≡ None → found ≡ None
first_of-none found [] h = h
first_of-none found (o ∷ os) h = (option_or-none found o (first_of-none (option_or found o) os h)).0

test_of : (b : Bool) → (if b then None else Some Rate) ≡ None → b ≡ true
test_of true h = refl
test_of false h = absurd (cc)

less_from : (x y : ℤ) → int_lt x y ≡ true → x <ℤ y
less_from x y h = grind (arith, ints)

list_rate : {n : ℕ} (c : Cert) (l : Lists n) (m : Loop n) (spans : Option CertFault) → list_fault c l m spans ≡ None → c.rho <ℤ full_scale
unfolding list_fault first_shape rate_condition
list_rate c l m spans h =
    let rest = form_condition l ∷ first_vertex c l m ∷ input_condition c l m ∷ round_condition c l m ∷ first_output c l m ∷ spans ∷ [] in
    let shape = (option_or-none (first_of (rate_condition c) rest) (width_condition c l) h).0 in
    less_from c.rho full_scale (test_of (int_lt c.rho full_scale) (first_of-none (rate_condition c) rest shape))

part_rate : (g : Gains) (c : Cert) (parts : Parts) → part_fault g c parts ≡ None → c.rho <ℤ full_scale
part_rate g c (Three l) h = list_rate c l (loop_three g) (first_span l) h
part_rate g c (Five l) h = list_rate c l (loop_five g) (first_wave_span l) h

pub rate_of : (g : Gains) (c : Cert) → first_fault g c ≡ None → c.rho <ℤ full_scale
unfolding first_fault
rate_of g c h = part_rate g c c.parts h

pub numbers_of : (g : Gains) (y : YawGains) (c : Cert) → IsValid g y c → AreNumbers c
numbers_of g y c v = (in_range g y c v.in_range).numbers

-- ---- no coordinate is too wide
mapped-none : {X Y : Type 0} (f : X → Y) (o : Option X) → option_map f o ≡ None → o ≡ None
mapped-none f None h = refl
mapped-none f (Some x) h = absurd (cc)

list_narrow : {n : ℕ} (c : Cert) (l : Lists n) (m : Loop n) (spans : Option CertFault) → list_fault c l m spans ≡ None → first_too_wide c l ≡ None
unfolding list_fault width_condition
list_narrow c l m spans h = mapped-none TooWide (first_too_wide c l) (option_or-none (first_shape c l m spans) (width_condition c l) h).1

abbrev pub IsNoneTooWide : Cert → Parts → Type 0
IsNoneTooWide c (Three l) = first_too_wide c l ≡ None
IsNoneTooWide c (Five l) = first_too_wide c l ≡ None

part_narrow : (g : Gains) (c : Cert) (parts : Parts) → part_fault g c parts ≡ None → IsNoneTooWide c parts
part_narrow g c (Three l) h = list_narrow c l (loop_three g) (first_span l) h
part_narrow g c (Five l) h = list_narrow c l (loop_five g) (first_wave_span l) h

pub none_too_wide : (g : Gains) (c : Cert) → first_fault g c ≡ None → IsNoneTooWide c c.parts
unfolding first_fault
none_too_wide g c h = part_narrow g c c.parts h
