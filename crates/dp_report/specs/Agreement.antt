-- What at least two computers' alarms raise.
use Rattle.std.specs.Prelude.{ℕ, Bool, false, ◌==◌, nat_le, if◌then◌else◌, List, [], ◌∷◌, map, count_by, find, replicate, Option, Some, None, is_some, unwrap_or}
use Rattle.std.specs.List.{range_with_len}
use Rattle.dp_fixed.specs.{bits_of, is_set}
use Rattle.dp_plant.specs.declared.alarms.Alarms.{Alarms}
use Rattle.dp_plant.specs.declared.alarms.Cause.{Cause}
use Rattle.dp_plant.specs.declared.alarms.Cause.TheVariants.{Good, Silent, Stale, Frozen, Jumped, Noisy}
use Rattle.dp_report.specs.Alarms.{cause_at, flag_at}

-- at least two of a list pass a test
abbrev pub are_two : {A : Type 0} → (A → Bool) → List A → Bool
are_two passes xs = nat_le 2 (count_by passes xs)

abbrev pub cause_number : Cause → ℕ
cause_number Good = 0
cause_number Silent = 1
cause_number Stale = 2
cause_number Frozen = 3
cause_number Jumped = 4
cause_number Noisy = 5

abbrev pub is_cause : Cause → Cause → Bool
is_cause a b = cause_number a == cause_number b

-- what can be wrong with a reference
abbrev pub faults : List Cause
faults = Silent ∷ Stale ∷ Frozen ∷ Jumped ∷ Noisy ∷ []

-- the fault that at least two give; good where there is none
unfoldable pub agreed_cause : List Cause → Cause
agreed_cause causes = unwrap_or (find (λ fault. are_two (is_cause fault) causes) faults) Good

-- the bits, up to a width, that at least two masks have
unfoldable pub agreed_bits : ℕ → List ℕ → ℕ
agreed_bits width masks =
    bits_of (map (λ i. are_two (λ mask. is_set mask i) masks) (range_with_len 0 width))

-- each alarm that at least two raise
unfoldable pub agreed_alarms : List Alarms → Alarms
agreed_alarms given = record {
  refs = map (λ i. agreed_cause (map (λ a. cause_at a.refs i) given)) (range_with_len 0 3);
  damaged = agreed_bits 32 (map (λ a. a.damaged) given);
  blind = are_two (λ a. a.blind) given;
  gyro = are_two (λ a. a.gyro) given;
  wind = are_two (λ a. a.wind) given;
  limited = map (λ axis. are_two (λ a. flag_at a.limited axis) given) (range_with_len 0 3);
  nocase = are_two (λ a. a.nocase) given;
  lost = agreed_bits 8 (map (λ a. a.lost) given);
}

-- nothing is raised
abbrev pub no_alarms : Alarms
no_alarms = record {
  refs = replicate 3 Good;
  damaged = 0;
  blind = false;
  gyro = false;
  wind = false;
  limited = replicate 3 false;
  nocase = false;
  lost = 0;
}

-- who isn't there raises nothing
abbrev pub raised_by : Option Alarms → Alarms
raised_by a = unwrap_or a no_alarms

-- nothing is known where fewer than two are there
unfoldable pub agreed : List (Option Alarms) → Option Alarms
agreed all =
    if are_two (λ a. is_some a) all then Some (agreed_alarms (map raised_by all)) else None
