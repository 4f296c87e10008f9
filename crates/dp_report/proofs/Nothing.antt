-- A mask without a bit gives no line.
use Rattle.std.proofs.Common.{◌≡◌, ℕ, List, ◌++◌, sym, ◌∙◌, ap}
use Rattle.std.proofs.lemmas.List.{append-nil}
use Rattle.dp_plant.specs.declared.alarms.Cause.TheVariants.{Good}
use Rattle.dp_report.specs.Alarms.{alarm_line, cause_line, consequence_lines, damage_lines, numbered_line, numbered_lines}

pub no_damage : (old : List ℕ) (mask : ℕ) → mask ≡ 0 → old ≡ old ++ damage_lines mask
unfolding damage_lines numbered_lines numbered_line alarm_line
no_damage old mask none = sym (append-nil old) ∙ ap (λ m. old ++ damage_lines m) (sym none)

pub no_consequence : (old : List ℕ) (mask : ℕ) → mask ≡ 0 → old ≡ old ++ consequence_lines mask
unfolding consequence_lines numbered_lines numbered_line alarm_line
no_consequence old mask none = sym (append-nil old) ∙ ap (λ m. old ++ consequence_lines m) (sym none)

-- nor does a reference that is good
pub no_fault : (old : List ℕ) (i : ℕ) → old ≡ old ++ cause_line i Good
unfolding cause_line
no_fault old i = sym (append-nil old)
