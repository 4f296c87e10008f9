-- The table of drifts, group by group, and the mean that it rests on.
use Rattle.std.proofs.Common.{◌≡◌, ℕ, zero, suc, ◌+◌, ◌*◌, ◌^◌, ◌<◌, ◌≤◌, Bool, true, false, not, All, List, [], ◌∷◌, ◌++◌, drop, get_or, length, length-append, map, refl, sym, ap, ◌∙◌, subst, arith, ℤ, pos, neg_ℤ, ◌+ℤ◌, ◌*ℤ◌, ◌≤ℤ◌, ◌<ℤ◌, unsigned_abs}
use Rattle.std.proofs.lemmas.Int.{ints}
use Rattle.std.proofs.lemmas.List.{append-nil}
use Rattle.std.proofs.lemmas.List.Concat.{flat_map-append}
use Rattle.std.specs.List.{filter, flat_map, range_with_len}
use Rattle.dp_consequence.proofs.Numbers.{fails_more, passes_more}
use Rattle.dp_alloc.specs.{IsDemandWithin}
use Rattle.dp_consequence.specs.Demands.{mean_demand, mean_on, sum_of}
use Rattle.dp_drift.specs.Lines.{drift_line, drift_lines, drift_table, end_line}
use Rattle.dp_drift.specs.Loss.{drift_without, ready_groups}
use Rattle.dp_fixed.proofs.Divisions.{floor_monotone, floor_only}
use Rattle.dp_fixed.specs.Division.{IsFloor, floor_of}
use Rattle.dp_plant.specs.declared.plant.Plant.{Plant}
use Rattle.dp_plant.specs.{entry, is_lost}
use Rattle.dp_app.specs.Drifts.{mean_of_late}

pub not_lost : (b : Bool) → not b ≡ true → b ≡ false
not_lost true e = absurd cc
not_lost false e = refl

abbrev pub ready_so_far : ℕ → ℕ → List ℕ
ready_so_far lost n = filter (λ group. not (is_lost lost group)) (range_with_len 0 n)

abbrev pub table_so_far : Plant → ℕ → List ℤ → ℤ → ℕ → ℕ → List ℕ
table_so_far p lost mean limit cycles n = flat_map (λ group. drift_line group (drift_without p lost group mean limit cycles)) (ready_so_far lost n)

module _ (p : Plant) (lost : ℕ) (mean : List ℤ) (limit : ℤ) (cycles : ℕ) where
  one_more : (n : ℕ) → not (is_lost lost n) ≡ true → ready_so_far lost n ++ n ∷ [] ≡ ready_so_far lost (n + 1)
  one_more n is = passes_more (λ group. not (is_lost lost group)) n (ready_so_far lost n) (ready_so_far lost n ++ n ∷ []) refl is refl

  none_more : (n : ℕ) → not (is_lost lost n) ≡ false → ready_so_far lost n ≡ ready_so_far lost (n + 1)
  none_more n is = fails_more (λ group. not (is_lost lost group)) n (ready_so_far lost n) refl is

  pub lines_more : (n : ℕ) (text new : List ℕ) → text ≡ table_so_far p lost mean limit cycles n → not (is_lost lost n) ≡ true
      → new ≡ text ++ drift_line n (drift_without p lost n mean limit cycles) → new ≡ table_so_far p lost mean limit cycles (n + 1)
  lines_more n text new before is added =
      let line : ℕ → List ℕ = λ group. drift_line group (drift_without p lost group mean limit cycles) in
      added ∙ ap (λ (l : List ℕ). l ++ line n) before
      ∙ ap (λ (l : List ℕ). flat_map line (ready_so_far lost n) ++ l) (sym (append-nil (line n)))
      ∙ sym (flat_map-append line (ready_so_far lost n) (n ∷ []))
      ∙ ap (flat_map line) (one_more n is)

  pub lines_same : (n : ℕ) (text : List ℕ) → text ≡ table_so_far p lost mean limit cycles n → not (is_lost lost n) ≡ false
      → text ≡ table_so_far p lost mean limit cycles (n + 1)
  lines_same n text before is =
      before ∙ ap (λ (l : List ℕ). flat_map (λ group. drift_line group (drift_without p lost group mean limit cycles)) l) (none_more n is)

  pub count_more : (n count : ℕ) → count ≡ length (ready_so_far lost n) → not (is_lost lost n) ≡ true → count + 1 ≡ length (ready_so_far lost (n + 1))
  count_more n count before is =
      let joined = ap length (one_more n is) in
      let added = length-append (ready_so_far lost n) (n ∷ []) in
      omega arith

  pub count_same : (n count : ℕ) → count ≡ length (ready_so_far lost n) → not (is_lost lost n) ≡ false → count ≡ length (ready_so_far lost (n + 1))
  count_same n count before is = before ∙ ap length (none_more n is)

  pub whole_table : (n count : ℕ) (text new : List ℕ) → n ≡ p.groups → text ≡ table_so_far p lost mean limit cycles n → count ≡ length (ready_so_far lost n)
      → new ≡ text ++ end_line count → new ≡ drift_table p lost mean limit cycles
  unfolding drift_table drift_lines
  whole_table n count text new all lines many added =
      added ∙ ap (λ (l : List ℕ). l ++ end_line count) lines
      ∙ ap (λ (k : ℕ). table_so_far p lost mean limit cycles n ++ end_line k) many
      ∙ ap (λ (k : ℕ). table_so_far p lost mean limit cycles k ++ end_line (length (ready_so_far lost k))) all

-- ---- the mean is within the range of each demand

-- one demand more of a sum
pub sum_more : (axis i : ℕ) (ds : List (List ℤ)) (d : List ℤ) (total next whole : ℤ) → i < length ds → total +ℤ sum_of (map (λ e. entry e axis) (drop i ds)) ≡ whole
    → next ≡ total +ℤ entry (get_or ds i d) axis → next +ℤ sum_of (map (λ e. entry e axis) (drop (i + 1) ds)) ≡ whole
sum_more axis i ds d total next whole lt before added =
    let e : i + 1 ≡ suc i = omega arith in
    let rest = sum_drop axis i ds d lt in
    rw e (omega (arith, ints))
  where
    sum_drop : (axis i : ℕ) (ds : List (List ℤ)) (d : List ℤ) → i < length ds
        → sum_of (map (λ e. entry e axis) (drop i ds)) ≡ entry (get_or ds i d) axis +ℤ sum_of (map (λ e. entry e axis) (drop (suc i) ds))
    sum_drop axis i [] d lt = absurd (omega arith)
    sum_drop axis zero (x ∷ xs) d lt = refl
    sum_drop axis (suc i) (x ∷ xs) d lt = sum_drop axis i xs d (omega (arith, lt))

sum_within : (axis : ℕ) (ds : List (List ℤ)) → All (λ d. unsigned_abs (entry d axis) ≤ 2 ^ 31) ds
    → unsigned_abs (sum_of (map (λ d. entry d axis) ds)) ≤ length ds * 2 ^ 31
sum_within axis [] all = omega arith
sum_within axis (d ∷ ds) all =
    let first = all 0 d (omega arith) in
    let rest = sum_within axis ds (λ i e lt. all (suc i) e (omega (arith, lt))) in
    omega (arith, ints, first, rest)

exact : (k n : ℤ) → pos 0 <ℤ n → k ≡ floor_of (k *ℤ n) n
exact k n h =
    let is : IsFloor (k *ℤ n) n k = record { below = omega (arith, ints); above = omega (arith, ints) } in
    floor_only (k *ℤ n) n k h is

between : (m a b : ℤ) → pos (2 ^ 31) ≡ a → neg_ℤ (pos (2 ^ 31)) ≡ b → m ≤ℤ a → b ≤ℤ m → unsigned_abs m ≤ 2 ^ 31
between m a b e f up down = omega (arith, ints)

at_least : (s : ℤ) (n : ℕ) → unsigned_abs s ≤ n * 2 ^ 31 → (neg_ℤ (pos (2 ^ 31)) *ℤ pos n) ≤ℤ s
at_least s n h = omega (arith, ints)

at_most : (s : ℤ) (n : ℕ) → unsigned_abs s ≤ n * 2 ^ 31 → s ≤ℤ (pos (2 ^ 31) *ℤ pos n)
at_most s n h = omega (arith, ints)

mean_within : (axis : ℕ) (ds : List (List ℤ)) → 0 < length ds → All (λ d. unsigned_abs (entry d axis) ≤ 2 ^ 31) ds → unsigned_abs (mean_on ds axis) ≤ 2 ^ 31
mean_within axis ds some all =
    let n = pos (length ds) in
    let s = sum_of (map (λ d. entry d axis) ds) in
    let k = pos (2 ^ 31) in
    let h : pos 0 <ℤ n = omega (arith, ints) in
    let total = sum_within axis ds all in
    let up = floor_monotone s (k *ℤ n) n h (at_most s (length ds) total) in
    let down = floor_monotone (neg_ℤ k *ℤ n) s n h (at_least s (length ds) total) in
    between (floor_of s n) (floor_of (k *ℤ n) n) (floor_of (neg_ℤ k *ℤ n) n) (exact k n h) (exact (neg_ℤ k) n h) up down

module _ (ds : List (List ℤ)) (some : 0 < length ds) (all : All IsDemandWithin ds) where
  pub surge_within : (m : ℤ) → m ≡ mean_on ds 0 → unsigned_abs m ≤ 2 ^ 31
  surge_within m is = subst (λ (x : ℤ). unsigned_abs x ≤ 2 ^ 31) (sym is) (mean_within 0 ds some (λ i d lt. (all i d lt).surge))

  pub sway_within : (m : ℤ) → m ≡ mean_on ds 1 → unsigned_abs m ≤ 2 ^ 31
  sway_within m is = subst (λ (x : ℤ). unsigned_abs x ≤ 2 ^ 31) (sym is) (mean_within 1 ds some (λ i d lt. (all i d lt).sway))

pub some_mean : (ds : List (List ℤ)) → 0 < length ds → mean_of_late ds ≡ mean_demand ds
some_mean [] some = absurd (omega arith)
some_mean (d ∷ ds) some = refl

pub no_mean : (ds : List (List ℤ)) → ds ≡ [] → mean_of_late ds ≡ pos 0 ∷ pos 0 ∷ pos 0 ∷ []
no_mean ds is = ap mean_of_late is
