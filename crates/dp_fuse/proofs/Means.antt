-- The weighted mean of two lies between them.
use Rattle.std.proofs.Common.{◌≡◌, ◌≤◌, ◌<◌, ◌^◌, arith, sym, subst, [], Option, Some, None, IfSome, ℕ, ℤ, pos, neg_ℤ, ◌+ℤ◌, ◌*ℤ◌, ◌≤ℤ◌, ◌<ℤ◌, unsigned_abs}
use Rattle.std.proofs.lemmas.Int.{ints, clamps}
use Rattle.std.specs.Int.{int_min, int_max}
use Rattle.std.specs.List.{cons_option}
use Rattle.std.specs.Option.{option_map}
use Rattle.dp_fixed.specs.Division.{floor_of}
use Rattle.dp_fixed.specs.Order.{IsBetween, mid3_of}
use Rattle.dp_fixed.proofs.Divisions.{floor_greatest, floor_is}
use Rattle.dp_fixed.proofs.Multiples.{mul_le, product_of_sum, product_turned}
use Rattle.dp_plant.specs.declared.frames.Gust.{Gust}
use Rattle.dp_fuse.specs.declared.weighted.Weighted.{Weighted}
use Rattle.dp_fuse.specs.Fuse.{alike, fuse, mean_of}
use Rattle.dp_fuse.specs.Gusts.{weighted_speed}
use Rattle.dp_fuse.specs.Ranges.{IsGust, IsSpeed, IsWeighted}

-- where both are from l to h, so is their mean
pub mean_within : (v w a b l h : ℤ) → pos 1 ≤ℤ v → pos 1 ≤ℤ w → l ≤ℤ a → l ≤ℤ b → a ≤ℤ h → b ≤ℤ h →
    (l ≤ℤ floor_of (v *ℤ a +ℤ w *ℤ b) (v +ℤ w)) × (floor_of (v *ℤ a +ℤ w *ℤ b) (v +ℤ w) ≤ℤ h)
mean_within v w a b l h v1 w1 la lb ha hb =
    let d0 : pos 0 <ℤ (v +ℤ w) = omega (arith, ints) in
    let n = v *ℤ a +ℤ w *ℤ b in
    let f = floor_is n (v +ℤ w) d0 in
    let m1 = mul_le v l a (omega (arith, ints)) la in
    let m2 = mul_le w l b (omega (arith, ints)) lb in
    let m3 = mul_le v a h (omega (arith, ints)) ha in
    let m4 = mul_le w b h (omega (arith, ints)) hb in
    let e1 = product_of_sum v w l in
    let e2 = product_of_sum v w h in
    let t1 = product_turned l (v +ℤ w) in
    let t2 = product_turned h (v +ℤ w) in (
      floor_greatest n n (v +ℤ w) (floor_of n (v +ℤ w)) l d0 (omega (arith, ints)) (omega (arith, ints)) f.above,
      floor_greatest n n (v +ℤ w) h (floor_of n (v +ℤ w)) d0 (omega (arith, ints)) f.below (omega (arith, ints)),
    )

pub mean_between : (v w a b : ℤ) → pos 1 ≤ℤ v → pos 1 ≤ℤ w → IsBetween a b (floor_of (v *ℤ a +ℤ w *ℤ b) (v +ℤ w))
mean_between v w a b v1 w1 =
    let m = mean_within v w a b (int_min a b) (int_max a b) v1 w1 (omega (arith, ints, clamps)) (omega (arith, ints, clamps)) (omega (arith, ints, clamps)) (omega (arith, ints, clamps)) in
    record { low = m.0; high = m.1 }

-- where both are within a limit of zero, so is their mean
pub mean_bound : (v w a b : ℤ) (limit : ℕ) → pos 1 ≤ℤ v → pos 1 ≤ℤ w → unsigned_abs a ≤ limit → unsigned_abs b ≤ limit →
    unsigned_abs (floor_of (v *ℤ a +ℤ w *ℤ b) (v +ℤ w)) ≤ limit
mean_bound v w a b limit v1 w1 ha hb =
    let m = mean_within v w a b (neg_ℤ (pos limit)) (pos limit) v1 w1 (omega (arith, ints)) (omega (arith, ints)) (omega (arith, ints)) (omega (arith, ints)) in
    omega (arith, ints, m.0, m.1)

-- the mean of two within a limit of zero is, too
pub mean_is_bounded : (a b : Weighted) (m : ℤ) → m ≡ mean_of a b → IsWeighted a → IsWeighted b → unsigned_abs m ≤ 2 ^ 44
mean_is_bounded a b m e h k =
    let bound = mean_bound a.weight b.weight a.value b.value (2 ^ 44) h.low k.low h.value k.value in
    subst (λ x. unsigned_abs x ≤ 2 ^ 44) (sym e) bound

middle_within : (x y z l h : ℤ) → l ≤ℤ x → x ≤ℤ h → l ≤ℤ y → y ≤ℤ h → l ≤ℤ z → z ≤ℤ h → (l ≤ℤ mid3_of x y z) × (mid3_of x y z ≤ℤ h)
middle_within x y z l h lx hx ly hy lz hz = (omega (arith, ints, clamps), omega (arith, ints, clamps))

speed_mean : (v w : ℕ) → v < 100000 → w < 100000 → IsSpeed (mean_of (alike (pos v)) (alike (pos w)))
speed_mean v w h k =
    let m = mean_within (pos 1) (pos 1) (pos v) (pos w) (pos 0) (pos 99999) (omega (arith, ints)) (omega (arith, ints)) (omega (arith, ints)) (omega (arith, ints)) (omega (arith, ints)) (omega (arith, ints)) in
    record { low = m.0; high = omega (arith, ints, m.1) }

speed_middle : (u v w : ℕ) → u < 100000 → v < 100000 → w < 100000 → IsSpeed (mid3_of (pos u) (pos v) (pos w))
speed_middle u v w h k l =
    let m = middle_within (pos u) (pos v) (pos w) (pos 0) (pos 99999) (omega (arith, ints)) (omega (arith, ints)) (omega (arith, ints)) (omega (arith, ints)) (omega (arith, ints)) (omega (arith, ints)) in
    record { low = m.0; high = omega (arith, ints, m.1) }

one_speed : (v : ℕ) → v < 100000 → IsSpeed (pos v)
one_speed v h = record { low = omega (arith, ints); high = omega (arith, ints) }

-- of speeds in range the fused one is in range
pub speed_within : (a b c : Option Gust) (t : Option ℤ) →
    t ≡ fuse (cons_option (option_map weighted_speed a) (cons_option (option_map weighted_speed b) (cons_option (option_map weighted_speed c) []))) →
    IfSome a IsGust → IfSome b IsGust → IfSome c IsGust → IfSome t IsSpeed
speed_within a b c t e ha hb hc = subst (λ o. IfSome o IsSpeed) (sym e) (by_cases a b c ha hb hc)
  where
    by_cases : (a b c : Option Gust) → IfSome a IsGust → IfSome b IsGust → IfSome c IsGust →
        IfSome (fuse (cons_option (option_map weighted_speed a) (cons_option (option_map weighted_speed b) (cons_option (option_map weighted_speed c) [])))) IsSpeed
    by_cases None None None ha hb hc = tt
    by_cases (Some x) None None ha hb hc = one_speed x.speed ha.1
    by_cases None (Some y) None ha hb hc = one_speed y.speed hb.1
    by_cases None None (Some z) ha hb hc = one_speed z.speed hc.1
    by_cases (Some x) (Some y) None ha hb hc = speed_mean x.speed y.speed ha.1 hb.1
    by_cases (Some x) None (Some z) ha hb hc = speed_mean x.speed z.speed ha.1 hc.1
    by_cases None (Some y) (Some z) ha hb hc = speed_mean y.speed z.speed hb.1 hc.1
    by_cases (Some x) (Some y) (Some z) ha hb hc = speed_middle x.speed y.speed z.speed ha.1 hb.1 hc.1
