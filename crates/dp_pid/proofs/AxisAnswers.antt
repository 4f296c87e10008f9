-- What is asked of an axis, and what it answers, step by step.
use Rattle.std.proofs.Common.{◌≡◌, ap, sym, ◌∙◌, subst, true, false, not, ℕ, ◌+◌, ◌*◌, ◌^◌, ◌≤◌, ℤ, pos, neg_ℤ, ◌-ℤ◌, ◌*ℤ◌, ◌≤ℤ◌, ◌<ℤ◌, arith}
use Rattle.std.proofs.lemmas.Int.{ints, clamps}
use Rattle.std.specs.Ordering.{int_eq}
use Rattle.dp_fixed.specs.Scale.{full_scale, full_scale_squared}
use Rattle.dp_fixed.specs.Division.{IsFloor, floor_of}
use Rattle.dp_fixed.specs.Order.{clamp_of}
use Rattle.dp_fixed.proofs.Divisions.{floor_is, floor_only}
use Rattle.dp_plant.specs.Law.{asked_of, issued_of}
use Rattle.dp_plant.specs.Yaw.{asked_turn_of, issued_turn_of}
use Rattle.dp_pid.specs.declared.axis.Along.{Along}
use Rattle.dp_pid.specs.declared.axis.Answer.{Answer}
use Rattle.dp_pid.specs.declared.axis.Axis.{Axis}
use Rattle.dp_pid.specs.Axis.{IsAxis, IsPlaneAnswer, IsYawAnswer, asked_of_plane, asked_of_yaw, times_scale_twice}

asked_is : (spring held wind s h w r : ℤ) → s ≡ spring → h ≡ held → w ≡ wind → r ≡ (s -ℤ h) -ℤ w → r ≡ (spring -ℤ held) -ℤ wind
asked_is spring held wind s h w r is_spring is_held is_wind is = omega (arith, ints)

pub asked_plane_is : (axis : Axis) (along : Along) (wind s h w r : ℤ) → s ≡ neg_ℤ (axis.kp *ℤ along.error) -ℤ (axis.kd *ℤ along.velocity)
    → h ≡ full_scale *ℤ clamp_of along.bias (neg_ℤ (full_scale *ℤ axis.bias)) (full_scale *ℤ axis.bias) → w ≡ times_scale_twice wind
    → r ≡ (s -ℤ h) -ℤ w → r ≡ asked_of_plane axis along wind
unfolding asked_of
asked_plane_is axis along wind s h w r is_spring is_held is_wind is =
    asked_is (neg_ℤ (axis.kp *ℤ along.error) -ℤ (axis.kd *ℤ along.velocity))
    (full_scale *ℤ clamp_of along.bias (neg_ℤ (full_scale *ℤ axis.bias)) (full_scale *ℤ axis.bias)) (times_scale_twice wind)
    s h w r is_spring is_held is_wind is

pub asked_yaw_is : (axis : Axis) (along : Along) (wind s h w r : ℤ) → s ≡ neg_ℤ (axis.kp *ℤ along.error) -ℤ (axis.kd *ℤ along.velocity)
    → h ≡ full_scale *ℤ clamp_of along.bias (neg_ℤ axis.bias) axis.bias → w ≡ full_scale *ℤ wind
    → r ≡ (s -ℤ h) -ℤ w → r ≡ asked_of_yaw axis along wind
unfolding asked_turn_of
asked_yaw_is axis along wind s h w r is_spring is_held is_wind is =
    asked_is (neg_ℤ (axis.kp *ℤ along.error) -ℤ (axis.kd *ℤ along.velocity))
    (full_scale *ℤ clamp_of along.bias (neg_ℤ axis.bias) axis.bias) (full_scale *ℤ wind)
    s h w r is_spring is_held is_wind is

pub asked_small : (r s h w e v : ℕ) → r ≤ s + h + w → s ≤ 2 ^ 30 * e + 2 ^ 30 * v → e ≤ 2 ^ 88 → v ≤ 2 ^ 88 → h ≤ 2 ^ 91 → w ≤ 2 ^ 91 → r ≤ 2 ^ 121
asked_small r s h w e v sum spring error velocity held wind = omega arith

pub turn_small : (r s h w e v : ℕ) → r ≤ s + h + w → s ≤ 2 ^ 30 * e + 2 ^ 30 * v → e ≤ 2 ^ 38 → v ≤ 2 ^ 56 → h ≤ 2 ^ 68 → w ≤ 2 ^ 68 → r ≤ 2 ^ 91
turn_small r s h w e v sum spring error velocity held wind = omega arith

equal_are : (x y : ℤ) → x ≡ y → int_eq x y ≡ true
equal_are x y e = grind (arith, ints)

not_equal : (x y : ℤ) → x <ℤ y → int_eq x y ≡ false
not_equal x y e = grind (arith, ints)

not_equal_back : (x y : ℤ) → y <ℤ x → int_eq x y ≡ false
not_equal_back x y e = grind (arith, ints)

-- plane: what is asked below the range
pub plane_low : (axis : Axis) (asked whole : ℤ) (a : Answer) → IsAxis (pos (2 ^ 31)) axis → whole ≡ floor_of asked full_scale_squared → whole <ℤ axis.lo
    → a.demand ≡ axis.lo → a.limited ≡ true → IsPlaneAnswer axis asked a
unfolding issued_of
plane_low axis asked whole a h is less is_demand is_limited_so =
    let f = floor_is asked full_scale_squared (omega (arith, ints)) in
    let at : clamp_of asked (times_scale_twice axis.lo) (times_scale_twice axis.hi) ≡ times_scale_twice axis.lo = omega (arith, ints, clamps, is, f.above, less, h.below, h.above) in
    let apart : asked <ℤ clamp_of asked (times_scale_twice axis.lo) (times_scale_twice axis.hi) = omega (arith, ints, at, is, f.above, less) in
    let g : IsFloor (clamp_of asked (times_scale_twice axis.lo) (times_scale_twice axis.hi)) full_scale_squared axis.lo = record { below = omega (arith, ints, at); above = omega (arith, ints, at) } in
    record {
      demand = is_demand ∙ floor_only (clamp_of asked (times_scale_twice axis.lo) (times_scale_twice axis.hi)) full_scale_squared axis.lo (omega (arith, ints)) g;
      limited = is_limited_so ∙ sym (ap not (not_equal_back (clamp_of asked (times_scale_twice axis.lo) (times_scale_twice axis.hi)) asked apart));
      range = record { low = omega (arith, ints, is_demand); high = omega (arith, ints, is_demand, h.below, h.above) };
    }

-- plane: what is asked within the range
pub plane_within : (axis : Axis) (asked whole : ℤ) (a : Answer) → whole ≡ floor_of asked full_scale_squared → axis.lo ≤ℤ whole → whole <ℤ axis.hi
    → a.demand ≡ whole → a.limited ≡ false → IsPlaneAnswer axis asked a
unfolding issued_of
plane_within axis asked whole a is low high is_demand is_limited_so =
    let f = floor_is asked full_scale_squared (omega (arith, ints)) in
    let at : clamp_of asked (times_scale_twice axis.lo) (times_scale_twice axis.hi) ≡ asked = omega (arith, ints, clamps, is, f.below, f.above, low, high) in
    record {
      demand = is_demand ∙ is ∙ ap (λ (z : ℤ). floor_of z full_scale_squared) (sym at);
      limited = is_limited_so ∙ sym (ap not (equal_are (clamp_of asked (times_scale_twice axis.lo) (times_scale_twice axis.hi)) asked at));
      range = record { low = omega (arith, ints, is_demand, low); high = omega (arith, ints, is_demand, high) };
    }

-- plane: what is asked at the end of the range or above it
pub plane_high : (axis : Axis) (asked whole top : ℤ) (a : Answer) → IsAxis (pos (2 ^ 31)) axis → whole ≡ floor_of asked full_scale_squared → axis.hi ≤ℤ whole → top ≡ times_scale_twice axis.hi
    → a.demand ≡ axis.hi → a.limited ≡ not (int_eq top asked) → IsPlaneAnswer axis asked a
unfolding issued_of
plane_high axis asked whole top a h is more is_top is_demand is_limited_so =
    let f = floor_is asked full_scale_squared (omega (arith, ints)) in
    let at : clamp_of asked (times_scale_twice axis.lo) (times_scale_twice axis.hi) ≡ times_scale_twice axis.hi = omega (arith, ints, clamps, is, f.below, more, h.below, h.above) in
    let g : IsFloor (clamp_of asked (times_scale_twice axis.lo) (times_scale_twice axis.hi)) full_scale_squared axis.hi = record { below = omega (arith, ints, at); above = omega (arith, ints, at) } in
    record {
      demand = is_demand ∙ floor_only (clamp_of asked (times_scale_twice axis.lo) (times_scale_twice axis.hi)) full_scale_squared axis.hi (omega (arith, ints)) g;
      limited = is_limited_so ∙ ap (λ (z : ℤ). not (int_eq z asked)) (is_top ∙ sym at);
      range = record { low = omega (arith, ints, is_demand, h.below, h.above); high = omega (arith, ints, is_demand) };
    }

-- turn: what is asked below the range
pub turn_low : (axis : Axis) (asked whole : ℤ) (a : Answer) → IsAxis (pos (2 ^ 38)) axis → whole ≡ floor_of asked full_scale → whole <ℤ axis.lo
    → a.demand ≡ axis.lo → a.limited ≡ true → IsYawAnswer axis asked a
unfolding issued_turn_of
turn_low axis asked whole a h is less is_demand is_limited_so =
    let f = floor_is asked full_scale (omega (arith, ints)) in
    let at : clamp_of asked (full_scale *ℤ axis.lo) (full_scale *ℤ axis.hi) ≡ full_scale *ℤ axis.lo = omega (arith, ints, clamps, is, f.above, less, h.below, h.above) in
    let apart : asked <ℤ clamp_of asked (full_scale *ℤ axis.lo) (full_scale *ℤ axis.hi) = omega (arith, ints, at, is, f.above, less) in
    let g : IsFloor (clamp_of asked (full_scale *ℤ axis.lo) (full_scale *ℤ axis.hi)) full_scale axis.lo = record { below = omega (arith, ints, at); above = omega (arith, ints, at) } in
    record {
      demand = is_demand ∙ floor_only (clamp_of asked (full_scale *ℤ axis.lo) (full_scale *ℤ axis.hi)) full_scale axis.lo (omega (arith, ints)) g;
      limited = is_limited_so ∙ sym (ap not (not_equal_back (clamp_of asked (full_scale *ℤ axis.lo) (full_scale *ℤ axis.hi)) asked apart));
      range = record { low = omega (arith, ints, is_demand); high = omega (arith, ints, is_demand, h.below, h.above) };
    }

-- turn: what is asked within the range
pub turn_within : (axis : Axis) (asked whole : ℤ) (a : Answer) → whole ≡ floor_of asked full_scale → axis.lo ≤ℤ whole → whole <ℤ axis.hi
    → a.demand ≡ whole → a.limited ≡ false → IsYawAnswer axis asked a
unfolding issued_turn_of
turn_within axis asked whole a is low high is_demand is_limited_so =
    let f = floor_is asked full_scale (omega (arith, ints)) in
    let at : clamp_of asked (full_scale *ℤ axis.lo) (full_scale *ℤ axis.hi) ≡ asked = omega (arith, ints, clamps, is, f.below, f.above, low, high) in
    record {
      demand = is_demand ∙ is ∙ ap (λ (z : ℤ). floor_of z full_scale) (sym at);
      limited = is_limited_so ∙ sym (ap not (equal_are (clamp_of asked (full_scale *ℤ axis.lo) (full_scale *ℤ axis.hi)) asked at));
      range = record { low = omega (arith, ints, is_demand, low); high = omega (arith, ints, is_demand, high) };
    }

-- turn: what is asked at the end of the range or above it
pub turn_high : (axis : Axis) (asked whole top : ℤ) (a : Answer) → IsAxis (pos (2 ^ 38)) axis → whole ≡ floor_of asked full_scale → axis.hi ≤ℤ whole → top ≡ full_scale *ℤ axis.hi
    → a.demand ≡ axis.hi → a.limited ≡ not (int_eq top asked) → IsYawAnswer axis asked a
unfolding issued_turn_of
turn_high axis asked whole top a h is more is_top is_demand is_limited_so =
    let f = floor_is asked full_scale (omega (arith, ints)) in
    let at : clamp_of asked (full_scale *ℤ axis.lo) (full_scale *ℤ axis.hi) ≡ full_scale *ℤ axis.hi = omega (arith, ints, clamps, is, f.below, more, h.below, h.above) in
    let g : IsFloor (clamp_of asked (full_scale *ℤ axis.lo) (full_scale *ℤ axis.hi)) full_scale axis.hi = record { below = omega (arith, ints, at); above = omega (arith, ints, at) } in
    record {
      demand = is_demand ∙ floor_only (clamp_of asked (full_scale *ℤ axis.lo) (full_scale *ℤ axis.hi)) full_scale axis.hi (omega (arith, ints)) g;
      limited = is_limited_so ∙ ap (λ (z : ℤ). not (int_eq z asked)) (is_top ∙ sym at);
      range = record { low = omega (arith, ints, is_demand, h.below, h.above); high = omega (arith, ints, is_demand) };
    }

-- the answer to what is equal
pub same_plane_answer : (axis : Axis) (asked z : ℤ) (a : Answer) → asked ≡ z → IsPlaneAnswer axis asked a → IsPlaneAnswer axis z a
same_plane_answer axis asked z a same h = subst (λ (k : ℤ). IsPlaneAnswer axis k a) same h

pub same_yaw_answer : (axis : Axis) (asked z : ℤ) (a : Answer) → asked ≡ z → IsYawAnswer axis asked a → IsYawAnswer axis z a
same_yaw_answer axis asked z a same h = subst (λ (k : ℤ). IsYawAnswer axis k a) same h

-- the answer of an equal axis
pub plane_answer_at : (axis b : Axis) (along : Along) (wind w : ℤ) (a : Answer) → axis ≡ b → wind ≡ w
    → IsPlaneAnswer axis (asked_of_plane axis along wind) a → IsPlaneAnswer b (asked_of_plane b along w) a
plane_answer_at axis b along wind w a same push h =
    subst (λ (k : Axis). IsPlaneAnswer k (asked_of_plane k along w) a) same (subst (λ (k : ℤ). IsPlaneAnswer axis (asked_of_plane axis along k) a) push h)

pub yaw_answer_at : (axis b : Axis) (along : Along) (wind w : ℤ) (a : Answer) → axis ≡ b → wind ≡ w
    → IsYawAnswer axis (asked_of_yaw axis along wind) a → IsYawAnswer b (asked_of_yaw b along w) a
yaw_answer_at axis b along wind w a same push h =
    subst (λ (k : Axis). IsYawAnswer k (asked_of_yaw k along w) a) same (subst (λ (k : ℤ). IsYawAnswer axis (asked_of_yaw axis along k) a) push h)
