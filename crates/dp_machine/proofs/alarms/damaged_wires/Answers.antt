use Rattle.std.proofs.Common.{◌≡◌, ◌<◌, ◌^◌, ◌+◌, length, rules, [], map, refl, subst, ap, ◌∙◌, arith}
use Rattle.std.proofs.lemmas.List.{append-nil}
use Rattle.dp_fixed.specs.{bits_of}
use Rattle.dp_machine.specs.Alarms.{damaged_in, is_damaged}
use Rattle.dp_machine.proofs.alarms.damaged_wires.Goals as goal

pub damaged_before-wind-requires-clause-after : goal.damaged_before-wind-requires-clause-after
damaged_before-wind-requires-clause-after c =
    let eight : length c.args.f.now.group ≡ 8 = search rules in
    let group = subst (λ n. c.damaged_before-group.result < 2 ^ (0 + n)) eight (c.damaged_before-group.ensures.bound 0 (omega arith)) in
    omega (arith, group)

pub damaged_before-gyro-requires-clause-after : goal.damaged_before-gyro-requires-clause-after
damaged_before-gyro-requires-clause-after c =
    let eight : length c.args.f.now.group ≡ 8 = search rules in
    let three : length c.args.f.now.wind ≡ 3 = search rules in
    let group = subst (λ n. c.damaged_before-group.result < 2 ^ (0 + n)) eight (c.damaged_before-group.ensures.bound 0 (omega arith)) in
    let wind = subst (λ n. c.damaged_before-wind.result < 2 ^ (8 + n)) three (c.damaged_before-wind.ensures.bound 8 group) in
    omega (arith, wind)

pub damaged_before-requires-clause-after : goal.damaged_before-requires-clause-after
damaged_before-requires-clause-after c =
    let eight : length c.args.f.now.group ≡ 8 = search rules in
    let three : length c.args.f.now.wind ≡ 3 = search rules in
    let more : length c.args.f.now.gyro ≡ 3 = search rules in
    let group = subst (λ n. c.damaged_before-group.result < 2 ^ (0 + n)) eight (c.damaged_before-group.ensures.bound 0 (omega arith)) in
    let wind = subst (λ n. c.damaged_before-wind.result < 2 ^ (8 + n)) three (c.damaged_before-wind.ensures.bound 8 group) in
    let gyro = subst (λ n. c.damaged_before-gyro.result < 2 ^ (11 + n)) more (c.damaged_before-gyro.ensures.bound 11 wind) in
    omega (arith, gyro)

pub returns : goal.returns
unfolding damaged_in
returns c =
    let group = c.damaged_before-group.ensures.value [] refl ∙ ap bits_of (append-nil (map is_damaged c.args.f.now.group)) in
    let wind = c.damaged_before-wind.ensures.value _ group in
    let gyro = c.damaged_before-gyro.ensures.value _ wind in
    c.damaged_before.ensures.value _ gyro
