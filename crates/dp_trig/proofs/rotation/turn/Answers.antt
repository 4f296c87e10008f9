use Rattle.std.proofs.lemmas.Int.{to_z-of_z}
use Rattle.dp_trig.specs.Rotation.{turned}
use Rattle.dp_trig.proofs.Fits.{turn_fits}
use Rattle.dp_trig.proofs.Lengths.{turned-short}
use Rattle.dp_trig.proofs.rotation.turn.Goals as goal

pub overflow_mul-result : goal.overflow_mul-result
overflow_mul-result c =
    let f = turn_fits c.args.first c.args.second c.requires.first_short c.requires.second_short in
    let cosine = f.cosine in
    let next_cosine = f.next_cosine in
    simp to_z-of_z f.cosines

pub overflow_mul-result-2 : goal.overflow_mul-result-2
overflow_mul-result-2 c =
    let f = turn_fits c.args.first c.args.second c.requires.first_short c.requires.second_short in
    let sine = f.sine in
    let next_sine = f.next_sine in
    simp to_z-of_z f.sines

pub overflow_sub-result : goal.overflow_sub-result
overflow_sub-result c =
    let f = turn_fits c.args.first c.args.second c.requires.first_short c.requires.second_short in
    let cosine = f.cosine in
    let sine = f.sine in
    let next_cosine = f.next_cosine in
    let next_sine = f.next_sine in
    let cosines = f.cosines in
    let sines = f.sines in
    simp to_z-of_z f.difference

pub overflow_mul-result-3 : goal.overflow_mul-result-3
overflow_mul-result-3 c =
    let f = turn_fits c.args.first c.args.second c.requires.first_short c.requires.second_short in
    let sine = f.sine in
    let next_cosine = f.next_cosine in
    simp to_z-of_z f.sine_cosine

pub overflow_mul-result-4 : goal.overflow_mul-result-4
overflow_mul-result-4 c =
    let f = turn_fits c.args.first c.args.second c.requires.first_short c.requires.second_short in
    let cosine = f.cosine in
    let next_sine = f.next_sine in
    simp to_z-of_z f.cosine_sine

pub overflow_add-result : goal.overflow_add-result
overflow_add-result c =
    let f = turn_fits c.args.first c.args.second c.requires.first_short c.requires.second_short in
    let cosine = f.cosine in
    let sine = f.sine in
    let next_cosine = f.next_cosine in
    let next_sine = f.next_sine in
    let sine_cosine = f.sine_cosine in
    let cosine_sine = f.cosine_sine in
    simp to_z-of_z f.sum

pub returns-clause-value : goal.returns-clause-value
unfolding turned
returns-clause-value c =
    let f = turn_fits c.args.first c.args.second c.requires.first_short c.requires.second_short in
    let cosine = f.cosine in
    let sine = f.sine in
    let next_cosine = f.next_cosine in
    let next_sine = f.next_sine in
    let cosines = f.cosines in
    let sines = f.sines in
    let sine_cosine = f.sine_cosine in
    let cosine_sine = f.cosine_sine in
    let difference = f.difference in
    let sum = f.sum in
    let new_cosine = f.new_cosine in
    let new_sine = f.new_sine in
    simp to_z-of_z

pub returns-clause-short : goal.returns-clause-short
unfolding turned
returns-clause-short c =
    let f = turn_fits c.args.first c.args.second c.requires.first_short c.requires.second_short in
    let cosine = f.cosine in
    let sine = f.sine in
    let next_cosine = f.next_cosine in
    let next_sine = f.next_sine in
    let cosines = f.cosines in
    let sines = f.sines in
    let sine_cosine = f.sine_cosine in
    let cosine_sine = f.cosine_sine in
    let difference = f.difference in
    let sum = f.sum in
    let new_cosine = f.new_cosine in
    let new_sine = f.new_sine in
    simp to_z-of_z (turned-short c.args.first c.args.second c.requires.first_short c.requires.second_short)
