-- The first move that waits, taken or not.
use Rattle.std.proofs.Common.{◌≡◌, refl, ℕ, ◌+◌, ◌≤◌, ◌<◌, ◌&&◌, nat_le, Bool, true, false, cond, List, [], ◌∷◌, drop, Some, arith}
use Rattle.std.specs.Prelude.{slice_get}
use Rattle.std.proofs.lemmas.Option.{slice_get_within, get_or_from_slice_get}
use Rattle.std.proofs.lemmas.List.{drop_more}
use Rattle.std.proofs.lemmas.Bool.Decides.{nat_tests}
use Rattle.dp_guide.specs.declared.motion.Motion.{Motion}
use Rattle.dp_guide.specs.declared.moves.Move.{Move}
use Rattle.dp_guide.specs.Motion.{gone, is_resting}
use Rattle.dp_guide.specs.Passage.{PassageState, first_taken}

drop_one : (moves : List Move) (i : ℕ) (m : Move) → slice_get moves i ≡ Some m → drop i moves ≡ m ∷ drop (i + 1) moves
drop_one moves i m e =
    let lt = slice_get_within moves i m e in
    rw (get_or_from_slice_get moves i m m e) at (drop_more moves i m lt)

due : (a b : ℕ) → a ≤ b → nat_le a b ≡ true
due a b h = grind (arith, nat_tests)

early : (a b : ℕ) → b < a → nat_le a b ≡ false
early a b h = grind (arith, nat_tests)

-- a move of a later cycle waits
pub not_due : (motion : Motion) (moves : List Move) (i cycle : ℕ) (m : Move) → slice_get moves i ≡ Some m → cycle < m.cycle
    → record { motion = motion; waiting = drop i moves; cycle = cycle } ≡ first_taken motion (drop i moves) cycle
not_due motion moves i cycle m e later = rw (drop_one moves i m e, early m.cycle cycle later) refl

-- a guide that moves takes none
pub busy : (motion new : Motion) (moves : List Move) (i cycle : ℕ) (m : Move) → slice_get moves i ≡ Some m → is_resting motion ≡ false → new ≡ gone motion m.to
    → m.cycle ≤ cycle → record { motion = new; waiting = drop i moves; cycle = cycle } ≡ first_taken motion (drop i moves) cycle
busy motion new moves i cycle m e moving same now = rw (same, drop_one moves i m e, due m.cycle cycle now, moving) refl

-- a guide that rests takes it
pub went : (motion new : Motion) (moves : List Move) (i cycle : ℕ) (m : Move) → slice_get moves i ≡ Some m → is_resting motion ≡ true → new ≡ gone motion m.to
    → m.cycle ≤ cycle → record { motion = new; waiting = drop (i + 1) moves; cycle = cycle } ≡ first_taken motion (drop i moves) cycle
went motion new moves i cycle m e resting same now = rw (same, drop_one moves i m e, due m.cycle cycle now, resting) refl

either_cycle : (b : Bool) (x y : PassageState) (n : ℕ) → x.cycle ≡ n → y.cycle ≡ n → (cond b x y).cycle ≡ n
either_cycle true x y n e f = e
either_cycle false x y n e f = f

-- the cycle stays
pub taken_cycle : (motion : Motion) (waiting : List Move) (cycle : ℕ) → (first_taken motion waiting cycle).cycle ≡ cycle
taken_cycle motion [] cycle = refl
taken_cycle motion (m ∷ later) cycle = either_cycle (nat_le m.cycle cycle && is_resting motion) _ _ cycle refl refl
