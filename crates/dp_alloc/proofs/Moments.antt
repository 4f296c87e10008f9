-- Turning moments in a plane that is turned.
use Rattle.std.proofs.Common.{List, [], ◌∷◌}
use Rattle.dp_form.proofs.Ring.{var, ◌⊕◌, ◌⊗◌, minus, ring}
use Rattle.dp_alloc.specs.Laws.{MomentsTurnAlong}

pub turn_along : MomentsTurnAlong
turn_along turn direction ahead starboard =
    let a = var 0 in
    let b = var 1 in
    let c = var 2 in
    let s = var 3 in
    let x = var 4 in
    let y = var 5 in
    ring (turn.0 ∷ turn.1 ∷ direction.0 ∷ direction.1 ∷ ahead ∷ starboard ∷ [])
    ((a ⊗ x ⊕ minus (b ⊗ y)) ⊗ (a ⊗ s ⊕ b ⊗ c) ⊕ minus ((a ⊗ y ⊕ b ⊗ x) ⊗ (a ⊗ c ⊕ minus (b ⊗ s))))
    ((a ⊗ a ⊕ b ⊗ b) ⊗ (x ⊗ s ⊕ minus (y ⊗ c))) tt
