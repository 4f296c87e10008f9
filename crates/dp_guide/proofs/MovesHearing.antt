-- One more line in a draft.
use Rattle.std.proofs.Common.{◌≡◌, ℕ, ◌+◌, List, ◌∷◌, Some, None, refl, arith}
use Rattle.dp_guide.specs.declared.moves_draft.Draft.{Draft}
use Rattle.dp_guide.specs.declared.moves.Move.{Move}
use Rattle.dp_guide.specs.declared.moves_fault.MovesFault.TheVariants.{Line}
use Rattle.dp_guide.specs.declared.moves_fault.MovesKind.{MovesKind}
use Rattle.dp_guide.specs.MovesDrafts.{IsDraftOf}
use Rattle.dp_guide.specs.Moves.{said_by, fault_of, first_fault}

pub heard_skip : (draft new : Draft) (line : List ℕ) (before : List (List ℕ)) → IsDraftOf draft before → said_by line ≡ None → fault_of before line ≡ None
    → new.number ≡ draft.number + 1 → new.count ≡ draft.count → new.last ≡ draft.last → IsDraftOf new (line ∷ before)
unfolding first_fault
heard_skip draft new line before heard said good number count last = record {
  number = omega (arith, heard.number);
  count = rw (said, count) heard.count;
  last = rw (said, last) heard.last;
  clean = rw (heard.clean, good) refl;
}

pub heard_entry : (draft new : Draft) (line : List ℕ) (before : List (List ℕ)) (entry : Move) → IsDraftOf draft before → said_by line ≡ Some entry → fault_of before line ≡ None
    → new.number ≡ draft.number + 1 → new.count ≡ draft.count + 1 → new.last ≡ entry.cycle → IsDraftOf new (line ∷ before)
unfolding first_fault
heard_entry draft new line before entry heard said good number count last = record {
  number = omega (arith, heard.number);
  count = rw said (omega (arith, heard.count));
  last = rw said last;
  clean = rw (heard.clean, good) refl;
}

pub heard_fault : (draft : Draft) (line : List ℕ) (before : List (List ℕ)) (kind : MovesKind) → IsDraftOf draft before → fault_of before line ≡ Some kind
    → first_fault (line ∷ before) ≡ Some (Line (draft.number + 1) kind)
unfolding first_fault
heard_fault draft line before kind heard bad = rw (heard.clean, bad, heard.number) refl
