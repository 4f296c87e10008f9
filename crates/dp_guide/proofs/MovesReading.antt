-- The lines of a text, heard one after another.
use Rattle.std.proofs.Common.{◌≡◌, ℕ, List, [], ◌∷◌, ◌++◌, reverse, Some, None, refl, sym, ◌∙◌, append_assoc}
use Rattle.std.proofs.lemmas.List.{append-nil, reverse-append}
use Rattle.std.proofs.lemmas.List.Elements.{filter_map-append}
use Rattle.dp_guide.specs.declared.moves_draft.Draft.{Draft}
use Rattle.dp_guide.specs.declared.moves.Move.{Move}
use Rattle.dp_guide.specs.declared.moves_fault.MovesFault.{MovesFault}
use Rattle.dp_guide.specs.MovesDrafts.{IsDraftOf}
use Rattle.dp_guide.specs.Moves.{first_fault, moves_of, said_by}

-- a draft of all lines but those that are left
pub record Stands (draft : Draft) (left all : List (List ℕ)) : Type 0 where
  pub before : List (List ℕ)
  pub heard : IsDraftOf draft before
  pub rest : reverse left ++ before ≡ reverse all

turned : (line : List ℕ) (rest before : List (List ℕ)) → reverse (line ∷ rest) ++ before ≡ reverse rest ++ (line ∷ before)
turned line rest before = rw (reverse-append (line ∷ []) rest) (append_assoc (reverse rest) (line ∷ []) before)

-- a later line leaves the first fault as it is
fault_stays : (later before : List (List ℕ)) (fault : MovesFault) → first_fault before ≡ Some fault → first_fault (later ++ before) ≡ Some fault
unfolding first_fault
fault_stays [] before fault e = e
fault_stays (line ∷ later) before fault e = rw (fault_stays later before fault e) refl

pub stands_start : (draft : Draft) (all : List (List ℕ)) → IsDraftOf draft [] → Stands draft all all
stands_start draft all heard = record { before = []; heard = heard; rest = append-nil (reverse all) }

pub stands_more : (draft new : Draft) (line : List ℕ) (left rest all : List (List ℕ)) → Stands draft left all → left ≡ line ∷ rest
    → ((before : List (List ℕ)) → IsDraftOf draft before → IsDraftOf new (line ∷ before)) → Stands new rest all
stands_more draft new line left rest all stands e more = record {
  before = line ∷ stands.before;
  heard = more stands.before stands.heard;
  rest = sym (turned line rest stands.before) ∙ (rw e at stands.rest);
}

pub stands_fault : (draft : Draft) (line : List ℕ) (left rest all : List (List ℕ)) (fault : MovesFault) → Stands draft left all → left ≡ line ∷ rest
    → ((before : List (List ℕ)) → IsDraftOf draft before → first_fault (line ∷ before) ≡ Some fault) → first_fault (reverse all) ≡ Some fault
stands_fault draft line left rest all fault stands e bad =
    rw (← stands.rest, e, turned line rest stands.before) (fault_stays (reverse rest) (line ∷ stands.before) fault (bad stands.before stands.heard))

pub stands_end : (draft : Draft) (left all : List (List ℕ)) → Stands draft left all → left ≡ [] → first_fault (reverse all) ≡ None
stands_end draft left all stands e = rw (← stands.rest, e) stands.heard.clean

-- what a line says goes from what is left to what is done
pub moves_more : (done new all : List Move) (line : List ℕ) (left rest : List (List ℕ)) → done ++ moves_of left ≡ all → left ≡ line ∷ rest → new ≡ done ++ moves_of (line ∷ []) → new ++ moves_of rest ≡ all
moves_more done new all line left rest so_far e more = rw (more, append_assoc, ← filter_map-append said_by (line ∷ []) rest) (rw e at so_far)

pub moves_end : (done all : List Move) (left : List (List ℕ)) → done ++ moves_of left ≡ all → left ≡ [] → done ≡ all
moves_end done all left so_far e = sym (append-nil done) ∙ (rw e at so_far)
