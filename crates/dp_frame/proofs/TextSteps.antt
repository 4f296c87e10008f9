-- The lines of a text that grows by a byte.
use Rattle.std.proofs.Common.{◌≡◌, ℕ, List, [], ◌∷◌, ◌++◌, Bool, true, false, length, append-nil, refl, ap, sym, ◌∙◌, arith}
use Rattle.std.specs.Prelude.{reverse, ◌==◌, if◌then◌else◌}
use Rattle.std.specs.List.{slice_split, onto_first}
use Rattle.std.proofs.lemmas.Grind.{common_steps}
use Rattle.std.proofs.lemmas.List.{reverse-append, append_assoc}
use Rattle.dp_text.specs.Lines.{is_newline, lines_of_pieces, stripped}
use Rattle.dp_frame.specs.Record.{all_lines, ended_lines, last_piece, unfinished_line}

-- the pieces, with a byte at the end of the last
onto_last : ℕ → List (List ℕ) → List (List ℕ)
onto_last b [] = (b ∷ []) ∷ []
onto_last b (x ∷ []) = (x ++ b ∷ []) ∷ []
onto_last b (x ∷ y ∷ more) = x ∷ onto_last b (y ∷ more)

onto_first-last : (a b : ℕ) (pieces : List (List ℕ)) (x : List ℕ) → onto_first a (onto_last b (x ∷ pieces)) ≡ onto_last b (onto_first a (x ∷ pieces))
unfolding onto_last
onto_first-last a b [] x = refl
onto_first-last a b (y ∷ more) x = refl

-- there is always a piece
some_piece : (t : List ℕ) → (x : List ℕ) × (more : List (List ℕ)) × (slice_split is_newline t ≡ x ∷ more)
some_piece [] = ([], [], refl)
some_piece (b ∷ t) = by_byte b (is_newline b) t refl (some_piece t)
  where
    by_byte : (b : ℕ) (v : Bool) (t : List ℕ) → is_newline b ≡ v → ((x : List ℕ) × (more : List (List ℕ)) × (slice_split is_newline t ≡ x ∷ more))
        → (x : List ℕ) × (more : List (List ℕ)) × (slice_split is_newline (b ∷ t) ≡ x ∷ more)
    by_byte b true t e s = ([], slice_split is_newline t, rw e)
    by_byte b false t e s = (b ∷ s.0, s.1, rw (e, s.2))

split-snoc : (t : List ℕ) (b : ℕ) → is_newline b ≡ false → slice_split is_newline (t ++ b ∷ []) ≡ onto_last b (slice_split is_newline t)
unfolding onto_last
split-snoc [] b other = rw other
split-snoc (a ∷ t) b other = by_byte (is_newline a) a t b other refl (split-snoc t b other) (some_piece t)
  where
    by_byte : (v : Bool) (a : ℕ) (t : List ℕ) (b : ℕ) → is_newline b ≡ false → is_newline a ≡ v
        → slice_split is_newline (t ++ b ∷ []) ≡ onto_last b (slice_split is_newline t)
        → ((x : List ℕ) × (more : List (List ℕ)) × (slice_split is_newline t ≡ x ∷ more))
        → slice_split is_newline ((a ∷ t) ++ b ∷ []) ≡ onto_last b (slice_split is_newline (a ∷ t))
    by_byte true a t b other e ih s = rw (e, ih, s.2)
    by_byte false a t b other e ih s = rw (e, ih, s.2) (onto_first-last a b s.1 s.0)

split-newline : (t : List ℕ) → slice_split is_newline (t ++ 10 ∷ []) ≡ slice_split is_newline t ++ [] ∷ []
split-newline [] = refl
split-newline (a ∷ t) = by_byte (is_newline a) a t refl (split-newline t) (some_piece t)
  where
    by_byte : (v : Bool) (a : ℕ) (t : List ℕ) → is_newline a ≡ v → slice_split is_newline (t ++ 10 ∷ []) ≡ slice_split is_newline t ++ [] ∷ []
        → ((x : List ℕ) × (more : List (List ℕ)) × (slice_split is_newline t ≡ x ∷ more))
        → slice_split is_newline ((a ∷ t) ++ 10 ∷ []) ≡ slice_split is_newline (a ∷ t) ++ [] ∷ []
    by_byte true a t e ih s = rw (e, ih, s.2)
    by_byte false a t e ih s = rw (e, ih, s.2)

pieces-onto_last : (b : ℕ) (x : List ℕ) (more : List (List ℕ)) → lines_of_pieces true (onto_last b (x ∷ more)) ≡ lines_of_pieces true (x ∷ more)
unfolding onto_last
pieces-onto_last b x [] = refl
pieces-onto_last b x (y ∷ []) = refl
pieces-onto_last b x (y ∷ z ∷ more) = ap (λ l. stripped x ∷ l) (pieces-onto_last b y (z ∷ more))

last-onto_last : (b : ℕ) (x : List ℕ) (more : List (List ℕ)) → last_piece (onto_last b (x ∷ more)) ≡ last_piece (x ∷ more) ++ b ∷ []
unfolding onto_last
last-onto_last b x [] = refl
last-onto_last b x (y ∷ []) = refl
last-onto_last b x (y ∷ z ∷ more) = last-onto_last b y (z ∷ more)

pieces-more : (x : List ℕ) (more : List (List ℕ))
    → lines_of_pieces true ((x ∷ more) ++ [] ∷ []) ≡ lines_of_pieces true (x ∷ more) ++ stripped (last_piece (x ∷ more)) ∷ []
pieces-more x [] = refl
pieces-more x (y ∷ more) = ap (λ l. stripped x ∷ l) (pieces-more y more)

last-more : (x : List ℕ) (more : List (List ℕ)) → last_piece ((x ∷ more) ++ [] ∷ []) ≡ []
last-more x [] = refl
last-more x (y ∷ more) = last-more y more

-- a byte that is no line feed
pub ended-other : (t : List ℕ) (b : ℕ) → is_newline b ≡ false → ended_lines (t ++ b ∷ []) ≡ ended_lines t
unfolding ended_lines
ended-other t b other = let s = some_piece t in rw (split-snoc t b other, s.2, pieces-onto_last b s.0 s.1)

pub unfinished-other : (t : List ℕ) (b : ℕ) → is_newline b ≡ false → unfinished_line (t ++ b ∷ []) ≡ unfinished_line t ++ b ∷ []
unfolding unfinished_line
unfinished-other t b other = let s = some_piece t in rw (split-snoc t b other, s.2, last-onto_last b s.0 s.1)

-- a line feed
pub ended-newline : (t : List ℕ) → ended_lines (t ++ 10 ∷ []) ≡ stripped (unfinished_line t) ∷ ended_lines t
unfolding ended_lines unfinished_line
ended-newline t = let s = some_piece t in rw (split-newline t, s.2, pieces-more s.0 s.1, reverse-append (lines_of_pieces true (s.0 ∷ s.1)))

pub unfinished-newline : (t : List ℕ) → unfinished_line (t ++ 10 ∷ []) ≡ []
unfolding unfinished_line
unfinished-newline t = let s = some_piece t in rw (split-newline t, s.2) (last-more s.0 s.1)

pub ended-none : ended_lines [] ≡ []
unfolding ended_lines
ended-none = refl

pub unfinished-none : unfinished_line [] ≡ []
unfolding unfinished_line
unfinished-none = refl

all-pieces : (x : List ℕ) (more : List (List ℕ))
    → lines_of_pieces false (x ∷ more) ≡ lines_of_pieces true (x ∷ more) ++ (if length (last_piece (x ∷ more)) == 0 then [] else last_piece (x ∷ more) ∷ [])
all-pieces x [] = refl
all-pieces x (y ∷ more) = ap (λ l. stripped x ∷ l) (all-pieces y more)

-- the lines of a whole text: those that have ended, and what is left, if it isn't empty
pub all-ended : (t : List ℕ) → all_lines t ≡ (if length (unfinished_line t) == 0 then ended_lines t else unfinished_line t ∷ ended_lines t)
unfolding all_lines ended_lines unfinished_line
all-ended t =
    let s = some_piece t in
    rw s.2 (ap reverse (all-pieces s.0 s.1) ∙ by_test (length (last_piece (s.0 ∷ s.1)) == 0) (lines_of_pieces true (s.0 ∷ s.1)) (last_piece (s.0 ∷ s.1)))
  where
    by_test : (v : Bool) (ls : List (List ℕ)) (x : List ℕ) → reverse (ls ++ (if v then [] else x ∷ [])) ≡ (if v then reverse ls else x ∷ reverse ls)
    by_test true ls x = rw (append-nil ls)
    by_test false ls x = rw (reverse-append ls)

pub newline-is : (b : ℕ) → is_newline b ≡ true → b ≡ 10
newline-is b is = grind (arith, common_steps)

pub not_newline : (b : ℕ) → (b ≡ 10 → ⊥) → is_newline b ≡ false
not_newline b other = grind (arith, common_steps)

-- a longer text has the same lines first
pub ended-more : (t u : List ℕ) → (more : List (List ℕ)) × (ended_lines (t ++ u) ≡ more ++ ended_lines t)
ended-more t [] = ([], ap ended_lines (append-nil t))
ended-more t (b ∷ u) = by_byte (is_newline b) refl (ended-more (t ++ b ∷ []) u)
  where
    by_byte : (v : Bool) → is_newline b ≡ v → ((more : List (List ℕ)) × (ended_lines ((t ++ b ∷ []) ++ u) ≡ more ++ ended_lines (t ++ b ∷ [])))
        → (more : List (List ℕ)) × (ended_lines (t ++ b ∷ u) ≡ more ++ ended_lines t)
    by_byte false other m = (m.0, rw (← ended-other t b other) (ap ended_lines (sym (append_assoc t (b ∷ []) u)) ∙ m.1))
    by_byte true is m = (
      m.0 ++ stripped (unfinished_line t) ∷ [],
      rw (append_assoc m.0 (stripped (unfinished_line t) ∷ []) (ended_lines t), ← ended-newline t, ← newline-is b is) (ap ended_lines (sym (append_assoc t (b ∷ []) u)) ∙ m.1),
    )

pub all-more : (t u : List ℕ) → (more : List (List ℕ)) × (all_lines (t ++ u) ≡ more ++ ended_lines t)
all-more t u = by_test (length (unfinished_line (t ++ u)) == 0) refl (ended-more t u)
  where
    by_test : (v : Bool) → (length (unfinished_line (t ++ u)) == 0) ≡ v → ((more : List (List ℕ)) × (ended_lines (t ++ u) ≡ more ++ ended_lines t))
        → (more : List (List ℕ)) × (all_lines (t ++ u) ≡ more ++ ended_lines t)
    by_test true is m = (m.0, all-ended (t ++ u) ∙ rw is m.1)
    by_test false is m = (unfinished_line (t ++ u) ∷ m.0, all-ended (t ++ u) ∙ rw (is, m.1))
