-- A record is written line by line.
use Rattle.std.proofs.Common.{◌≡◌, ℕ, List, [], ◌∷◌, ◌++◌, Option, sym, ap, subst, ◌∙◌, append_assoc}
use Rattle.std.specs.Prelude.{OnErr, Result, Ok, Err}
use Rattle.std.proofs.lemmas.List.{append-nil}
use Rattle.std.specs.Io.KnownBytes.{Appends}
use Rattle.dp_shell.specs.{AppendsCut}
use Rattle.dp_shell.proofs.Taken.{appends_none, appends_then, cut_after, cut_before}
use Rattle.dp_script.specs.Made.{joined, made, made_lines}

-- what was taken and the lines that are left are a text
pub record HasTaken (start now : Option (List ℕ)) (text : List ℕ) (left : List (List ℕ)) : Type 0 where
  pub done : List ℕ
  pub taken : Appends start now done
  pub whole : text ≡ done ++ joined left

pub none_taken : (a : Option (List ℕ)) (number : ℕ) (lines : List (List ℕ)) → lines ≡ made_lines number
    → HasTaken a a (made number) lines
unfolding made
none_taken a number lines all = record { done = []; taken = appends_none a; whole = ap joined (sym all) }

pub line_taken : (a b c : Option (List ℕ)) (text line : List ℕ) (before left : List (List ℕ)) → HasTaken a b text before
    → before ≡ line ∷ left → Appends b c line → HasTaken a c text left
line_taken a b c text line before left h next more = record {
  done = h.done ++ line;
  taken = appends_then a b c h.done line h.taken more;
  whole = h.whole ∙ ap (λ lines. h.done ++ joined lines) next ∙ sym (append_assoc h.done line (joined left));
}

pub all_taken : (a b : Option (List ℕ)) (text : List ℕ) (left : List (List ℕ)) → HasTaken a b text left → left ≡ []
    → Appends a b text
all_taken a b text left h none =
    subst (λ (l : List ℕ). Appends a b l) (sym (h.whole ∙ ap (λ lines. h.done ++ joined lines) none ∙ append-nil h.done)) h.taken

pub line_cut_short : (a b c : Option (List ℕ)) (text line : List ℕ) (before left : List (List ℕ)) → HasTaken a b text before
    → before ≡ line ∷ left → AppendsCut b c line → AppendsCut a c text
line_cut_short a b c text line before left h next cut =
    let is : text ≡ h.done ++ (line ++ joined left) = h.whole ∙ ap (λ lines. h.done ++ joined lines) next in
    subst (λ (l : List ℕ). AppendsCut a c l) (sym is)
    (cut_after a b c h.done (line ++ joined left) h.taken (cut_before b c line (joined left) cut))

-- what holds anyway holds of an error
pub on_err : {T E : Type 0} (r : Result T E) (P : Type 0) → P → OnErr r P
on_err (Ok x) P h = tt
on_err (Err e) P h = h
