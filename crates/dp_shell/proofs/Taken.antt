-- Texts are taken one after another.
use Rattle.std.proofs.Common.{◌≡◌, ℕ, ◌+◌, ◌-◌, ◌<◌, List, [], ◌++◌, length, take, drop, Option, Some, None, ◌∙◌, ap, append_assoc, sym, subst, arith, length-append, length-drop}
use Rattle.std.proofs.lemmas.List.{append-nil, length-take, take_all, take-append-drop}
use Rattle.std.proofs.Math.Seq.{take-add, take-append_seam, take-append-add}
use Rattle.std.specs.Io.KnownBytes.{Appends, Keeps}
use Rattle.dp_shell.specs.Taken.{AppendsCut, CutInLine, EndsWithLine}

pub appends_then : (a b c : Option (List ℕ)) (x y : List ℕ) → Appends a b x → Appends b c y
    → Appends a c (x ++ y)
appends_then None b c x y h k = tt
appends_then (Some s) None c x y h k = absurd h
appends_then (Some s) (Some t) None x y h k = absurd k
appends_then (Some s) (Some t) (Some u) x y h k =
    k ∙ ap (λ (l : List ℕ). l ++ y) h ∙ append_assoc s x y

appends_keeps : (a b c : Option (List ℕ)) (x : List ℕ) → Appends a b x → Keeps b c → Appends a c x
appends_keeps None b c x h k = tt
appends_keeps (Some s) None c x h k = absurd h
appends_keeps (Some s) (Some t) None x h k = absurd k
appends_keeps (Some s) (Some t) (Some u) x h k = k ∙ h

pub appends_none : (a : Option (List ℕ)) → Appends a a []
appends_none None = tt
appends_none (Some s) = sym (append-nil s)

-- the next part of a text
pub appends_more : (a b c : Option (List ℕ)) (text : List ℕ) (done count : ℕ)
    → Appends a b (take done text) → Appends b c (take count (take (length text - done) (drop done text)))
    → Appends a c (take (done + count) text)
appends_more a b c text done count h k =
    let rest : take (length text - done) (drop done text) ≡ drop done text =
    take_all _ _ (omega (arith, length-drop done text)) in
    rw take-add (appends_then a b c (take done text) (take count (drop done text)) h
    (subst (λ (l : List ℕ). Appends b c (take count l)) rest k))

-- ---- texts that are cut short

-- nothing more was taken
pub cut_here : (a b c : Option (List ℕ)) (text : List ℕ) (done : ℕ) → done < length text
    → Appends a b (take done text) → Keeps b c → AppendsCut a c text
cut_here a b c text done more h k = (done, more, appends_keeps a b c (take done text) h k)

prefix_is : (n : ℕ) (x y : List ℕ) → n < length x → take n (x ++ y) ≡ take n x
prefix_is n x y short =
    let many : n ≡ length (take n x) = omega (arith, length-take n x) in
    ap (λ (k : ℕ). take k (x ++ y)) many
    ∙ ap (λ (l : List ℕ). take (length (take n x)) (l ++ y)) (sym (take-append-drop n x))
    ∙ ap (λ (l : List ℕ). take (length (take n x)) l) (append_assoc (take n x) (drop n x) y)
    ∙ take-append_seam (take n x) (drop n x ++ y)

-- within the first of two
pub cut_before : (a c : Option (List ℕ)) (x y : List ℕ) → AppendsCut a c x → AppendsCut a c (x ++ y)
cut_before a c x y (n, short, h) = (
  n,
  omega (arith, short, length-append x y),
  subst (λ (l : List ℕ). Appends a c l) (sym (prefix_is n x y short)) h,
)

-- within the second of two
pub cut_after : (a b c : Option (List ℕ)) (x y : List ℕ) → Appends a b x → AppendsCut b c y
    → AppendsCut a c (x ++ y)
cut_after a b c x y h (n, short, k) = (
  length x + n,
  omega (arith, short, length-append x y),
  subst (λ (l : List ℕ). Appends a c l) (sym (take-append-add x y n))
      (appends_then a b c x (take n y) h k),
)

-- ---- a line after a text that is cut short

pub line_whole : (a b : Option (List ℕ)) (text line : List ℕ) → Appends a b line
    → EndsWithLine a b text line
line_whole a b text line h = record { of_text = 0; taken = h }

pub line_cut : (a b : Option (List ℕ)) (text line : List ℕ) → AppendsCut a b line
    → CutInLine a b text line
line_cut a b text line (n, short, h) = record { of_text = 0; of_line = n; short = short; taken = h }

pub cut_line_whole : (a b c : Option (List ℕ)) (text line : List ℕ) → AppendsCut a b text
    → Appends b c line → EndsWithLine a c text line
cut_line_whole a b c text line (m, some, h) k =
    record { of_text = m; taken = appends_then a b c (take m text) line h k }

pub cut_line_cut : (a b c : Option (List ℕ)) (text line : List ℕ) → AppendsCut a b text
    → AppendsCut b c line → CutInLine a c text line
cut_line_cut a b c text line (m, some, h) (n, short, k) = record {
  of_text = m;
  of_line = n;
  short = short;
  taken = appends_then a b c (take m text) (take n line) h k;
}
