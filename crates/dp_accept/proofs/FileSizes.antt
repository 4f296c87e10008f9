-- How much a plant file's certificate holds: its matrix is whole, and each row of squares has a weight and a whole vector.
use Rattle.std.proofs.Common.{◌≡◌, ℕ, zero, suc, ◌+◌, ◌==◌, Bool, true, false, if◌then◌else◌, List, [], ◌∷◌, ◌++◌, length, map, Option, Ok, refl, subst, arith, codes, ℤ, All}
use Rattle.std.proofs.lemmas.List.Elements.{All-nil, All-cons, All-head, All-tail}
use Rattle.toml.specs.Data.{Data}
use Rattle.dp_form.specs.Form.{HasSize}
use Rattle.dp_form.specs.declared.Square.{Square}
use Rattle.dp_form.specs.declared.Squares.{Squares}
use Rattle.dp_plant.specs.Keys.{◌>>=◌, Section, number_at, numbers_at, plain, rows, squares_at, wholes}
use Rattle.dp_plant.specs.PlantFile.{CertData, ListsData, PartsData, PlantData, StepRows, of_three, of_five, cases_at, cert_at, five_rows, gains_at, lists_of_five, lists_of_three, lists_view, matrix, parts_at, plant_at, refs_at, square_row, square_rows, steps_at, three_at, three_rows, thrusters_at, two_at, vessel_at, wind_at, yaw_at}
use Rattle.dp_plant.specs.declared.cert.Lists.{Lists}
use Rattle.dp_plant.proofs.FileRanges.{all_each, chain_ok, found_ok, listed_ok, ok_is, wholes_long}
use Rattle.dp_cert.specs.Ranges.{squares_at as kept_at, squares_of}
use Rattle.dp_cert.proofs.Tables.{all_three, all_five}

-- ---- as the file has it

-- rows of a weight and n numbers each; lists of such rows, and lists of these
abbrev pub AreRows : ℕ → List (List ℤ) → Type 0
AreRows n rs = All (λ r. length r ≡ n + 1) rs

abbrev pub AreRowLists : ℕ → List (List (List ℤ)) → Type 0
AreRowLists n xs = All (AreRows n) xs

pub record HasWholeRows (n : ℕ) (x : ListsData) : Type 0 where
  pub p : HasSize n x.p
  pub form : AreRows n x.form
  pub vertex : All (AreRowLists n) x.vertex
  pub output : All (AreRowLists n) x.output
  pub spans : AreRowLists n x.spans

all_two : {X : Type 0} (P : X → Type 0) (a b : X) → P a → P b → All P (a ∷ b ∷ [])
all_two P a b pa pb = All-cons P a (b ∷ []) pa (All-cons P b [] pb (All-nil P))

squares_wide : (n : ℕ) (s : Section) (name : List ℕ) (rs : List (List ℤ)) → squares_at n s name ≡ Ok rs → AreRows n rs
unfolding squares_at
squares_wide n s name rs h =
    let (d, shaped) = found_ok _ (rows (n + 1) 0 8) _ rs h in
    let (items, (each, fits)) = listed_ok 0 8 (wholes (n + 1)) d rs shaped in
    all_each (λ r. length r ≡ n + 1) (wholes (n + 1)) (wholes_long (n + 1)) items rs each

three_wide : (n : ℕ) (s : Section) (first second third : List ℕ) (xs : List (List (List ℤ))) → three_at n s first second third ≡ Ok xs → AreRowLists n xs
unfolding three_at
three_wide n s first second third xs h =
    let (x, (a, h1)) = chain_ok (squares_at n s first) _ xs h in
    let (y, (b, h2)) = chain_ok (squares_at n s second) _ xs h1 in
    let (z, (c, h3)) = chain_ok (squares_at n s third) _ xs h2 in
    subst (AreRowLists n) (ok_is (x ∷ y ∷ z ∷ []) xs h3)
    (all_three (AreRows n) x y z (squares_wide n s first x a) (squares_wide n s second y b) (squares_wide n s third z c))

two_wide : (n : ℕ) (s : Section) (first second : List ℕ) (xs : List (List (List ℤ))) → two_at n s first second ≡ Ok xs → AreRowLists n xs
unfolding two_at
two_wide n s first second xs h =
    let (x, (a, h1)) = chain_ok (squares_at n s first) _ xs h in
    let (y, (b, h2)) = chain_ok (squares_at n s second) _ xs h1 in
    subst (AreRowLists n) (ok_is (x ∷ y ∷ []) xs h2) (all_two (AreRows n) x y (squares_wide n s first x a) (squares_wide n s second y b))

record HasWideSteps (n : ℕ) (x : StepRows) : Type 0 where
  form : AreRows n x.form
  vertex : All (AreRowLists n) x.vertex
  output : All (AreRowLists n) x.output

steps_wide : (n : ℕ) (s : Section) (st : StepRows) → steps_at n s ≡ Ok st → HasWideSteps n st
unfolding steps_at
steps_wide n s st h =
    let (form, (a, h1)) = chain_ok (squares_at n s (codes "form")) _ st h in
    let (surge, (b, h2)) = chain_ok (three_at n s (codes "surge0") (codes "surge1") (codes "surge2")) _ st h1 in
    let (sway, (c, h3)) = chain_ok (three_at n s (codes "sway0") (codes "sway1") (codes "sway2")) _ st h2 in
    let (out_surge, (d, h4)) = chain_ok (two_at n s (codes "out_surge0") (codes "out_surge1")) _ st h3 in
    let (out_sway, (e, h5)) = chain_ok (two_at n s (codes "out_sway0") (codes "out_sway1")) _ st h4 in
    subst (HasWideSteps n) (ok_is (record { form = form; vertex = surge ∷ sway ∷ []; output = out_surge ∷ out_sway ∷ [] }) st h5)
    (record {
      form = squares_wide n s (codes "form") form a;
      vertex = all_two (AreRowLists n) surge sway (three_wide n s (codes "surge0") (codes "surge1") (codes "surge2") surge b) (three_wide n s (codes "sway0") (codes "sway1") (codes "sway2") sway c);
      output = all_two (AreRowLists n) out_surge out_sway (two_wide n s (codes "out_surge0") (codes "out_surge1") out_surge d) (two_wide n s (codes "out_sway0") (codes "out_sway1") out_sway e);
    })

three_whole : (ps : List ℤ) → HasSize 3 (matrix three_rows ps)
three_whole ps = record { rows = refl; columns = all_three (λ (r : List ℤ). length r ≡ 3) _ _ _ refl refl refl }

five_whole : (ps : List ℤ) → HasSize 5 (matrix five_rows ps)
five_whole ps = record { rows = refl; columns = all_five (λ (r : List ℤ). length r ≡ 5) _ _ _ _ _ refl refl refl refl refl }

three_lists : (s : Section) (x : ListsData) → lists_of_three s ≡ Ok x → HasWholeRows 3 x
unfolding lists_of_three
three_lists s x h =
    let (p, (a, h1)) = chain_ok (numbers_at s (codes "p") 6) _ x h in
    let (span, (b, h2)) = chain_ok (numbers_at s (codes "span") 3) _ x h1 in
    let (steps, (c, h3)) = chain_ok (steps_at 3 s) _ x h2 in
    let (spans, (d, h4)) = chain_ok (three_at 3 s (codes "span0") (codes "span1") (codes "span2")) _ x h3 in
    let wide = steps_wide 3 s steps c in
    subst (HasWholeRows 3) (ok_is (record { p = matrix three_rows p; span = span; form = steps.form; vertex = steps.vertex; output = steps.output; spans = spans }) x h4)
    (record { p = three_whole p; form = wide.form; vertex = wide.vertex; output = wide.output; spans = three_wide 3 s (codes "span0") (codes "span1") (codes "span2") spans d })

joined : {X : Type 0} (P : X → Type 0) (xs ys : List X) → All P xs → All P ys → All P (xs ++ ys)
joined P [] ys a b = b
joined P (x ∷ xs) ys a b = All-cons P x (xs ++ ys) (All-head P x xs a) (joined P xs ys (All-tail P x xs a) b)

five_lists : (s : Section) (x : ListsData) → lists_of_five s ≡ Ok x → HasWholeRows 5 x
unfolding lists_of_five
five_lists s x h =
    let (p, (a, h1)) = chain_ok (numbers_at s (codes "p") 15) _ x h in
    let (span, (b, h2)) = chain_ok (numbers_at s (codes "span") 5) _ x h1 in
    let (steps, (c, h3)) = chain_ok (steps_at 5 s) _ x h2 in
    let (spans, (d, h4)) = chain_ok (three_at 5 s (codes "span0") (codes "span1") (codes "span2")) _ x h3 in
    let (waves, (e, h5)) = chain_ok (two_at 5 s (codes "span3") (codes "span4")) _ x h4 in
    let wide = steps_wide 5 s steps c in
    subst (HasWholeRows 5) (ok_is (record { p = matrix five_rows p; span = span; form = steps.form; vertex = steps.vertex; output = steps.output; spans = spans ++ waves }) x h5)
    (record {
      p = five_whole p;
      form = wide.form;
      vertex = wide.vertex;
      output = wide.output;
      spans = joined (AreRows 5) spans waves (three_wide 5 s (codes "span0") (codes "span1") (codes "span2") spans d) (two_wide 5 s (codes "span3") (codes "span4") waves e);
    })

abbrev pub HasWholeParts : PartsData → Type 0
HasWholeParts (of_three x) = HasWholeRows 3 x
HasWholeParts (of_five x) = HasWholeRows 5 x

parts_by : (three : Bool) (s : Section) (x : PartsData)
    → (if three then lists_of_three s >>= (λ l. Ok (of_three l)) else lists_of_five s >>= (λ l. Ok (of_five l))) ≡ Ok x → HasWholeParts x
parts_by true s x h =
    let (lists, (a, last)) = chain_ok (lists_of_three s) _ x h in
    subst HasWholeParts (ok_is (of_three lists) x last) (three_lists s lists a)
parts_by false s x h =
    let (lists, (a, last)) = chain_ok (lists_of_five s) _ x h in
    subst HasWholeParts (ok_is (of_five lists) x last) (five_lists s lists a)

parts_whole : (version : ℕ) (s : Section) (x : PartsData) → parts_at version s ≡ Ok x → HasWholeParts x
unfolding parts_at
parts_whole version s x h = parts_by (version == 1) s x h

cert_whole : (version : ℕ) (document : Option Data) (x : CertData) → cert_at version document ≡ Ok x → HasWholeParts x.parts
unfolding cert_at
cert_whole version document x h =
    let s = plain document (codes "cert") in
    let (rho, (a, h1)) = chain_ok (number_at s (codes "rho")) _ x h in
    let (b, (c, h2)) = chain_ok (number_at s (codes "b")) _ x h1 in
    let (r, (d, h3)) = chain_ok (number_at s (codes "r")) _ x h2 in
    let (g, (e, h4)) = chain_ok (numbers_at s (codes "g") 2) _ x h3 in
    let (parts, (f, h5)) = chain_ok (parts_at version s) _ x h4 in
    subst (λ (y : CertData). HasWholeParts y.parts) (ok_is (record { rho = rho; b = b; r = r; g = g; parts = parts }) x h5) (parts_whole version s parts f)

pub file_whole : (document : Option Data) (d : PlantData) → plant_at document ≡ Ok d → HasWholeParts d.cert.parts
unfolding plant_at
file_whole document d h =
    let (v, (a, h1)) = chain_ok (vessel_at document) _ d h in
    let (rs, (b, h2)) = chain_ok (refs_at document) _ d h1 in
    let (w, (c, h3)) = chain_ok (wind_at document) _ d h2 in
    let (ts, (e, h4)) = chain_ok (thrusters_at document v.groups) _ d h3 in
    let (cs, (f, h5)) = chain_ok (cases_at document v.groups (length ts)) _ d h4 in
    let (g, (k, h6)) = chain_ok (gains_at v.version document) _ d h5 in
    let (y, (l, h7)) = chain_ok (yaw_at document) _ d h6 in
    let (x, (m, h8)) = chain_ok (cert_at v.version document) _ d h7 in
    subst (λ (z : PlantData). HasWholeParts z.cert.parts) (ok_is _ d h8) (cert_whole v.version document x m)

-- ---- as the plant has it

-- each square's vector is whole
abbrev pub AreWhole : {n : ℕ} → List (Square n) → Type 0
AreWhole {n} qs = All (λ q. length q.l ≡ n) qs

pub record HasWholeLists {n : ℕ} (l : Lists n) : Type 0 where
  pub p : HasSize n l.p.at
  pub form : AreWhole l.form.list.items
  pub vertex : (i j : ℕ) → AreWhole (kept_at l.vertex i j)
  pub output : (i j : ℕ) → AreWhole (kept_at l.output i j)
  pub spans : (i : ℕ) → AreWhole (squares_of l.spans i)

vector_whole : (n : ℕ) (d : ℤ) (l : List ℤ) → length (d ∷ l) ≡ n + 1 → length l ≡ n
vector_whole n d l h = omega (arith, h)

whole_from : {n : ℕ} (qs : List (Square n)) → AreRows n (map square_row qs) → AreWhole qs
whole_from {n} [] h = All-nil (λ (q : Square n). length q.l ≡ n)
whole_from {n} (q ∷ qs) h =
    All-cons (λ (s : Square n). length s.l ≡ n) q qs (vector_whole n q.d q.l (All-head (λ (r : List ℤ). length r ≡ n + 1) (square_row q) (map square_row qs) h))
    (whole_from qs (All-tail (λ (r : List ℤ). length r ≡ n + 1) (square_row q) (map square_row qs) h))

one_from : {n : ℕ} (ws : List (Squares n)) → AreRowLists n (map square_rows ws) → (i : ℕ) → AreWhole (squares_of ws i)
one_from {n} [] h i = All-nil (λ (q : Square n). length q.l ≡ n)
one_from {n} (w ∷ ws) h zero = whole_from w.list.items (All-head (AreRows n) (square_rows w) (map square_rows ws) h)
one_from {n} (w ∷ ws) h (suc i) = one_from ws (All-tail (AreRows n) (square_rows w) (map square_rows ws) h) i

each_from : {n : ℕ} (ws : List (List (Squares n))) → All (AreRowLists n) (map (map square_rows) ws) → (i j : ℕ) → AreWhole (kept_at ws i j)
each_from {n} [] h i j = All-nil (λ (q : Square n). length q.l ≡ n)
each_from {n} (w ∷ ws) h zero j = one_from w (All-head (AreRowLists n) (map square_rows w) (map (map square_rows) ws) h) j
each_from {n} (w ∷ ws) h (suc i) j = each_from ws (All-tail (AreRowLists n) (map square_rows w) (map (map square_rows) ws) h) i j

pub lists_whole : {n : ℕ} (l : Lists n) → HasWholeRows n (lists_view l) → HasWholeLists l
lists_whole {n} l h = record {
  p = h.p;
  form = whole_from l.form.list.items h.form;
  vertex = each_from l.vertex h.vertex;
  output = each_from l.output h.output;
  spans = one_from l.spans h.spans;
}
