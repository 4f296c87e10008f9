-- A printed section is read as the certificate.
use Rattle.std.proofs.Common.{◌≡◌, ◌<◌, ℕ, zero, suc, List, [], ◌∷◌, ◌++◌, length, map, Option, Some, Ok, refl, ap, ◌∙◌, arith, codes, ℤ, get_or}
use Rattle.std.specs.Prelude.{All}
use Rattle.dp_form.specs.declared.Squares.{Squares}
use Rattle.dp_plant.specs.Keys.{Section, field, plain, squares_at}
use Rattle.dp_plant.specs.PlantFile.{cert_at, cert_view, five_rows, lists_of_five, lists_of_three, lists_view, matrix, parts_at, parts_view, square_rows, steps_at, three_at, three_rows, two_at}
use Rattle.dp_plant.specs.declared.cert.Cert.{Cert}
use Rattle.dp_plant.specs.declared.cert.Lists.{Lists}
use Rattle.dp_plant.specs.declared.cert.Parts.{Parts}
use Rattle.dp_plant.specs.declared.cert.Parts.TheVariants.{Three, Five}
use Rattle.toml.specs.Data.{Data, array}
use Rattle.dp_cert.proofs.Tables.{listed_three}
use Rattle.dp_squares.specs.Section.{AreWholeParts, HasRows, IsWhole, IsWholeList, items_of, numbers_data}
use Rattle.dp_squares.specs.Text.{Row, cert_rows, number_rows, part_rows, span_rows, step_rows, upper_five, upper_three, wave_span_rows}
use Rattle.dp_squares.proofs.ReadRows.{number_read, numbers_read, squares_read}

-- the rows of the list at a place
abbrev pub rows_of : {n : ℕ} → List (Squares n) → ℕ → List (List ℤ)
rows_of ws i = get_or (map square_rows ws) i []

-- a key of a list at a place is read
list_read : {n : ℕ} (s : Section) (name : List ℕ) (ws : List (Squares n)) (i : ℕ) → i < length ws → All IsWholeList ws → field s.holder name ≡ Some (array (items_of numbers_data (rows_of ws i))) → squares_at n s name ≡ Ok (rows_of ws i)
list_read s name [] i h a f = absurd (omega (arith, h))
list_read {n} s name (w ∷ ws) zero h a f = squares_read s name w (a 0 w (omega arith)) f
list_read {n} s name (w ∷ ws) (suc i) h a f = list_read s name ws i (omega (arith, h)) (λ k d l. a (suc k) d (omega (arith, l))) f

three_from : {n : ℕ} (s : Section) (a b c : List ℕ) (ws : List (Squares n)) → 2 < length ws → All IsWholeList ws
    → field s.holder a ≡ Some (array (items_of numbers_data (rows_of ws 0))) → field s.holder b ≡ Some (array (items_of numbers_data (rows_of ws 1))) → field s.holder c ≡ Some (array (items_of numbers_data (rows_of ws 2)))
    → three_at n s a b c ≡ Ok (rows_of ws 0 ∷ rows_of ws 1 ∷ rows_of ws 2 ∷ [])
unfolding three_at
three_from s a b c ws l h fa fb fc =
    rw (list_read s a ws 0 (omega (arith, l)) h fa) (rw (list_read s b ws 1 (omega (arith, l)) h fb) (rw (list_read s c ws 2 (omega (arith, l)) h fc) refl))

two_from : {n : ℕ} (s : Section) (a b : List ℕ) (i j : ℕ) (ws : List (Squares n)) → i < length ws → j < length ws → All IsWholeList ws
    → field s.holder a ≡ Some (array (items_of numbers_data (rows_of ws i))) → field s.holder b ≡ Some (array (items_of numbers_data (rows_of ws j)))
    → two_at n s a b ≡ Ok (rows_of ws i ∷ rows_of ws j ∷ [])
unfolding two_at
two_from s a b i j ws li lj h fa fb = rw (list_read s a ws i li h fa) (rw (list_read s b ws j lj h fb) refl)

two_listed : {X : Type 0} (d : X) (xs : List X) → length xs ≡ 2 → xs ≡ get_or xs 0 d ∷ get_or xs 1 d ∷ []
two_listed d [] h = absurd (omega arith)
two_listed d (a ∷ []) h = absurd (omega arith)
two_listed d (a ∷ b ∷ []) h = refl
two_listed d (a ∷ b ∷ c ∷ xs) h = absurd (omega arith)

mapped_long : {n : ℕ} (ws : List (Squares n)) → length (map square_rows ws) ≡ length ws
mapped_long [] = refl
mapped_long (w ∷ ws) = ap suc (mapped_long ws)

three_is : {n : ℕ} (ws : List (Squares n)) → length ws ≡ 3 → map square_rows ws ≡ rows_of ws 0 ∷ rows_of ws 1 ∷ rows_of ws 2 ∷ []
three_is ws l = listed_three [] (map square_rows ws) (mapped_long ws ∙ l)

two_is : {n : ℕ} (ws : List (Squares n)) → length ws ≡ 2 → map square_rows ws ≡ rows_of ws 0 ∷ rows_of ws 1 ∷ []
two_is ws l = two_listed [] (map square_rows ws) (mapped_long ws ∙ l)

five_is : {n : ℕ} (ws : List (Squares n)) → length ws ≡ 5 → map square_rows ws ≡ rows_of ws 0 ∷ rows_of ws 1 ∷ rows_of ws 2 ∷ rows_of ws 3 ∷ rows_of ws 4 ∷ []
five_is [] l = absurd (omega arith)
five_is (a ∷ []) l = absurd (omega arith)
five_is (a ∷ b ∷ ws) l = ap (λ t. square_rows a ∷ square_rows b ∷ t) (three_is ws (omega (arith, l)))

-- the axis at a place
abbrev axis_at : {n : ℕ} → List (List (Squares n)) → ℕ → List (Squares n)
axis_at vs axis = get_or vs axis []

both_mapped : {n : ℕ} (vs : List (List (Squares n))) → length vs ≡ 2 → map (map square_rows) vs ≡ map square_rows (axis_at vs 0) ∷ map square_rows (axis_at vs 1) ∷ []
both_mapped [] h = absurd (omega arith)
both_mapped (a ∷ []) h = absurd (omega arith)
both_mapped (a ∷ b ∷ []) h = refl
both_mapped (a ∷ b ∷ c ∷ vs) h = absurd (omega arith)

-- the squares of the form, the vertices and the outputs
steps_read : {n : ℕ} (s : Section) (l : Lists n) → IsWhole l → HasRows s.holder (step_rows l)
    → steps_at n s ≡ Ok (record { form = square_rows l.form; vertex = map (map square_rows) l.vertex; output = map (map square_rows) l.output })
unfolding steps_at step_rows
steps_read {n} s l w r =
    let v0 = w.vertices 0 [] (omega (arith, w.axes)) in
    let v1 = w.vertices 1 [] (omega (arith, w.axes)) in
    let o0 = w.outputs 0 [] (omega (arith, w.output_axes)) in
    let o1 = w.outputs 1 [] (omega (arith, w.output_axes)) in
    let a0 = w.vertex 0 [] (omega (arith, w.axes)) in
    let a1 = w.vertex 1 [] (omega (arith, w.axes)) in
    let b0 = w.output 0 [] (omega (arith, w.output_axes)) in
    let b1 = w.output 1 [] (omega (arith, w.output_axes)) in
    rw (squares_read s (codes "form") l.form w.form r.0)
    (rw (three_from s (codes "surge0") (codes "surge1") (codes "surge2") (axis_at l.vertex 0) (omega (arith, v0)) a0 r.1.0 r.1.1.0 r.1.1.1.0)
    (rw (three_from s (codes "sway0") (codes "sway1") (codes "sway2") (axis_at l.vertex 1) (omega (arith, v1)) a1 r.1.1.1.1.0 r.1.1.1.1.1.0 r.1.1.1.1.1.1.0)
    (rw (two_from s (codes "out_surge0") (codes "out_surge1") 0 1 (axis_at l.output 0) (omega (arith, o0)) (omega (arith, o0)) b0 r.1.1.1.1.1.1.1.0 r.1.1.1.1.1.1.1.1.0)
    (rw (two_from s (codes "out_sway0") (codes "out_sway1") 0 1 (axis_at l.output 1) (omega (arith, o1)) (omega (arith, o1)) b1 r.1.1.1.1.1.1.1.1.1.0 r.1.1.1.1.1.1.1.1.1.1.0)
    (rw (both_mapped l.vertex w.axes, both_mapped l.output w.output_axes)
    (rw (three_is (axis_at l.vertex 0) v0, three_is (axis_at l.vertex 1) v1, two_is (axis_at l.output 0) o0, two_is (axis_at l.output 1) o1) refl))))))

has_left : (section : Option Data) (xs ys : List Row) → HasRows section (xs ++ ys) → HasRows section xs
has_left section [] ys h = tt
has_left section (x ∷ xs) ys h = (h.0, has_left section xs ys h.1)

has_right : (section : Option Data) (xs ys : List Row) → HasRows section (xs ++ ys) → HasRows section ys
has_right section [] ys h = h
has_right section (x ∷ xs) ys h = has_right section xs ys h.1

three_lists_read : (s : Section) (l : Lists 3) → matrix three_rows (upper_three l.p.at) ≡ l.p.at → IsWhole l → HasRows s.holder (part_rows (Three l)) → lists_of_three s ≡ Ok (lists_view l)
unfolding lists_of_three span_rows
three_lists_read s l u w h =
    let steps = has_left s.holder (step_rows l) (span_rows l) h.1.1 in
    let spans = has_right s.holder (step_rows l) (span_rows l) h.1.1 in
    rw (numbers_read s (codes "p") 6 (upper_three l.p.at) refl h.0)
    (rw (numbers_read s (codes "span") 3 l.span w.span h.1.0)
    (rw (steps_read s l w steps)
    (rw (three_from s (codes "span0") (codes "span1") (codes "span2") l.spans (omega (arith, w.coordinates)) w.spans spans.0 spans.1.0 spans.1.1.0)
    (rw (three_is l.spans w.coordinates, u) refl))))

five_lists_read : (s : Section) (l : Lists 5) → matrix five_rows (upper_five l.p.at) ≡ l.p.at → IsWhole l → HasRows s.holder (part_rows (Five l)) → lists_of_five s ≡ Ok (lists_view l)
unfolding lists_of_five span_rows wave_span_rows
five_lists_read s l u w h =
    let steps = has_left s.holder (step_rows l) (span_rows l ++ wave_span_rows l) h.1.1 in
    let spans = has_right s.holder (step_rows l) (span_rows l ++ wave_span_rows l) h.1.1 in
    rw (numbers_read s (codes "p") 15 (upper_five l.p.at) refl h.0)
    (rw (numbers_read s (codes "span") 5 l.span w.span h.1.0)
    (rw (steps_read s l w steps)
    (rw (three_from s (codes "span0") (codes "span1") (codes "span2") l.spans (omega (arith, w.coordinates)) w.spans spans.0 spans.1.0 spans.1.1.0)
    (rw (two_from s (codes "span3") (codes "span4") 3 4 l.spans (omega (arith, w.coordinates)) (omega (arith, w.coordinates)) w.spans spans.1.1.1.0 spans.1.1.1.1.0)
    (rw (five_is l.spans w.coordinates, u) refl)))))

parts_read : (version : ℕ) (s : Section) (parts : Parts) → AreWholeParts version parts → HasRows s.holder (part_rows parts) → parts_at version s ≡ Ok (parts_view parts)
unfolding parts_at
parts_read version s (Three l) (e, (u, w)) h = rw e (rw (three_lists_read s l u w h) refl)
parts_read version s (Five l) (e, (u, w)) h = rw e (rw (five_lists_read s l u w h) refl)

pub text_is_read : (c : Cert) (version : ℕ) (document : Option Data) → length c.g ≡ 2 → AreWholeParts version c.parts → HasRows (field document (codes "cert")) (cert_rows c) → cert_at version document ≡ Ok (cert_view c)
unfolding cert_at cert_rows number_rows
text_is_read c version document g w h =
    let s = plain document (codes "cert") in
    rw (number_read s (codes "rho") c.rho h.0) (rw (number_read s (codes "b") c.b h.1.0) (rw (number_read s (codes "r") c.r h.1.1.0)
    (rw (numbers_read s (codes "g") 2 c.g g h.1.1.1.0) (rw (parts_read version s c.parts w h.1.1.1.1) refl))))
