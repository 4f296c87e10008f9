-- Plants with the same data are the same.
use Rattle.std.proofs.Common.{◌≡◌, ℕ, ℤ, List, [], ◌∷◌, map, refl, ap, ap₂, ◌∙◌, subst}
use Rattle.std.proofs.Props.{props}
use Rattle.dp_form.specs.Form.{IsSymmetric}
use Rattle.dp_form.specs.declared.Square.{Square}
use Rattle.dp_form.specs.declared.Squares.{Squares}
use Rattle.dp_form.specs.declared.Sym.{Sym}
use Rattle.dp_plant.specs.PlantFile.{ListsData, PartsData, PlantData, of_three, of_five, cert_view, lists_view, parts_view, plant_view, square_row, square_rows}
use Rattle.dp_plant.specs.PlantRanges.{IsWithinFile, IsWithinFile-prop}
use Rattle.dp_plant.specs.declared.cert.Cert.{Cert}
use Rattle.dp_plant.specs.declared.cert.Lists.{Lists}
use Rattle.dp_plant.specs.declared.cert.Parts.{Parts}
use Rattle.dp_plant.specs.declared.cert.Parts.TheVariants.{Three, Five}
use Rattle.dp_plant.specs.declared.plant.Plant.{Plant}

-- ---- lists

same_head : {A : Type 0} (x y : A) (xs ys : List A) → x ∷ xs ≡ y ∷ ys → x ≡ y
same_head x y xs ys e = cc

same_tail : {A : Type 0} (x y : A) (xs ys : List A) → x ∷ xs ≡ y ∷ ys → xs ≡ ys
same_tail x y xs ys e = cc

same_items : {A B : Type 0} (f : A → B) → ((x y : A) → f x ≡ f y → x ≡ y) → (xs ys : List A) → map f xs ≡ map f ys → xs ≡ ys
same_items f one [] [] e = refl
same_items f one [] (y ∷ ys) e = absurd cc
same_items f one (x ∷ xs) [] e = absurd cc
same_items f one (x ∷ xs) (y ∷ ys) e =
    ap₂ (λ a l. a ∷ l) (one x y (same_head (f x) (f y) (map f xs) (map f ys) e)) (same_items f one xs ys (same_tail (f x) (f y) (map f xs) (map f ys) e))

-- ---- squares

same_square : {n : ℕ} (q r : Square n) → square_row q ≡ square_row r → q ≡ r
same_square {n} q r e =
    let of : ℤ → List ℤ → Square n = λ d l. record { d = d; l = l } in
    ap₂ of (same_head q.d r.d q.l r.l e) (same_tail q.d r.d q.l r.l e)

same_squares : {n : ℕ} (s t : Squares n) → square_rows s ≡ square_rows t → s ≡ t
same_squares {n} s t e =
    let of : List (Square n) → Squares n = λ l. record { list = record { items = l } } in
    ap of (same_items square_row same_square s.list.items t.list.items e)

same_some : {n : ℕ} (xs ys : List (Squares n)) → map square_rows xs ≡ map square_rows ys → xs ≡ ys
same_some xs ys e = same_items square_rows same_squares xs ys e

same_many : {n : ℕ} (xs ys : List (List (Squares n))) → map (map square_rows) xs ≡ map (map square_rows) ys → xs ≡ ys
same_many xs ys e = same_items (map square_rows) same_some xs ys e

-- ---- a certificate

-- all of a form but that it is symmetric
record Shape (n : ℕ) : Type 0 where
  pub p : Sym n
  pub span : List ℤ
  pub form : Squares n
  pub vertex : List (List (Squares n))
  pub output : List (List (Squares n))
  pub spans : List (Squares n)

lists_from : {n : ℕ} (s : Shape n) → IsSymmetric n s.p.at → Lists n
lists_from s symmetric = record { p = s.p; span = s.span; form = s.form; vertex = s.vertex; output = s.output; spans = s.spans; symmetric = symmetric }

shape_of : {n : ℕ} → Lists n → Shape n
shape_of x = record { p = x.p; span = x.span; form = x.form; vertex = x.vertex; output = x.output; spans = x.spans }

one_symmetry : (n : ℕ) (p : List (List ℤ)) → IsProp (IsSymmetric n p)
one_symmetry n p = Prim.hlevel props

same_shape : {n : ℕ} (s t : Shape n) → s ≡ t → (a : IsSymmetric n s.p.at) (b : IsSymmetric n t.p.at) → lists_from s a ≡ lists_from t b
same_shape {n} s t e a b =
    subst (λ (u : Shape n). (c : IsSymmetric n u.p.at) → lists_from s a ≡ lists_from u c) e
    (λ c. ap (lists_from s) (one_symmetry n s.p.at a c)) b

same_lists : {n : ℕ} (x y : Lists n) → lists_view x ≡ lists_view y → x ≡ y
unfolding shape_of lists_from
same_lists {n} x y e =
    let p_is : x.p ≡ y.p = ap (λ (d : ListsData). record { at = d.p }) e in
    let of : List ℤ → Squares n → List (List (Squares n)) → List (List (Squares n)) → List (Squares n) → Sym n → Shape n =
    λ span form vertex output spans p. record { p = p; span = span; form = form; vertex = vertex; output = output; spans = spans } in
    let same : shape_of x ≡ shape_of y =
    ap (λ (s : List ℤ). of s x.form x.vertex x.output x.spans x.p) (ap (λ (d : ListsData). d.span) e)
    ∙ ap (λ (s : Squares n). of y.span s x.vertex x.output x.spans x.p) (same_squares x.form y.form (ap (λ (d : ListsData). d.form) e))
    ∙ ap (λ (s : List (List (Squares n))). of y.span y.form s x.output x.spans x.p) (same_many x.vertex y.vertex (ap (λ (d : ListsData). d.vertex) e))
    ∙ ap (λ (s : List (List (Squares n))). of y.span y.form y.vertex s x.spans x.p) (same_many x.output y.output (ap (λ (d : ListsData). d.output) e))
    ∙ ap (λ (s : List (Squares n)). of y.span y.form y.vertex y.output s x.p) (same_some x.spans y.spans (ap (λ (d : ListsData). d.spans) e))
    ∙ ap (λ (s : Sym n). of y.span y.form y.vertex y.output y.spans s) p_is in
    same_shape (shape_of x) (shape_of y) same x.symmetric y.symmetric

three_is : (a b : ListsData) → of_three a ≡ of_three b → a ≡ b
three_is a b e = cc

five_is : (a b : ListsData) → of_five a ≡ of_five b → a ≡ b
five_is a b e = cc

same_parts : (x y : Parts) → parts_view x ≡ parts_view y → x ≡ y
same_parts (Three x) (Three y) e = ap Three (same_lists x y (three_is (lists_view x) (lists_view y) e))
same_parts (Five x) (Five y) e = ap Five (same_lists x y (five_is (lists_view x) (lists_view y) e))
same_parts (Three x) (Five y) e = absurd cc
same_parts (Five x) (Three y) e = absurd cc

abbrev cert_with : PlantData → Parts → Cert
cert_with d parts = record { rho = d.cert.rho; b = d.cert.b; r = d.cert.r; g = d.cert.g; parts = parts }

-- ---- a plant

-- its data are those of a plant with this certificate, within the ranges of a file
abbrev IsWithinData : PlantData → Parts → Type 0
IsWithinData d parts = IsWithinFile d.version d.cycle_ms d.origin d.start d.setpoint d.groups d.mass d.tol d.refs d.levers d.wind d.thrusters d.cases d.gains parts

abbrev plant_with : (d : PlantData) (parts : Parts) → IsWithinData d parts → Plant
plant_with d parts within = record {
  version = d.version;
  cycle_ms = d.cycle_ms;
  origin = d.origin;
  start = d.start;
  setpoint = d.setpoint;
  groups = d.groups;
  mass = d.mass;
  tol = d.tol;
  refs = d.refs;
  levers = d.levers;
  wind = d.wind;
  thrusters = record { items = d.thrusters };
  cases = record { items = d.cases };
  gains = d.gains;
  yaw = d.yaw;
  cert = cert_with d parts;
  within = within;
}

one_range : (d : PlantData) (parts : Parts) → IsProp (IsWithinData d parts)
one_range d parts = IsWithinFile-prop d.version d.cycle_ms d.origin d.start d.setpoint d.groups d.mass d.tol d.refs d.levers d.wind d.thrusters d.cases d.gains parts

same_data : (c d : PlantData) (x y : Parts) → c ≡ d → x ≡ y → (v : IsWithinData c x) (w : IsWithinData d y) → plant_with c x v ≡ plant_with d y w
same_data c d x y is parts v w =
    subst (λ (e : PlantData). (u : IsWithinData e y) → plant_with c x v ≡ plant_with e y u) is
    (subst (λ (z : Parts). (u : IsWithinData c z) → plant_with c x v ≡ plant_with c z u) parts
    (λ u. ap (plant_with c x) (one_range c x v u))) w

pub same_plant : (p q : Plant) → plant_view p ≡ plant_view q → p ≡ q
same_plant p q e =
    same_data (plant_view p) (plant_view q) p.cert.parts q.cert.parts e
    (same_parts p.cert.parts q.cert.parts (ap (λ (d : PlantData). d.cert.parts) e)) p.within q.within
