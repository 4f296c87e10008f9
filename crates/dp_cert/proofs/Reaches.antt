-- A step keeps a state within reach, and a state within reach is within the widths.
use Rattle.std.proofs.Common.{◌≡◌, ◌≤◌, ℕ, suc, List, [], ◌∷◌, length, refl, sym, ap, ◌∙◌, arith, ℤ, pos, ◌+ℤ◌, ◌-ℤ◌, ◌*ℤ◌, ◌≤ℤ◌, ◌<ℤ◌}
use Rattle.std.proofs.lemmas.Int.{ints, clamps}
use Rattle.std.specs.Int.{int_max}
use Rattle.std.specs.Prelude.{unsigned_abs}
use Rattle.dp_form.proofs.Ring.{var, num, ◌⊕◌, ◌⊗◌, minus, ring}
use Rattle.dp_form.proofs.Order.{square_nonneg, mul_nonneg, mul_le, le_cancel}
use Rattle.dp_fixed.specs.Division.{floor_of, ceil_of}
use Rattle.dp_fixed.proofs.Divisions.{floor_is, ceil_is}
use Rattle.dp_form.specs.Vectors.{dot, add, scale, apply, entry as matrix_entry}
use Rattle.dp_form.specs.Form.{form, plane_form}
use Rattle.dp_form.proofs.Bilinear.{dot_comm}
use Rattle.dp_form.proofs.Expansion.{form_scale}
use Rattle.dp_form.proofs.Entries.{place}
use Rattle.dp_form.proofs.Sizes.{length-scale, length-add}
use Rattle.dp_form.proofs.Triangle.{plane_triangle}
use Rattle.dp_cert.specs.Matrices.{absolute_rows}
use Rattle.dp_cert.proofs.MatrixForms.{one_at, dot_same, entry_bilinear}
use Rattle.dp_cert.proofs.Near.{Near, size_near, near_square, square_near, Within, form_near}
use Rattle.dp_cert.proofs.Floors.{floored, ones, length-ones}
use Rattle.dp_cert.proofs.Demands.{near_factor}
use Rattle.dp_cert.proofs.Steps.{Observer, Certified, numerators, next_of, length-numerators, input_below}
use Rattle.dp_cert.proofs.Runs.{bound_kept}

-- ---- floors of one vector
-- what the floors take away
abbrev lost : ℤ → List ℤ → List ℤ
lost q [] = []
lost q (n ∷ ns) = (q *ℤ floor_of n q -ℤ n) ∷ lost q ns

lost_entry : (q n f : ℤ) → q *ℤ f ≡ n +ℤ (q *ℤ f -ℤ n)
lost_entry q n f = omega (arith, ints)

floored_lost : (q : ℤ) (ns : List ℤ) → scale q (floored q ns) ≡ add ns (lost q ns)
floored_lost q [] = refl
floored_lost q (n ∷ ns) = let e = lost_entry q n (floor_of n q) in let f = floored_lost q ns in cc

lost_near : (q n : ℤ) → pos 0 <ℤ q → Near q (q *ℤ floor_of n q -ℤ n)
lost_near q n h =
    let f = floor_is n q h in
    let e = (ring (q ∷ (floor_of n q ∷ [])) (var 0 ⊗ var 1) (var 1 ⊗ var 0) tt) in
    record { below = omega (arith, ints, f.above, e); above = omega (arith, ints, f.below, e) }

-- within q times a size from 1 up
wider : (q m a : ℤ) → pos 0 <ℤ q → pos 1 ≤ℤ m → Near q a → Near (q *ℤ m) a
wider q m a h l n =
    let e = mul_le q (pos 1) m (omega (arith, ints)) l in
    let i = (ring (q ∷ []) (var 0 ⊗ num (pos 1)) (var 0) tt) in
    record { below = omega (arith, ints, n.below); above = omega (arith, ints, n.above) }

one_more : (k : ℤ) → pos 0 ≤ℤ k → pos 1 ≤ℤ (pos 1 +ℤ pos 2 *ℤ k)
one_more k h = omega (arith, ints)

lost_within : (q : ℤ) (ns w : List ℤ) → pos 0 <ℤ q → Within w w → length ns ≡ length w → Within (scale q (add (ones w) (scale (pos 2) w))) (lost q ns)
lost_within q [] w h n l = tt
lost_within q (a ∷ ns) [] h n l = absurd (omega arith)
lost_within q (a ∷ ns) (k ∷ w) h n l = (wider q (pos 1 +ℤ pos 2 *ℤ k) (q *ℤ floor_of a q -ℤ a) h (one_more k (omega (arith, ints, n.0.below))) (lost_near q a h), lost_within q ns w h n.1 (omega arith))

length-lost : (q : ℤ) (ns : List ℤ) → length (lost q ns) ≡ length ns
length-lost q [] = refl
length-lost q (a ∷ ns) = ap suc (length-lost q ns)

length-sized : (w : List ℤ) → length (add (ones w) (scale (pos 2) w)) ≡ length w
length-sized w = length-add (length w) (ones w) (scale (pos 2) w) (length-ones w) (length-scale (pos 2) w)

lost_below : (p : List (List ℤ)) (q : ℤ) (ns w : List ℤ) → pos 0 <ℤ q → Within w w → length ns ≡ length w →
    form p (lost q ns) ≤ℤ (q *ℤ q *ℤ form (absolute_rows p) (add (ones w) (scale (pos 2) w)))
lost_below p q ns w h n l =
    let m = add (ones w) (scale (pos 2) w) in
    let f = form_near p (scale q m) (lost q ns) (lost_within q ns w h n l) (length-scale q m ∙ length-sized w ∙ sym l ∙ sym (length-lost q ns)) in
    let e = form_scale (absolute_rows p) q m in
    omega (arith, ints, f.above, e)

-- ---- what pushes
push_square : (c s a b : ℤ) → (c *ℤ a -ℤ s *ℤ b) *ℤ (c *ℤ a -ℤ s *ℤ b) +ℤ (s *ℤ a +ℤ c *ℤ b) *ℤ (s *ℤ a +ℤ c *ℤ b) ≡ (a *ℤ a +ℤ b *ℤ b) *ℤ (c *ℤ c +ℤ s *ℤ s)
push_square c s a b = (ring (c ∷ (s ∷ (a ∷ (b ∷ [])))) ((var 0 ⊗ var 2 ⊕ minus (var 1 ⊗ var 3)) ⊗ (var 0 ⊗ var 2 ⊕ minus (var 1 ⊗ var 3)) ⊕ (var 1 ⊗ var 2 ⊕ var 0 ⊗ var 3) ⊗ (var 1 ⊗ var 2 ⊕ var 0 ⊗ var 3)) ((var 2 ⊗ var 2 ⊕ var 3 ⊗ var 3) ⊗ (var 0 ⊗ var 0 ⊕ var 1 ⊗ var 1)) tt)

push_below : (q c s a b v t push : ℤ) → pos 0 ≤ℤ v → (pos 2 *ℤ v) ≤ℤ (t *ℤ t) → (c *ℤ c +ℤ s *ℤ s) ≤ℤ (q *ℤ q) → Near push a → Near push b →
    ((c *ℤ a -ℤ s *ℤ b) *ℤ (c *ℤ a -ℤ s *ℤ b) *ℤ v +ℤ (s *ℤ a +ℤ c *ℤ b) *ℤ (s *ℤ a +ℤ c *ℤ b) *ℤ v) ≤ℤ (q *ℤ (t *ℤ push) *ℤ (q *ℤ (t *ℤ push)))
push_below q c s a b v t push v0 h short na nb =
    let sa = square_near push a na in let sb = square_near push b nb in
    let ab0 : pos 0 ≤ℤ (a *ℤ a +ℤ b *ℤ b) = omega (arith, ints, square_nonneg a, square_nonneg b) in
    let u = mul_le (a *ℤ a +ℤ b *ℤ b) (c *ℤ c +ℤ s *ℤ s) (q *ℤ q) ab0 short in
    let w = mul_le (q *ℤ q) (a *ℤ a +ℤ b *ℤ b) (pos 2 *ℤ (push *ℤ push)) (square_nonneg q) (omega (arith, ints)) in
    let x = (c *ℤ a -ℤ s *ℤ b) *ℤ (c *ℤ a -ℤ s *ℤ b) in let y = (s *ℤ a +ℤ c *ℤ b) *ℤ (s *ℤ a +ℤ c *ℤ b) in
    let e = push_square c s a b in
    let e1 = (ring (q ∷ (a ∷ (b ∷ []))) ((var 1 ⊗ var 1 ⊕ var 2 ⊗ var 2) ⊗ (var 0 ⊗ var 0)) (var 0 ⊗ var 0 ⊗ (var 1 ⊗ var 1 ⊕ var 2 ⊗ var 2)) tt) in
    let k : (x +ℤ y) ≤ℤ (q *ℤ q *ℤ (pos 2 *ℤ (push *ℤ push))) = omega (arith, ints, e, u, w, e1) in
    let i = mul_le v (x +ℤ y) (q *ℤ q *ℤ (pos 2 *ℤ (push *ℤ push))) v0 k in
    let j = mul_le (q *ℤ q *ℤ (push *ℤ push)) (pos 2 *ℤ v) (t *ℤ t) (mul_nonneg (q *ℤ q) (push *ℤ push) (square_nonneg q) (square_nonneg push)) h in
    let e2 = (ring (v ∷ (x ∷ (y ∷ []))) (var 0 ⊗ (var 1 ⊕ var 2)) (var 1 ⊗ var 0 ⊕ var 2 ⊗ var 0) tt) in
    let e3 = (ring (q ∷ (v ∷ (push ∷ []))) (var 1 ⊗ (var 0 ⊗ var 0 ⊗ (num (pos 2) ⊗ (var 2 ⊗ var 2)))) (var 0 ⊗ var 0 ⊗ (var 2 ⊗ var 2) ⊗ (num (pos 2) ⊗ var 1)) tt) in
    let e4 = (ring (q ∷ (t ∷ (push ∷ []))) (var 0 ⊗ var 0 ⊗ (var 2 ⊗ var 2) ⊗ (var 1 ⊗ var 1)) (var 0 ⊗ (var 1 ⊗ var 2) ⊗ (var 0 ⊗ (var 1 ⊗ var 2))) tt) in
    last (x *ℤ v +ℤ y *ℤ v) (v *ℤ (x +ℤ y)) (v *ℤ (q *ℤ q *ℤ (pos 2 *ℤ (push *ℤ push)))) (q *ℤ q *ℤ (push *ℤ push) *ℤ (pos 2 *ℤ v)) (q *ℤ q *ℤ (push *ℤ push) *ℤ (t *ℤ t)) (q *ℤ (t *ℤ push) *ℤ (q *ℤ (t *ℤ push))) e2 i e3 j e4
  where
    last : (a b c d e f : ℤ) → b ≡ a → b ≤ℤ c → c ≡ d → d ≤ℤ e → e ≡ f → a ≤ℤ f
    last a b c d e f h i j k l = omega (arith, ints)

-- ---- one step
scale_square : (q v v' : ℤ) → q *ℤ q *ℤ v +ℤ q *ℤ q *ℤ v' ≡ q *ℤ q *ℤ (v +ℤ v')
scale_square q v v' = (ring (q ∷ (v ∷ (v' ∷ []))) (var 0 ⊗ var 0 ⊗ var 1 ⊕ var 0 ⊗ var 0 ⊗ var 2) (var 0 ⊗ var 0 ⊗ (var 1 ⊕ var 2)) tt)

pub reach_step : (o : Observer) (p : List (List ℤ)) (rate input rounding thrust : ℤ) → Certified o p rate input rounding → rate <ℤ o.q → pos 0 ≤ℤ thrust → (pos 2 *ℤ form p o.thrust) ≤ℤ (thrust *ℤ thrust) →
    (c s : ℤ) → (c *ℤ c +ℤ s *ℤ s) ≤ℤ (o.q *ℤ o.q) → (x y : List ℤ) (a b t u far push n : ℤ) → pos 0 ≤ℤ far → pos 0 ≤ℤ push → pos 0 ≤ℤ n →
    Near far a → Near far b → Near push t → Near push u → plane_form p x y ≤ℤ (n *ℤ n) → (input *ℤ far +ℤ o.q *ℤ (thrust *ℤ push) +ℤ o.q *ℤ rounding) ≤ℤ ((o.q -ℤ rate) *ℤ n) →
    plane_form p (next_of o x a (c *ℤ t -ℤ s *ℤ u)) (next_of o y b (s *ℤ t +ℤ c *ℤ u)) ≤ℤ (n *ℤ n)
reach_step o p rate input rounding thrust k r t0 ht c s short x y a b t u far push n f0 p0 n0 na nb nt nu v enough =
    let q = o.q in
    let q0 : pos 0 ≤ℤ q = omega (arith, ints, k.scale_positive) in
    let north = c *ℤ t -ℤ s *ℤ u in let east = s *ℤ t +ℤ c *ℤ u in
    let rn = rate *ℤ n in let bf = input *ℤ far in let tp = q *ℤ (thrust *ℤ push) in let qr = q *ℤ rounding in
    let rn0 : pos 0 ≤ℤ rn = mul_nonneg rate n k.rate_low n0 in
    let bf0 : pos 0 ≤ℤ bf = mul_nonneg input far k.input_low f0 in
    let tp0 : pos 0 ≤ℤ tp = mul_nonneg q (thrust *ℤ push) q0 (mul_nonneg thrust push t0 p0) in
    let qr0 : pos 0 ≤ℤ qr = mul_nonneg q rounding q0 k.rounding_low in
    let ns = numerators o x a north in let es = numerators o y b east in
    let ln = length-numerators o k.rows k.corrections x a north in let le = length-numerators o k.rows k.corrections y b east in
    let hm = linear_below rate n (form p x) (form p y) (form p (apply o.m x)) (form p (apply o.m y)) (k.surge.saturated x) (k.surge.saturated y) v in
    let hk = unscaled (form p (scale (pos 1 *ℤ a) o.correction) +ℤ form p (scale (pos 1 *ℤ b) o.correction)) (form p (scale a o.correction) +ℤ form p (scale b o.correction)) bf
    (ap (λ (z : ℤ). form p (scale z o.correction) +ℤ form p (scale (pos 1 *ℤ b) o.correction)) (one_times a) ∙ ap (λ (z : ℤ). form p (scale a o.correction) +ℤ form p (scale z o.correction)) (one_times b))
    (input_below p o.correction (pos 1) input far a b (k.nonneg o.correction) f0 k.input_enough (square_near far a na) (square_near far b nb)) in
    let hw = moved (form p (scale north o.thrust)) (form p (scale east o.thrust)) _ _ _ (form_scale p north o.thrust) (form_scale p east o.thrust)
    (push_below q c s t u (form p o.thrust) thrust push (k.nonneg o.thrust) ht short nt nu) in
    let sized = form (absolute_rows p) (add (ones o.thrust) (scale (pos 2) o.thrust)) in
    let hl = lost_sum q rounding sized (form p (lost q ns)) (form p (lost q es)) (lost_below p q ns o.thrust k.scale_positive k.thrust_low ln) (lost_below p q es o.thrust k.scale_positive k.thrust_low le) k.rounding_enough in
    let i1 = plane_triangle p k.nonneg (apply o.m x) (apply o.m y) (scale a o.correction) (scale b o.correction) rn bf rn0 bf0 hm hk in
    let i2 = plane_triangle p k.nonneg (add (apply o.m x) (scale a o.correction)) (add (apply o.m y) (scale b o.correction)) (scale north o.thrust) (scale east o.thrust) (rn +ℤ bf) tp (omega (arith, ints)) tp0 i1 hw in
    let i3 = plane_triangle p k.nonneg ns es (lost q ns) (lost q es) (rn +ℤ bf +ℤ tp) qr (omega (arith, ints)) qr0 i2 hl in
    let en : form p (add ns (lost q ns)) ≡ q *ℤ q *ℤ form p (floored q ns) = ap (form p) (sym (floored_lost q ns)) ∙ form_scale p q (floored q ns) in
    let ee : form p (add es (lost q es)) ≡ q *ℤ q *ℤ form p (floored q es) = ap (form p) (sym (floored_lost q es)) ∙ form_scale p q (floored q es) in
    bound_kept q rate (bf +ℤ tp +ℤ qr) n (plane_form p (floored q ns) (floored q es)) k.scale_positive k.rate_low (omega (arith, ints)) n0 enough
    (ended _ _ (form p (floored q ns)) (form p (floored q es)) q rn bf tp qr en ee i3)
  where
    one_times : (z : ℤ) → pos 1 *ℤ z ≡ z
    one_times z = (ring (z ∷ []) (num (pos 1) ⊗ var 0) (var 0) tt)

    linear_below : (rate n vx vy mx my : ℤ) → mx ≤ℤ (rate *ℤ rate *ℤ vx) → my ≤ℤ (rate *ℤ rate *ℤ vy) → (vx +ℤ vy) ≤ℤ (n *ℤ n) → (mx +ℤ my) ≤ℤ (rate *ℤ n *ℤ (rate *ℤ n))
    linear_below rate n vx vy mx my h i j =
        let a = mul_le (rate *ℤ rate) (vx +ℤ vy) (n *ℤ n) (square_nonneg rate) j in
        let e1 = (ring (rate ∷ (vx ∷ (vy ∷ []))) (var 0 ⊗ var 0 ⊗ (var 1 ⊕ var 2)) (var 0 ⊗ var 0 ⊗ var 1 ⊕ var 0 ⊗ var 0 ⊗ var 2) tt) in
        let e2 = (ring (rate ∷ (n ∷ [])) (var 0 ⊗ var 0 ⊗ (var 1 ⊗ var 1)) (var 0 ⊗ var 1 ⊗ (var 0 ⊗ var 1)) tt) in
        omega (arith, ints)

    unscaled : (f g m : ℤ) → f ≡ g → f ≤ℤ (pos 1 *ℤ m *ℤ (pos 1 *ℤ m)) → g ≤ℤ (m *ℤ m)
    unscaled f g m e h = let i = (ring (m ∷ []) (num (pos 1) ⊗ var 0 ⊗ (num (pos 1) ⊗ var 0)) (var 0 ⊗ var 0) tt) in omega (arith, ints)

    moved : (f g x y m : ℤ) → f ≡ x → g ≡ y → (x +ℤ y) ≤ℤ m → (f +ℤ g) ≤ℤ m
    moved f g x y m e d h = omega (arith, ints)

    lost_sum : (q r f v w : ℤ) → v ≤ℤ (q *ℤ q *ℤ f) → w ≤ℤ (q *ℤ q *ℤ f) → (pos 2 *ℤ f) ≤ℤ (r *ℤ r) → (v +ℤ w) ≤ℤ (q *ℤ r *ℤ (q *ℤ r))
    lost_sum q r f v w h i j =
        let a = mul_le (q *ℤ q) (pos 2 *ℤ f) (r *ℤ r) (square_nonneg q) j in
        let e1 = (ring (q ∷ (f ∷ [])) (var 0 ⊗ var 0 ⊗ (num (pos 2) ⊗ var 1)) (num (pos 2) ⊗ (var 0 ⊗ var 0 ⊗ var 1)) tt) in
        let e2 = (ring (q ∷ (r ∷ [])) (var 0 ⊗ var 0 ⊗ (var 1 ⊗ var 1)) (var 0 ⊗ var 1 ⊗ (var 0 ⊗ var 1)) tt) in
        omega (arith, ints)

    ended : (f g v w q rn bf tp qr : ℤ) → f ≡ q *ℤ q *ℤ v → g ≡ q *ℤ q *ℤ w → (f +ℤ g) ≤ℤ ((rn +ℤ bf +ℤ tp +ℤ qr) *ℤ (rn +ℤ bf +ℤ tp +ℤ qr)) →
        (q *ℤ q *ℤ (v +ℤ w)) ≤ℤ ((rn +ℤ (bf +ℤ tp +ℤ qr)) *ℤ (rn +ℤ (bf +ℤ tp +ℤ qr)))
    ended f g v w q rn bf tp qr e d h =
        let i = scale_square q v w in
        let j = (ring (rn ∷ (bf ∷ (tp ∷ (qr ∷ [])))) ((var 0 ⊕ var 1 ⊕ var 2 ⊕ var 3) ⊗ (var 0 ⊕ var 1 ⊕ var 2 ⊕ var 3)) ((var 0 ⊕ (var 1 ⊕ var 2 ⊕ var 3)) ⊗ (var 0 ⊕ (var 1 ⊕ var 2 ⊕ var 3))) tt) in
        omega (arith, ints)

-- ---- the certificate's reach
-- the form at a vector with the entries of a unit vector is the diagonal entry
pub form_same : (p : List (List ℤ)) (x y : List ℤ) → ((i : ℕ) → place x i ≡ place y i) → form p x ≡ form p y
form_same p x y h = dot_same x y (apply p x) h ∙ ap (dot y) (applied p)
  where
    applied : (p : List (List ℤ)) → apply p x ≡ apply p y
    applied [] = refl
    applied (r ∷ p) = let e : dot r x ≡ dot r y = dot_comm r x ∙ dot_same x y r h ∙ dot_comm y r in let f = applied p in cc

pub enough_of : (q rate input thrust rounding far push n : ℤ) → rate <ℤ q → pos 0 ≤ℤ rounding → pos 0 <ℤ q → ceil_of (input *ℤ far +ℤ q *ℤ (thrust *ℤ push +ℤ pos 2 *ℤ rounding)) (q -ℤ rate) ≤ℤ n →
    (input *ℤ far +ℤ q *ℤ (thrust *ℤ push) +ℤ q *ℤ rounding) ≤ℤ ((q -ℤ rate) *ℤ n)
enough_of q rate input thrust rounding far push n r g0 q0 h =
    let m = input *ℤ far +ℤ q *ℤ (thrust *ℤ push +ℤ pos 2 *ℤ rounding) in
    let e0 : pos 0 <ℤ (q -ℤ rate) = omega (arith, ints) in
    let k = ceil_is m (q -ℤ rate) e0 in
    let a = mul_le (q -ℤ rate) (ceil_of m (q -ℤ rate)) n (omega (arith, ints)) h in
    let e1 = (ring (q ∷ (rate ∷ (ceil_of m (q -ℤ rate) ∷ []))) ((var 0 ⊕ minus (var 1)) ⊗ var 2) (var 2 ⊗ (var 0 ⊕ minus (var 1))) tt) in
    let e2 = (ring (q ∷ (input ∷ (far ∷ (thrust ∷ (push ∷ (rounding ∷ [])))))) (var 1 ⊗ var 2 ⊕ var 0 ⊗ (var 3 ⊗ var 4 ⊕ num (pos 2) ⊗ var 5)) (var 1 ⊗ var 2 ⊕ var 0 ⊗ (var 3 ⊗ var 4) ⊕ num (pos 2) ⊗ (var 0 ⊗ var 5)) tt) in
    let g = mul_nonneg q rounding (omega (arith, ints)) g0 in
    joined (ceil_of m (q -ℤ rate) *ℤ (q -ℤ rate)) m ((q -ℤ rate) *ℤ ceil_of m (q -ℤ rate)) ((q -ℤ rate) *ℤ n) (input *ℤ far +ℤ q *ℤ (thrust *ℤ push)) (q *ℤ rounding) k.above e1 a e2 g
  where
    joined : (x m y z u v : ℤ) → m ≤ℤ x → y ≡ x → y ≤ℤ z → m ≡ u +ℤ pos 2 *ℤ v → pos 0 ≤ℤ v → (u +ℤ v) ≤ℤ z
    joined x m y z u v h e i f g = omega (arith, ints)

pub within_near : (k : ℕ) (z : ℤ) → unsigned_abs z ≤ k → Near (pos k) z
within_near k z h = size_near (pos k) z (omega (arith, ints))

pub second_of : (a b n : ℤ) → n ≡ int_max a b → b ≤ℤ n
second_of a b n e = omega (arith, ints, clamps)

pub first_of_max : (a b n : ℤ) → n ≡ int_max a b → a ≤ℤ n
first_of_max a b n e = omega (arith, ints, clamps)

pub same_forms : (p : List (List ℤ)) (a b c d : List ℤ) → a ≡ c → b ≡ d → plane_form p c d ≡ plane_form p a b
same_forms p a b c d e f = sym (ap (λ (z : List ℤ). plane_form p z b) e ∙ ap (plane_form p c) f)

-- ---- at rest
pub rest_below : (v a b start far : ℤ) → pos 0 ≤ℤ v → (pos 2 *ℤ v) ≤ℤ (start *ℤ start) → Near far a → Near far b → (a *ℤ a *ℤ v +ℤ b *ℤ b *ℤ v) ≤ℤ (start *ℤ far *ℤ (start *ℤ far))
rest_below v a b start far v0 h na nb =
    let sa = square_near far a na in let sb = square_near far b nb in
    let x = mul_le v (a *ℤ a +ℤ b *ℤ b) (pos 2 *ℤ (far *ℤ far)) v0 (omega (arith, ints)) in
    let y = mul_le (far *ℤ far) (pos 2 *ℤ v) (start *ℤ start) (square_nonneg far) h in
    let e1 = (ring (v ∷ (a ∷ (b ∷ []))) (var 0 ⊗ (var 1 ⊗ var 1 ⊕ var 2 ⊗ var 2)) (var 1 ⊗ var 1 ⊗ var 0 ⊕ var 2 ⊗ var 2 ⊗ var 0) tt) in
    let e2 = (ring (v ∷ (far ∷ [])) (var 0 ⊗ (num (pos 2) ⊗ (var 1 ⊗ var 1))) (var 1 ⊗ var 1 ⊗ (num (pos 2) ⊗ var 0)) tt) in
    let e3 = (ring (start ∷ (far ∷ [])) (var 1 ⊗ var 1 ⊗ (var 0 ⊗ var 0)) (var 0 ⊗ var 1 ⊗ (var 0 ⊗ var 1)) tt) in
    omega (arith, ints)

-- a vector whose first entry is h and whose others are 0
pub rest_form : (p : List (List ℤ)) (h : ℤ) (x e : List ℤ) → x ≡ scale h e → ((i : ℕ) → place (one_at 0) i ≡ place e i) → form p x ≡ h *ℤ h *ℤ matrix_entry p 0 0
rest_form p h x e l s =
    ap (form p) l ∙ form_scale p h e
    ∙ ap (λ (z : ℤ). h *ℤ h *ℤ z) (sym (entry_bilinear p 0 0 ∙ form_same p (one_at 0) e s))

pub kept_first : (h : ℤ) → h ≡ h *ℤ pos 1
kept_first h = (ring (h ∷ []) (var 0) (var 0 ⊗ num (pos 1)) tt)

pub zeroed : (h : ℤ) → pos 0 ≡ h *ℤ pos 0
zeroed h = (ring (h ∷ []) (num (pos 0)) (var 0 ⊗ num (pos 0)) tt)

-- ---- widths
pub width_below : (q h z v n : ℤ) → pos 0 <ℤ q → pos 0 ≤ℤ h → pos 0 ≤ℤ n → (q *ℤ z *ℤ (q *ℤ z)) ≤ℤ (h *ℤ h *ℤ v) → v ≤ℤ (n *ℤ n) → pos (unsigned_abs z) ≤ℤ ceil_of (h *ℤ n) q
width_below q h z v n q0 h0 n0 i j =
    let a = mul_le (h *ℤ h) v (n *ℤ n) (square_nonneg h) j in
    let e = (ring (h ∷ (n ∷ [])) (var 0 ⊗ var 0 ⊗ (var 1 ⊗ var 1)) (var 0 ⊗ var 1 ⊗ (var 0 ⊗ var 1)) tt) in
    let m = near_square (h *ℤ n) (q *ℤ z) (mul_nonneg h n h0 n0) (omega (arith, ints)) in
    let f = near_factor q (h *ℤ n) z m in
    let c = ceil_is (h *ℤ n) q q0 in
    le_cancel q (pos (unsigned_abs z)) (ceil_of (h *ℤ n) q) q0 (joined (q *ℤ pos (unsigned_abs z)) (h *ℤ n) (ceil_of (h *ℤ n) q *ℤ q) (q *ℤ ceil_of (h *ℤ n) q) f c.above (ring (q ∷ (ceil_of (h *ℤ n) q ∷ [])) (var 1 ⊗ var 0) (var 0 ⊗ var 1) tt))
  where
    joined : (a b c d : ℤ) → a ≤ℤ b → b ≤ℤ c → c ≡ d → a ≤ℤ d
    joined a b c d h i e = omega (arith, ints)
