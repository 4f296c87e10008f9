-- The promises of one cycle, and of a journey.
use Rattle.std.proofs.Common.{◌≡◌, refl, Bool, true, false, cond, int_le, int_lt, ℕ, zero, suc, sym, subst, ◌∙◌, ap, [], ◌∷◌, arith, ℤ, pos, neg_ℤ, ◌+ℤ◌, ◌-ℤ◌, ◌*ℤ◌, ◌≤ℤ◌, ◌<ℤ◌, unsigned_abs}
use Rattle.std.specs.Int.{int_min, int_max}
use Rattle.std.proofs.lemmas.Int.{ints, clamps, by_lt_z}
use Rattle.dp_form.proofs.Ring.{var, num, ◌⊕◌, ◌⊗◌, ring}
use Rattle.dp_guide.specs.Course.{fastest_ahead, first_that_stops, stopping_way, velocity_of, IsAdmissible, IsFastest, IsNext, IsOnCourse, IsGuided, IsJourney}
use Rattle.dp_guide.proofs.Ways.{stopping_nonpos, stopping_monotone, stopping_step, stopping_small, stopping_more}

-- with the target ahead or reached: what the guide keeps, by the velocity itself
pub record IsHeading (rate accel v d : ℤ) : Type 0 where
  pub target : pos 0 ≤ℤ d
  pub slow : neg_ℤ accel ≤ℤ v
  pub low : neg_ℤ rate ≤ℤ v
  pub high : v ≤ℤ rate
  pub stops : stopping_way (v -ℤ accel) accel ≤ℤ d

-- the least velocity that the limits leave may follow
pub least_admissible : (rate accel v d : ℤ) → pos 1 ≤ℤ rate → pos 1 ≤ℤ accel → IsHeading rate accel v d
    → IsAdmissible rate accel v d (int_max (v -ℤ accel) (neg_ℤ rate))
least_admissible rate accel v d r a h =
    let low = h.low in
    let high = h.high in
    let target = h.target in
    let stops = h.stops in
    record {
      low = omega (arith, ints, clamps);
      high = omega (arith, ints, clamps);
      stops = by_lt_z (v -ℤ accel) (pos 0)
          (λ below. let m = stopping_nonpos (int_max (v -ℤ accel) (neg_ℤ rate)) accel (omega (arith, ints, clamps)) in omega (arith, ints))
          (λ up. let e : int_max (v -ℤ accel) (neg_ℤ rate) ≡ v -ℤ accel = omega (arith, ints, clamps) in subst (λ (z : ℤ). stopping_way z accel ≤ℤ d) (sym e) stops);
    }

-- a small velocity that does not pass the target may follow where the limits leave it
small_admissible : (rate accel v d w : ℤ) → pos 1 ≤ℤ accel → pos 0 ≤ℤ w → w ≤ℤ accel → w ≤ℤ rate → w ≤ℤ d → (v -ℤ accel) ≤ℤ w → w ≤ℤ (v +ℤ accel) → IsAdmissible rate accel v d w
small_admissible rate accel v d w a z s r t l h =
    let e = stopping_small w accel a z s in
    record { low = omega (arith, ints, clamps); high = omega (arith, ints, clamps); stops = omega (arith, ints) }

-- the greatest velocity is at least every small one that acceleration reaches from below
pub at_least : (rate accel v d w z : ℤ) → pos 1 ≤ℤ accel → IsFastest rate accel v d w → pos 0 ≤ℤ z → z ≤ℤ accel → z ≤ℤ rate → z ≤ℤ d → z ≤ℤ (v +ℤ accel) → z ≤ℤ w
at_least rate accel v d w z a f l s r t h = by_lt_z z (v -ℤ accel)
    (λ past. let low = f.admissible.low in omega (arith, ints, clamps))
    (λ near. f.greatest z (small_admissible rate accel v d z a l s r t near h))

pub record IsCarried (rate accel v d w : ℤ) : Type 0 where
  pub forward : pos 0 ≤ℤ w
  pub not_past : w ≤ℤ d
  pub moves : (v <ℤ pos 0 → d ≡ pos 0) → int_min (int_min accel rate) d ≤ℤ w
  pub stops : stopping_way (w -ℤ accel) accel ≤ℤ (d -ℤ w)

pub carried : (rate accel v d w : ℤ) → pos 1 ≤ℤ rate → pos 1 ≤ℤ accel → IsHeading rate accel v d → IsFastest rate accel v d w → IsCarried rate accel v d w
carried rate accel v d w r a h f =
    let target = h.target in
    let slow = h.slow in
    let forward = at_least rate accel v d w (pos 0) a f (omega (arith, ints)) (omega (arith, ints)) (omega (arith, ints)) target (omega (arith, ints)) in
    let more = stopping_more w accel a forward in
    let stops = f.admissible.stops in
    record {
      forward = forward;
      not_past = omega (arith, ints);
      moves = λ still. by_lt_z v (pos 0)
          (λ back. let e = still back in omega (arith, ints, clamps))
          (λ on. at_least rate accel v d w (int_min (int_min accel rate) d) a f (omega (arith, ints, clamps)) (omega (arith, ints, clamps)) (omega (arith, ints, clamps)) (omega (arith, ints, clamps)) (omega (arith, ints, clamps)));
      stops = by_lt_z w accel
          (λ small. let m = stopping_nonpos (w -ℤ accel) accel (omega (arith, ints)) in omega (arith, ints))
          (λ fast. let e = stopping_step w accel a fast in omega (arith, ints));
    }

-- ---- from a signed course to one with the target ahead

fast_is_none : (v a : ℤ) → pos 1 ≤ℤ a → stopping_way (v -ℤ a) a ≤ℤ pos 0 → v ≤ℤ a
fast_is_none v a p h = by_lt_z a v
    (λ fast. let m = stopping_more (v -ℤ a) a p (omega (arith, ints)) in absurd (omega (arith, ints)))
    (λ slow. slow)

pub heading : (rate accel v d : ℤ) → pos 1 ≤ℤ rate → pos 1 ≤ℤ accel → pos 0 ≤ℤ d → IsOnCourse rate accel v d → IsHeading rate accel v d
heading rate accel v d r a t o =
    let low = o.low in
    let high = o.high in
    let stops = o.stops in
    let still : pos 0 ≤ℤ v → (neg_ℤ accel ≤ℤ v) = λ u. omega (arith, ints) in
    let size : pos (unsigned_abs d) ≡ d = omega (arith, ints) in
    let within : stopping_way (pos (unsigned_abs v) -ℤ accel) accel ≤ℤ d = omega (arith, ints) in
    record {
      target = t;
      slow = by_lt_z (pos 0) d
          (λ ahead. still (o.ahead ahead))
          (λ there. let m = fast_is_none (pos (unsigned_abs v)) accel a (omega (arith, ints)) in omega (arith, ints));
      low = low;
      high = high;
      stops = let m = stopping_monotone (v -ℤ accel) (pos (unsigned_abs v) -ℤ accel) accel a (omega (arith, ints)) in omega (arith, ints);
    }

pub turned : (rate accel v d : ℤ) → IsOnCourse rate accel v d → IsOnCourse rate accel (neg_ℤ v) (neg_ℤ d)
turned rate accel v d o =
    let low = o.low in
    let high = o.high in
    let ev : unsigned_abs (neg_ℤ v) ≡ unsigned_abs v = omega (arith, ints) in
    let ed : unsigned_abs (neg_ℤ d) ≡ unsigned_abs d = omega (arith, ints) in
    record {
      low = omega (arith, ints);
      high = omega (arith, ints);
      ahead = λ h. let b = o.behind (omega (arith, ints)) in omega (arith, ints);
      behind = λ h. let b = o.ahead (omega (arith, ints)) in omega (arith, ints);
      stops = subst (λ (n : ℕ). stopping_way (pos n -ℤ accel) accel ≤ℤ pos (unsigned_abs (neg_ℤ d))) (sym ev) (subst (λ (n : ℕ). stopping_way (pos (unsigned_abs v) -ℤ accel) accel ≤ℤ pos n) (sym ed) o.stops);
    }

guided_ahead : (rate accel v d w : ℤ) → pos 1 ≤ℤ rate → pos 1 ≤ℤ accel → IsOnCourse rate accel v d → pos 0 ≤ℤ d → IsFastest rate accel v d w → IsGuided rate accel v d w
guided_ahead rate accel v d w r a o t f =
    let c = carried rate accel v d w r a (heading rate accel v d r a t o) f in
    let low = f.admissible.low in
    let high = f.admissible.high in
    let forward = c.forward in
    let not_past = c.not_past in
    let stops = c.stops in
    let still : v <ℤ pos 0 → d ≡ pos 0 = λ back. by_lt_z (pos 0) d (λ far. let s = o.ahead far in absurd (omega (arith, ints))) (λ near. omega (arith, ints)) in
    let moves = c.moves still in
    let size : pos (unsigned_abs w) ≡ w = omega (arith, ints) in
    let left : pos (unsigned_abs (d -ℤ w)) ≡ d -ℤ w = omega (arith, ints) in
    let way : pos (unsigned_abs d) ≡ d = omega (arith, ints) in
    record {
      rate_kept = (omega (arith, ints, clamps), omega (arith, ints, clamps));
      accel_kept = (omega (arith, ints, clamps), omega (arith, ints, clamps));
      not_past_ahead = λ h. (forward, not_past);
      not_past_behind = λ h. (omega (arith, ints), omega (arith, ints));
      moves = subst (λ (z : ℤ). int_min (int_min accel rate) z ≤ℤ pos (unsigned_abs w)) (sym way) (subst (λ (z : ℤ). int_min (int_min accel rate) d ≤ℤ z) (sym size) moves);
      on_course = record {
        low = omega (arith, ints, clamps);
        high = omega (arith, ints, clamps);
        ahead = λ h. forward;
        behind = λ h. absurd (omega (arith, ints));
        stops = subst (λ (z : ℤ). stopping_way (z -ℤ accel) accel ≤ℤ pos (unsigned_abs (d -ℤ w))) (sym size) (subst (λ (z : ℤ). stopping_way (w -ℤ accel) accel ≤ℤ z) (sym left) stops);
      };
    }

twice_turned : (v : ℤ) → neg_ℤ (neg_ℤ v) ≡ v
twice_turned v = omega (arith, ints)

-- the promises do not depend on the side
guided_turned : (rate accel v d w : ℤ) → IsGuided rate accel (neg_ℤ v) (neg_ℤ d) (neg_ℤ w) → IsGuided rate accel v d w
guided_turned rate accel v d w g =
    let r = g.rate_kept in
    let a = g.accel_kept in
    let m = g.moves in
    let ed : unsigned_abs (neg_ℤ d) ≡ unsigned_abs d = omega (arith, ints) in
    let ew : unsigned_abs (neg_ℤ w) ≡ unsigned_abs w = omega (arith, ints) in
    let o = turned rate accel (neg_ℤ w) (neg_ℤ d -ℤ neg_ℤ w) g.on_course in
    let el : neg_ℤ (neg_ℤ d -ℤ neg_ℤ w) ≡ d -ℤ w = omega (arith, ints) in
    record {
      rate_kept = (omega (arith, ints, r.0, r.1), omega (arith, ints, r.0, r.1));
      accel_kept = (omega (arith, ints, a.0, a.1), omega (arith, ints, a.0, a.1));
      not_past_ahead = λ h. let b = g.not_past_behind (omega (arith, ints)) in (omega (arith, ints, b.0, b.1), omega (arith, ints, b.0, b.1));
      not_past_behind = λ h. let b = g.not_past_ahead (omega (arith, ints)) in (omega (arith, ints, b.0, b.1), omega (arith, ints, b.0, b.1));
      moves = subst (λ (n : ℕ). int_min (int_min accel rate) (pos n) ≤ℤ pos (unsigned_abs w)) ed (subst (λ (n : ℕ). int_min (int_min accel rate) (pos (unsigned_abs (neg_ℤ d))) ≤ℤ pos n) ew m);
      on_course = subst (λ (z : ℤ). IsOnCourse rate accel w z) el (subst (λ (z : ℤ). IsOnCourse rate accel z (neg_ℤ (neg_ℤ d -ℤ neg_ℤ w))) (twice_turned w) o);
    }

pub guided : (rate accel v d w : ℤ) → pos 1 ≤ℤ rate → pos 1 ≤ℤ accel → IsOnCourse rate accel v d → IsNext rate accel v d w → IsGuided rate accel v d w
guided rate accel v d w r a o n = by_lt_z d (pos 0)
    (λ behind. guided_turned rate accel v d w (guided_ahead rate accel (neg_ℤ v) (neg_ℤ d) (neg_ℤ w) r a (turned rate accel v d o) (omega (arith, ints)) (n.behind behind)))
    (λ ahead. guided_ahead rate accel v d w r a o ahead (n.ahead ahead))

pub rest_on_course : (rate accel d : ℤ) → pos 1 ≤ℤ rate → pos 1 ≤ℤ accel → IsOnCourse rate accel (pos 0) d
rest_on_course rate accel d r a =
    let m = stopping_nonpos (pos (unsigned_abs (pos 0)) -ℤ accel) accel (omega (arith, ints)) in
    record {
      low = omega (arith, ints);
      high = omega (arith, ints);
      ahead = λ h. omega (arith, ints);
      behind = λ h. omega (arith, ints);
      stops = omega (arith, ints);
    }

fastest_only : (rate accel v d w z : ℤ) → IsFastest rate accel v d w → IsFastest rate accel v d z → w ≡ z
fastest_only rate accel v d w z f g =
    let a = f.greatest z g.admissible in
    let b = g.greatest w f.admissible in
    omega (arith, ints)

pub next_only : (rate accel v d w z : ℤ) → IsNext rate accel v d w → IsNext rate accel v d z → w ≡ z
next_only rate accel v d w z m n = by_lt_z d (pos 0)
    (λ behind. let e = fastest_only rate accel (neg_ℤ v) (neg_ℤ d) (neg_ℤ w) (neg_ℤ z) (m.behind behind) (n.behind behind) in omega (arith, ints))
    (λ ahead. fastest_only rate accel v d w z (m.ahead ahead) (n.ahead ahead))

-- ---- the search downward from the greatest velocity that the limits leave

le_is : (a b : ℤ) → int_le a b ≡ true → a ≤ℤ b
le_is a b h = grind (arith, ints)

not_le_is : (a b : ℤ) → int_le a b ≡ false → b <ℤ a
not_le_is a b h = grind (arith, ints)

-- nothing above the top may follow; then the first that stops is the greatest that may
search_found : (rate accel v d : ℤ) (n : ℕ) (top : ℤ) → pos 1 ≤ℤ accel → top ≤ℤ int_min (v +ℤ accel) rate
    → IsAdmissible rate accel v d (top -ℤ pos n) → ((z : ℤ) → top <ℤ z → IsAdmissible rate accel v d z → z ≤ℤ top) → IsFastest rate accel v d (first_that_stops accel d n top)
search_found rate accel v d zero top a h ok none = record {
  admissible = subst (IsAdmissible rate accel v d) (minus_none top) ok;
  greatest = λ z p. by_lt_z top z (λ up. none z up p) (λ at_most. at_most);
}
  where
    minus_none : (t : ℤ) → t -ℤ pos 0 ≡ t
    minus_none t = omega (arith, ints)
search_found rate accel v d (suc n) top a h ok none = step (int_le (stopping_way top accel) d) refl (λ low h ok none. search_found rate accel v d n (top -ℤ pos 1) a h ok none)
  where
    step : (b : Bool) → int_le (stopping_way top accel) d ≡ b
        → (ℕ → (top -ℤ pos 1) ≤ℤ int_min (v +ℤ accel) rate → IsAdmissible rate accel v d ((top -ℤ pos 1) -ℤ pos n) → ((z : ℤ) → (top -ℤ pos 1) <ℤ z → IsAdmissible rate accel v d z → z ≤ℤ (top -ℤ pos 1)) → IsFastest rate accel v d (first_that_stops accel d n (top -ℤ pos 1)))
        → IsFastest rate accel v d (cond b top (first_that_stops accel d n (top -ℤ pos 1)))
    step true e rest = record {
      admissible = let low = ok.low in let s = le_is (stopping_way top accel) d e in record { low = omega (arith, ints, clamps, low); high = h; stops = s };
      greatest = λ z p. by_lt_z top z (λ up. none z up p) (λ at_most. at_most);
    }
    step false e rest =
        let over = not_le_is (stopping_way top accel) d e in
        let f : (top -ℤ pos 1) -ℤ pos n ≡ top -ℤ pos (suc n) = omega (arith, ints) in
        rest 0 (omega (arith, ints, h)) (subst (IsAdmissible rate accel v d) (sym f) ok)
        (λ z up p. let m = stopping_monotone top z accel a (omega (arith, ints, up)) in let s = p.stops in absurd (omega (arith, ints, over, m, s)))

pub fastest_is : (rate accel v d : ℤ) → pos 1 ≤ℤ rate → pos 1 ≤ℤ accel → IsHeading rate accel v d → IsFastest rate accel v d (fastest_ahead rate accel v d)
fastest_is rate accel v d r a h =
    let ok = least_admissible rate accel v d r a h in
    let b = ok.high in
    let e : int_min (v +ℤ accel) rate -ℤ pos (unsigned_abs (int_min (v +ℤ accel) rate -ℤ int_max (v -ℤ accel) (neg_ℤ rate))) ≡ int_max (v -ℤ accel) (neg_ℤ rate) = omega (arith, ints, b) in
    search_found rate accel v d (unsigned_abs (int_min (v +ℤ accel) rate -ℤ int_max (v -ℤ accel) (neg_ℤ rate))) (int_min (v +ℤ accel) rate) a (omega (arith, ints)) (subst (IsAdmissible rate accel v d) (sym e) ok) (λ z up p. p.high)

lt_is : (a b : ℤ) → int_lt a b ≡ true → a <ℤ b
lt_is a b h = grind (arith, ints)

not_lt_is : (a b : ℤ) → int_lt a b ≡ false → b ≤ℤ a
not_lt_is a b h = grind (arith, ints)

pub velocity_is_next : (rate accel v d : ℤ) → pos 1 ≤ℤ rate → pos 1 ≤ℤ accel → IsOnCourse rate accel v d → IsNext rate accel v d (velocity_of rate accel v d)
unfolding velocity_of
velocity_is_next rate accel v d r a o = step (int_lt d (pos 0)) refl
  where
    step : (b : Bool) → int_lt d (pos 0) ≡ b → IsNext rate accel v d (cond b (neg_ℤ (fastest_ahead rate accel (neg_ℤ v) (neg_ℤ d))) (fastest_ahead rate accel v d))
    step true e =
        let behind = lt_is d (pos 0) e in
        let f = fastest_is rate accel (neg_ℤ v) (neg_ℤ d) r a (heading rate accel (neg_ℤ v) (neg_ℤ d) r a (omega (arith, ints, behind)) (turned rate accel v d o)) in
        record {
          ahead = λ h. absurd (omega (arith, ints, h, behind));
          behind = λ h. subst (IsFastest rate accel (neg_ℤ v) (neg_ℤ d)) (sym (twice_turned (fastest_ahead rate accel (neg_ℤ v) (neg_ℤ d)))) f;
        }
    step false e =
        let ahead = not_lt_is d (pos 0) e in
        record {
          ahead = λ h. fastest_is rate accel v d r a (heading rate accel v d r a ahead o);
          behind = λ h. absurd (omega (arith, ints, h, ahead));
        }

pub velocity_is : (rate accel v d w : ℤ) → pos 1 ≤ℤ rate → pos 1 ≤ℤ accel → IsOnCourse rate accel v d → IsNext rate accel v d w → w ≡ velocity_of rate accel v d
velocity_is rate accel v d w r a o n = next_only rate accel v d w (velocity_of rate accel v d) n (velocity_is_next rate accel v d r a o)

-- ---- a journey

pub journey_on_course : (rate accel distance : ℤ) (v d : ℕ → ℤ) → pos 1 ≤ℤ rate → pos 1 ≤ℤ accel → IsJourney rate accel distance v d → (n : ℕ) → IsOnCourse rate accel (v n) (d n)
journey_on_course rate accel distance v d r a j zero = subst (λ (z : ℤ). IsOnCourse rate accel z (d 0)) (sym j.at_rest) (rest_on_course rate accel (d 0) r a)
journey_on_course rate accel distance v d r a j (suc n) =
    subst (IsOnCourse rate accel (v (suc n))) (sym (j.left n)) (guided rate accel (v n) (d n) (v (suc n)) r a (journey_on_course rate accel distance v d r a j n) (j.next n)).on_course

-- the way left falls by the lesser of rate and acceleration, or is 0
one_less : (rate accel v d w : ℤ) → pos 1 ≤ℤ rate → pos 1 ≤ℤ accel → IsGuided rate accel v d w → pos (unsigned_abs (d -ℤ w)) ≤ℤ int_max (pos 0) (pos (unsigned_abs d) -ℤ int_min accel rate)
one_less rate accel v d w r a g =
    let m = g.moves in
    by_lt_z d (pos 0)
    (λ behind. let b = g.not_past_behind (omega (arith, ints)) in omega (arith, ints, clamps, b.0, b.1))
    (λ ahead. let b = g.not_past_ahead ahead in omega (arith, ints, clamps, b.0, b.1))

pub next_multiple : (n : ℕ) (a : ℤ) → pos (suc n) *ℤ a ≡ pos n *ℤ a +ℤ a
next_multiple n a =
    let e : pos (suc n) ≡ pos n +ℤ pos 1 = omega (arith, ints) in
    ap (λ (z : ℤ). z *ℤ a) e ∙ ring (pos n ∷ (a ∷ [])) ((var 0 ⊕ num (pos 1)) ⊗ var 1) (var 0 ⊗ var 1 ⊕ var 1) tt

none_times : (a : ℤ) → pos 0 *ℤ a ≡ pos 0
none_times a = ring (a ∷ []) (num (pos 0) ⊗ var 0) (num (pos 0)) tt

journey_nears : (rate accel distance : ℤ) (v d : ℕ → ℤ) → pos 1 ≤ℤ rate → pos 1 ≤ℤ accel → IsJourney rate accel distance v d → (n : ℕ)
    → pos (unsigned_abs (d n)) ≤ℤ int_max (pos 0) (pos (unsigned_abs distance) -ℤ pos n *ℤ int_min accel rate)
journey_nears rate accel distance v d r a j zero =
    let z = none_times (int_min accel rate) in
    let e = ap unsigned_abs j.away in
    omega (arith, ints, clamps)
journey_nears rate accel distance v d r a j (suc n) =
    let ih = journey_nears rate accel distance v d r a j n in
    let g = guided rate accel (v n) (d n) (v (suc n)) r a (journey_on_course rate accel distance v d r a j n) (j.next n) in
    let l = one_less rate accel (v n) (d n) (v (suc n)) r a g in
    let e = ap unsigned_abs (j.left n) in
    let m = next_multiple n (int_min accel rate) in
    omega (arith, ints, clamps)

pub journey_arrives : (rate accel distance : ℤ) (v d : ℕ → ℤ) → pos 1 ≤ℤ rate → pos 1 ≤ℤ accel → IsJourney rate accel distance v d
    → (n : ℕ) → pos (unsigned_abs distance) ≤ℤ (pos n *ℤ int_min accel rate) → (d n ≡ pos 0) × (v (suc n) ≡ pos 0)
journey_arrives rate accel distance v d r a j n far =
    let near = journey_nears rate accel distance v d r a j n in
    let there : d n ≡ pos 0 = omega (arith, ints, clamps) in
    let g = guided rate accel (v n) (d n) (v (suc n)) r a (journey_on_course rate accel distance v d r a j n) (j.next n) in
    let b = g.not_past_ahead (omega (arith, ints)) in
    (there, omega (arith, ints, b.0, b.1))

-- ---- what the code finds

-- one that stops, and is the greatest that the limits leave or has a next one that does not stop, is the fastest
pub fastest_found : (rate accel v d w : ℤ) → pos 1 ≤ℤ accel → int_max (v -ℤ accel) (neg_ℤ rate) ≤ℤ w → w ≤ℤ int_min (v +ℤ accel) rate → stopping_way w accel ≤ℤ d
    → (w <ℤ int_min (v +ℤ accel) rate → d <ℤ stopping_way (w +ℤ pos 1) accel) → IsFastest rate accel v d w
fastest_found rate accel v d w a low high stops over = record {
  admissible = record { low = low; high = high; stops = stops };
  greatest = λ z p. by_lt_z w z
      (λ more.
      let h = p.high in
      let s = p.stops in
      let o = over (omega (arith, ints)) in
      let m = stopping_monotone (w +ℤ pos 1) z accel a (omega (arith, ints)) in
      absurd (omega (arith, ints)))
      (λ at_most. at_most);
}

pub least_stops : (rate accel v d : ℤ) → pos 1 ≤ℤ rate → pos 1 ≤ℤ accel → pos 0 ≤ℤ d → IsOnCourse rate accel v d → stopping_way (int_max (v -ℤ accel) (neg_ℤ rate)) accel ≤ℤ d
least_stops rate accel v d r a t o = (least_admissible rate accel v d r a (heading rate accel v d r a t o)).stops
