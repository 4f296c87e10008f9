-- Cycles of control, one after another: one more frame, frames that come later, and how many were done.
use Rattle.std.proofs.Common.{List, Some, [], add-one, ap, arith, drop, length, length-drop, refl, suc, sym, take, zero, ℕ, ◌++◌, ◌+◌, ◌<◌, ◌∙◌, ◌∷◌, ◌≡◌, ◌≤◌}
use Rattle.std.proofs.lemmas.List.{drop-append-le, length-take-le, take-append-le}
use Rattle.std.specs.Prelude.{slice_get}
use Rattle.dp_machine.specs.declared.issue.Issue.{Issue}
use Rattle.dp_machine.specs.declared.state.State.{State}
use Rattle.dp_machine.specs.Reference.{reference_issue, reference_state}
use Rattle.dp_machine.specs.Run.{Setpoints, cycle_at, issue_after, run_on, run_over}
use Rattle.dp_machine.specs.Step.{Step, first_state, step_at}
use Rattle.dp_plant.specs.declared.frames.Frame.{Frame}
use Rattle.dp_plant.specs.declared.limits.Setpoint.{Setpoint}
use Rattle.dp_plant.specs.declared.plant.Plant.{Plant}

pub slice_get-below : {A : Type 0} (xs : List A) (n : ℕ) (x : A) → slice_get xs n ≡ Some x → n < length xs
slice_get-below [] n x e = cc
slice_get-below (y ∷ ys) zero x e = omega arith
slice_get-below (y ∷ ys) (suc n) x e = let ih = slice_get-below ys n x e in omega arith

pub slice_get-append : {A : Type 0} (xs ys : List A) (n : ℕ) (x : A) → slice_get xs n ≡ Some x → slice_get (xs ++ ys) n ≡ Some x
slice_get-append [] ys n x e = cc
slice_get-append (y ∷ xs) ys zero x e = e
slice_get-append (y ∷ xs) ys (suc n) x e = slice_get-append xs ys n x e

pub slice_get-drop : {A : Type 0} (k : ℕ) (xs : List A) (n : ℕ) → slice_get (drop k xs) n ≡ slice_get xs (k + n)
slice_get-drop zero xs n = grind arith
slice_get-drop (suc k) [] n = refl
slice_get-drop (suc k) (x ∷ xs) n =
    let e : suc k + n ≡ suc (k + n) = omega arith in
    rw e (slice_get-drop k xs n)

pub take-one_more : {A : Type 0} (n : ℕ) (xs : List A) (x : A) → slice_get xs n ≡ Some x → take (suc n) xs ≡ take n xs ++ x ∷ []
take-one_more zero [] x e = cc
take-one_more (suc n) [] x e = cc
take-one_more zero (y ∷ ys) x e = cc
take-one_more (suc n) (y ∷ ys) x e = ap (λ zs. y ∷ zs) (take-one_more n ys x e)

-- ---- one cycle

-- what one cycle gives: the issue of that cycle, and the state of the next
pub record IsCycle (s : State) (t : Step) : Type 0 where
  pub cycle : t.issue.cycle ≡ s.count
  pub count : t.next.count ≡ s.count + 1

pub step-is_cycle : (p : Plant) (at : Setpoint) (s : State) (f : Frame) → IsCycle s (step_at p at s f)
unfolding step_at
step-is_cycle p at s f = record { cycle = refl; count = refl }

pub after-count : (p : Plant) (at : Setpoint) (s : State) (f : Frame) → (step_at p at s f).next.count ≡ suc s.count
after-count p at s f = let n = (step-is_cycle p at s f).count in omega arith

pub issue-cycle : (p : Plant) (at : Setpoint) (s : State) (f : Frame) (x : Issue) → (step_at p at s f).issue ≡ x → x.cycle ≡ s.count
issue-cycle p at s f x e = ap (λ (y : Issue). y.cycle) (sym e) ∙ (step-is_cycle p at s f).cycle

-- ---- cycle after cycle

module _ (p : Plant) (sets : Setpoints) where
  run_over-append : (s : State) (xs ys : List Frame) → run_over p sets s (xs ++ ys) ≡ run_over p sets (run_over p sets s xs) ys
  unfolding run_over
  run_over-append s [] ys = refl
  run_over-append s (x ∷ xs) ys = run_over-append (cycle_at p sets s x).next xs ys

  pub run_on-step : (fs : List Frame) (s : State) (n : ℕ) (f : Frame) → slice_get fs (s.count + n) ≡ Some f → run_on p sets fs s (n + 1) ≡ (cycle_at p sets (run_on p sets fs s n) f).next
  unfolding run_on run_over
  run_on-step fs s n f e =
      let g : slice_get (drop s.count fs) n ≡ Some f = slice_get-drop s.count fs n ∙ e in
      rw (add-one, take-one_more n (drop s.count fs) f g) (run_over-append s (take n (drop s.count fs)) (f ∷ []))

  pub run_on-grown : (fs gs : List Frame) (s : State) (n : ℕ) → s.count + n ≤ length fs → run_on p sets (fs ++ gs) s n ≡ run_on p sets fs s n
  unfolding run_on
  run_on-grown fs gs s n h =
      let a : s.count ≤ length fs = omega arith in
      let b : n ≤ length (drop s.count fs) = omega (arith, length-drop s.count fs) in
      rw (drop-append-le, take-append-le)

  pub run_on-none : (fs : List Frame) (s : State) → run_on p sets fs s 0 ≡ s
  unfolding run_on run_over
  run_on-none fs s = refl

  run_over-count : (s : State) (fs : List Frame) → (run_over p sets s fs).count ≡ s.count + length fs
  unfolding run_over
  run_over-count s [] = omega arith
  run_over-count s (f ∷ fs) =
      let a = run_over-count (cycle_at p sets s f).next fs in
      let b = after-count p (sets s.count) s f in
      omega arith

  pub run_on-count : (fs : List Frame) (s : State) (n : ℕ) → s.count + n ≤ length fs → (run_on p sets fs s n).count ≡ s.count + n
  unfolding run_on
  run_on-count fs s n h =
      let a = run_over-count s (take n (drop s.count fs)) in
      let c : length (take n (drop s.count fs)) ≡ n = length-take-le n (drop s.count fs) (omega (arith, length-drop s.count fs)) in
      omega arith

  pub run_on-empty : (s : State) (n : ℕ) → run_on p sets [] s n ≡ s
  unfolding run_on run_over
  run_on-empty s n = rw (take-empty n s.count [] refl)
    where
      take-empty : {A : Type 0} (n k : ℕ) (xs : List A) → xs ≡ [] → take n (drop k xs) ≡ xs
      take-empty n k (x ∷ xs) e = cc
      take-empty zero zero [] e = refl
      take-empty zero (suc k) [] e = refl
      take-empty (suc n) zero [] e = refl
      take-empty (suc n) (suc k) [] e = refl

  -- ---- the reference run

  pub reference_state-grown : (fs gs : List Frame) (n : ℕ) → n ≤ length fs → reference_state p sets (take n (fs ++ gs)) ≡ reference_state p sets (take n fs)
  reference_state-grown fs gs n h = rw (take-append-le)

  pub reference_state-step : (fs : List Frame) (n : ℕ) (f : Frame) → slice_get fs n ≡ Some f
      → reference_state p sets (take (n + 1) fs) ≡ (cycle_at p sets (reference_state p sets (take n fs)) f).next
  unfolding reference_state run_over
  reference_state-step fs n f e = rw (add-one, take-one_more n fs f e) (run_over-append (first_state p) (take n fs) (f ∷ []))

  issue_after-at : (s : State) (fs : List Frame) (n : ℕ) (f : Frame) → slice_get fs n ≡ Some f → issue_after p sets s fs n ≡ Some (cycle_at p sets (run_over p sets s (take n fs)) f).issue
  unfolding issue_after run_over
  issue_after-at s [] n f e = cc
  issue_after-at s (g ∷ fs) zero f e = (let same : g ≡ f = cc in ap (λ x. Some (cycle_at p sets s x).issue) same)
  issue_after-at s (g ∷ fs) (suc n) f e = issue_after-at (cycle_at p sets s g).next fs n f e

  issue_after-grown : (s : State) (fs gs : List Frame) (n : ℕ) (x : Issue) → issue_after p sets s fs n ≡ Some x → issue_after p sets s (fs ++ gs) n ≡ Some x
  unfolding issue_after
  issue_after-grown s [] gs n x e = cc
  issue_after-grown s (f ∷ fs) gs zero x e = e
  issue_after-grown s (f ∷ fs) gs (suc n) x e = issue_after-grown (cycle_at p sets s f).next fs gs n x e

  -- it comes of a frame
  issue_after-some : (s : State) (fs : List Frame) (n : ℕ) (x : Issue) → issue_after p sets s fs n ≡ Some x → (f : Frame) × (slice_get fs n ≡ Some f)
  unfolding issue_after
  issue_after-some s [] n x e = cc
  issue_after-some s (f ∷ fs) zero x e = (f, refl)
  issue_after-some s (f ∷ fs) (suc n) x e = issue_after-some (cycle_at p sets s f).next fs n x e

  pub reference_issue-grown : (fs gs : List Frame) (n : ℕ) (x : Issue) → reference_issue p sets fs n ≡ Some x → reference_issue p sets (fs ++ gs) n ≡ Some x
  unfolding reference_issue
  reference_issue-grown fs gs n x e = issue_after-grown (first_state p) fs gs n x e

  pub reference_issue-at : (fs : List Frame) (n : ℕ) (f : Frame) → slice_get fs n ≡ Some f → reference_issue p sets fs n ≡ Some (cycle_at p sets (reference_state p sets (take n fs)) f).issue
  unfolding reference_issue reference_state
  reference_issue-at fs n f e = issue_after-at (first_state p) fs n f e

  -- an issue of the reference run is one of a step
  pub reference_issue-step : (fs : List Frame) (n : ℕ) (x : Issue) → reference_issue p sets fs n ≡ Some x
      → (s : State) × (f : Frame) × ((cycle_at p sets s f).issue ≡ x)
  unfolding reference_issue
  reference_issue-step fs n x e =
      let t = issue_after-some (first_state p) fs n x e in
      (run_over p sets (first_state p) (take n fs), t.0, same (sym (issue_after-at (first_state p) fs n t.0 t.1) ∙ e))
    where
      same : {y : Issue} → Some y ≡ Some x → y ≡ x
      same q = cc
