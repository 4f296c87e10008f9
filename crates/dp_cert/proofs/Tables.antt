-- Arrays that are made entry by entry.
use Rattle.std.proofs.Common.{◌≡◌, ◌<◌, ◌+◌, ◌≢◌, ℕ, suc, List, [], ◌∷◌, length, get_or, set, map, inl, inr, refl, sym, subst, arith}
use Rattle.std.proofs.lemmas.List.{get_or_default, get_or-set_same, get_or-set_other}
use Rattle.std.proofs.lemmas.Bool.{cases_lt}
use Rattle.std.proofs.lemmas.List.Elements.{All-nil, All-cons}
use Rattle.std.specs.Prelude.{All}

-- what holds at each index holds of all
pub all_at : {X : Type 0} (P : X → Type 0) (xs : List X) (n : ℕ) (d : X) → length xs ≡ n → ((k : ℕ) → k < n → P (get_or xs k d)) → All P xs
all_at P xs n d w h = λ k e l. subst P (get_or_default xs k d e l) (h k (omega arith))

-- what holds of each index below j, and of what is written at j, holds of each below j + 1
pub write_more : {X : Type 0} (d : X) (P : ℕ → X → Type 0) (xs : List X) (j : ℕ) (x : X) → j < length xs → ((m : ℕ) → m < j → P m (get_or xs m d)) → P j x → (m : ℕ) → m < j + 1 → P m (get_or (set xs j x) m d)
write_more d P xs j x h before here m l = elim (cases_lt m j) [
  | inl less ↦ let other : m ≢ j = omega arith in subst (P m) (sym (get_or-set_other xs j m x d other)) (before m less)
  | inr more ↦ let same : j ≡ m = omega arith in subst (λ (k : ℕ). P k (get_or (set xs j x) k d)) same (subst (P j) (sym (get_or-set_same xs j x d h)) here)
]

-- three rows
pub all_three : {X : Type 0} (P : X → Type 0) (a b c : X) → P a → P b → P c → All P (a ∷ b ∷ c ∷ [])
all_three P a b c p q r = All-cons P a (b ∷ c ∷ []) p (All-cons P b (c ∷ []) q (All-cons P c [] r (All-nil P)))

pub all_five : {X : Type 0} (P : X → Type 0) (a b c d e : X) → P a → P b → P c → P d → P e → All P (a ∷ b ∷ c ∷ d ∷ e ∷ [])
all_five P a b c d e p q r s t = All-cons P a (b ∷ c ∷ d ∷ e ∷ []) p (All-cons P b (c ∷ d ∷ e ∷ []) q (all_three P c d e r s t))

-- a list that is made of another, item by item
pub mapped : {X Y : Type 0} (f : X → Y) (dx : X) (dy : Y) (xs : List X) (ys : List Y) → length ys ≡ length xs → ((k : ℕ) → k < length xs → get_or ys k dy ≡ f (get_or xs k dx)) → ys ≡ map f xs
mapped f dx dy [] [] w h = refl
mapped f dx dy [] (y ∷ ys) w h = absurd (omega arith)
mapped f dx dy (x ∷ xs) [] w h = absurd (omega arith)
mapped f dx dy (x ∷ xs) (y ∷ ys) w h =
    let here : y ≡ f x = h 0 (omega arith) in
    let rest = mapped f dx dy xs ys (omega arith) (λ k l. h (suc k) (omega arith)) in
    cc

-- a list of three, item by item
pub listed_three : {X : Type 0} (d : X) (xs : List X) → length xs ≡ 3 → xs ≡ get_or xs 0 d ∷ get_or xs 1 d ∷ get_or xs 2 d ∷ []
listed_three d [] h = absurd (omega arith)
listed_three d (a ∷ []) h = absurd (omega arith)
listed_three d (a ∷ b ∷ []) h = absurd (omega arith)
listed_three d (a ∷ b ∷ c ∷ []) h = refl
listed_three d (a ∷ b ∷ c ∷ e ∷ xs) h = absurd (omega arith)
