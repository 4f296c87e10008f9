-- Reading several of a kind one after the other, as a loop does.
use Rattle.std.proofs.Common.{◌≡◌, ℕ, suc, ◌-◌, ◌+◌, ◌≤◌, ◌<◌, List, [], ◌∷◌, ◌++◌, Ok, Err, refl, sym, ap, ◌∙◌, append_assoc, arith}
use Rattle.std.proofs.lemmas.List.{append-nil}
use Rattle.dp_codec.specs.Format.{◌>>=◌, Read, times_at}

-- what was read before, and what is still read
abbrev pub with_front : {A : Type 0} → List A → Read (List A) → Read (List A)
with_front front read = read >>= λ x. Ok (front ++ x.0, x.1)

module _ {A : Type 0} where
  regroup : (front : List A) (n : A) (read : Read (List A)) → with_front front (read >>= λ x. Ok (n ∷ x.0, x.1)) ≡ with_front (front ++ n ∷ []) read
  regroup front n (Ok x) = ap (λ (ns : List A). Ok (ns, x.1)) (simp append_assoc)
  regroup front n (Err f) = refl

  pub goes_on : (one : List ℕ → Read A) (front : List A) (count i : ℕ) (bytes : List ℕ) (x : A) (after : List ℕ) (total : Read (List A)) → i < count → one bytes ≡ Ok (x, after)
      → with_front front (times_at one (count - i) bytes) ≡ total → with_front (front ++ x ∷ []) (times_at one (count - (i + 1)) after) ≡ total
  goes_on one front count i bytes x after total lt h so_far =
      let k : count - i ≡ suc (count - (i + 1)) = omega arith in
      let one_more : with_front front (times_at one (count - i) bytes) ≡ with_front (front ++ x ∷ []) (times_at one (count - (i + 1)) after) = rw (k, h) (regroup front x (times_at one (count - (i + 1)) after)) in
      sym one_more ∙ so_far

  pub ends : (one : List ℕ → Read A) (front : List A) (count i : ℕ) (bytes : List ℕ) (left : ℕ) (total : Read (List A)) → i < count → one bytes ≡ Err left
      → with_front front (times_at one (count - i) bytes) ≡ total → total ≡ Err left
  ends one front count i bytes left total lt h so_far =
      let k : count - i ≡ suc (count - (i + 1)) = omega arith in
      let fault : with_front front (times_at one (count - i) bytes) ≡ Err left = rw (k, h) refl in
      sym so_far ∙ fault

  pub is_done : (one : List ℕ → Read A) (front : List A) (count i : ℕ) (bytes : List ℕ) (total : Read (List A)) → count ≤ i → with_front front (times_at one (count - i) bytes) ≡ total → total ≡ Ok (front, bytes)
  is_done one front count i bytes total le so_far =
      let k : count - i ≡ 0 = omega arith in
      let all : with_front front (times_at one (count - i) bytes) ≡ Ok (front, bytes) = rw k (ap (λ (xs : List A). Ok (xs, bytes)) (append-nil front)) in
      sym so_far ∙ all
