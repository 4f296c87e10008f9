-- A ring of demands and its sums, when a demand comes in.
use Rattle.std.proofs.Common.{◌≡◌, ◌≤◌, ◌<◌, ℕ, suc, ◌-◌, ◌*◌, ◌^◌, List, [], ◌∷◌, ◌++◌, All, length, drop, None, Option, refl, sym, ap, subst, ◌∙◌, arith, ℤ, pos, ◌+ℤ◌, ◌-ℤ◌, unsigned_abs}
use Rattle.std.specs.Prelude.{if◌then◌else◌, nat_lt, slice_get, IfSome, true, false, Bool}
use Rattle.std.proofs.lemmas.Int.{ints}
use Rattle.std.proofs.lemmas.Bool.Decides.{nat_tests}
use Rattle.std.proofs.lemmas.List.{length-append, length-drop}
use Rattle.std.proofs.lemmas.List.Elements.{All-append, All-cons, All-drop, All-nil}
use Rattle.circular_buffer.specs.Buffer.{Buffer, buffer, keep_last}
use Rattle.dp_plant.specs.Vectors.{entry}
use Rattle.dp_alloc.specs.Ranges.{IsDemandWithin}
use Rattle.dp_machine.specs.declared.demands.DemandSums.{DemandSums}
use Rattle.dp_machine.specs.KeptDemands.{AreSummed, part_of, total_on, totals_of}

-- what falls out of a ring of n when a demand comes in
abbrev pub fallen : ℕ → List (List ℤ) → List ℤ → Option (List ℤ)
fallen n xs d = if nat_lt (length xs) n then None else slice_get (xs ++ d ∷ []) 0

abbrev sums_by : ℤ → ℤ → ℤ → DemandSums
sums_by a b c = record { surge = a; sway = b; yaw = c }

total_push : (axis : ℕ) (xs : List (List ℤ)) (d : List ℤ) → total_on (xs ++ d ∷ []) axis ≡ total_on xs axis +ℤ entry d axis
total_push axis [] d = omega (arith, ints)
total_push axis (x ∷ xs) d = omega (arith, ints, total_push axis xs d)

keep_drop : (n k : ℕ) (xs : List (List ℤ)) → length xs - n ≡ k → keep_last n xs ≡ drop k xs
keep_drop n k xs e = ap (λ (j : ℕ). drop j xs) e

total_full : (axis n : ℕ) (xs : List (List ℤ)) (d : List ℤ) → length xs ≡ n
    → total_on (keep_last n (xs ++ d ∷ [])) axis ≡ (total_on xs axis +ℤ entry d axis) -ℤ part_of (slice_get (xs ++ d ∷ []) 0) axis
total_full axis n [] d full =
    let out : keep_last n (d ∷ []) ≡ [] = keep_drop n 1 (d ∷ []) (omega (arith, full)) in
    ap (λ (zs : List (List ℤ)). total_on zs axis) out ∙ omega (arith, ints)
total_full axis n (x ∷ xs) d full =
    let out : keep_last n (x ∷ (xs ++ d ∷ [])) ≡ xs ++ d ∷ [] = keep_drop n 1 (x ∷ (xs ++ d ∷ [])) (omega (arith, full, length-append xs (d ∷ []))) in
    ap (λ (zs : List (List ℤ)). total_on zs axis) out ∙ omega (arith, ints, total_push axis xs d)

total_room : (axis n : ℕ) (xs : List (List ℤ)) (d : List ℤ) → length xs < n
    → total_on (keep_last n (xs ++ d ∷ [])) axis ≡ (total_on xs axis +ℤ entry d axis) -ℤ pos 0
total_room axis n xs d room =
    let all : keep_last n (xs ++ d ∷ []) ≡ xs ++ d ∷ [] = keep_drop n 0 (xs ++ d ∷ []) (omega (arith, room, length-append xs (d ∷ []))) in
    ap (λ (zs : List (List ℤ)). total_on zs axis) all ∙ omega (arith, ints, total_push axis xs d)

total_by : (axis n : ℕ) (xs : List (List ℤ)) (d : List ℤ) (b : Bool) → nat_lt (length xs) n ≡ b → length xs ≤ n
    → total_on (keep_last n (xs ++ d ∷ [])) axis ≡ (total_on xs axis +ℤ entry d axis) -ℤ part_of (if b then None else slice_get (xs ++ d ∷ []) 0) axis
total_by axis n xs d true e few = total_room axis n xs d (grind (arith, nat_tests))
total_by axis n xs d false e few =
    let full : n ≤ length xs = grind (arith, nat_tests) in
    total_full axis n xs d (omega (arith, full, few))

-- the sum with one demand more and one less
pub total_moves : (axis n : ℕ) (xs : List (List ℤ)) (d : List ℤ) → length xs ≤ n
    → total_on (keep_last n (xs ++ d ∷ [])) axis ≡ (total_on xs axis +ℤ entry d axis) -ℤ part_of (fallen n xs d) axis
total_moves axis n xs d few = total_by axis n xs d (nat_lt (length xs) n) refl few

-- ---- ranges
pub all_one : (d : List ℤ) → IsDemandWithin d → All IsDemandWithin (d ∷ [])
all_one d w = All-cons IsDemandWithin d [] w (All-nil IsDemandWithin)

first_within : (xs : List (List ℤ)) → All IsDemandWithin xs → IfSome (slice_get xs 0) IsDemandWithin
first_within [] all = tt
first_within (x ∷ xs) all = all 0 x (omega arith)

fallen_by : (xs : List (List ℤ)) (b : Bool) → All IsDemandWithin xs → IfSome (if b then None else slice_get xs 0) IsDemandWithin
fallen_by xs true all = tt
fallen_by xs false all = first_within xs all

pub fallen_within : (n : ℕ) (xs : List (List ℤ)) (d : List ℤ) → All IsDemandWithin xs → IsDemandWithin d → IfSome (fallen n xs d) IsDemandWithin
fallen_within n xs d all w = fallen_by (xs ++ d ∷ []) (nat_lt (length xs) n) (All-append IsDemandWithin xs (d ∷ []) all (all_one d w))

total_bound : (axis : ℕ) (xs : List (List ℤ)) → ((d : List ℤ) → IsDemandWithin d → unsigned_abs (entry d axis) ≤ 2 ^ 38) → All IsDemandWithin xs
    → unsigned_abs (total_on xs axis) ≤ length xs * 2 ^ 38
total_bound axis [] one all = omega arith
total_bound axis (x ∷ xs) one all =
    let rest = total_bound axis xs one (λ k d l. all (suc k) d (omega (arith, l))) in
    let first = one x (all 0 x (omega arith)) in
    omega (arith, ints, rest, first)

module _ (ring : Buffer (List ℤ)) (sums : DemandSums) (are : AreSummed ring sums) where
  small : (axis : ℕ) (total : ℤ) → ((d : List ℤ) → IsDemandWithin d → unsigned_abs (entry d axis) ≤ 2 ^ 38) → total ≡ total_on ring.items axis → unsigned_abs total ≤ 2 ^ 44
  small axis total one e = omega (arith, ap unsigned_abs e, total_bound axis ring.items one are.within, are.few, are.capacity)

  pub surge_small : unsigned_abs sums.surge ≤ 2 ^ 44
  surge_small = small 0 sums.surge (λ d w. omega (arith, w.surge)) (ap (λ (s : DemandSums). s.surge) are.kept)

  pub sway_small : unsigned_abs sums.sway ≤ 2 ^ 44
  sway_small = small 1 sums.sway (λ d w. omega (arith, w.sway)) (ap (λ (s : DemandSums). s.sway) are.kept)

  pub yaw_small : unsigned_abs sums.yaw ≤ 2 ^ 44
  yaw_small = small 2 sums.yaw (λ d w. w.yaw) (ap (λ (s : DemandSums). s.yaw) are.kept)

  step : (axis : ℕ) (d : List ℤ) (old total : ℤ) (o : Option (List ℤ)) → old ≡ total_on ring.items axis → o ≡ fallen ring.capacity ring.items d
      → total ≡ (old +ℤ entry d axis) -ℤ part_of o axis → total ≡ total_on (keep_last ring.capacity (ring.items ++ d ∷ [])) axis
  step axis d old total o e f t =
      let whole = total_moves axis ring.capacity ring.items d are.few in
      let less : part_of o axis ≡ part_of (fallen ring.capacity ring.items d) axis = ap (λ (p : Option (List ℤ)). part_of p axis) f in
      omega (arith, ints, whole, less, e, t)

  -- after one demand more the sums are still those of the ring
  pub summed : (after : Buffer (List ℤ)) (next : DemandSums) (d : List ℤ) (o : Option (List ℤ)) → IsDemandWithin d
      → after ≡ buffer (keep_last ring.capacity (ring.items ++ d ∷ [])) ring.capacity → o ≡ fallen ring.capacity ring.items d
      → next.surge ≡ (sums.surge +ℤ entry d 0) -ℤ part_of o 0 → next.sway ≡ (sums.sway +ℤ entry d 1) -ℤ part_of o 1
      → next.yaw ≡ (sums.yaw +ℤ entry d 2) -ℤ part_of o 2 → AreSummed after next
  summed after next d o w is f surge sway yaw =
      let items = keep_last ring.capacity (ring.items ++ d ∷ []) in
      let fresh : AreSummed (buffer items ring.capacity) next = record {
        kept = sums_are next items (step 0 d sums.surge next.surge o (ap (λ (s : DemandSums). s.surge) are.kept) f surge)
            (step 1 d sums.sway next.sway o (ap (λ (s : DemandSums). s.sway) are.kept) f sway)
            (step 2 d sums.yaw next.yaw o (ap (λ (s : DemandSums). s.yaw) are.kept) f yaw);
        within = All-drop IsDemandWithin _ (ring.items ++ d ∷ []) (All-append IsDemandWithin ring.items (d ∷ []) are.within (all_one d w));
        few = kept_few ring.capacity (ring.items ++ d ∷ []);
        capacity = are.capacity;
      } in
      subst (λ (v : Buffer (List ℤ)). AreSummed v next) (sym is) fresh
    where
      sums_are : (s : DemandSums) (xs : List (List ℤ)) → s.surge ≡ total_on xs 0 → s.sway ≡ total_on xs 1 → s.yaw ≡ total_on xs 2 → s ≡ totals_of xs
      sums_are s xs p q r =
          ap (λ (a : ℤ). sums_by a s.sway s.yaw) p ∙ ap (λ (a : ℤ). sums_by (total_on xs 0) a s.yaw) q
          ∙ ap (λ (a : ℤ). sums_by (total_on xs 0) (total_on xs 1) a) r

      kept_few : (n : ℕ) (xs : List (List ℤ)) → length (keep_last n xs) ≤ n
      kept_few n xs = omega (arith, length-drop (length xs - n) xs)
