-- What the table of keys reads of the cases is within the ranges of the file.
use Rattle.std.proofs.Common.{◌≡◌, ◌≢◌, ℕ, zero, suc, ◌+◌, ◌-◌, ◌^◌, ◌≤◌, ◌<◌, ◌==◌, List, [], ◌∷◌, ◌++◌, length, get_or, Bool, true, false, if◌then◌else◌, Option, Ok, Err, refl, subst, arith, codes}
use Rattle.std.specs.Prelude.{All, AllPairs}
use Rattle.std.specs.List.{list_all}
use Rattle.std.proofs.lemmas.Bool.Decides.{nat_tests}
use Rattle.std.proofs.lemmas.List.{get_or-take, length-take-le}
use Rattle.std.proofs.lemmas.List.Elements.{All-nil, All-push}
use Rattle.std.proofs.lemmas.List.Folds.{list_any_at}
use Rattle.std.proofs.lemmas.List.Quantifiers.{all_pairs_push}
use Rattle.std.proofs.lemmas.List.Sums.{AllPass-from_list_all}
use Rattle.std.proofs.lemmas.Nat.{pow_pos}
use Rattle.toml.specs.Data.{Data}
use Rattle.dp_plant.specs.Keys.{◌>>=◌, Fault, Section, about, count_at, down_to, indexed, rows_at, tables_at, up_to, wholes_at}
use Rattle.dp_plant.specs.PlantFile.{all_there, case_at, cases_after, cases_at, lost_at, single_masks}
use Rattle.dp_plant.specs.PlantRanges.{AreGroups, IsCaseWithin, has_case}
use Rattle.dp_plant.specs.declared.thrusters.RawCase.{RawCase}
use Rattle.dp_plant.specs.declared.thrusters.Thruster.{Thruster}
use Rattle.dp_plant.proofs.FileRanges.{chain_ok, count_within, force_high, force_low, judged_ok, ok_is, rows_within, wholes_within, yaw_high, yaw_low}

-- no case has a mask that none was found for
all_unlike : (cases : List RawCase) (mask : ℕ) → has_case cases mask ≡ false → All (λ c. c.lost ≢ mask) cases
all_unlike cases mask none = λ k d lt same.
    let it_is : ((get_or cases k d).lost == mask) ≡ true = grind (arith, nat_tests) in
    let found = list_any_at (λ c. c.lost == mask) cases k d lt it_is in
    absurd (cc)

unlike_ok : (b : Bool) (key : Fault) (lost m : ℕ) → (if b then Err key else Ok lost) ≡ Ok m → (b ≡ false) × (lost ≡ m)
unlike_ok true key lost m h = absurd (cc)
unlike_ok false key lost m h = (refl, ok_is lost m h)

-- a mask of lost groups that no case before has
lost_within : (groups : ℕ) (before : List RawCase) (s : Section) (m : ℕ) → lost_at groups before s ≡ Ok m → (m < 2 ^ groups) × All (λ c. c.lost ≢ m) before
unfolding lost_at
lost_within groups before s m h =
    let (lost, (read, last)) = chain_ok (count_at s (codes "lost") (up_to (2 ^ groups - 1))) _ m h in
    let (none, same) = unlike_ok (has_case before lost) _ lost m last in
    let most = count_within s (codes "lost") 0 (2 ^ groups - 1) lost read in
    let some = pow_pos groups in
    subst (λ k. (k < 2 ^ groups) × All (λ c. c.lost ≢ k) before) same (omega (arith, most.1, some), all_unlike before lost none)

-- a case beside those before it
record IsNewCase (groups thrusters : ℕ) (before : List RawCase) (c : RawCase) : Type 0 where
  within : IsCaseWithin thrusters c
  mask : c.lost < 2 ^ groups
  unlike : All (λ b. b.lost ≢ c.lost) before

case_within : (groups thrusters : ℕ) (before : List RawCase) (d : Data) (c : RawCase) → case_at groups thrusters before d ≡ Ok c → IsNewCase groups thrusters before c
unfolding case_at
case_within groups thrusters before d c h =
    let s = indexed (codes "case") (length before) d in
    let lows = down_to 2147483648 ∷ down_to 2147483648 ∷ down_to 274877906944 ∷ [] in
    let highs = up_to 2147483648 ∷ up_to 2147483648 ∷ up_to 274877906944 ∷ [] in
    let (lost, (a, h1)) = chain_ok (lost_at groups before s) _ c h in
    let (lo, (b, h2)) = chain_ok (wholes_at s (codes "lo") lows) _ c h1 in
    let (hi, (e, h3)) = chain_ok (wholes_at s (codes "hi") highs) _ c h2 in
    let (shares, (g, h4)) = chain_ok (rows_at s (codes "b") thrusters (about 2147483648 ∷ about 2147483648 ∷ about 2147483648 ∷ [])) _ c h3 in
    let l = wholes_within s (codes "lo") lows lo b in
    let u = wholes_within s (codes "hi") highs hi e in
    let r = rows_within s (codes "b") thrusters 2147483648 shares g in
    let m = lost_within groups before s lost a in
    subst (IsNewCase groups thrusters before) (ok_is _ c h4) (record {
      within = record {
        plane = record {
          surge = record { below = l.0.1; above = u.0.0; low = force_low _ l.0.0 l.0.1; high = force_high _ u.0.0 u.0.1 };
          sway = record { below = l.1.0.1; above = u.1.0.0; low = force_low _ l.1.0.0 l.1.0.1; high = force_high _ u.1.0.0 u.1.0.1 };
        };
        yaw = record { below = l.1.1.0.1; above = u.1.1.0.0; low = yaw_low _ l.1.1.0.0 l.1.1.0.1; high = yaw_high _ u.1.1.0.0 u.1.1.0.1 };
        rows = r.0;
        shares = λ k e lt. record { three = (r.1 k e lt).0; shares = (r.1 k e lt).1 };
      };
      mask = m.0;
      unlike = m.1;
    })

record AreCases (groups thrusters : ℕ) (cases : List RawCase) : Type 0 where
  pub each : All (IsCaseWithin thrusters) cases
  pub masks : All (λ c. c.lost < 2 ^ groups) cases
  pub distinct : AllPairs (λ c d. c.lost ≢ d.lost) cases

no_cases : (groups thrusters : ℕ) → AreCases groups thrusters []
no_cases groups thrusters = record {
  each = All-nil (IsCaseWithin thrusters);
  masks = All-nil (λ c. c.lost < 2 ^ groups);
  distinct = λ i j d below lt. absurd (omega arith);
}

one_more : (groups thrusters : ℕ) (before : List RawCase) (c : RawCase) → AreCases groups thrusters before → IsNewCase groups thrusters before c → AreCases groups thrusters (before ++ c ∷ [])
one_more groups thrusters before c all new = record {
  each = All-push (IsCaseWithin thrusters) before c all.each new.within;
  masks = All-push (λ x. x.lost < 2 ^ groups) before c all.masks new.mask;
  distinct = all_pairs_push (λ x y. x.lost ≢ y.lost) before c all.distinct new.unlike;
}

cases_kept : (groups thrusters : ℕ) (before : List RawCase) (ds : List Data) (cs : List RawCase) → AreCases groups thrusters before
    → cases_after groups thrusters before ds ≡ Ok cs → AreCases groups thrusters cs
cases_kept groups thrusters before [] cs all h = subst (AreCases groups thrusters) (ok_is before cs h) all
cases_kept groups thrusters before (d ∷ ds) cs all h =
    let (c, (first, rest)) = chain_ok (case_at groups thrusters before d) _ cs h in
    cases_kept groups thrusters (before ++ c ∷ []) ds cs (one_more groups thrusters before c all (case_within groups thrusters before d c first)) rest

-- ---- the masks of single groups

abbrev single : List ℕ
single = 0 ∷ 1 ∷ 2 ∷ 4 ∷ 8 ∷ 16 ∷ 32 ∷ 64 ∷ 128 ∷ []

mask_at : (group : ℕ) → group < 8 → get_or single (group + 1) 0 ≡ 2 ^ group
mask_at zero lt = refl
mask_at (suc zero) lt = refl
mask_at (suc (suc zero)) lt = refl
mask_at (suc (suc (suc zero))) lt = refl
mask_at (suc (suc (suc (suc zero)))) lt = refl
mask_at (suc (suc (suc (suc (suc zero))))) lt = refl
mask_at (suc (suc (suc (suc (suc (suc zero)))))) lt = refl
mask_at (suc (suc (suc (suc (suc (suc (suc zero))))))) lt = refl
mask_at (suc (suc (suc (suc (suc (suc (suc (suc k)))))))) lt = absurd (omega arith)

module _ (cases : List RawCase) (groups : ℕ) (few : groups ≤ 8) (there : list_all (has_case cases) (single_masks groups) ≡ true) where
  at_index : (k : ℕ) → k < groups + 1 → has_case cases (get_or single k 0) ≡ true
  at_index k lt =
      let long = length-take-le (groups + 1) single (omega (arith, few)) in
      let held = AllPass-from_list_all (has_case cases) (single_masks groups) there k 0 (omega (arith, long, lt)) in
      subst (λ m. has_case cases m ≡ true) (get_or-take (groups + 1) single k 0 lt) held

  pub none_is_there : has_case cases 0 ≡ true
  none_is_there = at_index 0 (omega arith)

  pub one_is_there : (group : ℕ) → group < groups → has_case cases (2 ^ group) ≡ true
  one_is_there group lt = subst (λ m. has_case cases m ≡ true) (mask_at group (omega (arith, few, lt))) (at_index (group + 1) (omega (arith, lt)))

pub cases_within : (document : Option Data) (groups : ℕ) (ts : List Thruster) (cs : List RawCase) → groups ≤ 8 → All (λ t. t.group < groups) ts
    → cases_at document groups (length ts) ≡ Ok cs → All (IsCaseWithin (length ts)) cs × AreGroups groups ts cs
unfolding cases_at
cases_within document groups ts cs few members h =
    let thrusters = length ts in
    let (all, (read, last)) = chain_ok (tables_at document (codes "case") 1 32 >>= cases_after groups thrusters []) (all_there groups) cs h in
    let (ds, (t, each)) = chain_ok (tables_at document (codes "case") 1 32) _ all read in
    let (there, same) = judged_ok (list_all (has_case all) (single_masks groups)) _ all cs last in
    let w = cases_kept groups thrusters [] ds all (no_cases groups thrusters) each in
    subst (λ xs. All (IsCaseWithin thrusters) xs × AreGroups groups ts xs) same (
      w.each,
      record {
        members = members;
        masks = w.masks;
        distinct = w.distinct;
        none_lost = none_is_there all groups few there;
        one_lost = one_is_there all groups few there;
      },
    )
