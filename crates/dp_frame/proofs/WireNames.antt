-- A wire is read of its name, and of nothing else.
use Rattle.std.proofs.Common.{◌≡◌, ℕ, ◌+◌, ◌-◌, ◌<◌, ◌≤◌, Bool, true, false, List, [], ◌∷◌, ◌++◌, length, take, drop, get_or, Option, Some, None, ◌∙◌, refl, sym, ap, subst, arith}
use Rattle.std.specs.Prelude.{if◌then◌else◌, ◌&&◌, ◌==◌, nat_eq, nat_le, nat_lt, slice_index, codes}
use Rattle.std.specs.List.{starts_with}
use Rattle.std.specs.Option.{option_map, option_or}
use Rattle.std.proofs.lemmas.Bool.Decides.{nat_tests}
use Rattle.std.proofs.lemmas.List.{drop_all, drop_more, take-append-drop}
use Rattle.std.proofs.lemmas.Slice.Eq.{bytes_eq-Decides}
use Rattle.dp_plant.specs.declared.frames.Wire.{Wire}
use Rattle.dp_plant.specs.declared.frames.Wire.TheVariants.{Pos, Gyro, Wind, Group}
use Rattle.dp_frame.specs.Wires.{IsWire, numbered, wire_of}
use Rattle.dp_frame.specs.Told.{name_of}

-- ---- of the name

digit_in : (limit i : ℕ) → i < limit → (if nat_le 48 (48 + i) && nat_lt (48 + i) (48 + limit) then Some (48 + i - 48) else None) ≡ Some i
digit_in limit i less = by_tests (nat_le 48 (48 + i)) (nat_lt (48 + i) (48 + limit)) (low i) (high limit i less)
  where
    low : (i : ℕ) → nat_le 48 (48 + i) ≡ true
    low i = grind (arith, nat_tests)

    high : (limit i : ℕ) → i < limit → nat_lt (48 + i) (48 + limit) ≡ true
    high limit i less = grind (arith, nat_tests)

    by_tests : (a b : Bool) → a ≡ true → b ≡ true → (if a && b then Some (48 + i - 48) else None) ≡ Some i
    by_tests true true e f = ap (λ n. Some n) (omega arith)
    by_tests true false e f = absurd cc
    by_tests false b e f = absurd cc

pos_back : (i : ℕ) → i < 3 → numbered (codes "pos") 3 (codes "pos" ++ (48 + i) ∷ []) ≡ Some i
unfolding numbered
pos_back i less = digit_in 3 i less

gyro_back : (i : ℕ) → i < 3 → numbered (codes "gyro") 3 (codes "gyro" ++ (48 + i) ∷ []) ≡ Some i
unfolding numbered
gyro_back i less = digit_in 3 i less

wind_back : (i : ℕ) → i < 3 → numbered (codes "wind") 3 (codes "wind" ++ (48 + i) ∷ []) ≡ Some i
unfolding numbered
wind_back i less = digit_in 3 i less

group_back : (groups i : ℕ) → i < groups → numbered (codes "grp") groups (codes "grp" ++ (48 + i) ∷ []) ≡ Some i
unfolding numbered
group_back groups i less = digit_in groups i less

no_pos_gyro : (i : ℕ) → numbered (codes "pos") 3 (codes "gyro" ++ (48 + i) ∷ []) ≡ None
unfolding numbered
no_pos_gyro i = refl

no_pos_wind : (i : ℕ) → numbered (codes "pos") 3 (codes "wind" ++ (48 + i) ∷ []) ≡ None
unfolding numbered
no_pos_wind i = refl

no_pos_group : (i : ℕ) → numbered (codes "pos") 3 (codes "grp" ++ (48 + i) ∷ []) ≡ None
unfolding numbered
no_pos_group i = refl

no_gyro_wind : (i : ℕ) → numbered (codes "gyro") 3 (codes "wind" ++ (48 + i) ∷ []) ≡ None
unfolding numbered
no_gyro_wind i = refl

no_gyro_group : (i : ℕ) → numbered (codes "gyro") 3 (codes "grp" ++ (48 + i) ∷ []) ≡ None
unfolding numbered
no_gyro_group i = refl

no_wind_group : (i : ℕ) → numbered (codes "wind") 3 (codes "grp" ++ (48 + i) ∷ []) ≡ None
unfolding numbered
no_wind_group i = refl

-- one of four, by which of them there are
abbrev of_four : Option ℕ → Option ℕ → Option ℕ → Option ℕ → Option Wire
of_four a b c d = option_or (option_map Pos a) (option_or (option_map Gyro b) (option_or (option_map Wind c) (option_map Group d)))

some_is : {A : Type 0} {a b : A} → Some a ≡ Some b → a ≡ b
some_is e = cc

first_found : (a b c d : Option ℕ) (i : ℕ) → a ≡ Some i → of_four a b c d ≡ Some (Pos i)
first_found (Some j) b c d i e = ap (λ k. Some (Pos k)) (some_is e)
first_found None b c d i e = absurd cc

second_found : (a b c d : Option ℕ) (i : ℕ) → a ≡ None → b ≡ Some i → of_four a b c d ≡ Some (Gyro i)
second_found None (Some j) c d i none e = ap (λ k. Some (Gyro k)) (some_is e)
second_found None None c d i none e = absurd cc
second_found (Some j) b c d i none e = absurd cc

third_found : (a b c d : Option ℕ) (i : ℕ) → a ≡ None → b ≡ None → c ≡ Some i → of_four a b c d ≡ Some (Wind i)
third_found None None (Some j) d i no_pos no_gyro e = ap (λ k. Some (Wind k)) (some_is e)
third_found None None None d i no_pos no_gyro e = absurd cc
third_found None (Some j) c d i no_pos no_gyro e = absurd cc
third_found (Some j) b c d i no_pos no_gyro e = absurd cc

fourth_found : (a b c d : Option ℕ) (i : ℕ) → a ≡ None → b ≡ None → c ≡ None → d ≡ Some i → of_four a b c d ≡ Some (Group i)
fourth_found None None None (Some j) i no_pos no_gyro no_wind e = ap (λ k. Some (Group k)) (some_is e)
fourth_found None None None None i no_pos no_gyro no_wind e = absurd cc
fourth_found None None (Some j) d i no_pos no_gyro no_wind e = absurd cc
fourth_found None (Some j) c d i no_pos no_gyro no_wind e = absurd cc
fourth_found (Some j) b c d i no_pos no_gyro no_wind e = absurd cc

pub wire_back : (groups : ℕ) (w : Wire) → IsWire groups w → wire_of groups (name_of w) ≡ Some w
unfolding wire_of
wire_back groups (Pos i) less =
    let name = name_of (Pos i) in
    first_found (numbered (codes "pos") 3 name) (numbered (codes "gyro") 3 name) (numbered (codes "wind") 3 name) (numbered (codes "grp") groups name) i (pos_back i less)
wire_back groups (Gyro i) less =
    let name = name_of (Gyro i) in
    second_found (numbered (codes "pos") 3 name) (numbered (codes "gyro") 3 name) (numbered (codes "wind") 3 name) (numbered (codes "grp") groups name) i (no_pos_gyro i) (gyro_back i less)
wire_back groups (Wind i) less =
    let name = name_of (Wind i) in
    third_found (numbered (codes "pos") 3 name) (numbered (codes "gyro") 3 name) (numbered (codes "wind") 3 name) (numbered (codes "grp") groups name) i (no_pos_wind i) (no_gyro_wind i) (wind_back i less)
wire_back groups (Group i) less =
    let name = name_of (Group i) in
    fourth_found (numbered (codes "pos") 3 name) (numbered (codes "gyro") 3 name) (numbered (codes "wind") 3 name) (numbered (codes "grp") groups name) i (no_pos_group i) (no_gyro_group i) (no_wind_group i) (group_back groups i less)

-- ---- of nothing else

abbrev IsNumbered : List ℕ → ℕ → List ℕ → ℕ → Type 0
IsNumbered stem limit name i = (name ≡ stem ++ (48 + i) ∷ []) × (i < limit)

stem_digit : (stem name : List ℕ) (i : ℕ) → stem ≡ take (length stem) name → length name ≡ length stem + 1 → slice_index name (length stem) ≡ 48 + i → name ≡ stem ++ (48 + i) ∷ []
stem_digit stem name i front count digit =
    let last : drop (length stem) name ≡ slice_index name (length stem) ∷ drop (length stem + 1) name = drop_more name (length stem) 0 (omega (arith, count)) in
    let none : drop (length stem + 1) name ≡ [] = drop_all (length stem + 1) name (omega (arith, count)) in
    let tail : drop (length stem) name ≡ (48 + i) ∷ [] = last ∙ (ap (λ rest. slice_index name (length stem) ∷ rest) none ∙ ap (λ c. c ∷ []) digit) in
    sym (take-append-drop (length stem) name) ∙ (ap (λ text. text ++ drop (length stem) name) (sym front) ∙ ap (λ text. stem ++ text) tail)

numbered-name : (stem : List ℕ) (limit : ℕ) (name : List ℕ) (i : ℕ) → numbered stem limit name ≡ Some i → IsNumbered stem limit name i
unfolding numbered
numbered-name stem limit name i e =
    by_tests (length name == length stem + 1) (starts_with nat_eq name stem) (nat_le 48 (slice_index name (length stem))) (nat_lt (slice_index name (length stem)) (48 + limit)) refl refl refl refl e
  where
    by_tests : (a b c d : Bool) → (length name == length stem + 1) ≡ a → starts_with nat_eq name stem ≡ b → nat_le 48 (slice_index name (length stem)) ≡ c
        → nat_lt (slice_index name (length stem)) (48 + limit) ≡ d
        → (if a && (b && (c && d)) then Some (slice_index name (length stem) - 48) else None) ≡ Some i → IsNumbered stem limit name i
    by_tests true true true true count front low high e =
        let digit : slice_index name (length stem) - 48 ≡ i = some_is e in
        let least : 48 ≤ slice_index name (length stem) = grind (arith, nat_tests) in
        let most : slice_index name (length stem) < 48 + limit = grind (arith, nat_tests) in
        let long : length name ≡ length stem + 1 = grind (arith, nat_tests) in (
          stem_digit stem name i ((bytes_eq-Decides stem (take (length stem) name)).0 front) long (omega (arith, digit, least)),
          omega (arith, digit, least, most),
        )
    by_tests true true true false count front low high e = absurd cc
    by_tests true true false d count front low high e = absurd cc
    by_tests true false c d count front low high e = absurd cc
    by_tests false b c d count front low high e = absurd cc

-- a wire is one of four kinds
one_of_four : (groups : ℕ) (name : List ℕ) (w : Wire) (a b c d : Option ℕ)
    → ((i : ℕ) → a ≡ Some i → IsNumbered (codes "pos") 3 name i) → ((i : ℕ) → b ≡ Some i → IsNumbered (codes "gyro") 3 name i)
    → ((i : ℕ) → c ≡ Some i → IsNumbered (codes "wind") 3 name i) → ((i : ℕ) → d ≡ Some i → IsNumbered (codes "grp") groups name i)
    → of_four a b c d ≡ Some w → (name ≡ name_of w) × IsWire groups w
one_of_four groups name w (Some i) b c d p q r s e = let is : Pos i ≡ w = some_is e in subst (λ w. (name ≡ name_of w) × IsWire groups w) is (p i refl)
one_of_four groups name w None (Some i) c d p q r s e = let is : Gyro i ≡ w = some_is e in subst (λ w. (name ≡ name_of w) × IsWire groups w) is (q i refl)
one_of_four groups name w None None (Some i) d p q r s e = let is : Wind i ≡ w = some_is e in subst (λ w. (name ≡ name_of w) × IsWire groups w) is (r i refl)
one_of_four groups name w None None None (Some i) p q r s e = let is : Group i ≡ w = some_is e in subst (λ w. (name ≡ name_of w) × IsWire groups w) is (s i refl)
one_of_four groups name w None None None None p q r s e = absurd cc

pub wire_named : (groups : ℕ) (name : List ℕ) (w : Wire) → wire_of groups name ≡ Some w → (name ≡ name_of w) × IsWire groups w
unfolding wire_of
wire_named groups name w e =
    one_of_four groups name w (numbered (codes "pos") 3 name) (numbered (codes "gyro") 3 name) (numbered (codes "wind") 3 name) (numbered (codes "grp") groups name)
    (numbered-name (codes "pos") 3 name) (numbered-name (codes "gyro") 3 name) (numbered-name (codes "wind") 3 name) (numbered-name (codes "grp") groups name) e
