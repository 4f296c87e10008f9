-- A line that isn't faulty tells a time, a wire and a rest, and is judged by these.
use Rattle.std.proofs.Common.{◌≡◌, ℕ, ◌+◌, ◌<◌, ◌≤◌, ◌⊎◌, inl, inr, Bool, true, false, List, [], ◌∷◌, ◌++◌, length, take, drop, cond, Option, Some, None, ◌∙◌, refl, sym, ap, subst, arith, append_assoc, length-append}
use Rattle.std.specs.Prelude.{if◌then◌else◌, ◌&&◌, ◌||◌, ◌==◌, not, nat_le, nat_lt, slice_index, unwrap_or, codes}
use Rattle.std.specs.List.{list_all, prefix_len}
use Rattle.std.specs.Char.{is_ascii_digit}
use Rattle.std.proofs.Math.Seq.{get_or-append_seam}
use Rattle.std.proofs.lemmas.Bool.{cases_lt}
use Rattle.std.proofs.lemmas.Bool.Decides.{nat_tests}
use Rattle.std.proofs.lemmas.List.{drop_all, drop_at, drop_more, get_or-take, get_or_past, length-take, length-take-le, take-append-drop, take_all, take_at}
use Rattle.std.proofs.lemmas.List.Elements.{All-from_get_or}
use Rattle.std.proofs.lemmas.List.Sums.{list_all-from_AllPass, prefix_len-le-length, prefix_len_passes, prefix_len_stops}
use Rattle.dp_text.specs.Laws.{Writes, place_value}
use Rattle.dp_text.specs.Numbers.{decimal_of}
use Rattle.dp_text.specs.Parts.{is_space}
use Rattle.dp_text.proofs.JoinedParts.{both}
use Rattle.dp_text.proofs.Places.{number_read_is_written}
use Rattle.dp_plant.specs.declared.frames.Wire.{Wire}
use Rattle.dp_plant.specs.declared.frames.Wire.TheVariants.{Pos, Gyro, Wind, Group}
use Rattle.dp_frame.specs.declared.settings.Settings.{Settings}
use Rattle.dp_frame.specs.declared.fault.LineFault.{LineFault}
use Rattle.dp_frame.specs.declared.fault.LineFault.TheVariants.{LongLine, NoTime, BadTime, TimeBack, NoWire, UnknownWire}
use Rattle.dp_frame.specs.declared.entry.Judged.{Judged}
use Rattle.dp_frame.specs.declared.entry.Judged.TheVariants.{Blank, Faulty}
use Rattle.dp_frame.specs.Wires.{IsWire, wire_of}
use Rattle.dp_frame.specs.Line.{after_time, judge, judge_rest, judge_time, judge_wire, name_len, number_of, time_len}
use Rattle.dp_frame.specs.Told.{IsTaken, LineIsTold, Tells, name_of}
use Rattle.dp_frame.proofs.WireNames.{wire_back, wire_named}

-- ---- a text cut where a test stops

module _ (p : ℕ → Bool) where
  one_more : (b : Bool) (n m : ℕ) → b ≡ true → n ≡ m → cond b (1 + n) 0 ≡ 1 + m
  one_more true n m is e = ap (λ k. 1 + k) e
  one_more false n m is e = absurd cc

  -- the test stops where what passes ends
  pub len_at : (xs ys : List ℕ) → list_all p xs ≡ true → prefix_len p ys ≡ 0 → prefix_len p (xs ++ ys) ≡ length xs
  len_at [] ys all stop = stop
  len_at (x ∷ xs) ys all stop =
      let b = both (p x) (list_all p xs) all in
      one_more (p x) (prefix_len p (xs ++ ys)) (length xs) b.0 (len_at xs ys b.1 stop) ∙ omega arith

  -- what stands before it passes
  pub all_before : (xs : List ℕ) → list_all p (take (prefix_len p xs) xs) ≡ true
  all_before xs =
      let n = prefix_len p xs in
      list_all-from_AllPass p (take n xs)
      (All-from_get_or (λ b. p b ≡ true) (take n xs) 0
      (λ k lt. let less : k < n = omega (arith, lt, length-take n xs) in ap p (get_or-take n xs k 0 less) ∙ prefix_len_passes p xs k 0 less))

-- a list at a place within it
split_here : (xs : List ℕ) (n : ℕ) → n < length xs → xs ≡ take n xs ++ slice_index xs n ∷ drop (n + 1) xs
split_here xs n less = sym (take-append-drop n xs) ∙ ap (λ rest. take n xs ++ rest) (drop_more xs n 0 less)

after_here : (xs ys : List ℕ) (c : ℕ) → drop (length xs + 1) (xs ++ c ∷ ys) ≡ ys
after_here xs ys c =
    ap (drop (length xs + 1)) (sym (append_assoc xs (c ∷ []) ys)) ∙ drop_at (xs ++ c ∷ []) ys (length xs + 1) (length-append xs (c ∷ []))

with_nothing : (xs : List ℕ) → xs ++ [] ≡ xs
with_nothing [] = refl
with_nothing (x ∷ xs) = ap (λ rest. x ∷ rest) (with_nothing xs)

-- ---- tests of numbers

not_zero : (n : ℕ) → 0 < n → (n == 0) ≡ false
not_zero n some = grind (arith, nat_tests)

not_above : (n m : ℕ) → m ≤ n → nat_lt n m ≡ false
not_above n m le = grind (arith, nat_tests)

some_of : (n : ℕ) → (n == 0) ≡ false → 0 < n
some_of n is = grind (arith, nat_tests)

most_of : (n m : ℕ) → nat_lt n m ≡ false → m ≤ n
most_of n m is = grind (arith, nat_tests)

space_is : (c : ℕ) → not (is_space c) ≡ false → c ≡ 32
space_is c is = grind (arith, nat_tests)

neither : (a b : Bool) → (a || b) ≡ false → (a ≡ false) × (b ≡ false)
neither false b e = (refl, e)
neither true b e = absurd cc

-- ---- the number of up to 15 digits

number_back : (digits : List ℕ) (n : ℕ) → Writes digits 15 n → number_of digits ≡ n
number_back digits n w = ap (λ o. unwrap_or o 0) (number_read_is_written.read 15 n digits w)

number_writes : (digits : List ℕ) → 0 < length digits → length digits ≤ 15 → list_all is_ascii_digit digits ≡ true → Writes digits 15 (number_of digits)
number_writes digits some few all =
    let w : Writes digits 15 (place_value digits) = record { some = some; few = few; digits = all; value = refl } in
    subst (Writes digits 15) (sym (number_back digits (place_value digits) w)) w

-- ---- a line that tells something is judged by it

abbrev no_space : ℕ → Bool
no_space b = not (is_space b)

digit_no_space : (i : ℕ) → not (is_space (48 + i)) ≡ true
digit_no_space i = grind (arith, nat_tests)

last_lacks : (b : Bool) → b ≡ true → (b && true) ≡ true
last_lacks true is = refl
last_lacks false is = absurd cc

name_lacks : (w : Wire) → list_all no_space (name_of w) ≡ true
name_lacks (Pos i) = last_lacks (no_space (48 + i)) (digit_no_space i)
name_lacks (Gyro i) = last_lacks (no_space (48 + i)) (digit_no_space i)
name_lacks (Wind i) = last_lacks (no_space (48 + i)) (digit_no_space i)
name_lacks (Group i) = last_lacks (no_space (48 + i)) (digit_no_space i)

one_after : (stem : List ℕ) (c : ℕ) → 0 < length (stem ++ c ∷ [])
one_after stem c = omega (arith, length-append stem (c ∷ []))

name_some : (w : Wire) → 0 < length (name_of w)
name_some (Pos i) = one_after (codes "pos") (48 + i)
name_some (Gyro i) = one_after (codes "gyro") (48 + i)
name_some (Wind i) = one_after (codes "wind") (48 + i)
name_some (Group i) = one_after (codes "grp") (48 + i)

-- what stands after the time: a name, and perhaps a space and a rest
record Cut (tail name rest : List ℕ) : Type 0 where
  pub len : name_len tail ≡ length name
  pub first : take (name_len tail) tail ≡ name
  pub after : drop (name_len tail + 1) tail ≡ rest

cut_named : (tail name rest : List ℕ) → list_all no_space name ≡ true → ((tail ≡ name) × (rest ≡ [])) ⊎ (tail ≡ name ++ 32 ∷ rest) → Cut tail name rest
cut_named tail name rest lacks is =
    elim is [
      | inl s ↦
          let len : name_len tail ≡ length name = ap (prefix_len no_space) (s.0 ∙ sym (with_nothing name)) ∙ len_at no_space name [] lacks refl in
          record {
            len = len;
            first = ap (λ n. take n tail) len ∙ (ap (take (length name)) s.0 ∙ take_all (length name) name (omega arith));
            after = ap (λ n. drop (n + 1) tail) len ∙ (ap (drop (length name + 1)) s.0 ∙ (drop_all (length name + 1) name (omega arith) ∙ sym s.1));
          }
      | inr s ↦
          let len : name_len tail ≡ length name = ap (prefix_len no_space) s ∙ len_at no_space name (32 ∷ rest) lacks refl in
          record {
            len = len;
            first = ap (λ n. take n tail) len ∙ (ap (take (length name)) s ∙ take_at name (32 ∷ rest) (length name) refl);
            after = ap (λ n. drop (n + 1) tail) len ∙ (ap (drop (length name + 1)) s ∙ after_here name rest 32);
          }
    ]

onward : (v : Bool) (k : LineFault) (a b : Judged) → v ≡ false → a ≡ b → (if v then Faulty k else a) ≡ b
onward true k a b is e = absurd cc
onward false k a b is e = e

filled : (v : Bool) (a b : Judged) → v ≡ false → a ≡ b → (if v then Blank else a) ≡ b
filled true a b is e = absurd cc
filled false a b is e = e

wire_read : (p : Settings) (time : ℕ) (tail rest : List ℕ) (wire : Wire) → IsWire p.groups wire → Cut tail (name_of wire) rest → judge_wire p time tail ≡ judge_rest p time rest (Some wire)
unfolding judge_wire
wire_read p time tail rest wire known c =
    onward (name_len tail == 0) NoWire (judge_rest p time (drop (name_len tail + 1) tail) (wire_of p.groups (take (name_len tail) tail))) (judge_rest p time rest (Some wire))
    (not_zero (name_len tail) (omega (arith, c.len, name_some wire)))
    (ap (λ r. judge_rest p time r (wire_of p.groups (take (name_len tail) tail))) c.after
    ∙ ap (judge_rest p time rest) (ap (wire_of p.groups) c.first ∙ wire_back p.groups wire known))

-- the parts of a line by its time
record Timed (line digits tail : List ℕ) : Type 0 where
  pub len : time_len line ≡ length digits
  pub first : take (time_len line) line ≡ digits
  pub after : after_time line ≡ tail
  pub space : slice_index line (time_len line) ≡ 32

timed : (line digits tail : List ℕ) → list_all is_ascii_digit digits ≡ true → line ≡ digits ++ 32 ∷ tail → Timed line digits tail
timed line digits tail all is =
    let len : time_len line ≡ length digits = ap (prefix_len is_ascii_digit) is ∙ len_at is_ascii_digit digits (32 ∷ tail) all refl in
    record {
      len = len;
      first = ap (λ n. take n line) len ∙ (ap (take (length digits)) is ∙ take_at digits (32 ∷ tail) (length digits) refl);
      after = ap (λ n. drop (n + 1) line) len ∙ (ap (drop (length digits + 1)) is ∙ after_here digits tail 32);
      space = ap (slice_index line) len ∙ (ap (λ text. slice_index text (length digits)) is ∙ get_or-append_seam digits 32 tail 0);
    }

is_good_time : (n c : ℕ) → n ≤ 15 → c ≡ 32 → (nat_lt 15 n || not (is_space c)) ≡ false
is_good_time n c few is = by_tests (nat_lt 15 n) (not (is_space c)) (not_above 15 n few) (is_one c is)
  where
    is_one : (c : ℕ) → c ≡ 32 → not (is_space c) ≡ false
    is_one c is = grind (arith, nat_tests)

    by_tests : (a b : Bool) → a ≡ false → b ≡ false → (a || b) ≡ false
    by_tests false b e f = f
    by_tests true b e f = absurd cc

read : (p : Settings) (last : ℕ) (line : List ℕ) (time : ℕ) (wire : Wire) (rest : List ℕ) → Tells p.groups last line time wire rest → judge p last line ≡ judge_rest p time rest (Some wire)
unfolding judge judge_time
read p last line time wire rest s =
    let t = timed line s.digits s.tail s.written.digits s.joined in
    let c = cut_named s.tail (name_of wire) rest (name_lacks wire) s.named in
    let now : number_of (take (time_len line) line) ≡ time = ap number_of t.first ∙ number_back s.digits time s.written in
    let last_step : judge_wire p (number_of (take (time_len line) line)) (after_time line) ≡ judge_rest p time rest (Some wire) =
    ap (λ n. judge_wire p n (after_time line)) now ∙ (ap (judge_wire p time) t.after ∙ wire_read p time s.tail rest wire s.known c) in
    let some : 0 < length line = omega (arith, ap length s.joined, length-append s.digits (32 ∷ s.tail), s.written.some) in
    filled (length line == 0) _ (judge_rest p time rest (Some wire)) (not_zero (length line) some)
    (onward (nat_lt 192 (length line)) LongLine _ (judge_rest p time rest (Some wire)) (not_above 192 (length line) s.short)
    (onward (time_len line == 0) NoTime _ (judge_rest p time rest (Some wire)) (not_zero (time_len line) (omega (arith, t.len, s.written.some)))
    (onward (nat_lt 15 (time_len line) || not (is_space (slice_index line (time_len line)))) BadTime _ (judge_rest p time rest (Some wire))
    (is_good_time (time_len line) (slice_index line (time_len line)) (omega (arith, t.len, s.written.few)) t.space)
    (onward (nat_lt (number_of (take (time_len line) line)) last) (TimeBack last (number_of (take (time_len line) line))) _ (judge_rest p time rest (Some wire))
    (not_above (number_of (take (time_len line) line)) last (omega (arith, now, s.later))) last_step))))

-- ---- a line that isn't faulty tells something

past : (v : Bool) (k : LineFault) (a : Judged) → IsTaken (if v then Faulty k else a) → (v ≡ false) × IsTaken a
past true k a t = absurd t
past false k a t = (refl, t)

past_blank : (v : Bool) (a : Judged) → IsTaken (if v then Blank else a) → (v ≡ false) × IsTaken a
past_blank true a t = absurd t
past_blank false a t = (refl, t)

known_wire : (p : Settings) (time : ℕ) (rest : List ℕ) (w : Option Wire) → IsTaken (judge_rest p time rest w) → (wire : Wire) × (w ≡ Some wire)
unfolding judge_rest
known_wire p time rest None t = absurd t
known_wire p time rest (Some wire) t = (wire, refl)

-- a name, and perhaps a space and a rest
named_tail : (tail : List ℕ) → ((tail ≡ take (name_len tail) tail) × (drop (name_len tail + 1) tail ≡ [])) ⊎ (tail ≡ take (name_len tail) tail ++ 32 ∷ drop (name_len tail + 1) tail)
named_tail tail =
    elim (cases_lt (name_len tail) (length tail)) [
      | inl less ↦
          let space : slice_index tail (name_len tail) ≡ 32 = space_is (slice_index tail (name_len tail)) (prefix_len_stops no_space tail 0 less) in
          inr (split_here tail (name_len tail) less ∙ ap (λ c. take (name_len tail) tail ++ c ∷ drop (name_len tail + 1) tail) space)
      | inr le ↦ inl (sym (take_all (name_len tail) tail le), drop_all (name_len tail + 1) tail (omega (arith, le)))
    ]

record Named (groups : ℕ) (tail : List ℕ) : Type 0 where
  pub wire : Wire
  pub rest : List ℕ
  pub known : IsWire groups wire
  pub named : ((tail ≡ name_of wire) × (rest ≡ [])) ⊎ (tail ≡ name_of wire ++ 32 ∷ rest)

wire_written : (p : Settings) (time : ℕ) (tail : List ℕ) → IsTaken (judge_wire p time tail) → Named p.groups tail
unfolding judge_wire
wire_written p time tail t =
    let a = past (name_len tail == 0) NoWire (judge_rest p time (drop (name_len tail + 1) tail) (wire_of p.groups (take (name_len tail) tail))) t in
    let w = known_wire p time (drop (name_len tail + 1) tail) (wire_of p.groups (take (name_len tail) tail)) a.1 in
    let n = wire_named p.groups (take (name_len tail) tail) w.0 w.1 in
    record {
      wire = w.0;
      rest = drop (name_len tail + 1) tail;
      known = n.1;
      named = subst (λ name. ((tail ≡ name) × (drop (name_len tail + 1) tail ≡ [])) ⊎ (tail ≡ name ++ 32 ∷ drop (name_len tail + 1) tail)) n.0 (named_tail tail);
    }

past_end : (line : List ℕ) (n : ℕ) → slice_index line n ≡ 32 → n < length line
past_end line n is =
    elim (cases_lt n (length line)) [
      | inl less ↦ less
      | inr le ↦ absurd (omega (arith, get_or_past line n 0 le, is))
    ]

written : (p : Settings) (last : ℕ) (line : List ℕ) → IsTaken (judge p last line) → (time : ℕ) × (wire : Wire) × (rest : List ℕ) × Tells p.groups last line time wire rest
unfolding judge judge_time
written p last line t =
    let now = number_of (take (time_len line) line) in
    let told : Judged = judge_wire p now (after_time line) in
    let later : Judged = if nat_lt now last then Faulty (TimeBack last now) else told in
    let well : Judged = if nat_lt 15 (time_len line) || not (is_space (slice_index line (time_len line))) then Faulty BadTime else later in
    let begun : Judged = if time_len line == 0 then Faulty NoTime else well in
    let short : Judged = if nat_lt 192 (length line) then Faulty LongLine else begun in
    let a = past_blank (length line == 0) short t in
    let b = past (nat_lt 192 (length line)) LongLine begun a.1 in
    let c = past (time_len line == 0) NoTime well b.1 in
    let d = past (nat_lt 15 (time_len line) || not (is_space (slice_index line (time_len line)))) BadTime later c.1 in
    let e = past (nat_lt now last) (TimeBack last now) told d.1 in
    let n = wire_written p now (after_time line) e.1 in
    let f = neither (nat_lt 15 (time_len line)) (not (is_space (slice_index line (time_len line)))) d.0 in
    let space : slice_index line (time_len line) ≡ 32 = space_is (slice_index line (time_len line)) f.1 in
    let less : time_len line < length line = past_end line (time_len line) space in
    let count : length (take (time_len line) line) ≡ time_len line = length-take-le (time_len line) line (omega (arith, less)) in (
      number_of (take (time_len line) line),
      n.wire,
      n.rest,
      record {
        digits = take (time_len line) line;
        tail = after_time line;
        joined = split_here line (time_len line) less ∙ ap (λ c. take (time_len line) line ++ c ∷ after_time line) space;
        named = n.named;
        short = most_of 192 (length line) b.0;
        written = number_writes (take (time_len line) line) (omega (arith, count, some_of (time_len line) c.0)) (omega (arith, count, most_of 15 (time_len line) f.0)) (all_before is_ascii_digit line);
        later = most_of (number_of (take (time_len line) line)) last e.0;
        known = n.known;
      },
    )

pub line_is_told : LineIsTold
line_is_told = record { read = read; written = written }
