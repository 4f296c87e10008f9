-- What a line says, whatever came before it.
use Rattle.std.proofs.Common.{◌≡◌, ℕ, ◌+◌, ◌^◌, ◌/◌, ◌<◌, ◌≤◌, List, Bool, true, false, length, take, drop, refl, arith, Option, Some, None}
use Rattle.std.specs.Prelude.{nat_lt, nat_le, ◌==◌, not, ◌||◌, slice_index, if◌then◌else◌}
use Rattle.std.proofs.lemmas.Bool.Decides.{nat_tests}
use Rattle.dp_text.specs.Parts.{is_space}
use Rattle.dp_plant.specs.declared.frames.Wire.{Wire}
use Rattle.dp_frame.specs.declared.entry.Entry.{Entry}
use Rattle.dp_frame.specs.declared.settings.Settings.{Settings}
use Rattle.dp_frame.specs.declared.fault.LineFault.{LineFault}
use Rattle.dp_frame.specs.declared.fault.LineFault.TheVariants.{LongLine, NoTime, BadTime, TimeBack, NoWire}
use Rattle.dp_frame.specs.declared.entry.Judged.{Judged}
use Rattle.dp_frame.specs.declared.entry.Judged.TheVariants.{Blank, Good, Faulty, TooMany}
use Rattle.dp_frame.specs.Contents.{content_of}
use Rattle.dp_frame.specs.Wires.{wire_of}
use Rattle.dp_frame.specs.Line.{after_time, judge, judge_rest, judge_time, judge_wire, name_len, number_of, time_len, time_of}
use Rattle.dp_frame.specs.Record.{entry_of}

-- what a good line says: its entry is the same after any earlier line, and its time is not before `last`
pub record Says (p : Settings) (last : ℕ) (line : List ℕ) (e : Entry) : Type 0 where
  pub same : entry_of p line ≡ Some e
  pub time : e.time ≡ time_of line
  pub later : last ≤ e.time
  pub cycle : e.cycle ≡ e.time / p.cycle_ms
  pub filled : (length line == 0) ≡ false

judge_rest-good : (p : Settings) (t : ℕ) (rest : List ℕ) (w : Option Wire) (e : Entry) → judge_rest p t rest w ≡ Good e
    → (e.time ≡ t) × (e.cycle ≡ t / p.cycle_ms)
unfolding judge_rest
judge_rest-good p t rest None e is = cc
judge_rest-good p t rest (Some w) e is = by_test (nat_le (2 ^ 20) (t / p.cycle_ms)) is
  where
    by_test : (v : Bool)
        → (if v then TooMany (t / p.cycle_ms) else Good record { time = t; cycle = t / p.cycle_ms; wire = w; content = content_of p w rest }) ≡ Good e
        → (e.time ≡ t) × (e.cycle ≡ t / p.cycle_ms)
    by_test true is = cc
    by_test false is = (cc, cc)

-- no fault was met here
past : (v : Bool) (k : LineFault) (j : Judged) (e : Entry) → (if v then Faulty k else j) ≡ Good e → (v ≡ false) × (j ≡ Good e)
past true k j e is = cc
past false k j e is = (refl, is)

none_before_zero : (t : ℕ) → nat_lt t 0 ≡ false
none_before_zero t = grind (arith, nat_tests)

not_before : (t last : ℕ) → nat_lt t last ≡ false → last ≤ t
not_before t last no_less = grind (arith, nat_tests)

judge_wire-good : (p : Settings) (t : ℕ) (text : List ℕ) (e : Entry) → judge_wire p t text ≡ Good e → (e.time ≡ t) × (e.cycle ≡ t / p.cycle_ms)
unfolding judge_wire
judge_wire-good p t text e is =
    judge_rest-good p t (drop (name_len text + 1) text) (wire_of p.groups (take (name_len text) text)) e (past (name_len text == 0) NoWire _ e is).1

judge_time-good : (p : Settings) (last : ℕ) (line : List ℕ) (e : Entry) → judge_time p last line ≡ Good e
    → (judge_time p 0 line ≡ Good e) × (e.time ≡ number_of (take (time_len line) line)) × (last ≤ e.time) × (e.cycle ≡ e.time / p.cycle_ms)
unfolding judge_time
judge_time-good p last line e is =
    let a = past (time_len line == 0) NoTime _ e is in
    let b = past (nat_lt 15 (time_len line) || not (is_space (slice_index line (time_len line)))) BadTime _ e a.1 in
    let d = past (nat_lt (number_of (take (time_len line) line)) last) (TimeBack last (number_of (take (time_len line) line))) _ e b.1 in
    let w = judge_wire-good p (number_of (take (time_len line) line)) (after_time line) e d.1 in (
      rw (a.0, b.0, none_before_zero (number_of (take (time_len line) line))) d.1,
      w.0,
      rw w.0 (not_before (number_of (take (time_len line) line)) last d.0),
      rw w.0 w.1,
    )

not_blank : (v : Bool) (j : Judged) (e : Entry) → (if v then Blank else j) ≡ Good e → (v ≡ false) × (j ≡ Good e)
not_blank true j e is = cc
not_blank false j e is = (refl, is)

pub judge-good : (p : Settings) (last : ℕ) (line : List ℕ) (e : Entry) → judge p last line ≡ Good e → Says p last line e
unfolding judge entry_of time_of
judge-good p last line e is =
    let a = not_blank (length line == 0) _ e is in
    let b = past (nat_lt 192 (length line)) LongLine _ e a.1 in
    let d = judge_time-good p last line e b.1 in
    record {
      same = rw (a.0, b.0, d.0);
      time = d.1;
      later = d.2;
      cycle = d.3;
      filled = a.0;
    }

filled-not_blank : (k : LineFault) (v : Bool) (j : Judged) → (j ≡ Blank → ⊥) → (if v then Faulty k else j) ≡ Blank → ⊥
filled-not_blank k true j other is = cc
filled-not_blank k false j other is = other is

judge_rest-filled : (p : Settings) (t : ℕ) (rest : List ℕ) (w : Option Wire) → judge_rest p t rest w ≡ Blank → ⊥
unfolding judge_rest
judge_rest-filled p t rest None is = cc
judge_rest-filled p t rest (Some w) is = by_test (nat_le (2 ^ 20) (t / p.cycle_ms)) is
  where
    by_test : (v : Bool)
        → (if v then TooMany (t / p.cycle_ms) else Good record { time = t; cycle = t / p.cycle_ms; wire = w; content = content_of p w rest }) ≡ Blank → ⊥
    by_test true is = cc
    by_test false is = cc

-- an empty line is blank, and no other is
pub judge-blank : (p : Settings) (last : ℕ) (line : List ℕ) → (length line == 0) ≡ true → judge p last line ≡ Blank
unfolding judge
judge-blank p last line empty = rw empty

pub judge-filled : (p : Settings) (last : ℕ) (line : List ℕ) → judge p last line ≡ Blank → (length line == 0) ≡ true
unfolding judge judge_time judge_wire
judge-filled p last line is = by_test (length line == 0) refl is
  where
    by_test : (v : Bool) → (length line == 0) ≡ v
        → (if v then Blank else (if nat_lt 192 (length line) then Faulty LongLine else judge_time p last line)) ≡ Blank → (length line == 0) ≡ true
    by_test true empty is = empty
    by_test false empty is =
        absurd (filled-not_blank LongLine (nat_lt 192 (length line)) _ (filled-not_blank NoTime (time_len line == 0) _ (filled-not_blank BadTime _ _
        (filled-not_blank (TimeBack last (number_of (take (time_len line) line))) _ _ (filled-not_blank NoWire _ _ (judge_rest-filled p _ _ _))))) is)

-- two lines that are too long are judged alike
pub judge-long : (p : Settings) (last : ℕ) (line : List ℕ) → 192 < length line → judge p last line ≡ Faulty LongLine
unfolding judge
judge-long p last line long = rw (long_not_empty (length line) long, is_long (length line) long)
  where
    long_not_empty : (n : ℕ) → 192 < n → (n == 0) ≡ false
    long_not_empty n lt = grind (arith, nat_tests)

    is_long : (n : ℕ) → 192 < n → nat_lt 192 n ≡ true
    is_long n lt = grind (arith, nat_tests)
