-- Formats: how a value is spelled in bytes, and how it is read from the front of bytes. A table of
-- parts makes both.
use Rattle.std.specs.Prelude.{◌≡◌, ℕ, zero, suc, List, [], ◌∷◌, ◌++◌, length, Bool, if◌then◌else◌, Result, Ok, Err}
use Rattle.std.specs.List.{flat_map}
use Rattle.dp_codec.specs.declared.numbers.Left.{Left}

-- a value and the bytes after it, or how many bytes are left at the first fault
abbrev pub Read : Type 0 → Type 0
Read A = Result (A × List ℕ) ℕ

infixl 10 ◌>>=◌
abbrev pub ◌>>=◌ : {A B : Type 0} → Result A ℕ → (A → Result B ℕ) → Result B ℕ
(Ok x) >>= f = f x
(Err e) >>= f = Err e

pub record Format (A : Type 0) : Type 0 where
  pub spell : A → List ℕ
  pub read : List ℕ → Read A

-- what a function answers, seen by a view, is what reading gives
abbrev pub Gives : {X Y : Type 0} → (X → Y) → Result X Left → Result Y ℕ → Type 0
Gives view (Ok x) read = read ≡ Ok (view x)
Gives view (Err e) read = read ≡ Err e.bytes

-- a row of a table: which part of a value stands here and in which format, and the rows after it
abbrev pub part : {A S : Type 0} → (S → A) → Format A → (A → Format S) → Format S
part get f more = record {
  spell = λ s. f.spell (get s) ++ (more (get s)).spell s;
  read = λ bytes. f.read bytes >>= λ x. (more x.0).read x.1;
}

-- its end: the value that the parts make
abbrev pub made : {S : Type 0} → S → Format S
made s = record { spell = λ _. []; read = λ bytes. Ok (s, bytes) }

-- n of a kind, one after the other
abbrev pub times_at : {A : Type 0} → (List ℕ → Read A) → ℕ → List ℕ → Read (List A)
times_at one zero bytes = Ok ([], bytes)
times_at one (suc n) bytes = do
  first ← one bytes
  others ← times_at one n first.1
  Ok (first.0 ∷ others.0, others.1)

abbrev pub times : {A : Type 0} → Format A → ℕ → Format (List A)
times f n = record { spell = flat_map f.spell; read = times_at f.read n }

-- a value that has to pass a test; the fault is at its first byte
abbrev pub passing : {A : Type 0} → (A → Bool) → Format A → Format A
passing test f = record {
  spell = f.spell;
  read = λ bytes. do
    x ← f.read bytes
    if test x.0 then Ok x else Err (length bytes);
}
