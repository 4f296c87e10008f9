-- A line of a script says an instruction exactly where it is read as that instruction.
use Rattle.std.proofs.Common.{◌≡◌, ℕ, ◌*◌, ◌^◌, ◌<◌, ◌≤◌, ◌⊎◌, inl, inr, Bool, true, false, List, [], ◌∷◌, length, Option, Some, None, Result, Ok, Err, ◌∙◌, refl, sym, ap, subst, arith}
use Rattle.std.specs.Prelude.{if◌then◌else◌, ◌&&◌, ◌==◌, ◌%◌, ◌≢◌, nat_le, nat_lt, ℤ, unsigned_abs, codes}
use Rattle.std.specs.List.{join_with_byte, list_all}
use Rattle.std.specs.Str.{bytes_eq}
use Rattle.std.proofs.lemmas.Bool.Decides.{nat_tests}
use Rattle.std.proofs.lemmas.Slice.Eq.{bytes_eq-Decides}
use Rattle.dp_text.specs.Laws.{Writes, WritesSigned}
use Rattle.dp_text.specs.Numbers.{decimal_of, number_of}
use Rattle.dp_text.specs.Parts.{lacks_space, parts_of}
use Rattle.dp_text.proofs.JoinedParts.{digits_lack, parts_are_joined}
use Rattle.dp_text.proofs.Places.{number_read_is_written}
use Rattle.dp_text.proofs.Signs.{signed_read_is_written}
use Rattle.arrayvec.specs.ArrayVec.{ArrayVec}
use Rattle.dp_script.specs.declared.act.Act.{Act}
use Rattle.dp_script.specs.declared.act.Act.TheVariants as act
use Rattle.dp_script.specs.declared.command.Command.{Command}
use Rattle.dp_script.specs.declared.command.Command.TheVariants as command
use Rattle.dp_script.specs.declared.command.Message.{Message}
use Rattle.dp_script.specs.declared.command.Message.TheVariants as message
use Rattle.dp_script.specs.declared.command.Phrase.{Phrase}
use Rattle.dp_script.specs.declared.command.Verb.{Verb}
use Rattle.dp_script.specs.declared.command.Verb.TheVariants as verb
use Rattle.dp_script.specs.declared.command.Single.{Single}
use Rattle.dp_script.specs.declared.command.Single.TheVariants as single
use Rattle.dp_script.specs.declared.command.Exchange.{Exchange}
use Rattle.dp_script.specs.declared.command.Exchange.TheVariants as exchange
use Rattle.dp_script.specs.declared.instruction.Acts.{Acts}
use Rattle.dp_script.specs.declared.instruction.Acts.TheVariants.{Usual, One}
use Rattle.dp_script.specs.declared.instruction.Instruction.{Instruction}
use Rattle.dp_script.specs.declared.fault.ScriptKind.{ScriptKind}
use Rattle.dp_script.specs.declared.fault.ScriptKind.TheVariants as kind
use Rattle.dp_script.specs.Chains.{◌>>=◌, or_fault}
use Rattle.dp_script.specs.Acts.{AreTwo, IsJunk, IsNear}
use Rattle.dp_script.specs.Commands.{bytes_of, command_of, exchange_of, hexadecimal_of, message_of, phrase_of, phrase_of_parts, signed_of, verb_of, whole_of}
use Rattle.dp_script.specs.Instructions.{IsGiven, acts_of, below_of, instruction_of, near_of, other_of, single_of, told_of}
use Rattle.dp_script.specs.Hexadecimal.{hexadecimal, is_lower_digit, paired}
use Rattle.dp_script.specs.Written.{Argument, LineIsWritten, Says, WriteAll, WritesOne, arguments_of, word_of}
use Rattle.dp_script.specs.Written.{whole as whole_one, signed as signed_one, bytes as bytes_one}
use Rattle.dp_script.proofs.Hexadecimals.{both_true, hexadecimal_lacks, pairs_known, text_known}

-- ---- what is read is written

-- what a chain gives comes of a value
bound : {A B : Type 0} (r : Result A ScriptKind) (f : A → Result B ScriptKind) (b : B) → (r >>= f) ≡ Ok b → (a : A) × (r ≡ Ok a) × (f a ≡ Ok b)
bound (Ok a) f b e = (a, refl, e)
bound (Err fault) f b e = absurd cc

ok_is : {A : Type 0} {a b : A} → ◌≡◌ {A = Result A ScriptKind} (Ok a) (Ok b) → a ≡ b
ok_is e = cc

whole : (text : List ℕ) (n : ℕ) → whole_of text ≡ Ok n → Writes text 18 n
whole text n e = by_read (decimal_of 18 text) refl e
  where
    by_read : (o : Option ℕ) → decimal_of 18 text ≡ o → or_fault o kind.Number ≡ Ok n → Writes text 18 n
    by_read None is e = absurd cc
    by_read (Some m) is e = number_read_is_written.written 18 n text (is ∙ ap (λ m. Some m) (ok_is e))

signed : (text : List ℕ) (n : ℤ) → signed_of text ≡ Ok n → WritesSigned text n
signed text n e = by_read (number_of text) refl e
  where
    by_read : (o : Option ℤ) → number_of text ≡ o → or_fault o kind.Number ≡ Ok n → WritesSigned text n
    by_read None is e = absurd cc
    by_read (Some m) is e = signed_read_is_written.written n text (is ∙ ap (λ m. Some m) (ok_is e))

below : (limit n m : ℕ) → below_of limit n ≡ Ok m → (n ≡ m) × (m < limit)
below limit n m e = by_test (nat_lt n limit) refl e
  where
    by_test : (b : Bool) → nat_lt n limit ≡ b → ◌≡◌ {A = Result ℕ ScriptKind} (if b then Ok n else Err kind.Range) (Ok m) → (n ≡ m) × (m < limit)
    by_test true less e =
        let same : n ≡ m = ok_is e in
        let lt : n < limit = grind (arith, nat_tests) in
        (same, subst (λ k. k < limit) same lt)
    by_test false less e = absurd cc

near : (limit : ℕ) (n m : ℤ) → near_of limit n ≡ Ok m → (n ≡ m) × (unsigned_abs m ≤ limit)
near limit n m e = by_test (nat_le (unsigned_abs n) limit) refl e
  where
    by_test : (b : Bool) → nat_le (unsigned_abs n) limit ≡ b → ◌≡◌ {A = Result ℤ ScriptKind} (if b then Ok n else Err kind.Range) (Ok m) → (n ≡ m) × (unsigned_abs m ≤ limit)
    by_test true few e =
        let same : n ≡ m = ok_is e in
        let le : unsigned_abs n ≤ limit = grind (arith, nat_tests) in
        (same, subst (λ k. unsigned_abs k ≤ limit) same le)
    by_test false few e = absurd cc

-- a number without a sign that is read, and found in range
counted : (text : List ℕ) (limit n m : ℕ) → whole_of text ≡ Ok n → below_of limit n ≡ Ok m → Writes text 18 m × (m < limit)
counted text limit n m e f =
    let b = below limit n m f in (subst (λ k. Writes text 18 k) b.0 (whole text n e), b.1)

-- and one that may have a sign
measured : (text : List ℕ) (limit : ℕ) (n m : ℤ) → signed_of text ≡ Ok n → near_of limit n ≡ Ok m → WritesSigned text m × (unsigned_abs m ≤ limit)
measured text limit n m e f =
    let b = near limit n m f in (subst (λ k. WritesSigned text k) b.0 (signed text n e), b.1)

abbrev name_of : Verb → List ℕ
name_of verb.Usual = codes "usual"
name_of (verb.Single single.Run) = codes "run"
name_of verb.Order = codes "order"
name_of (verb.Single single.Orders) = codes "orders"
name_of (verb.Exchange exchange.Tell) = codes "tell"
name_of verb.Skew = codes "skew"
name_of verb.Say = codes "say"
name_of (verb.Exchange exchange.Lie) = codes "lie"
name_of (verb.Exchange exchange.Junk) = codes "junk"
name_of (verb.Single single.Stop) = codes "stop"
name_of (verb.Single single.Restart) = codes "restart"
name_of (verb.Single single.Upgrade) = codes "upgrade"

-- a word is this name, or stands for what a later one does
one_name : (word name : List ℕ) (u : Verb) (rest : Option Verb) (v : Verb) → (if bytes_eq word name then Some u else rest) ≡ Some v
    → ((word ≡ name) × (u ≡ v)) ⊎ (rest ≡ Some v)
one_name word name u rest v e = by_test (bytes_eq word name) refl e
  where
    by_test : (b : Bool) → bytes_eq word name ≡ b → (if b then Some u else rest) ≡ Some v → ((word ≡ name) × (u ≡ v)) ⊎ (rest ≡ Some v)
    by_test true is e = inl ((bytes_eq-Decides word name).0 is, cc)
    by_test false is e = inr e

verb_named : (word : List ℕ) (v : Verb) → verb_of word ≡ Some v → word ≡ name_of v
verb_named word v e =
    elim (one_name word (codes "usual") verb.Usual _ v e) [
      | inl s ↦ s.0 ∙ ap name_of s.1
      | inr e ↦ elim (one_name word (codes "run") (verb.Single single.Run) _ v e) [
        | inl s ↦ s.0 ∙ ap name_of s.1
        | inr e ↦ elim (one_name word (codes "order") verb.Order _ v e) [
          | inl s ↦ s.0 ∙ ap name_of s.1
          | inr e ↦ elim (one_name word (codes "orders") (verb.Single single.Orders) _ v e) [
            | inl s ↦ s.0 ∙ ap name_of s.1
            | inr e ↦ elim (one_name word (codes "tell") (verb.Exchange exchange.Tell) _ v e) [
              | inl s ↦ s.0 ∙ ap name_of s.1
              | inr e ↦ elim (one_name word (codes "skew") verb.Skew _ v e) [
                | inl s ↦ s.0 ∙ ap name_of s.1
                | inr e ↦ elim (one_name word (codes "say") verb.Say _ v e) [
                  | inl s ↦ s.0 ∙ ap name_of s.1
                  | inr e ↦ elim (one_name word (codes "lie") (verb.Exchange exchange.Lie) _ v e) [
                    | inl s ↦ s.0 ∙ ap name_of s.1
                    | inr e ↦ elim (one_name word (codes "junk") (verb.Exchange exchange.Junk) _ v e) [
                      | inl s ↦ s.0 ∙ ap name_of s.1
                      | inr e ↦ elim (one_name word (codes "stop") (verb.Single single.Stop) _ v e) [
                        | inl s ↦ s.0 ∙ ap name_of s.1
                        | inr e ↦ elim (one_name word (codes "restart") (verb.Single single.Restart) _ v e) [
                          | inl s ↦ s.0 ∙ ap name_of s.1
                          | inr e ↦ elim (one_name word (codes "upgrade") (verb.Single single.Upgrade) None v e) [
                            | inl s ↦ s.0 ∙ ap name_of s.1
                            | inr e ↦ absurd cc
                          ]
                        ]
                      ]
                    ]
                  ]
                ]
              ]
            ]
          ]
        ]
      ]
    ]

-- what a verb says with texts
record IsSaid (v : Verb) (texts : List (List ℕ)) (acts : Acts) : Type 0 where
  pub name : name_of v ≡ word_of acts
  pub what : WriteAll texts (arguments_of acts)
  pub within : IsGiven acts

-- with one computer alone
one_said : (v : Verb) (a : List ℕ) (to : ℕ → Command) (from : ℕ → Acts) (c : Command) (acts : Acts)
    → ((n : ℕ) → acts_of (to n) ≡ (below_of 3 n >>= λ c. Ok (from c)))
    → ((n : ℕ) → Writes a 18 n → n < 3 → IsSaid v (a ∷ []) (from n))
    → (whole_of a >>= λ c. Ok (to c)) ≡ Ok c → acts_of c ≡ Ok acts → IsSaid v (a ∷ []) acts
one_said v a to from c acts meant said e f =
    let n = bound (whole_of a) (λ c. Ok (to c)) c e in
    let g : (below_of 3 n.0 >>= λ c. Ok (from c)) ≡ Ok acts = sym (meant n.0) ∙ (ap acts_of (ok_is n.2) ∙ f) in
    let m = bound (below_of 3 n.0) (λ c. Ok (from c)) acts g in
    let x = counted a 3 n.0 m.0 n.1 m.1 in
    subst (IsSaid v (a ∷ [])) (ok_is m.2) (said m.0 x.0 x.1)

single_said : (v : Single) (a : List ℕ) (n : ℕ) → Writes a 18 n → n < 3 → IsSaid (verb.Single v) (a ∷ []) (One (single_of v n))
single_said single.Run a n w l = record { name = refl; what = (w, tt); within = l }
single_said single.Orders a n w l = record { name = refl; what = (w, tt); within = l }
single_said single.Stop a n w l = record { name = refl; what = (w, tt); within = l }
single_said single.Restart a n w l = record { name = refl; what = (w, tt); within = l }
single_said single.Upgrade a n w l = record { name = refl; what = (w, tt); within = l }

-- another computer than a
another : (a b m : ℕ) → a < 3 → other_of a b ≡ Ok m → (b ≡ m) × AreTwo a m
another a b m first e = by_test (b == a) refl e
  where
    by_test : (t : Bool) → (b == a) ≡ t → ◌≡◌ {A = Result ℕ ScriptKind} (if t then Err kind.Range else below_of 3 b) (Ok m) → (b ≡ m) × AreTwo a m
    by_test true same e = absurd cc
    by_test false differ e =
        let k = below 3 b m e in
        let apart : a ≢ m = λ is. absurd (grind (arith, nat_tests, is, k.0)) in (k.0, (first, k.1, apart))

-- bytes that are read, and found to be 1 to 64
spelled : (text : List ℕ) (o : Option (ArrayVec ℕ)) (sent : ArrayVec ℕ) → hexadecimal_of text ≡ Ok o → or_fault o kind.Range ≡ Ok sent
    → (text ≡ hexadecimal sent.items) × IsJunk sent.items
unfolding hexadecimal_of
spelled text o sent e f = by_digits (list_all is_lower_digit text) refl e
  where
    sized : (n : ℕ) → (nat_le 2 n && (nat_le n 128 && (n % 2 == 0))) ≡ true → (2 ≤ n) × (n ≤ 128) × (n % 2 ≡ 0)
    sized n e =
        let s = both_true (nat_le 2 n) (nat_le n 128 && (n % 2 == 0)) e in
        let t = both_true (nat_le n 128) (n % 2 == 0) s.1 in
        let a = s.0 in
        let b = t.0 in
        let d = t.1 in
        let from : 2 ≤ n = grind (arith, nat_tests) in
        let to : n ≤ 128 = grind (arith, nat_tests) in
        let even : n % 2 ≡ 0 = grind (arith, nat_tests) in (from, to, even)

    by_length : list_all is_lower_digit text ≡ true → (t : Bool) → (nat_le 2 (length text) && (nat_le (length text) 128 && (length text % 2 == 0))) ≡ t
        → ◌≡◌ {A = Result (ArrayVec ℕ) ScriptKind} (or_fault (if t then Some (record { items = paired text }) else None) kind.Range) (Ok sent) → (text ≡ hexadecimal sent.items) × IsJunk sent.items
    by_length all true fits e =
        let s = sized (length text) fits in
        let p = pairs_known text all s.2 in
        subst (λ (sent : ArrayVec ℕ). (text ≡ hexadecimal sent.items) × IsJunk sent.items) (ok_is e) (p.text, (omega (arith, p.double, s.0), omega (arith, p.double, s.1), p.small))
    by_length all false fits e = absurd cc

    by_digits : (t : Bool) → list_all is_lower_digit text ≡ t → ◌≡◌ {A = Result (Option (ArrayVec ℕ)) ScriptKind} (if t then Ok (bytes_of text) else Err kind.Number) (Ok o) → (text ≡ hexadecimal sent.items) × IsJunk sent.items
    by_digits true all e = by_length all (nat_le 2 (length text) && (nat_le (length text) 128 && (length text % 2 == 0))) refl (ap (λ o. or_fault o kind.Range) (ok_is e) ∙ f)
    by_digits false all e = absurd cc

-- a message between two computers, whose numbers are written
told : (v : Exchange) (first second : List ℕ) (texts : List (List ℕ)) (m : Message) (a b : ℕ) (one : Act) → message_of v texts ≡ Ok m → told_of a b m ≡ Ok one
    → Writes first 18 a → Writes second 18 b → AreTwo a b → IsSaid (verb.Exchange v) (first ∷ second ∷ texts) (One one)
unfolding message_of told_of
told exchange.Tell first second [] m a b one e f wa wb two =
    let g : told_of a b message.Own ≡ Ok one = ap (told_of a b) (ok_is e) ∙ f in
    subst (λ one. IsSaid (verb.Exchange exchange.Tell) (first ∷ second ∷ []) (One one)) (ok_is g) (record { name = refl; what = (wa, (wb, tt)); within = two })
told exchange.Tell first second (x ∷ texts) m a b one e f wa wb two = absurd cc
told exchange.Lie first second [] m a b one e f wa wb two = absurd cc
told exchange.Lie first second (x ∷ []) m a b one e f wa wb two = absurd cc
told exchange.Lie first second (x ∷ y ∷ []) m a b one e f wa wb two =
    let p = bound (signed_of x) (λ north. (signed_of y >>= λ east. Ok (message.AtRest north east))) m e in
    let q = bound (signed_of y) (λ east. Ok (message.AtRest p.0 east)) m p.2 in
    let g : told_of a b (message.AtRest p.0 q.0) ≡ Ok one = ap (told_of a b) (ok_is q.2) ∙ f in
    let u = bound (near_of (2 ^ 43) p.0) (λ north. (near_of (2 ^ 43) q.0 >>= λ east. Ok (act.Lie a b (north, east)))) one g in
    let w = bound (near_of (2 ^ 43) q.0) (λ east. Ok (act.Lie a b (u.0, east))) one u.2 in
    let n = measured x (2 ^ 43) p.0 u.0 p.1 u.1 in
    let k = measured y (2 ^ 43) q.0 w.0 q.1 w.1 in
    subst (λ one. IsSaid (verb.Exchange exchange.Lie) (first ∷ second ∷ x ∷ y ∷ []) (One one)) (ok_is w.2) (record { name = refl; what = (wa, (wb, (n.0, (k.0, tt)))); within = (two, (n.1, k.1)) })
told exchange.Lie first second (x ∷ y ∷ z ∷ texts) m a b one e f wa wb two = absurd cc
told exchange.Junk first second [] m a b one e f wa wb two = absurd cc
told exchange.Junk first second (x ∷ []) m a b one e f wa wb two =
    let p = bound (hexadecimal_of x) (λ sent. Ok (message.Bytes sent)) m e in
    let g : told_of a b (message.Bytes p.0) ≡ Ok one = ap (told_of a b) (ok_is p.2) ∙ f in
    let q = bound (or_fault p.0 kind.Range) (λ sent. Ok (act.Junk a b sent)) one g in
    let s = spelled x p.0 q.0 p.1 q.1 in
    subst (λ one. IsSaid (verb.Exchange exchange.Junk) (first ∷ second ∷ x ∷ []) (One one)) (ok_is q.2) (record { name = refl; what = (wa, (wb, (s.0, tt))); within = (two, s.1) })
told exchange.Junk first second (x ∷ y ∷ texts) m a b one e f wa wb two = absurd cc

exchanged : (v : Exchange) (texts : List (List ℕ)) (c : Command) (acts : Acts) → exchange_of v texts ≡ Ok c → acts_of c ≡ Ok acts → IsSaid (verb.Exchange v) texts acts
unfolding exchange_of acts_of
exchanged v [] c acts e f = absurd cc
exchanged v (first ∷ []) c acts e f = absurd cc
exchanged v (first ∷ second ∷ texts) c acts e f =
    let p = bound (message_of v texts) (λ m. (whole_of first >>= λ a. (whole_of second >>= λ b. Ok (command.Exchange a b m)))) c e in
    let n = bound (whole_of first) (λ a. (whole_of second >>= λ b. Ok (command.Exchange a b p.0))) c p.2 in
    let k = bound (whole_of second) (λ b. Ok (command.Exchange n.0 b p.0)) c n.2 in
    let g : acts_of (command.Exchange n.0 k.0 p.0) ≡ Ok acts = ap acts_of (ok_is k.2) ∙ f in
    let a = bound (below_of 3 n.0) (λ a. (other_of a k.0 >>= λ b. (told_of a b p.0 >>= λ one. Ok (One one)))) acts g in
    let b = bound (other_of a.0 k.0) (λ b. (told_of a.0 b p.0 >>= λ one. Ok (One one))) acts a.2 in
    let t = bound (told_of a.0 b.0 p.0) (λ one. Ok (One one)) acts b.2 in
    let x = counted first 3 n.0 a.0 n.1 a.1 in
    let y = another a.0 k.0 b.0 x.1 b.1 in
    let w : Writes second 18 b.0 = subst (λ k. Writes second 18 k) y.0 (whole second k.0 k.1) in
    subst (IsSaid (verb.Exchange v) (first ∷ second ∷ texts)) (ok_is t.2) (told v first second texts p.0 a.0 b.0 t.0 p.1 t.1 x.0 w y.1)

said_by : (v : Verb) (texts : List (List ℕ)) (c : Command) (acts : Acts) → command_of v texts ≡ Ok c → acts_of c ≡ Ok acts → IsSaid v texts acts
unfolding command_of acts_of
said_by verb.Usual [] c acts e f =
    let g : acts_of command.Usual ≡ Ok acts = ap acts_of (ok_is e) ∙ f in
    subst (IsSaid verb.Usual []) (ok_is g) (record { name = refl; what = tt; within = tt })
said_by verb.Usual (a ∷ more) c acts e f = absurd cc
said_by verb.Order [] c acts e f = absurd cc
said_by verb.Order (a ∷ []) c acts e f = absurd cc
said_by verb.Order (a ∷ b ∷ []) c acts e f =
    let n = bound (whole_of a) (λ c. (whole_of b >>= λ k. Ok (command.Order c k))) c e in
    let k = bound (whole_of b) (λ k. Ok (command.Order n.0 k)) c n.2 in
    let g : acts_of (command.Order n.0 k.0) ≡ Ok acts = ap acts_of (ok_is k.2) ∙ f in
    let m = bound (below_of 3 n.0) (λ c. (below_of 12 k.0 >>= λ k. Ok (One (act.Order c k)))) acts g in
    let j = bound (below_of 12 k.0) (λ k. Ok (One (act.Order m.0 k))) acts m.2 in
    let x = counted a 3 n.0 m.0 n.1 m.1 in
    let y = counted b 12 k.0 j.0 k.1 j.1 in
    subst (IsSaid verb.Order (a ∷ b ∷ [])) (ok_is j.2) (record { name = refl; what = (x.0, (y.0, tt)); within = (x.1, y.1) })
said_by verb.Order (a ∷ b ∷ d ∷ more) c acts e f = absurd cc
said_by verb.Skew [] c acts e f = absurd cc
said_by verb.Skew (a ∷ []) c acts e f = absurd cc
said_by verb.Skew (a ∷ b ∷ []) c acts e f = absurd cc
said_by verb.Skew (a ∷ b ∷ d ∷ []) c acts e f =
    let n = bound (whole_of a) (λ c. (signed_of b >>= λ north. (signed_of d >>= λ east. Ok (command.Skew c north east)))) c e in
    let p = bound (signed_of b) (λ north. (signed_of d >>= λ east. Ok (command.Skew n.0 north east))) c n.2 in
    let q = bound (signed_of d) (λ east. Ok (command.Skew n.0 p.0 east)) c p.2 in
    let g : acts_of (command.Skew n.0 p.0 q.0) ≡ Ok acts = ap acts_of (ok_is q.2) ∙ f in
    let m = bound (below_of 3 n.0) (λ c. (near_of (2 ^ 43) p.0 >>= λ north. (near_of (2 ^ 43) q.0 >>= λ east. Ok (One (act.Skew c (north, east)))))) acts g in
    let u = bound (near_of (2 ^ 43) p.0) (λ north. (near_of (2 ^ 43) q.0 >>= λ east. Ok (One (act.Skew m.0 (north, east))))) acts m.2 in
    let w = bound (near_of (2 ^ 43) q.0) (λ east. Ok (One (act.Skew m.0 (u.0, east)))) acts u.2 in
    let x = counted a 3 n.0 m.0 n.1 m.1 in
    let y = measured b (2 ^ 43) p.0 u.0 p.1 u.1 in
    let z = measured d (2 ^ 43) q.0 w.0 q.1 w.1 in
    subst (IsSaid verb.Skew (a ∷ b ∷ d ∷ [])) (ok_is w.2) (record { name = refl; what = (x.0, (y.0, (z.0, tt))); within = (x.1, (y.1, z.1)) })
said_by verb.Skew (a ∷ b ∷ d ∷ h ∷ more) c acts e f = absurd cc
said_by verb.Say [] c acts e f = absurd cc
said_by verb.Say (a ∷ []) c acts e f = absurd cc
said_by verb.Say (a ∷ b ∷ []) c acts e f = absurd cc
said_by verb.Say (a ∷ b ∷ d ∷ []) c acts e f =
    let n = bound (whole_of a) (λ c. (whole_of b >>= λ k. (signed_of d >>= λ force. Ok (command.Say c k force)))) c e in
    let p = bound (whole_of b) (λ k. (signed_of d >>= λ force. Ok (command.Say n.0 k force))) c n.2 in
    let q = bound (signed_of d) (λ force. Ok (command.Say n.0 p.0 force)) c p.2 in
    let g : acts_of (command.Say n.0 p.0 q.0) ≡ Ok acts = ap acts_of (ok_is q.2) ∙ f in
    let m = bound (below_of 3 n.0) (λ c. (below_of 12 p.0 >>= λ k. (near_of (2 ^ 62) q.0 >>= λ force. Ok (One (act.Say c k force))))) acts g in
    let u = bound (below_of 12 p.0) (λ k. (near_of (2 ^ 62) q.0 >>= λ force. Ok (One (act.Say m.0 k force)))) acts m.2 in
    let w = bound (near_of (2 ^ 62) q.0) (λ force. Ok (One (act.Say m.0 u.0 force))) acts u.2 in
    let x = counted a 3 n.0 m.0 n.1 m.1 in
    let y = counted b 12 p.0 u.0 p.1 u.1 in
    let z = measured d (2 ^ 62) q.0 w.0 q.1 w.1 in
    subst (IsSaid verb.Say (a ∷ b ∷ d ∷ [])) (ok_is w.2) (record { name = refl; what = (x.0, (y.0, (z.0, tt))); within = (x.1, y.1, z.1) })
said_by verb.Say (a ∷ b ∷ d ∷ h ∷ more) c acts e f = absurd cc
said_by (verb.Single v) [] c acts e f = absurd cc
said_by (verb.Single v) (a ∷ []) c acts e f =
    one_said (verb.Single v) a (command.Single v) (λ c. One (single_of v c)) c acts (λ n. refl) (single_said v a) e f
said_by (verb.Single v) (a ∷ b ∷ more) c acts e f = absurd cc
said_by (verb.Exchange v) texts c acts e f = exchanged v texts c acts e f

-- the parts of a line that says a phrase
record Parted (parts : List (List ℕ)) (said : Phrase) : Type 0 where
  pub first : List ℕ
  pub word : List ℕ
  pub texts : List (List ℕ)
  pub v : Verb
  pub all : parts ≡ first ∷ word ∷ texts
  pub named : verb_of word ≡ Some v
  pub meant : command_of v texts ≡ Ok said.command
  pub timed : whole_of first ≡ Ok said.cycle

found : (o : Option Verb) (v : Verb) → or_fault o kind.Verb ≡ Ok v → o ≡ Some v
found None v e = absurd cc
found (Some u) v e = ap (λ u. Some u) (ok_is e)

parted : (parts : List (List ℕ)) (said : Phrase) → phrase_of_parts parts ≡ Ok said → Parted parts said
unfolding phrase_of_parts
parted [] said e = absurd cc
parted (first ∷ []) said e = absurd cc
parted (first ∷ word ∷ texts) said e =
    let v = bound {B = Phrase} (or_fault (verb_of word) kind.Verb) (λ v. (command_of v texts >>= λ c. (whole_of first >>= λ n. Ok (record { cycle = n; command = c })))) said e in
    let c = bound {B = Phrase} (command_of v.0 texts) (λ c. (whole_of first >>= λ n. Ok (record { cycle = n; command = c }))) said v.2 in
    let n = bound {B = Phrase} (whole_of first) (λ n. Ok (record { cycle = n; command = c.0 })) said c.2 in
    record {
      first = first;
      word = word;
      texts = texts;
      v = v.0;
      all = refl;
      named = found (verb_of word) v.0 v.1;
      meant = c.1 ∙ ap (λ (p : Phrase). Ok p.command) (ok_is n.2);
      timed = n.1 ∙ ap (λ (p : Phrase). Ok p.cycle) (ok_is n.2);
    }

phrased : (line : List ℕ) (said : Phrase) → phrase_of line ≡ Ok said → (length line ≤ 192) × (phrase_of_parts (parts_of line) ≡ Ok said)
unfolding phrase_of
phrased line said e = by_test (nat_le (length line) 192) refl e
  where
    by_test : (b : Bool) → nat_le (length line) 192 ≡ b → (if b then phrase_of_parts (parts_of line) else Err kind.Verb) ≡ Ok said
        → (length line ≤ 192) × (phrase_of_parts (parts_of line) ≡ Ok said)
    by_test true few e = (grind (arith, nat_tests), e)
    by_test false few e = absurd cc

pub written : (line : List ℕ) (e : Instruction) → instruction_of line ≡ Ok e → Says line e
unfolding instruction_of
written line e is =
    let p = bound {B = Instruction} (phrase_of line) (λ said. (acts_of said.command >>= λ acts. (below_of (2 ^ 20) said.cycle >>= λ n. Ok (record { cycle = n; acts = acts })))) e is in
    let a = bound {B = Instruction} (acts_of p.0.command) (λ acts. (below_of (2 ^ 20) p.0.cycle >>= λ n. Ok (record { cycle = n; acts = acts }))) e p.2 in
    let n = bound {B = Instruction} (below_of (2 ^ 20) p.0.cycle) (λ n. Ok (record { cycle = n; acts = a.0 })) e a.2 in
    let s = phrased line p.0 p.1 in
    let q = parted (parts_of line) p.0 s.1 in
    let m = said_by q.v q.texts p.0.command a.0 q.meant a.1 in
    let t = counted q.first (2 ^ 20) p.0.cycle n.0 q.timed n.1 in
    let word : q.word ≡ word_of a.0 = verb_named q.word q.v q.named ∙ m.name in
    let whole_line : line ≡ join_with_byte 32 (q.first ∷ word_of a.0 ∷ q.texts) =
    sym (parts_are_joined.joined line) ∙ (ap (join_with_byte 32) q.all ∙ ap (λ w. join_with_byte 32 (q.first ∷ w ∷ q.texts)) word) in
    subst (Says line) (ok_is n.2) (record {
      cycle = q.first;
      texts = q.texts;
      joined = whole_line;
      short = s.0;
      when = t.0;
      what = m.what;
      early = t.1;
      within = m.within;
    })

-- ---- what is written is read

abbrev verb_for : Acts → Verb
verb_for Usual = verb.Usual
verb_for (One (act.Run c)) = verb.Single single.Run
verb_for (One (act.Order c k)) = verb.Order
verb_for (One (act.Orders c)) = verb.Single single.Orders
verb_for (One (act.Tell a b)) = verb.Exchange exchange.Tell
verb_for (One (act.Skew c at)) = verb.Skew
verb_for (One (act.Say c k force)) = verb.Say
verb_for (One (act.Lie a b at)) = verb.Exchange exchange.Lie
verb_for (One (act.Junk a b sent)) = verb.Exchange exchange.Junk
verb_for (One (act.Stop c)) = verb.Single single.Stop
verb_for (One (act.Restart c)) = verb.Single single.Restart
verb_for (One (act.Upgrade c)) = verb.Single single.Upgrade

abbrev command_for : Acts → Command
command_for Usual = command.Usual
command_for (One (act.Run c)) = command.Single single.Run c
command_for (One (act.Order c k)) = command.Order c k
command_for (One (act.Orders c)) = command.Single single.Orders c
command_for (One (act.Skew c at)) = command.Skew c at.0 at.1
command_for (One (act.Say c k force)) = command.Say c k force
command_for (One (act.Stop c)) = command.Single single.Stop c
command_for (One (act.Restart c)) = command.Single single.Restart c
command_for (One (act.Upgrade c)) = command.Single single.Upgrade c
command_for (One (act.Tell a b)) = command.Exchange a b message.Own
command_for (One (act.Lie a b at)) = command.Exchange a b (message.AtRest at.0 at.1)
command_for (One (act.Junk a b sent)) = command.Exchange a b (message.Bytes (Some sent))

verb_back : (acts : Acts) → verb_of (word_of acts) ≡ Some (verb_for acts)
verb_back Usual = refl
verb_back (One (act.Run c)) = refl
verb_back (One (act.Order c k)) = refl
verb_back (One (act.Orders c)) = refl
verb_back (One (act.Tell a b)) = refl
verb_back (One (act.Skew c at)) = refl
verb_back (One (act.Say c k force)) = refl
verb_back (One (act.Lie a b at)) = refl
verb_back (One (act.Junk a b sent)) = refl
verb_back (One (act.Stop c)) = refl
verb_back (One (act.Restart c)) = refl
verb_back (One (act.Upgrade c)) = refl

word_lacks : (acts : Acts) → lacks_space (word_of acts) ≡ true
word_lacks Usual = refl
word_lacks (One (act.Run c)) = refl
word_lacks (One (act.Order c k)) = refl
word_lacks (One (act.Orders c)) = refl
word_lacks (One (act.Tell a b)) = refl
word_lacks (One (act.Skew c at)) = refl
word_lacks (One (act.Say c k force)) = refl
word_lacks (One (act.Lie a b at)) = refl
word_lacks (One (act.Junk a b sent)) = refl
word_lacks (One (act.Stop c)) = refl
word_lacks (One (act.Restart c)) = refl
word_lacks (One (act.Upgrade c)) = refl

whole_back : (text : List ℕ) (n : ℕ) → Writes text 18 n → whole_of text ≡ Ok n
whole_back text n w = ap (λ o. or_fault o kind.Number) (number_read_is_written.read 18 n text w)

signed_back : (text : List ℕ) (n : ℤ) → WritesSigned text n → signed_of text ≡ Ok n
signed_back text n w = ap (λ o. or_fault o kind.Number) (signed_read_is_written.read n text w)

onward : {A B : Type 0} (r : Result A ScriptKind) (f : A → Result B ScriptKind) (a : A) (b : Result B ScriptKind) → r ≡ Ok a → f a ≡ b → (r >>= f) ≡ b
onward (Ok x) f a b is e = ap f (ok_is is) ∙ e
onward (Err fault) f a b is e = absurd cc

one_back : (a : List ℕ) (to : ℕ → Command) (c : ℕ) → Writes a 18 c → (whole_of a >>= λ c. Ok (to c)) ≡ Ok (to c)
one_back a to c w = onward (whole_of a) (λ c. Ok (to c)) c (Ok (to c)) (whole_back a c w) refl

chosen : {A : Type 0} (b : Bool) (x y : Result A ScriptKind) → b ≡ true → (if b then x else y) ≡ x
chosen true x y is = refl
chosen false x y is = absurd cc

is_less : (n m : ℕ) → n < m → nat_lt n m ≡ true
is_less n m lt = grind (arith, nat_tests)

is_most : (n m : ℕ) → n ≤ m → nat_le n m ≡ true
is_most n m le = grind (arith, nat_tests)

exchange_back : (v : Exchange) (x y : List ℕ) (texts : List (List ℕ)) (a b : ℕ) (m : Message) → message_of v texts ≡ Ok m → Writes x 18 a → Writes y 18 b
    → exchange_of v (x ∷ y ∷ texts) ≡ Ok (command.Exchange a b m)
unfolding exchange_of
exchange_back v x y texts a b m e wa wb =
    let all : Result Command ScriptKind = Ok (command.Exchange a b m) in
    onward (message_of v texts) (λ m. (whole_of x >>= λ a. (whole_of y >>= λ b. Ok (command.Exchange a b m)))) m all e
    (onward (whole_of x) (λ a. (whole_of y >>= λ b. Ok (command.Exchange a b m))) a all (whole_back x a wa)
    (one_back y (λ b. command.Exchange a b m) b wb))

hexadecimal_back : (text : List ℕ) (sent : ArrayVec ℕ) → IsJunk sent.items → text ≡ hexadecimal sent.items → hexadecimal_of text ≡ Ok (Some sent)
unfolding hexadecimal_of
hexadecimal_back text sent g w =
    let k = text_known sent.items g.2 in
    let digits : list_all is_lower_digit text ≡ true = ap (list_all is_lower_digit) w ∙ k.digits in
    let double : length text ≡ 2 * length sent.items = ap length w ∙ k.double in
    let from : nat_le 2 (length text) ≡ true = is_most 2 (length text) (omega (arith, double, g.0)) in
    let to : nat_le (length text) 128 ≡ true = is_most (length text) 128 (omega (arith, double, g.1)) in
    let none_left : length text % 2 ≡ 0 = omega (arith, double) in
    let even : (length text % 2 == 0) ≡ true = grind (arith, nat_tests, none_left) in
    let pairs : paired text ≡ sent.items = ap paired w ∙ k.back in
    chosen (list_all is_lower_digit text) (Ok (bytes_of text)) (Err kind.Number) digits
    ∙ ap (λ o. Ok o) (some_if (nat_le 2 (length text) && (nat_le (length text) 128 && (length text % 2 == 0))) (record { items = paired text }) (both from (both to even))
    ∙ ap (λ items. Some (record { items = items })) pairs)
  where
    some_if : (t : Bool) (x : ArrayVec ℕ) → t ≡ true → (if t then Some x else None) ≡ Some x
    some_if true x is = refl
    some_if false x is = absurd cc

    both : {a b : Bool} → a ≡ true → b ≡ true → (a && b) ≡ true
    both {a} {b} x y = by_test a b x y
      where
        by_test : (a b : Bool) → a ≡ true → b ≡ true → (a && b) ≡ true
        by_test true b x y = y
        by_test false b x y = absurd cc

junk_back : (text : List ℕ) (sent : ArrayVec ℕ) → IsJunk sent.items → text ≡ hexadecimal sent.items → message_of exchange.Junk (text ∷ []) ≡ Ok (message.Bytes (Some sent))
unfolding message_of
junk_back text sent g w =
    onward (hexadecimal_of text) (λ o. Ok (message.Bytes o)) (Some sent) (Ok (message.Bytes (Some sent))) (hexadecimal_back text sent g w) refl

command_back : (acts : Acts) (texts : List (List ℕ)) → IsGiven acts → WriteAll texts (arguments_of acts) → command_of (verb_for acts) texts ≡ Ok (command_for acts)
unfolding command_of message_of
command_back Usual [] g w = refl
command_back Usual (a ∷ more) g w = absurd w
command_back (One (act.Run c)) [] g w = absurd w
command_back (One (act.Run c)) (a ∷ []) g w = one_back a (command.Single single.Run) c w.0
command_back (One (act.Run c)) (a ∷ b ∷ more) g w = absurd w.1
command_back (One (act.Order c k)) [] g w = absurd w
command_back (One (act.Order c k)) (a ∷ []) g w = absurd w.1
command_back (One (act.Order c k)) (a ∷ b ∷ []) g w =
    onward (whole_of a) (λ c. (whole_of b >>= λ k. Ok (command.Order c k))) c (Ok (command.Order c k)) (whole_back a c w.0)
    (one_back b (command.Order c) k w.1.0)
command_back (One (act.Order c k)) (a ∷ b ∷ d ∷ more) g w = absurd w.1.1
command_back (One (act.Orders c)) [] g w = absurd w
command_back (One (act.Orders c)) (a ∷ []) g w = one_back a (command.Single single.Orders) c w.0
command_back (One (act.Orders c)) (a ∷ b ∷ more) g w = absurd w.1
command_back (One (act.Skew c at)) [] g w = absurd w
command_back (One (act.Skew c at)) (a ∷ []) g w = absurd w.1
command_back (One (act.Skew c at)) (a ∷ b ∷ []) g w = absurd w.1.1
command_back (One (act.Skew c at)) (a ∷ b ∷ d ∷ []) g w =
    let all : Result Command ScriptKind = Ok (command.Skew c at.0 at.1) in
    onward (whole_of a) (λ c. (signed_of b >>= λ north. (signed_of d >>= λ east. Ok (command.Skew c north east)))) c all (whole_back a c w.0)
    (onward (signed_of b) (λ north. (signed_of d >>= λ east. Ok (command.Skew c north east))) at.0 all (signed_back b at.0 w.1.0)
    (onward (signed_of d) (λ east. Ok (command.Skew c at.0 east)) at.1 all (signed_back d at.1 w.1.1.0) refl))
command_back (One (act.Skew c at)) (a ∷ b ∷ d ∷ h ∷ more) g w = absurd w.1.1.1
command_back (One (act.Say c k force)) [] g w = absurd w
command_back (One (act.Say c k force)) (a ∷ []) g w = absurd w.1
command_back (One (act.Say c k force)) (a ∷ b ∷ []) g w = absurd w.1.1
command_back (One (act.Say c k force)) (a ∷ b ∷ d ∷ []) g w =
    let all : Result Command ScriptKind = Ok (command.Say c k force) in
    onward (whole_of a) (λ c. (whole_of b >>= λ k. (signed_of d >>= λ force. Ok (command.Say c k force)))) c all (whole_back a c w.0)
    (onward (whole_of b) (λ k. (signed_of d >>= λ force. Ok (command.Say c k force))) k all (whole_back b k w.1.0)
    (onward (signed_of d) (λ force. Ok (command.Say c k force)) force all (signed_back d force w.1.1.0) refl))
command_back (One (act.Say c k force)) (a ∷ b ∷ d ∷ h ∷ more) g w = absurd w.1.1.1
command_back (One (act.Stop c)) [] g w = absurd w
command_back (One (act.Stop c)) (a ∷ []) g w = one_back a (command.Single single.Stop) c w.0
command_back (One (act.Stop c)) (a ∷ b ∷ more) g w = absurd w.1
command_back (One (act.Restart c)) [] g w = absurd w
command_back (One (act.Restart c)) (a ∷ []) g w = one_back a (command.Single single.Restart) c w.0
command_back (One (act.Restart c)) (a ∷ b ∷ more) g w = absurd w.1
command_back (One (act.Upgrade c)) [] g w = absurd w
command_back (One (act.Upgrade c)) (a ∷ []) g w = one_back a (command.Single single.Upgrade) c w.0
command_back (One (act.Upgrade c)) (a ∷ b ∷ more) g w = absurd w.1
command_back (One (act.Tell a b)) [] g w = absurd w
command_back (One (act.Tell a b)) (x ∷ []) g w = absurd w.1
command_back (One (act.Tell a b)) (x ∷ y ∷ []) g w = exchange_back exchange.Tell x y [] a b message.Own refl w.0 w.1.0
command_back (One (act.Tell a b)) (x ∷ y ∷ z ∷ more) g w = absurd w.1.1
command_back (One (act.Lie a b at)) [] g w = absurd w
command_back (One (act.Lie a b at)) (x ∷ []) g w = absurd w.1
command_back (One (act.Lie a b at)) (x ∷ y ∷ []) g w = absurd w.1.1
command_back (One (act.Lie a b at)) (x ∷ y ∷ z ∷ []) g w = absurd w.1.1.1
command_back (One (act.Lie a b at)) (x ∷ y ∷ z ∷ u ∷ []) g w =
    let all : Result Message ScriptKind = Ok (message.AtRest at.0 at.1) in
    let rest = onward (signed_of z) (λ north. (signed_of u >>= λ east. Ok (message.AtRest north east))) at.0 all (signed_back z at.0 w.1.1.0)
    (onward (signed_of u) (λ east. Ok (message.AtRest at.0 east)) at.1 all (signed_back u at.1 w.1.1.1.0) refl) in
    exchange_back exchange.Lie x y (z ∷ u ∷ []) a b (message.AtRest at.0 at.1) rest w.0 w.1.0
command_back (One (act.Lie a b at)) (x ∷ y ∷ z ∷ u ∷ v ∷ more) g w = absurd w.1.1.1.1
command_back (One (act.Junk a b sent)) [] g w = absurd w
command_back (One (act.Junk a b sent)) (x ∷ []) g w = absurd w.1
command_back (One (act.Junk a b sent)) (x ∷ y ∷ []) g w = absurd w.1.1
command_back (One (act.Junk a b sent)) (x ∷ y ∷ z ∷ []) g w = exchange_back exchange.Junk x y (z ∷ []) a b (message.Bytes (Some sent)) (junk_back z sent g.1 w.1.1.0) w.0 w.1.0
command_back (One (act.Junk a b sent)) (x ∷ y ∷ z ∷ u ∷ more) g w = absurd w.1.1.1

below_back : (limit n : ℕ) → n < limit → below_of limit n ≡ Ok n
below_back limit n lt = chosen (nat_lt n limit) (Ok n) (Err kind.Range) (is_less n limit lt)

near_back : (limit : ℕ) (n : ℤ) → unsigned_abs n ≤ limit → near_of limit n ≡ Ok n
near_back limit n few = chosen (nat_le (unsigned_abs n) limit) (Ok n) (Err kind.Range) (is_most (unsigned_abs n) limit few)

ranged : (to : ℕ → Acts) (limit n : ℕ) → n < limit → (below_of limit n >>= λ n. Ok (to n)) ≡ Ok (to n)
ranged to limit n lt = onward (below_of limit n) (λ n. Ok (to n)) n (Ok (to n)) (below_back limit n lt) refl

other_back : (a b : ℕ) → AreTwo a b → other_of a b ≡ Ok b
other_back a b two = by_test (b == a) refl
  where
    by_test : (t : Bool) → (b == a) ≡ t → ◌≡◌ {A = Result ℕ ScriptKind} (if t then Err kind.Range else below_of 3 b) (Ok b)
    by_test true same = absurd (two.2 (grind (arith, nat_tests)))
    by_test false differ = below_back 3 b two.1

two_back : (a b : ℕ) (m : Message) (one : Act) → AreTwo a b → told_of a b m ≡ Ok one → acts_of (command.Exchange a b m) ≡ Ok (One one)
unfolding acts_of
two_back a b m one two e =
    let all : Result Acts ScriptKind = Ok (One one) in
    onward (below_of 3 a) (λ a. (other_of a b >>= λ b. (told_of a b m >>= λ one. Ok (One one)))) a all (below_back 3 a two.0)
    (onward (other_of a b) (λ b. (told_of a b m >>= λ one. Ok (One one))) b all (other_back a b two)
    (onward (told_of a b m) (λ one. Ok (One one)) one all e refl))

at_rest_back : (a b : ℕ) (at : ℤ × ℤ) → IsNear at → told_of a b (message.AtRest at.0 at.1) ≡ Ok (act.Lie a b (at.0, at.1))
unfolding told_of
at_rest_back a b at g =
    let all : Result Act ScriptKind = Ok (act.Lie a b (at.0, at.1)) in
    onward (near_of (2 ^ 43) at.0) (λ north. (near_of (2 ^ 43) at.1 >>= λ east. Ok (act.Lie a b (north, east)))) at.0 all (near_back (2 ^ 43) at.0 g.0)
    (onward (near_of (2 ^ 43) at.1) (λ east. Ok (act.Lie a b (at.0, east))) at.1 all (near_back (2 ^ 43) at.1 g.1) refl)

acts_back : (acts : Acts) → IsGiven acts → acts_of (command_for acts) ≡ Ok acts
unfolding acts_of told_of
acts_back Usual g = refl
acts_back (One (act.Run c)) g = ranged (λ c. One (act.Run c)) 3 c g
acts_back (One (act.Order c k)) g =
    onward (below_of 3 c) (λ c. (below_of 12 k >>= λ k. Ok (One (act.Order c k)))) c (Ok (One (act.Order c k))) (below_back 3 c g.0)
    (ranged (λ k. One (act.Order c k)) 12 k g.1)
acts_back (One (act.Orders c)) g = ranged (λ c. One (act.Orders c)) 3 c g
acts_back (One (act.Skew c at)) g =
    let all : Result Acts ScriptKind = Ok (One (act.Skew c (at.0, at.1))) in
    onward (below_of 3 c) (λ c. (near_of (2 ^ 43) at.0 >>= λ north. (near_of (2 ^ 43) at.1 >>= λ east. Ok (One (act.Skew c (north, east)))))) c all (below_back 3 c g.0)
    (onward (near_of (2 ^ 43) at.0) (λ north. (near_of (2 ^ 43) at.1 >>= λ east. Ok (One (act.Skew c (north, east))))) at.0 all (near_back (2 ^ 43) at.0 g.1.0)
    (onward (near_of (2 ^ 43) at.1) (λ east. Ok (One (act.Skew c (at.0, east)))) at.1 all (near_back (2 ^ 43) at.1 g.1.1) refl))
acts_back (One (act.Say c k force)) g =
    let all : Result Acts ScriptKind = Ok (One (act.Say c k force)) in
    onward (below_of 3 c) (λ c. (below_of 12 k >>= λ k. (near_of (2 ^ 62) force >>= λ force. Ok (One (act.Say c k force))))) c all (below_back 3 c g.0)
    (onward (below_of 12 k) (λ k. (near_of (2 ^ 62) force >>= λ force. Ok (One (act.Say c k force)))) k all (below_back 12 k g.1)
    (onward (near_of (2 ^ 62) force) (λ force. Ok (One (act.Say c k force))) force all (near_back (2 ^ 62) force g.2) refl))
acts_back (One (act.Stop c)) g = ranged (λ c. One (act.Stop c)) 3 c g
acts_back (One (act.Restart c)) g = ranged (λ c. One (act.Restart c)) 3 c g
acts_back (One (act.Upgrade c)) g = ranged (λ c. One (act.Upgrade c)) 3 c g
acts_back (One (act.Tell a b)) g = two_back a b message.Own (act.Tell a b) g refl
acts_back (One (act.Lie a b at)) g = two_back a b (message.AtRest at.0 at.1) (act.Lie a b (at.0, at.1)) g.0 (at_rest_back a b at g.1)
acts_back (One (act.Junk a b sent)) g = two_back a b (message.Bytes (Some sent)) (act.Junk a b sent) g.0 refl

signed_lacks : (text : List ℕ) (n : ℤ) → WritesSigned text n → lacks_space text ≡ true
signed_lacks text n w =
    elim w.sign [
      | inl s ↦ ap lacks_space s.0 ∙ digits_lack w.digits w.written.digits
      | inr s ↦ ap lacks_space s.0 ∙ digits_lack w.digits w.written.digits
    ]

both_lack : (text : List ℕ) (texts : List (List ℕ)) → lacks_space text ≡ true → list_all lacks_space texts ≡ true → list_all lacks_space (text ∷ texts) ≡ true
both_lack text texts e f = by_tests (lacks_space text) (list_all lacks_space texts) e f
  where
    by_tests : (a b : Bool) → a ≡ true → b ≡ true → (a && b) ≡ true
    by_tests true b e f = f
    by_tests false b e f = absurd cc

one_lacks : (text : List ℕ) (argument : Argument) → WritesOne text argument → lacks_space text ≡ true
one_lacks text (whole_one n) w = digits_lack text w.digits
one_lacks text (signed_one n) w = signed_lacks text n w
one_lacks text (bytes_one sent) w = ap lacks_space w ∙ hexadecimal_lacks sent

all_lack : (texts : List (List ℕ)) (arguments : List Argument) → WriteAll texts arguments → list_all lacks_space texts ≡ true
all_lack [] [] w = refl
all_lack [] (argument ∷ arguments) w = absurd w
all_lack (text ∷ texts) [] w = absurd w
all_lack (text ∷ texts) (argument ∷ arguments) w = both_lack text texts (one_lacks text argument w.0) (all_lack texts arguments w.1)

parts_back : (first : List ℕ) (n : ℕ) (texts : List (List ℕ)) (acts : Acts) → Writes first 18 n → IsGiven acts → WriteAll texts (arguments_of acts)
    → phrase_of_parts (first ∷ word_of acts ∷ texts) ≡ Ok (record { cycle = n; command = command_for acts })
unfolding phrase_of_parts
parts_back first n texts acts t g w =
    let all : Result Phrase ScriptKind = Ok (record { cycle = n; command = command_for acts }) in
    onward {B = Phrase} (or_fault (verb_of (word_of acts)) kind.Verb) (λ v. (command_of v texts >>= λ c. (whole_of first >>= λ n. Ok (record { cycle = n; command = c })))) (verb_for acts) all
    (ap (λ o. or_fault o kind.Verb) (verb_back acts))
    (onward {B = Phrase} (command_of (verb_for acts) texts) (λ c. (whole_of first >>= λ n. Ok (record { cycle = n; command = c }))) (command_for acts) all
    (command_back acts texts g w)
    (onward {B = Phrase} (whole_of first) (λ n. Ok (record { cycle = n; command = command_for acts })) n all (whole_back first n t) refl))

line_back : (line first : List ℕ) (n : ℕ) (texts : List (List ℕ)) (acts : Acts) → line ≡ join_with_byte 32 (first ∷ word_of acts ∷ texts) → length line ≤ 192
    → Writes first 18 n → IsGiven acts → WriteAll texts (arguments_of acts) → phrase_of line ≡ Ok (record { cycle = n; command = command_for acts })
unfolding phrase_of
line_back line first n texts acts joined short t g w =
    let lack : list_all lacks_space (first ∷ word_of acts ∷ texts) ≡ true =
    both_lack first (word_of acts ∷ texts) (digits_lack first t.digits) (both_lack (word_of acts) texts (word_lacks acts) (all_lack texts (arguments_of acts) w)) in
    let all : parts_of line ≡ first ∷ word_of acts ∷ texts = ap parts_of joined ∙ parts_are_joined.parts first (word_of acts ∷ texts) lack in
    chosen (nat_le (length line) 192) (phrase_of_parts (parts_of line)) (Err kind.Verb) (is_most (length line) 192 short)
    ∙ (ap phrase_of_parts all ∙ parts_back first n texts acts t g w)

read : (line : List ℕ) (e : Instruction) → Says line e → instruction_of line ≡ Ok e
unfolding instruction_of
read line e s =
    onward {B = Instruction} (phrase_of line) (λ said. (acts_of said.command >>= λ acts. (below_of (2 ^ 20) said.cycle >>= λ n. Ok (record { cycle = n; acts = acts })))) (record { cycle = e.cycle; command = command_for e.acts }) (Ok e)
    (line_back line s.cycle e.cycle s.texts e.acts s.joined s.short s.when s.within s.what)
    (onward {B = Instruction} (acts_of (command_for e.acts)) (λ acts. (below_of (2 ^ 20) e.cycle >>= λ n. Ok (record { cycle = n; acts = acts }))) e.acts (Ok e)
    (acts_back e.acts s.within)
    (onward {B = Instruction} (below_of (2 ^ 20) e.cycle) (λ n. Ok (record { cycle = n; acts = e.acts })) e.cycle (Ok e) (below_back (2 ^ 20) e.cycle s.early) refl))

pub line_is_written : LineIsWritten
line_is_written = record { written = written; read = read }
