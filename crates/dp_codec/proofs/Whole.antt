-- What all bytes spell, and what is read of a spelling.
use Rattle.std.proofs.Common.{◌≡◌, inl, inr, ◌<◌, ◌≤◌, ◌+◌, ◌-◌, ◌^◌, ◌==◌, ℕ, Bool, true, false, cond, eqb, List, [], ◌++◌, length, All, Result, Ok, Err, refl, sym, ap, subst, ◌∙◌, arith}
use Rattle.std.specs.Prelude.{if◌then◌else◌}
use Rattle.std.specs.Int.{w32}
use Rattle.std.proofs.lemmas.Bool.{cases_lt, eqb-true}
use Rattle.std.proofs.lemmas.List.{append-nil, get_or_past, nil_from_length, length-append}
use Rattle.dp_cert.specs.CertifiedSet.{InsideIsWithin}
use Rattle.dp_plant.specs.declared.plant.Plant.{Plant}
use Rattle.dp_machine.specs.declared.state.State.{State}
use Rattle.dp_codec.specs.Format.{◌>>=◌, Read}
use Rattle.dp_codec.specs.Numbers.{unsigned_at, unsigned_text}
use Rattle.dp_codec.specs.Parts.{state_parts}
use Rattle.dp_codec.specs.Spelling.{IsPlantState, IsSoftware, IsSpelled, all_of, length_at, length_text, mark_of, spelling_of, state_read}
use Rattle.dp_codec.proofs.Fields.{IsBytes, bind_ok, ok_is}
use Rattle.dp_codec.proofs.Numerals.{unsigned_again, unsigned_refused, unsigned_takes, wide32}
use Rattle.dp_codec.proofs.Lengths.{length-w32, samples_in, state_short}
use Rattle.dp_codec.proofs.StateFields.{state_field}
use Rattle.dp_codec.proofs.StateRanges.{state_from, state_to, window_small}

-- ---- the length
length_takes : (version : ℕ) (bytes : List ℕ) (n : ℕ) (rest : List ℕ) → IsBytes bytes → length_at version bytes ≡ Ok (n, rest) → IsBytes rest × (bytes ≡ length_text version rest ++ rest)
length_takes version bytes n rest ok e = by_test (version == 1) refl e
  where
    by_test : (b : Bool) → (version == 1) ≡ b → (if b then Ok (0, bytes) else unsigned_at w32 (4 + length bytes) (5 + length bytes) bytes) ≡ Ok (n, rest) → IsBytes rest × (bytes ≡ length_text version rest ++ rest)
    by_test true t h =
        let same : bytes ≡ rest = ap (λ (x : ℕ × List ℕ). x.1) (ok_is {A = ℕ × List ℕ} (0, bytes) (n, rest) h) in
        (subst IsBytes same ok, rw t same)
    by_test false t h =
        let k = unsigned_takes w32 (2 ^ 32) wide32 (4 + length bytes) (5 + length bytes) bytes n rest ok h in
        let whole : n ≡ 8 + length rest = omega (arith, k.1.0.0, k.1.0.1, ap length k.0.parts, length-append (unsigned_text w32 n) rest, length-w32 n) in
        (k.0.rest_fits, rw t (subst (λ (m : ℕ). bytes ≡ unsigned_text w32 m ++ rest) whole k.0.parts))

length_again : (version : ℕ) (text : List ℕ) → length text ≤ 3125 → (n : ℕ) × (length_at version (length_text version text ++ text) ≡ Ok (n, text))
length_again version text small = by_test (version == 1) refl
  where
    by_test : (b : Bool) → (version == 1) ≡ b → (n : ℕ) × (length_at version (length_text version text ++ text) ≡ Ok (n, text))
    by_test true t = (0, rw t refl)
    by_test false t =
        let m = 8 + length text in
        let bytes = unsigned_text w32 m ++ text in
        let len : length bytes ≡ 4 + length text = omega (arith, length-append (unsigned_text w32 m) text, length-w32 m) in
        (m, rw t (unsigned_again w32 (2 ^ 32) wide32 (4 + length bytes) (5 + length bytes) m text ((omega (arith, len), omega (arith, len)), omega (arith, small))))

-- ---- the whole
guard_ended : {A : Type 0} (b : Bool) (d : ℕ) (x y : A) → cond b (Ok x) (Err d) ≡ Ok y → (b ≡ true) × (x ≡ y)
guard_ended true d x y e = (refl, cc)
guard_ended false d x y e = absurd cc

few_of : (software : ℕ) → IsSoftware software → software ≤ 2
few_of software h = elim h [ inl e ↦ omega (arith, e) | inr e ↦ omega (arith, e) ]

pub all_takes : (p : Plant) (software : ℕ) → IsSoftware software → (bytes : List ℕ) (s : State) → IsBytes bytes → all_of p software bytes ≡ Ok s → IsSpelled p software bytes s
unfolding all_of spelling_of state_field
all_takes p software sw bytes s fits e =
    let first = mark_of 0 in
    let rest_of = λ (version : ℕ) (b : List ℕ). (state_parts p version).read b >>= λ x. cond (eqb (length x.1) 0) (Ok x.0) (Err (length x.1)) in
    let a = bind_ok (unsigned_at w32 (mark_of 1) (mark_of software + 1) bytes) (λ mark. length_at (mark.0 - first) mark.1 >>= λ whole. rest_of (mark.0 - first) whole.1) s e in
    let version = a.0.0 - first in
    let b = bind_ok (length_at version a.0.1) (λ whole. rest_of version whole.1) s a.2 in
    let c = bind_ok ((state_parts p version).read b.0.1) (λ x. cond (eqb (length x.1) 0) (Ok x.0) (Err (length x.1))) s b.2 in
    let g = guard_ended (eqb (length c.0.1) 0) (length c.0.1) c.0.0 s c.2 in
    let mark = unsigned_takes w32 (2 ^ 32) wide32 (mark_of 1) (mark_of software + 1) bytes a.0.0 a.0.1 fits a.1 in
    let whole = length_takes version a.0.1 b.0.0 b.0.1 mark.0.rest_fits b.1 in
    let t = (state_field p version).takes b.0.1 c.0.0 c.0.1 whole.0 c.1 in
    let nothing : c.0.1 ≡ [] = nil_from_length c.0.1 (eqb-true _ _ g.0) in
    let text = (state_parts p version).spell c.0.0 in
    let parts : b.0.1 ≡ text = t.0.parts ∙ ap (λ (r : List ℕ). text ++ r) nothing ∙ append-nil text in
    let named : mark_of version ≡ a.0.0 = omega (arith, mark.1.0.0) in
    let spelled : bytes ≡ unsigned_text w32 (mark_of version) ++ (length_text version text ++ text) =
    mark.0.parts ∙ ap (λ (n : ℕ). unsigned_text w32 n ++ a.0.1) (sym named)
    ∙ ap (λ (r : List ℕ). unsigned_text w32 (mark_of version) ++ r) (whole.1 ∙ ap (λ (r : List ℕ). length_text version r ++ r) parts) in
    let found : IsSpelled p software bytes c.0.0 = record {
      version = version;
      first = omega (arith, mark.1.0.0);
      known = omega (arith, mark.1.0.1);
      state = state_from p version c.0.0 t.1;
      text = spelled;
    } in
    subst (IsSpelled p software bytes) g.1 found

pub short_of : (p : Plant) (version : ℕ) (s : State) → IsPlantState p s → length ((state_parts p version).spell s) ≤ 3125
unfolding samples_in
short_of p version s h =
    let w = h.within in
    state_short p version s (omega (arith, w.first.few, w.second.few, w.third.few, window_small p 0, window_small p 1, window_small p 2)) (omega (arith, w.few))

pub all_again : (p : Plant) (software version : ℕ) (s : State) → IsSoftware software → 1 ≤ version → version ≤ software → InsideIsWithin p.cert → IsPlantState p s → all_of p software (spelling_of p version s) ≡ Ok s
unfolding all_of spelling_of state_field
all_again p software version s sw low high law h =
    let text = (state_parts p version).spell s in
    let more = length_text version text ++ text in
    let mark : unsigned_at w32 (mark_of 1) (mark_of software + 1) (unsigned_text w32 (mark_of version) ++ more) ≡ Ok (mark_of version, more) =
    unsigned_again w32 (2 ^ 32) wide32 (mark_of 1) (mark_of software + 1) (mark_of version) more ((omega (arith, low), omega (arith, high)), omega (arith, high, few_of software sw)) in
    let number : mark_of version - mark_of 0 ≡ version = omega arith in
    let whole = length_again version text (short_of p version s h) in
    let read : (state_parts p version).read text ≡ Ok (s, []) = ap (state_parts p version).read (sym (append-nil text)) ∙ (state_field p version).again s [] (state_to p version s law h) in
    let rest_of = λ (v : ℕ) (b : List ℕ). (state_parts p v).read b >>= λ x. cond (eqb (length x.1) 0) (Ok x.0) (Err (length x.1)) in
    ap (λ (r : Read ℕ). r >>= λ m. length_at (m.0 - mark_of 0) m.1 >>= λ w. rest_of (m.0 - mark_of 0) w.1) mark
    ∙ ap (λ (v : ℕ). length_at v more >>= λ w. rest_of v w.1) number
    ∙ ap (λ (r : Read ℕ). r >>= λ w. rest_of version w.1) whole.1
    ∙ ap (λ (r : Read State). r >>= λ x. cond (eqb (length x.1) 0) (Ok x.0) (Err (length x.1))) read

pub spelling_short : (p : Plant) (version : ℕ) (s : State) → IsPlantState p s → length (spelling_of p version s) ≤ 3133
unfolding spelling_of
spelling_short p version s h =
    let text = (state_parts p version).spell s in
    omega (arith, length-append (unsigned_text w32 (mark_of version)) (length_text version text ++ text), length-append (length_text version text) text, length-w32 (mark_of version), length_part version text, short_of p version s h)
  where
    length_part : (version : ℕ) (text : List ℕ) → length (length_text version text) ≤ 4
    length_part version text = by_test (version == 1) refl
      where
        by_test : (b : Bool) → (version == 1) ≡ b → length (length_text version text) ≤ 4
        by_test true t = rw t (omega arith)
        by_test false t = rw t (omega (arith, length-w32 (8 + length text)))

-- ---- the laws
state_ok : (p : Plant) (software : ℕ) (bytes : List ℕ) (s : State) → all_of p software bytes ≡ Ok s → state_read p software bytes ≡ Ok s
unfolding state_read
state_ok p software bytes s e = rw e refl

state_err : (p : Plant) (software : ℕ) (bytes : List ℕ) (left : ℕ) → all_of p software bytes ≡ Err left → state_read p software bytes ≡ Err (length bytes - left)
unfolding state_read
state_err p software bytes left e = rw e refl

pub read_is_written : (p : Plant) (software : ℕ) (bytes : List ℕ) (s : State) → IsSoftware software → All (λ b. b < 256) bytes → state_read p software bytes ≡ Ok s → IsSpelled p software bytes s
read_is_written p software bytes s sw small e = all_takes p software sw bytes s (bytes_of bytes small) (by_result (all_of p software bytes) refl)
  where
    bytes_of : (bytes : List ℕ) → All (λ b. b < 256) bytes → IsBytes bytes
    bytes_of bytes h i = elim (cases_lt i (length bytes)) [
      | inl less ↦ h i 0 less
      | inr more ↦ rw (get_or_past bytes i 0 more) (omega arith)
    ]

    by_result : (r : Result State ℕ) → all_of p software bytes ≡ r → all_of p software bytes ≡ Ok s
    by_result (Ok t) h = h ∙ sym (state_ok p software bytes t h) ∙ e
    by_result (Err left) h = absurd (let fault = state_err p software bytes left h in cc)

pub written_is_read : (p : Plant) → InsideIsWithin p.cert → (software version : ℕ) (s : State) → IsSoftware software → 1 ≤ version → version ≤ software → IsPlantState p s → state_read p software (spelling_of p version s) ≡ Ok s
unfolding state_read
written_is_read p law software version s sw low high h = rw (all_again p software version s sw low high law h) refl

pub keep_apart : (p : Plant) → InsideIsWithin p.cert → (version : ℕ) (s t : State) → IsSoftware version → IsPlantState p s → IsPlantState p t → spelling_of p version s ≡ spelling_of p version t → s ≡ t
keep_apart p law version s t sw h k e =
    let low : 1 ≤ version = elim sw [ inl f ↦ omega (arith, f) | inr f ↦ omega (arith, f) ] in
    let high : version ≤ version = omega arith in
    ok_is s t (sym (all_again p version version s sw low high law h) ∙ ap (all_of p version) e ∙ all_again p version version t sw low high law k)

all_unknown : (p : Plant) (s : State) → all_of p 1 (spelling_of p 2 s) ≡ Err (length (spelling_of p 2 s))
unfolding all_of spelling_of
all_unknown p s =
    let text = (state_parts p 2).spell s in
    let more = length_text 2 text ++ text in
    let mark : unsigned_at w32 (mark_of 1) (mark_of 1 + 1) (unsigned_text w32 (mark_of 2) ++ more) ≡ Err (length (unsigned_text w32 (mark_of 2) ++ more)) =
    unsigned_refused w32 (2 ^ 32) wide32 (mark_of 1) (mark_of 1 + 1) (mark_of 2) more (omega arith) (omega arith) in
    let rest_of = λ (v : ℕ) (b : List ℕ). (state_parts p v).read b >>= λ x. cond (eqb (length x.1) 0) (Ok x.0) (Err (length x.1)) in
    ap (λ (r : Read ℕ). r >>= λ m. length_at (m.0 - mark_of 0) m.1 >>= λ w. rest_of (m.0 - mark_of 0) w.1) mark

pub second_is_unknown : (p : Plant) (s : State) → state_read p 1 (spelling_of p 2 s) ≡ Err 0
second_is_unknown p s =
    let n = length (spelling_of p 2 s) in
    let none : n - n ≡ 0 = omega arith in
    state_err p 1 (spelling_of p 2 s) n (all_unknown p s) ∙ ap placed_at none
  where
    placed_at : ℕ → Result State ℕ
    placed_at n = Err n
