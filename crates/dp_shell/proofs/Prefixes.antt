-- A text is read in parts.
use Rattle.std.proofs.Common.{◌≡◌, ℕ, ◌+◌, ◌≤◌, List, ◌++◌, length, take, drop, Option, Some, None, Ok, sym, ap, subst, arith, length-append}
use Rattle.std.specs.Option.{IsSomeAnd}
use Rattle.std.proofs.Math.Seq.{take-add}
use Rattle.std.proofs.lemmas.List.{take-append-le, length-take}
use Rattle.dp_shell.specs.declared.shelf.Failed.{Failed}
use Rattle.dp_shell.specs.Texts.{Files, text_named, IsPrefixOf, ReadsPart, ReadsPrefix, IsPart}

one_more : (text part block : List ℕ) (n : ℕ) → part ≡ take (length part) text
    → IsPart text (length part) n block → n ≤ length block
    → part ++ take n block ≡ take (length (part ++ take n block)) text
one_more text part block n prefix copied fits =
    let size : length (part ++ take n block) ≡ length part + n =
    omega (arith, length-append part (take n block), length-take n block) in
    rw (size, take-add) (rw (copied.copied)
    (ap (λ (l : List ℕ). l ++ take n (drop (length part) text)) prefix))

some_more : (t : Option (List ℕ)) (part block : List ℕ) (n : ℕ) → n ≤ length block
    → IsPrefixOf t part → IsSomeAnd t (λ text. IsPart text (length part) n block)
    → IsPrefixOf t (part ++ take n block)
some_more (Some text) part block n fits f p = one_more text part block n f p fits
some_more None part block n fits f p = absurd p

-- bytes that were copied to the front of a longer buffer
pub bytes_more : (files : Option Files) (name before block rest : List ℕ) (from count : ℕ)
    → count ≤ length block → ReadsPart {E = Failed} files name from (Ok count) block
    → length before ≡ from → ReadsPrefix files name before
    → ReadsPrefix files name (before ++ take count (block ++ rest))
bytes_more None name before block rest from count fits reads is prefix = tt
bytes_more (Some files) name before block rest from count fits reads is prefix =
    let text = text_named files name in
    rw (take-append-le count block rest) (some_more text before block count fits prefix
    (subst (λ (m : ℕ). IsSomeAnd text (λ x. IsPart x m count block)) (sym is) reads))
