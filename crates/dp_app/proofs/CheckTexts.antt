-- The text of a check, case by case.
use Rattle.std.proofs.Common.{◌≡◌, ℕ, ◌+◌, ◌<◌, ◌∷◌, [], ◌++◌, List, Option, length, take, drop, codes, get_or, refl, sym, ap, ◌∙◌, subst, append_assoc}
use Rattle.std.specs.List.{flat_map}
use Rattle.std.proofs.lemmas.List.{append-nil, take_more, take-append-drop}
use Rattle.std.proofs.lemmas.List.Concat.{flat_map-append}
use Rattle.dp_plant.specs.declared.plant.Plant.{Plant}
use Rattle.dp_plant.specs.declared.thrusters.RawCase.{RawCase}
use Rattle.dp_shell.proofs.Taken.{cut_before}
use Rattle.dp_shell.specs.Taken.{AppendsCut}
use Rattle.dp_app.specs.Check.{case_text, cases_text, check_text}
use Rattle.dp_app.specs.FaultLines.{end_line}

-- the text of the first n cases
abbrev pub text_so_far : Plant → ℕ → List ℕ
text_so_far p n = codes "accepted\n" ++ flat_map (case_text p.cert) (take n p.cases.items)

module _ (p : Plant) where
  pub none_yet : codes "accepted\n" ≡ text_so_far p 0
  none_yet = sym (append-nil (codes "accepted\n"))

  pub one_more : (n : ℕ) (d : RawCase) → n < length p.cases.items → text_so_far p n ++ case_text p.cert (get_or p.cases.items n d) ≡ text_so_far p (n + 1)
  one_more n d lt =
      let cs = p.cases.items in
      let f = case_text p.cert in
      append_assoc (codes "accepted\n") (flat_map f (take n cs)) (f (get_or cs n d))
      ∙ ap (λ (l : List ℕ). codes "accepted\n" ++ (flat_map f (take n cs) ++ l)) (sym (append-nil (f (get_or cs n d))))
      ∙ ap (λ (l : List ℕ). codes "accepted\n" ++ l) (sym (flat_map-append f (take n cs) (get_or cs n d ∷ [])))
      ∙ ap (λ (l : List RawCase). codes "accepted\n" ++ flat_map f l) (sym (take_more cs n d lt))

  pub all_cases : (n : ℕ) → n ≡ length p.cases.items → text_so_far p n ≡ cases_text p
  unfolding cases_text
  all_cases n e = ap (λ (l : List RawCase). codes "accepted\n" ++ flat_map (case_text p.cert) l) (ap (λ (k : ℕ). take k p.cases.items) e ∙ take_whole p.cases.items)
    where
      take_whole : (xs : List RawCase) → take (length xs) xs ≡ xs
      take_whole [] = refl
      take_whole (x ∷ xs) = ap (λ (l : List RawCase). x ∷ l) (take_whole xs)

  -- a text that is cut short within the first n cases is cut short within all
  pub cut_within : (a c : Option (List ℕ)) (n : ℕ) → AppendsCut a c (text_so_far p n) → AppendsCut a c (cases_text p)
  unfolding cases_text
  cut_within a c n cut =
      let cs = p.cases.items in
      let f = case_text p.cert in
      let whole : text_so_far p n ++ flat_map f (drop n cs) ≡ codes "accepted\n" ++ flat_map f cs =
      append_assoc (codes "accepted\n") (flat_map f (take n cs)) (flat_map f (drop n cs))
      ∙ ap (λ (l : List ℕ). codes "accepted\n" ++ l) (sym (flat_map-append f (take n cs) (drop n cs)))
      ∙ ap (λ (l : List RawCase). codes "accepted\n" ++ flat_map f l) (take-append-drop n cs) in
      subst (λ (l : List ℕ). AppendsCut a c l) whole (cut_before a c (text_so_far p n) (flat_map f (drop n cs)) cut)

  pub whole_check : (last : List ℕ) → last ≡ end_line (length p.cases.items) → cases_text p ++ last ≡ check_text p
  unfolding check_text
  whole_check last e = ap (λ (l : List ℕ). cases_text p ++ l) e
