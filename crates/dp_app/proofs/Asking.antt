-- What words and files ask for is one thing, and there is one.
use Rattle.std.proofs.Common.{◌≡◌, Option, Some, None, Err, Ok, Result, IfSome, refl, sym, ap, ◌∙◌, subst}
use Rattle.dp_accept.proofs.Judging.{given_once, something_given}
use Rattle.dp_shell.specs.Texts.{Files, text_named}
use Rattle.dp_app.specs.declared.fault.Fault.{Fault}
use Rattle.dp_app.specs.declared.fault.Fault.TheVariants.{Usage}
use Rattle.dp_app.specs.Outcome.{Asks, AsksFor, Matter, Task, alone, matter_of, on_plant, task_by}
use Rattle.dp_app.specs.Words.{Command}

-- ---- what holds of the files, where they are told

pub any_files : (files : Option Files) (P : Files → Type 0) → ((told : Files) → P told) → IfSome files P
any_files None P all = tt
any_files (Some told) P all = all told

pub each_file : (files : Option Files) (P Q : Files → Type 0) → ((told : Files) → P told → Q told) → IfSome files P → IfSome files Q
each_file None P Q f h = tt
each_file (Some told) P Q f h = f told h

pub both_files : (files : Option Files) (P Q R : Files → Type 0) → ((told : Files) → P told → Q told → R told) → IfSome files P → IfSome files Q → IfSome files R
both_files None P Q R f h k = tt
both_files (Some told) P Q R f h k = f told h k

-- ---- it is one thing

once_for : (m : Matter) (files : Files) (x y : Result Task Fault) → AsksFor m files x → AsksFor m files y → x ≡ y
once_for (alone task) files x y a b = a ∙ sym b
once_for (on_plant name judge task) files x y (r, given, a) (q, other, b) =
    a ∙ ap (task_by (task files)) (given_once judge (text_named files name) r q given other) ∙ sym b

pub asked_once : (c : Option Command) (files : Files) (x y : Result Task Fault) → Asks c files x → Asks c files y → x ≡ y
asked_once None files x y a b = a ∙ sym b
asked_once (Some c) files x y a b = once_for (matter_of c) files x y a b

-- so what holds of one is said of each
pub of_each : (files : Option Files) (c : Option Command) (r : Files → Result Task Fault) (P : Result Task Fault → Type 0)
    → IfSome files (λ told. Asks c told (r told)) → IfSome files (λ told. P (r told)) → IfSome files (λ told. (x : Result Task Fault) → Asks c told x → P x)
of_each files c r P is holds =
    both_files files (λ told. Asks c told (r told)) (λ told. P (r told)) (λ told. (x : Result Task Fault) → Asks c told x → P x)
    (λ told asks h x other. subst P (asked_once c told (r told) x asks other) h) is holds

pub of_asked : (files : Option Files) (c : Option Command) (r : Result Task Fault) (P : Result Task Fault → Type 0)
    → IfSome files (λ told. Asks c told r) → P r → IfSome files (λ told. (x : Result Task Fault) → Asks c told x → P x)
of_asked files c r P is holds = of_each files c (λ told. r) P is (any_files files (λ told. P r) (λ told. holds))

-- ---- there is one

some_for : (m : Matter) (files : Files) → (x : Result Task Fault) × AsksFor m files x
some_for (alone task) files = (Ok task, refl)
some_for (on_plant name judge task) files =
    let given = something_given judge (text_named files name) in
    (task_by (task files) given.0, (given.0, given.1, refl))

pub something_asked : (c : Option Command) (files : Files) → (x : Result Task Fault) × Asks c files x
something_asked None files = (Err Usage, refl)
something_asked (Some c) files = some_for (matter_of c) files
