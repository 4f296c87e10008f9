-- Checks in order: the first that fails names the fault.
use Rattle.std.specs.Prelude.{Option, Some, None, Result, Ok, Err}
use Rattle.dp_script.specs.declared.fault.ScriptKind.{ScriptKind}

infixl 10 ◌>>=◌
abbrev pub ◌>>=◌ : {A B : Type 0} → Result A ScriptKind → (A → Result B ScriptKind)
    → Result B ScriptKind
(Ok x) >>= f = f x
(Err kind) >>= f = Err kind

-- the value, or a fault of this kind where there is none
abbrev pub or_fault : {A : Type 0} → Option A → ScriptKind → Result A ScriptKind
or_fault (Some x) kind = Ok x
or_fault None kind = Err kind
