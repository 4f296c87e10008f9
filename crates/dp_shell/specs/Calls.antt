-- Numbers of calls.
use Rattle.std.specs.Prelude.{ℕ, ◌+◌, ◌-◌, ◌^◌, min}

-- the number of the next call, where `last` is that of the last one: it counts from 1 and stays at
-- 2^64 - 1
abbrev pub next_call : ℕ → ℕ
next_call last = min (last + 1) (2 ^ 64 - 1)
