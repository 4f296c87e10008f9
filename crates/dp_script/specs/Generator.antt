-- Numbers that are drawn one after another: a linear congruential generator of 64 bits.
use Rattle.std.specs.Prelude.{ℕ, zero, suc, ◌+◌, ◌*◌, ◌/◌, ◌%◌, ◌^◌}

-- the state after one draw
unfoldable pub drawn : ℕ → ℕ
drawn x = (x * 6364136223846793005 + 1442695040888963407) % 2 ^ 64

-- the number that the draw gives which came to a state: its upper 31 bits
unfoldable pub number_of : ℕ → ℕ
number_of x = x / 2 ^ 33

-- the state after so many draws
abbrev pub state_after : ℕ → ℕ → ℕ
state_after zero x = x
state_after (suc k) x = drawn (state_after k x)

-- draw k from a state on, the first being draw 0
abbrev pub draw_at : ℕ → ℕ → ℕ
draw_at x k = number_of (state_after (k + 1) x)
