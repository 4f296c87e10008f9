-- The frames that came, a computer's mode and its software: searches of a list of moments, from the
-- newest on.
use Rattle.std.specs.Prelude.{ℕ, ◌-◌, max, List, [], ◌∷◌, ◌++◌, length, if◌then◌else◌}
use Rattle.std.specs.List.{list_any}
use Rattle.dp_plant.specs.declared.frames.Frame.{Frame}
use Rattle.dp_plant.specs.declared.voting.Mode.{Mode}
use Rattle.dp_plant.specs.declared.voting.Mode.TheVariants.{Live, Aligning, Off}
use Rattle.dp_core.specs.Moment.{Moment, frame_of, is_adoption, is_break, is_end, is_upgrade, saw_overrun}

-- the frames that came, the first one first
unfoldable pub frames : List Moment → List Frame
frames [] = []
frames (m ∷ h) = frames h ++ frame_of m.event

abbrev pub cycles_begun : List Moment → ℕ
cycles_begun h = length (frames h)

-- the moments up to the last break of c, with it; none if there is none
unfoldable pub at_break : ℕ → List Moment → List Moment
at_break c [] = []
at_break c (m ∷ h) = if is_break c m then m ∷ h else at_break c h

-- the moments after the last break of c
unfoldable pub since_break : ℕ → List Moment → List Moment
since_break c [] = []
since_break c (m ∷ h) = if is_break c m then [] else m ∷ since_break c h

-- by the last break, if there is one: off after an end, aligning after an interruption
unfoldable pub broken_mode : ℕ → List Moment → Mode
broken_mode c [] = Live
broken_mode c (m ∷ h) = if is_end c m then Off else Aligning

-- live where it adopted a state after its last break
unfoldable pub mode : ℕ → List Moment → Mode
mode c h =
    if list_any (is_adoption c) (since_break c h) then Live else broken_mode c (at_break c h)

-- 2 from an Upgrade of c on
unfoldable pub software : ℕ → List Moment → ℕ
software c [] = 1
software c (m ∷ h) = if is_upgrade c m.event then 2 else software c h

-- the oldest of so many frames that waits in an aligning computer, by its last break: of the newest
-- sixteen, after an overrun all, else those that came since
unfoldable pub oldest_since : ℕ → List Moment → ℕ → ℕ
oldest_since c [] n = n - 16
oldest_since c (m ∷ h) n =
    if saw_overrun c m.seen then n - 16 else max (cycles_begun (m ∷ h)) (n - 16)

-- the number of the oldest frame that waits in c while it is aligning
unfoldable pub oldest : ℕ → List Moment → ℕ
oldest c h = oldest_since c (at_break c h) (cycles_begun h)
