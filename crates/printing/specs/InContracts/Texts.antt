-- A text in a lent area, and what is written behind what it has. Assumes nothing.
use Rattle.std.specs.Prelude.{ℕ, ◌+◌, ◌≤◌, ◌≡◌, List, length}
use Rattle.words.specs.Bytes.{overwrite}
use Rattle.printing.specs.declared.text.Text.{Text}

-- the area has room for this behind what is written
abbrev pub HasRoom : List ℕ → Text → Type 0
HasRoom part t = t.size + length part ≤ length t.area.now

-- this is laid over the area behind what was written, and the area is the same one
abbrev pub Adds : List ℕ → Text → Text → Type 0
Adds part t t' =
    (t'.size ≡ t.size + length part)
    × (t'.area.now ≡ overwrite t.area.now t.size part)
    × (length t'.area.now ≡ length t.area.now)
    × (t'.area.ghost_name ≡ t.area.ghost_name)
