-- Whether a total has room for what may be added. It serves inner functions.
use Rattle.std.specs.Prelude.{ℕ, ◌+◌, ◌-◌, Bool, not, ◌&&◌, ltb, leb}
use Rattle.words.specs.Limits.{cells_most}

-- what falls away can be taken from it, and then `most` added without passing the figure
unfoldable pub has_room : ℕ → ℕ → ℕ → Bool
has_room before fallen most = not (ltb before fallen) && leb (before - fallen + most) cells_most
