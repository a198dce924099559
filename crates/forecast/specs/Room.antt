-- How many state sets there is room for. It serves inner functions.
use Rattle.std.specs.Prelude.{ℕ, ◌+◌, ◌-◌, ◌*◌}
use Rattle.words.specs.Limits.{rank_most, height_most}
use Rattle.sets.specs.Size.{set_most}

-- how many sets the array has room for: no more roots are pending in a tree of the greatest height and rank (law `roots-pending`)
abbrev pub sets_most : ℕ
sets_most = (rank_most - 1) * (height_most - 1) + 1

-- the words of the array
abbrev pub pile_length : ℕ
pile_length = sets_most * set_most
