-- How many words state sets have at most. It serves inner functions.
use Rattle.std.specs.Prelude.{ℕ, ◌*◌, ◌/◌}
use Rattle.words.specs.Limits.{states_most, nodes_most}

-- one set: document 01's S for the most states (law `most-states`)
abbrev pub set_most : ℕ
set_most = states_most / 32

-- the sets of all nodes of a tree
abbrev pub marks_most : ℕ
marks_most = nodes_most * set_most
