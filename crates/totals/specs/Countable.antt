-- What counting stored state sets asks: conditions that callers show. They serve inner functions.
use Rattle.std.specs.Prelude.{ℕ, ◌*◌, ◌≤◌}
use Rattle.words.specs.Limits.{nodes_most, cells_most}
use Rattle.operations.specs.Totals.{Totals}
use Rattle.sets.specs.Size.{set_most}

-- the sets of `size` words of the nodes from `from` to before `to` lie inside the marks
pub record Countable (marks_length size from to : ℕ) : Type 0 where
  pub order : from ≤ to
  pub few : to ≤ nodes_most
  pub small : size ≤ set_most
  pub inside : to * size ≤ marks_length

-- no more than all nodes have
pub record Few (t : Totals) : Type 0 where
  pub elements-few : t.elements ≤ nodes_most
  pub hits_few : t.hits ≤ nodes_most
  pub cells-few : t.cells ≤ cells_most
