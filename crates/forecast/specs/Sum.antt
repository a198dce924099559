-- Three totals with those of nodes more. These definitions serve inner functions.
use Rattle.std.specs.Prelude.{ℕ, ◌+◌, ◌*◌, ◌<◌, ◌≤◌, cond, List, [], ◌∷◌, length}
use Rattle.words.specs.Limits.{nodes_most, states_most}
use Rattle.automaton.specs.StateSet.{StateSet, contains}
use Rattle.operations.specs.Marks.{final_of}
use Rattle.operations.specs.Run.{cells_in}
use Rattle.operations.specs.Totals.{Totals}
use Rattle.sets.specs.Size.{set_most}
use Rattle.totals.specs.declared.Totals.{Totals as Record}

-- with those of a node that has the state set r
unfoldable pub with_set : List ℕ → Totals → StateSet → Totals
with_set table t r = record {
  elements = t.elements + 1;
  hits = t.hits + cond (contains r (final_of table)) 1 0;
  cells = t.cells + cells_in r;
}

-- with those of nodes that have these
unfoldable pub with_sets : List ℕ → Totals → List StateSet → Totals
with_sets table t [] = t
with_sets table t (r ∷ rs) = with_sets table (with_set table t r) rs

-- no more hits than elements, and no more cells than these have states
pub record Plausible (t : Record) : Type 0 where
  pub hits : t.hits ≤ t.elements
  pub cells : t.cells ≤ states_most * t.elements

-- what adding those of one more asks
pub record Addable (t : Record) (r : StateSet) : Type 0 where
  pub plausible : Plausible t
  pub few : t.elements < 2 * nodes_most
  pub short : length r ≤ set_most
