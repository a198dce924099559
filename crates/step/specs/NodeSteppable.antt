-- What the node step asks of its caller: a checked table with its index, a symbol, as many children as its rank, and each
-- child's state set inside the marks. These definitions serve inner functions.
use Rattle.std.specs.Prelude.{ℕ, ◌+◌, ◌*◌, ◌<◌, ◌≤◌, ◌≡◌, List, map, length, get_or}
use Rattle.words.specs.Word.{symbol_range}
use Rattle.words.specs.Alphabet.{rank_of}
use Rattle.automaton.specs.StateSet.{StateSet}
use Rattle.operations.specs.Marks.{size_of, stored_set}
use Rattle.index.specs.Index.{IndexedTable}

-- each child's words lie inside the marks; the children are node numbers
abbrev pub RowsInside : ℕ → List ℕ → List ℕ → Type 0
RowsInside size marks children = (k : ℕ) → k < length children → get_or children k 0 * size + size ≤ length marks

-- what the node step asks of the table, its index and the node
pub record NodeSteppable (table index : List ℕ) (symbol : ℕ) (marks children : List ℕ) : Type 0 where
  pub indexed : IndexedTable table index
  pub symbol-below : symbol < symbol_range
  pub rank : rank_of indexed.alphabet symbol ≡ length children
  pub rows : RowsInside (size_of table) marks children

-- the children's state sets, from left to right
abbrev pub child_sets : ℕ → List ℕ → List ℕ → List StateSet
child_sets size marks children = map (stored_set size marks) children
