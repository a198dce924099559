-- Nodes that are worked out one after the other from the marks as they stand, and the stack of roots in an array. These
-- definitions serve inner functions.
use Rattle.std.specs.Prelude.{ℕ, zero, suc, ◌+◌, ◌*◌, ◌<◌, ◌≤◌, ◌≡◌, List, ◌++◌, length, get_or, take, replicate}
use Rattle.std.proofs.Math.Seq.{paste}
use Rattle.words.specs.Limits.{rank_most, nodes_most}
use Rattle.words.specs.Chapter.{symbol_of, tree_fault}
use Rattle.words.specs.Postfix.{children_of}
use Rattle.automaton.specs.StateSet.{StateSet}
use Rattle.operations.specs.Marks.{size_of}
use Rattle.operations.specs.Run.{run_fault}
use Rattle.memo.specs.Memo.{set_over}

-- ---- the marks

-- node i's state set from its children's, which are in the marks
unfoldable pub set_from : List ℕ → List ℕ → List ℕ → List ℕ → ℕ → StateSet
set_from a table ch marks i = set_over table (symbol_of (get_or ch i 0)) marks (children_of a ch i)

-- the marks with node i's words as they are worked out
unfoldable pub marked_at : List ℕ → List ℕ → List ℕ → ℕ → List ℕ → List ℕ
marked_at a table ch i marks = paste marks (i * size_of table) (set_from a table ch marks i) (size_of table)

-- the marks behind n nodes from node i on, each worked out from the marks as the one before left them
unfoldable pub marked_from : List ℕ → List ℕ → List ℕ → ℕ → ℕ → List ℕ → List ℕ
marked_from a table ch i zero marks = marks
marked_from a table ch i (suc n) marks = marked_at a table ch (i + n) (marked_from a table ch i n marks)

-- ---- the stack

-- the zeros at the bottom of the stack: there are always as many words to read at its top as a node has children
abbrev pub stack_base : ℕ
stack_base = rank_most

-- the words of the array
abbrev pub stack_length : ℕ
stack_length = stack_base + nodes_most

-- the first `height` words of the array are these zeros and these nodes, the last one on top
pub record Held (array : List ℕ) (height : ℕ) (nodes : List ℕ) : Type 0 where
  pub words : take height array ≡ replicate stack_base 0 ++ nodes
  pub height-is : height ≡ stack_base + length nodes

-- what putting a node on the stack in the place of its children asks
pub record Pushable (array : List ℕ) (height children node : ℕ) : Type 0 where
  pub few : node < nodes_most
  pub fits : children ≤ height
  pub height-inside : height < length array
  pub small : length array ≤ stack_length

-- what reading the words on top of the stack asks
pub record Readable (height : ℕ) : Type 0 where
  pub based : stack_base ≤ height
  pub inside : height ≤ stack_length

-- a tree over the alphabet, of no more nodes than a chapter may have
pub record BoundedTree (a ch : List ℕ) : Type 0 where
  pub accepted : tree_fault a ch ≡ 0
  pub few : length ch ≤ nodes_most

-- what filling the stack with the roots of the first `count` nodes asks
pub record Stackable (a ch : List ℕ) (count : ℕ) (array : List ℕ) : Type 0 where
  pub tree : BoundedTree a ch
  pub within : count ≤ length ch
  pub zeros : take stack_base array ≡ replicate stack_base 0

-- ---- what working out nodes asks

-- Run accepts them: a tree over the alphabet and a table for it, with room for its state sets in the marks slice
pub record Workable (a table ch : List ℕ) (marks_length : ℕ) : Type 0 where
  pub accepted : run_fault a table ch marks_length ≡ 0
