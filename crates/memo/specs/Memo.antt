-- What a memo of node steps holds, and what marking a node by it asks and leaves. These definitions serve inner functions.
use Rattle.std.specs.Prelude.{ℕ, ◌+◌, ◌-◌, ◌*◌, ◌<◌, ◌≤◌, ◌≡◌, List, length, get_or, drop}
use Rattle.std.proofs.Math.Seq.{paste}
use Rattle.words.specs.Limits.{rank_most, states_most, nodes_most}
use Rattle.words.specs.Word.{symbol_range}
use Rattle.words.specs.Lists.{AllBelow}
use Rattle.automaton.specs.Transition.{automaton_of}
use Rattle.automaton.specs.StateSet.{StateSet, state_set}
use Rattle.operations.specs.Marks.{size_of, stored_set}
use Rattle.sets.specs.Size.{set_most}
use Rattle.closures.specs.Closure.{Closures}
use Rattle.step.specs.NodeSteppable.{child_sets}
use Rattle.step.specs.Node.{Steppable}
use Rattle.memo.specs.Key.{step_key, Keyable}
use Rattle.memo.specs.declared.Memo.{Memo as MemoWords}

-- the state set of a node with symbol f over children with the stored sets of these nodes
unfoldable pub set_over : List ℕ → ℕ → List ℕ → List ℕ → StateSet
set_over table f marks cs = state_set (automaton_of table) f (child_sets (size_of table) marks cs)

-- ---- the representative of a node

-- how many places there are for nodes that represent others
abbrev pub places_most : ℕ
places_most = 1021

-- what finding the representative of node i asks, where the set is the one that it is to get
pub record Placeable (marks set : List ℕ) (i : ℕ) (places : List ℕ) : Type 0 where
  pub few : i < nodes_most
  pub small : length set ≤ set_most
  pub rows : i * length set ≤ length marks
  pub places-are : length places ≡ places_most

-- node r stands for node i: it is node i, or an earlier one with the same words
pub data Represents (marks : List ℕ) (set : StateSet) (i r : ℕ) : Type 0 where
  itself : r ≡ i → Represents marks set i r
  earlier : r < i → stored_set (length set) marks r ≡ set → Represents marks set i r

-- ---- the memo

-- how many steps are remembered at most
abbrev pub slots_most : ℕ
slots_most = 1024

-- A slot is empty, or it holds the key of a symbol and nodes before i, and such a node that has the state set over these.
pub data Slot (table marks : List ℕ) (i key node : ℕ) : Type 0 where
  empty : key ≡ 0 → Slot table marks i key node
  occupied : (f : ℕ) (cs : List ℕ) → f < symbol_range → AllBelow i cs → key ≡ step_key f cs → node < i
      → stored_set (size_of table) marks node ≡ set_over table f marks cs → Slot table marks i key node

-- the memo before node i is marked
pub record Memo (table marks : List ℕ) (i : ℕ) (keys known : List ℕ) : Type 0 where
  pub keys-are : length keys ≡ slots_most
  pub known-are : length known ≡ slots_most
  pub slots : (s : ℕ) → s < slots_most → Slot table marks i (get_or keys s 0) (get_or known s 0)

-- what is kept from node to node, before node i is marked: the memo, the places of the nodes that represent others, closures of
-- states, and a stack of states, which may hold anything
pub record Remembered (table marks : List ℕ) (i : ℕ) (words : MemoWords) : Type 0 where
  pub memo : Memo table marks i words.keys words.known
  pub places-are : length words.places ≡ places_most
  pub closures : Closures table words.closures
  pub pending-are : length words.pending ≡ states_most

-- ---- marking node i

-- what working it out asks
pub record NewMarkable (table index : List ℕ) (f : ℕ) (marks cs : List ℕ) (i : ℕ) (words : MemoWords) : Type 0 where
  pub steppable : Steppable table index f marks cs words.closures words.pending
  pub few : i < nodes_most
  pub row : i * size_of table + size_of table ≤ length marks
  pub places-are : length words.places ≡ places_most

-- the marks with node i's words, and a node up to i that has the same
pub record MarkedNew (table : List ℕ) (f : ℕ) (marks cs : List ℕ) (i : ℕ) (marks' : List ℕ) (r : ℕ) : Type 0 where
  pub words : marks' ≡ paste marks (i * size_of table) (set_over table f marks cs) (size_of table)
  pub low : r < i + 1
  pub same : stored_set (size_of table) marks' r ≡ set_over table f marks cs

-- what marking it by the memo asks; its children are represented by the last `rank` of four nodes
pub record NextMarkable (table index : List ℕ) (f : ℕ) (marks four : List ℕ) (rank i : ℕ) (words : MemoWords) : Type 0 where
  pub new : NewMarkable table index f marks (drop (rank_most - rank) four) i words
  pub keyable : Keyable f four rank
  pub below : AllBelow i (drop (rank_most - rank) four)
  pub remembered : Remembered table marks i words

-- what it leaves
pub record MarkedNext (table : List ℕ) (f : ℕ) (marks cs : List ℕ) (i : ℕ) (marks' : List ℕ) (r : ℕ) (words : MemoWords) : Type 0 where
  pub new : MarkedNew table f marks cs i marks' r
  pub remembered : Remembered table marks' (i + 1) words
