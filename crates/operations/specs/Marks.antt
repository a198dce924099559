-- The state sets of a tree's nodes (document 01's marks), and what stands in a lent slice behind a change.
use Rattle.std.specs.Prelude.{ℕ, ◌-◌, ◌*◌, ◌≤◌, max, ◌≡◌, ◌↔◌, List, [], ◌∷◌, ◌++◌, Bool, true, false, ◌&&◌, length, take, drop, replicate, eqb}
use Rattle.words.specs.Chapter.{symbol_of}
use Rattle.words.specs.Postfix.{values}
use Rattle.automaton.specs.Transition.{automaton_of}
use Rattle.automaton.specs.StateSet.{StateSet, size_for, contains, state_set}
use Rattle.automaton.specs.Reached.{Reached}

-- S: the words of one element's marks
unfoldable pub size_of : List ℕ → ℕ
size_of table = size_for (automaton_of table).states

-- the final state of a table
unfoldable pub final_of : List ℕ → ℕ
final_of table = (automaton_of table).final

-- the state set of a node (an element's marks) from its word and its children's state sets
unfoldable pub node_set : List ℕ → ℕ → List StateSet → StateSet
node_set table w rs = state_set (automaton_of table) (symbol_of w) rs

-- what document 01 says of the words r of an element with symbol f whose parts' words are rs
pub record ReachedSet (table : List ℕ) (f : ℕ) (rs : List StateSet) (r : StateSet) : Type 0 where
  -- "Element i owns S words"
  pub size : length r ≡ size_of table
  -- "for every state s, bit s mod 32 (bit 0 lowest) of word s / 32 is set exactly if s is reached"
  pub reached : (s : ℕ) → (contains r s ≡ true) ↔ Reached (automaton_of table).transitions f rs s
  -- "Bits beyond the last state are zero."
  pub beyond : (s : ℕ) → (automaton_of table).states ≤ s → contains r s ≡ false

-- the state sets of all nodes of a tree, in order
unfoldable pub node_sets : List ℕ → List ℕ → List ℕ → List StateSet
node_sets a table ch = values a (node_set table) ch []

-- "Element i owns S words from i × S."
unfoldable pub stored_set : ℕ → List ℕ → ℕ → StateSet
stored_set size marks i = take size (drop (i * size) marks)

-- "Marks are compared as whole words"
unfoldable pub same_words : StateSet → StateSet → Bool
same_words [] [] = true
same_words [] (y ∷ ys) = false
same_words (x ∷ xs) [] = false
same_words (x ∷ xs) (y ∷ ys) = eqb x y && same_words xs ys

-- a slice whose first `old` words were in use, and now these are: "Words that fall out of use become zero; words beyond
-- both lengths are untouched."
unfoldable pub refit : ℕ → List ℕ → List ℕ → List ℕ
refit old words slice = words ++ (replicate (old - length words) 0 ++ drop (max old (length words)) slice)
