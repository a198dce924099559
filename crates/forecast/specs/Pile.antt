-- State sets one above the other in an array, and what putting one there or working one out asks. These definitions serve inner functions.
use Rattle.std.specs.Prelude.{ℕ, zero, suc, ◌-◌, ◌<◌, ◌≤◌, ◌≡◌, true, List, [], ◌∷◌}
use Rattle.words.specs.Alphabet.{alphabet_fault}
use Rattle.words.specs.Chapter.{is_node}
use Rattle.words.specs.Postfix.{arity}
use Rattle.automaton.specs.StateSet.{StateSet}
use Rattle.automaton.specs.Table.{is_table}
use Rattle.operations.specs.Marks.{stored_set}
use Rattle.sets.specs.Size.{set_most}
use Rattle.index.specs.Index.{index_of}
use Rattle.closures.specs.Closure.{Closures}
use Rattle.forecast.specs.declared.pile.Pile.{Pile}
use Rattle.forecast.specs.declared.pile.Work.{Work}
use Rattle.forecast.specs.Room.{sets_most}

-- the first `height` sets of an array, the last one first, as a stack
unfoldable pub stack_in : ℕ → List ℕ → ℕ → List StateSet
stack_in size array zero = []
stack_in size array (suc height) = stored_set size array height ∷ stack_in size array height

-- the sets of a pile as such a stack
abbrev pub stack_of : ℕ → Pile → List StateSet
stack_of size pile = stack_in size pile.sets pile.height

-- what putting a set of that size in the place of the topmost `children` ones asks
pub record Puttable (pile : Pile) (children size : ℕ) : Type 0 where
  pub fits : children ≤ pile.height
  pub low : pile.height - children < sets_most
  pub small : size ≤ set_most

-- what is kept from node to node: a checked table with its index, and closures of states
pub record Kept (a table index : List ℕ) (work : Work) : Type 0 where
  pub alphabet : alphabet_fault a ≡ 0
  pub checked : is_table a table ≡ true
  pub indexed : index ≡ index_of table
  pub closures : Closures table work.closures

-- what working out the set of the node with word w asks, where its children's are topmost
pub record Steppable (a table index : List ℕ) (w : ℕ) (pile : Pile) (work : Work) : Type 0 where
  pub kept : Kept a table index work
  pub node : is_node a w ≡ true
  pub fits : arity a w ≤ pile.height
  pub high : pile.height ≤ sets_most
  pub low : pile.height - arity a w < sets_most
