-- How a node's state set is worked out: the closures of the targets that its symbol's transitions lead to are joined. These
-- definitions serve inner functions.
use Rattle.std.specs.Prelude.{ℕ, ◌+◌, ◌<◌, ◌≤◌, ◌≡◌, true, List, length, get_or, drop}
use Rattle.words.specs.Word.{state_below}
use Rattle.automaton.specs.Transition.{sources_at, automaton_of}
use Rattle.automaton.specs.StateSet.{StateSet, contains, all_contained}
use Rattle.automaton.specs.Reached.{Reached}
use Rattle.operations.specs.Marks.{size_of}
use Rattle.index.specs.Index.{key_of}
use Rattle.closures.specs.Closure.{ClosedSet, Closures}
use Rattle.closures.specs.declared.KeptClosures.{KeptClosures}
use Rattle.step.specs.NodeSteppable.{RowsInside, NodeSteppable, child_sets}

-- the part states at an index are as many as the children
pub record SourcesReadable (table : List ℕ) (at size : ℕ) (marks children : List ℕ) : Type 0 where
  pub count : length (sources_at (drop at table)) ≡ length children
  pub rows : RowsInside size marks children

-- The set r of a node with symbol f over children with the sets rs, while it is worked out: it holds only reached states and is
-- closed under the epsilon transitions.
pub record Growing (table : List ℕ) (f : ℕ) (rs : List StateSet) (r : StateSet) : Type 0 where
  pub set : ClosedSet table r
  pub reached : (q : ℕ) → contains r q ≡ true → Reached (automaton_of table).transitions f rs q

-- the symbol transition at word i adds nothing to the set
abbrev pub Satisfied : List ℕ → List StateSet → StateSet → ℕ → Type 0
Satisfied table rs r i = all_contained (sources_at (drop (i + 1) table)) rs ≡ true → contains r (state_below (get_or table i 0)) ≡ true

-- what working out a node's set asks: beside the node the closures that are kept, and a stack with room for every state
pub record Steppable (table index : List ℕ) (f : ℕ) (marks children : List ℕ) (kept : KeptClosures) (pending : List ℕ) : Type 0 where
  pub node : NodeSteppable table index f marks children
  pub closures : Closures table kept
  pub fits : (automaton_of table).states ≤ length pending

-- the same, and the set so far
pub record SymbolFollowable (table index : List ℕ) (f size : ℕ) (marks children : List ℕ) (kept : KeptClosures)
    (pending : List ℕ) (r : StateSet) : Type 0 where
  pub steppable : Steppable table index f marks children kept pending
  pub size_is : size ≡ size_of table
  pub growing : Growing table f (child_sets size marks children) r

-- the same at word i, where a transition on the symbol begins
pub record TransitionFollowable (table index : List ℕ) (size : ℕ) (marks children : List ℕ) (kept : KeptClosures)
    (pending : List ℕ) (r : StateSet) (i : ℕ) : Type 0 where
  pub followable : SymbolFollowable table index (key_of (get_or table i 0)) size marks children kept pending r
  pub inside : i < length table

-- the transition at word i was followed: the set r has become t
pub record TransitionFollowed (table : List ℕ) (f : ℕ) (rs : List StateSet) (i : ℕ) (r t : StateSet) (kept : KeptClosures) : Type 0 where
  pub closures : Closures table kept
  pub growing : Growing table f rs t
  pub grown : (q : ℕ) → contains r q ≡ true → contains t q ≡ true
  pub satisfied : Satisfied table rs t i

-- all transitions on the symbol were followed
pub record SymbolFollowed (table : List ℕ) (f : ℕ) (rs : List StateSet) (t : StateSet) (kept : KeptClosures) : Type 0 where
  pub closures : Closures table kept
  pub growing : Growing table f rs t
  pub satisfied : (i : ℕ) → i < length table → key_of (get_or table i 0) ≡ f → Satisfied table rs t i
