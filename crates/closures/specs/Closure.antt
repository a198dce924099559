-- The epsilon closure of one state, as code works it out: states are reached one after another, and a stack holds those whose
-- epsilon transitions are still to be followed. Closures that were worked out are kept for other nodes. These definitions
-- serve inner functions.
use Rattle.std.specs.Prelude.{ℕ, ◌+◌, ◌-◌, ◌*◌, ◌%◌, ◌<◌, ◌≤◌, ◌≡◌, Bool, true, false, cond, ◌⊎◌, length, get_or, drop, set}
use mathlib.Core.List.{List, Memᴰ}
use Rattle.words.specs.Lists.{count, list_from, AllBelow}
use Rattle.words.specs.Word.{word_range}
use Rattle.words.specs.Limits.{states_most}
use Rattle.automaton.specs.Transition.{Transition, epsilon, transition_at, automaton_of}
use Rattle.automaton.specs.StateSet.{StateSet, contains, insert, is_closed}
use Rattle.operations.specs.Marks.{stored_set}
use Rattle.sets.specs.Size.{set_most}
use Rattle.index.specs.Index.{state_key, key_of, IndexedTable}
use Rattle.closures.specs.declared.KeptClosures.{KeptClosures}

-- ---- the closure of a state

-- the states that epsilon transitions reach from state s, itself among them
pub data ReachedFrom (ts : List Transition) (s : ℕ) : ℕ → Type 0 where
  itself : ReachedFrom ts s s
  onward : {p q : ℕ} → Memᴰ (epsilon p q) ts → ReachedFrom ts s p → ReachedFrom ts s q

-- epsilon transitions lead from states of the set to states of the set
abbrev pub Closed : List ℕ → StateSet → Type 0
Closed table r = is_closed (automaton_of table).transitions r ≡ true

-- a closed set of as many words as a set may have, each of 32 bits
pub record ClosedSet (table : List ℕ) (r : StateSet) : Type 0 where
  pub size : length r ≡ set_most
  pub words : AllBelow word_range r
  pub closed : Closed table r

-- a set with the states that are reached from state s, and no other
pub record ClosureOf (table : List ℕ) (s : ℕ) (r : StateSet) : Type 0 where
  pub set : ClosedSet table r
  pub holds : contains r s ≡ true
  pub within : (q : ℕ) → contains r q ≡ true → ReachedFrom (automaton_of table).transitions s q

-- ---- the closures that are kept

-- how many there are at most
abbrev pub rows_most : ℕ
rows_most = 64

-- Row k holds the closure of state s where its owner is s + 1, and nothing known where its owner is 0.
pub record Closures (table : List ℕ) (kept : KeptClosures) : Type 0 where
  pub owners-are : length kept.owners ≡ rows_most
  pub rows_are : length kept.rows ≡ rows_most * set_most
  pub filled : (k s : ℕ) → k < rows_most → get_or kept.owners k 0 ≡ s + 1 → ClosureOf table s (stored_set set_most kept.rows k)

-- ---- one word of the table

-- the transition that begins at word i, if one does
abbrev pub starts_at : List ℕ → ℕ → List Transition
starts_at table i = transition_at (get_or table i 0) (drop (i + 1) table)

-- an epsilon transition at word i adds nothing to the set
abbrev pub ClosedAt : List ℕ → StateSet → ℕ → Type 0
ClosedAt table r i = (p q : ℕ) → Memᴰ (epsilon p q) (starts_at table i) → contains r p ≡ true → contains r q ≡ true

-- an epsilon transition at word i adds nothing, or it leads from a state on the stack
pub data SettledAt (table : List ℕ) (r : StateSet) (pending : List ℕ) (top i : ℕ) : Type 0 where
  satisfied : ClosedAt table r i → SettledAt table r pending top i
  waiting : (k : ℕ) → k < top → key_of (get_or table i 0) ≡ state_key (get_or pending k 0) → SettledAt table r pending top i

-- ---- the set and the stack

-- how many of the n states are not in the set
unfoldable pub missing : ℕ → StateSet → ℕ
missing n r = n - count (contains r) (list_from (λ q. q) 0 n)

-- all states of the set are the table's
abbrev pub StatesBelow : List ℕ → StateSet → Type 0
StatesBelow table r = (q : ℕ) → contains r q ≡ true → q < (automaton_of table).states

-- The first `top` words of the stack are states of the set. No state is pushed twice, so the stack has room.
pub record PendingStack (table : List ℕ) (r : StateSet) (pending : List ℕ) (top : ℕ) : Type 0 where
  pub size : length r ≡ set_most
  pub below : StatesBelow table r
  pub fits : (automaton_of table).states ≤ length pending
  pub few : missing (automaton_of table).states r + top ≤ (automaton_of table).states
  pub inside : (k : ℕ) → k < top → contains r (get_or pending k 0) ≡ true

-- The closure of state s while it is put into a set that was `base`: the set holds s, the states of `base`, and otherwise only
-- states that are reached from s; every word is settled, but for those with this key from word `from` on.
pub record Search (table : List ℕ) (base : StateSet) (s key from : ℕ) (r : StateSet) (pending : List ℕ) (top : ℕ) : Type 0 where
  pub words : AllBelow word_range r
  pub grown : (q : ℕ) → contains base q ≡ true → contains r q ≡ true
  pub holds : contains r s ≡ true
  pub reached : (q : ℕ) → contains r q ≡ true → (contains base q ≡ true) ⊎ ReachedFrom (automaton_of table).transitions s q
  pub settled : (i : ℕ) → i < length table → (key_of (get_or table i 0) ≡ key → i < from) → SettledAt table r pending top i

-- every word is settled
abbrev pub Settled : List ℕ → StateSet → ℕ → StateSet → List ℕ → ℕ → Type 0
Settled table base s r pending top = Search table base s 0 (length table) r pending top

-- ---- what the inner functions are given, and what they leave

-- a state number, and room for a state that is not in the set
pub record Puttable (r : StateSet) (pending : List ℕ) (top s : ℕ) : Type 0 where
  pub few : s < states_most
  pub fits : contains r s ≡ false → top < length pending

-- state s was put into the set and on the stack, if it was not in the set
pub record Put (r : StateSet) (pending : List ℕ) (top s : ℕ) (t : StateSet) (pushed : List ℕ) (height : ℕ) : Type 0 where
  pub states : t ≡ cond (contains r s) r (insert r s)
  pub stack : pushed ≡ cond (contains r s) pending (set pending top s)
  pub answer : height ≡ cond (contains r s) top (top + 1)

-- a checked table with its index, and a set with its stack
pub record Followable (table index : List ℕ) (r : StateSet) (pending : List ℕ) (top : ℕ) : Type 0 where
  pub checked : IndexedTable table index
  pub stack : PendingStack table r pending top

-- the same, and a state of the set
pub record FollowableAt (table index : List ℕ) (p : ℕ) (r : StateSet) (pending : List ℕ) (top : ℕ) : Type 0 where
  pub followable : Followable table index r pending top
  pub present : contains r p ≡ true

-- falls with each state that is pushed, and with each that is popped
abbrev pub work : List ℕ → StateSet → ℕ → ℕ
work table r top = missing (automaton_of table).states r + missing (automaton_of table).states r + top

-- Of whatever state the closure is: where only the words with this key from word `from` on were left, none is left now.
pub record Followed (table : List ℕ) (key from : ℕ) (r : StateSet) (pending : List ℕ) (top : ℕ) (t : StateSet) (pushed : List ℕ)
    (height : ℕ) : Type 0 where
  pub stack : PendingStack table t pushed height
  pub less : work table t height ≤ work table r top
  pub settled : (base : StateSet) (s : ℕ) → Closed table base → Search table base s key from r pending top
      → Settled table base s t pushed height

-- a checked table with its index, one of its states, and a stack with room for every state
pub record Closable (table index : List ℕ) (s : ℕ) (pending : List ℕ) : Type 0 where
  pub checked : IndexedTable table index
  pub state : s < (automaton_of table).states
  pub fits : (automaton_of table).states ≤ length pending

-- a state, and a closed set for its closure to be put into
pub record Addable (table index : List ℕ) (s : ℕ) (pending : List ℕ) (r : StateSet) : Type 0 where
  pub closable : Closable table index s pending
  pub set : ClosedSet table r
  pub below : StatesBelow table r

-- t has the states of r and of the closure of state s, and no other
pub record Added (table : List ℕ) (s : ℕ) (r t : StateSet) : Type 0 where
  pub set : ClosedSet table t
  pub grown : (q : ℕ) → contains r q ≡ true → contains t q ≡ true
  pub holds : contains t s ≡ true
  pub within : (q : ℕ) → contains t q ≡ true → (contains r q ≡ true) ⊎ ReachedFrom (automaton_of table).transitions s q

-- a state, and the closures that are kept
pub record Keepable (table index : List ℕ) (s : ℕ) (kept : KeptClosures) (pending : List ℕ) : Type 0 where
  pub closable : Closable table index s pending
  pub closures : Closures table kept

-- if the answer is true, the closure of state s is in the row with its number modulo `rows_most`
pub record Kept (table : List ℕ) (s : ℕ) (b : Bool) (kept : KeptClosures) : Type 0 where
  pub closures : Closures table kept
  pub closure : b ≡ true → ClosureOf table s (stored_set set_most kept.rows (s % rows_most))

-- the same, and a closed set for the closure to be put into
pub record Joinable (table index : List ℕ) (s : ℕ) (kept : KeptClosures) (pending : List ℕ) (r : StateSet) : Type 0 where
  pub keepable : Keepable table index s kept pending
  pub set : ClosedSet table r
  pub below : StatesBelow table r

-- the closure of state s was put into the set
pub record JoinedClosure (table : List ℕ) (s : ℕ) (r t : StateSet) (kept : KeptClosures) : Type 0 where
  pub closures : Closures table kept
  pub added : Added table s r t
