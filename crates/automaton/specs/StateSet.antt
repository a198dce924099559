-- State sets (document 01's marks of one element): a node's set from its children's.
use Rattle.std.specs.Prelude.{ℕ, zero, suc, ◌+◌, ◌/◌, ◌%◌, ◌^◌, List, [], ◌∷◌, Bool, true, false, not, cond, ◌&&◌, ◌||◌, get_or, set, replicate, eqb}
use Rattle.std.specs.Int.Bits.{bit_or}
use Rattle.automaton.specs.Transition.{Transition, Automaton, on_symbol, epsilon}

-- the words of one state set
abbrev pub StateSet : Type 0
StateSet = List ℕ

-- "S is the state count divided by 32, rounded up."
unfoldable pub size_for : ℕ → ℕ
size_for states = (states + 31) / 32

-- "bit s mod 32 (bit 0 lowest) of word s / 32 is set"
unfoldable pub contains : StateSet → ℕ → Bool
contains r s = eqb (get_or r (s / 32) 0 / 2 ^ (s % 32) % 2) 1

unfoldable pub insert : StateSet → ℕ → StateSet
insert r s = set r (s / 32) (bit_or (get_or r (s / 32) 0) (2 ^ (s % 32)))

-- the part states are all in the children's sets
unfoldable pub all_contained : List ℕ → List StateSet → Bool
all_contained [] [] = true
all_contained [] (r ∷ rs) = false
all_contained (p ∷ ps) [] = false
all_contained (p ∷ ps) (r ∷ rs) = contains r p && all_contained ps rs

-- the set with the target of a symbol move on f "whose part states are all marked in its parts"
abbrev pub symbol_step : ℕ → List StateSet → Transition → StateSet → StateSet
symbol_step f rs (on_symbol g ps q) r = cond (eqb g f && all_contained ps rs) (insert r q) r
symbol_step f rs (epsilon p q) r = r

-- the set with the target of an empty move from one of its states
abbrev pub epsilon_step : Transition → StateSet → StateSet
epsilon_step (on_symbol g ps q) r = r
epsilon_step (epsilon p q) r = cond (contains r p) (insert r q) r

-- one pass over the symbol moves on f
unfoldable pub symbol_pass : ℕ → List StateSet → List Transition → StateSet → StateSet
symbol_pass f rs [] r = r
symbol_pass f rs (t ∷ ts) r = symbol_pass f rs ts (symbol_step f rs t r)

-- one pass over the empty moves
unfoldable pub epsilon_pass : List Transition → StateSet → StateSet
epsilon_pass [] r = r
epsilon_pass (t ∷ ts) r = epsilon_pass ts (epsilon_step t r)

-- an empty move from a state of the set leads to a state of the set
abbrev pub closed_under : Transition → StateSet → Bool
closed_under (on_symbol g ps q) r = true
closed_under (epsilon p q) r = not (contains r p) || contains r q

abbrev pub is_closed : List Transition → StateSet → Bool
is_closed [] r = true
is_closed (t ∷ ts) r = closed_under t r && is_closed ts r

-- passes until the set is closed under the empty moves, at most n
unfoldable pub epsilon_closure : ℕ → List Transition → StateSet → StateSet
epsilon_closure zero ts r = r
epsilon_closure (suc n) ts r = let onward = epsilon_closure n ts (epsilon_pass ts r) in cond (is_closed ts r) r onward

-- "for every state s, bit s mod 32 of word s / 32 is set exactly if s is reached": by symbol moves, and then by empty
-- moves. As many passes as there are states close every set: the law `state_set-reached` says that a state is in this set
-- exactly if it is `Reached`.
unfoldable pub state_set : Automaton → ℕ → List StateSet → StateSet
state_set A f rs =
    epsilon_closure A.states A.transitions (symbol_pass f rs A.transitions (replicate (size_for A.states) 0))
