-- Tables (document 01, kinds 8 to 11; document 02, U1): the table in a slice, and which words are a table for an alphabet,
-- refusal 8.
use Rattle.std.specs.Prelude.{ℕ, zero, suc, ◌<◌, ◌≤◌, ◌≡◌, List, [], ◌∷◌, Bool, false, not, cond, ◌&&◌, ◌||◌, length, get_or, take, drop, ltb, leb, eqb}
use Rattle.words.specs.Lists.{All, AllBelow}
use Rattle.words.specs.Limits.{outside, states_most, table_most}
use Rattle.words.specs.Word.{head_kind, transition_kind, epsilon_kind, source_kind, length_kind, has_kind}
use Rattle.words.specs.Word.{is_of, symbol_above, count_above, state_above, state_below, length_below}
use Rattle.words.specs.Alphabet.{is_symbol, rank_of}
use Rattle.automaton.specs.Transition.{Transition, Automaton, on_symbol, epsilon}

-- a length word with a count that fits a slice of n words. 8 also applies "where the word is missing, or the count is under 2,
-- over 2,048 or over the slice" (U1)
abbrev pub is_length : ℕ → ℕ → Bool
is_length n w = is_of length_kind w && leb 2 (length_below w) && leb (length_below w) table_most && leb (length_below w) n

-- how many words of a slice are the table: what its second word says, or none
unfoldable pub table_word_count : List ℕ → ℕ
table_word_count slice = let second = get_or slice 1 0 in cond (is_length (length slice) second) (length_below second) 0

-- the table in a slice: "Run, List and Exchange use that many words and ignore what follows"
unfoldable pub table_in : List ℕ → List ℕ
table_in slice = take (table_word_count slice) slice

-- "head wrong, state count 0 or over 1,024, a state not below it"
unfoldable pub is_head : ℕ → Bool
is_head w = is_of head_kind w && not (outside states_most (count_above w)) && ltb (state_below w) (count_above w)

-- a symbol move or an empty move over n states: a known symbol, and states below n
abbrev pub is_transition : List ℕ → ℕ → ℕ → Bool
is_transition a n w =
    is_of transition_kind w && is_symbol a (symbol_above w) && ltb (state_below w) n
    || is_of epsilon_kind w && ltb (state_above w) n && ltb (state_below w) n

-- the word may stand where k part states are still to come
unfoldable pub is_table_word : List ℕ → ℕ → ℕ → ℕ → Bool
is_table_word a n zero w = is_transition a n w
is_table_word a n (suc k) w = is_of source_kind w && ltb (state_below w) n

-- how many part states are to come behind it: a symbol move is followed by rank-many
unfoldable pub sources_left : List ℕ → ℕ → ℕ → ℕ
sources_left a zero w = cond (has_kind transition_kind w) (rank_of a (symbol_above w)) 0
sources_left a (suc k) w = k

unfoldable pub are_transitions : List ℕ → ℕ → ℕ → List ℕ → Bool
are_transitions a n k [] = eqb k 0
are_transitions a n k (w ∷ ws) = is_table_word a n k w && are_transitions a n (sources_left a k w) ws

-- these words are a table for the alphabet, no more and no fewer: a head, the length word, and transitions
unfoldable pub is_table : List ℕ → List ℕ → Bool
is_table a [] = false
is_table a (h ∷ ws) = eqb (table_word_count (h ∷ ws)) (length (h ∷ ws)) && is_head h && are_transitions a (count_above h) 0 (drop 1 ws)

-- 8: "table empty or over 2,048 words, head wrong, state count 0 or over 1,024, a state not below it, unknown symbol,
-- wrong following words, spare bits set or any other kind", of the table in the slice: where the length word is missing or
-- wrong, it is empty
unfoldable pub no_table : List ℕ → List ℕ → Bool
no_table a table = not (is_table a table)

-- The same of automata: each symbol is known and stands over rank-many part states, and each state is below the state
-- count. The words that 8 does not refuse are exactly the tables of such automata, of at most 2,048 words (law
-- `is_table-tables`).
abbrev pub TransitionOver : List ℕ → ℕ → Transition → Type 0
TransitionOver a n (on_symbol f ps q) = (f < length a) × (rank_of a f ≡ length ps) × AllBelow n ps × (q < n)
TransitionOver a n (epsilon p q) = (p < n) × (q < n)

abbrev pub TransitionsOver : List ℕ → ℕ → List Transition → Type 0
TransitionsOver a n = All (TransitionOver a n)

pub record AutomatonOver (a : List ℕ) (A : Automaton) : Type 0 where
  pub some : 0 < A.states
  pub most : A.states ≤ states_most
  pub final : A.final < A.states
  pub transitions : TransitionsOver a A.states A.transitions
