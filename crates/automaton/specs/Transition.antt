-- Bottom-up tree automata with epsilon transitions, and their words (document 01's table, kinds 8 to 11, and document 02's
-- length word, kind 12): the encoder and the decoder.
use Rattle.std.specs.Prelude.{ℕ, ◌+◌, List, [], ◌∷◌, ◌++◌, map, cond, length, get_or, drop}
use Rattle.words.specs.Word.{head_kind, transition_kind, epsilon_kind, source_kind, length_kind, has_kind, above_state}
use Rattle.words.specs.Word.{word_of, symbol_above, count_above, state_above, state_below}

-- a symbol move: on this symbol, from these states of the children, to a state; an empty move: from a state to a state
pub data Transition : Type 0 where
  on_symbol : ℕ → List ℕ → ℕ → Transition
  epsilon : ℕ → ℕ → Transition

-- states are numbered from 0
pub record Automaton : Type 0 where
  pub states : ℕ
  pub final : ℕ
  pub transitions : List Transition

-- "symbol move, followed by rank-many words of kind 11": bits 17..10 symbol, bits 9..0 target; a part state: bits 9..0.
-- "empty move": bits 19..10 from, bits 9..0 to.
abbrev pub source_words : List ℕ → List ℕ
source_words ps = map (λ p. word_of source_kind p) ps

abbrev pub transition_words : Transition → List ℕ
transition_words (on_symbol f ps q) = word_of transition_kind (above_state f q) ∷ source_words ps
transition_words (epsilon p q) = word_of epsilon_kind (above_state p q) ∷ []

abbrev pub transitions_words : List Transition → List ℕ
transitions_words [] = []
transitions_words (t ∷ ts) = transition_words t ++ transitions_words ts

-- "table head": bits 20..10 state count, bits 9..0 final state
abbrev pub head_word : Automaton → ℕ
head_word A = word_of head_kind (above_state A.states A.final)

-- "A word of kind 12 with the table's word count in bits 11..0 becomes the second word" (U1)
abbrev pub length_word : ℕ → ℕ
length_word count = word_of length_kind count

-- the table of an automaton: its head, the length word, which counts all of the table's words, and its transitions in order
abbrev pub table_words : Automaton → List ℕ
table_words A = let moves = transitions_words A.transitions in head_word A ∷ length_word (2 + length moves) ∷ moves

-- The decoder: a symbol move takes the part states that follow it.
abbrev pub sources_at : List ℕ → List ℕ
sources_at [] = []
sources_at (w ∷ ws) = let rest = sources_at ws in cond (has_kind source_kind w) (state_below w ∷ rest) []

-- the transition that begins with word w, before the words ws, if one does
abbrev pub transition_at : ℕ → List ℕ → List Transition
transition_at w ws =
    cond (has_kind transition_kind w) (on_symbol (symbol_above w) (sources_at ws) (state_below w) ∷ [])
    (cond (has_kind epsilon_kind w) (epsilon (state_above w) (state_below w) ∷ []) [])

unfoldable pub transitions_at : List ℕ → List Transition
transitions_at [] = []
transitions_at (w ∷ ws) = transition_at w ws ++ transitions_at ws

-- the automaton of a table's words: the transitions stand behind the head and the length word
unfoldable pub automaton_of : List ℕ → Automaton
automaton_of table = record {
  states = count_above (get_or table 0 0);
  final = state_below (get_or table 0 0);
  transitions = transitions_at (drop 2 table);
}
