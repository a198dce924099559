-- What the compiler's inner functions are given, and how many states and words there are at most. It serves these functions.
use Rattle.std.specs.Prelude.{ℕ, ◌+◌, ◌*◌, ◌≤◌, ◌≡◌, List, length}
use Rattle.words.specs.Limits.{constants_most, expression_most}
use Rattle.words.specs.Refusal.{refusal}
use Rattle.words.specs.Alphabet.{constants_of}
use Rattle.operations.specs.Compile.{rule_refusals}
use Rattle.emitter.specs.Writing.{last_index}
use Rattle.emitter.specs.Emission.{own_words_most}

-- the most states of a word: its exit, and an entry for each constant
abbrev pub word_states_most : ℕ
word_states_most = 1 + constants_most

-- the most words of the own transitions of all words of an expression
abbrev pub all_own_words_most : ℕ
all_own_words_most = expression_most * own_words_most

-- the most words of a table: its head, the length word, a symbol move of each constant, and the own transitions
abbrev pub compiled_words_most : ℕ
compiled_words_most = 2 + constants_most + all_own_words_most

-- the number of an alphabet's constants, by which the states of a word are counted
pub record StatesCountable (a : List ℕ) (count : ℕ) : Type 0 where
  pub constants : count ≡ length (constants_of a)
  pub few : count ≤ constants_most

-- an alphabet and a rule that refusals 1 to 6 let pass, the alphabet's constants, and an index from which on the rule's own
-- transitions may be written
pub record Compilable (a cs e : List ℕ) (at : ℕ) : Type 0 where
  pub accepted : refusal (rule_refusals a e) ≡ 0
  pub constants : cs ≡ constants_of a
  pub fits : at + all_own_words_most ≤ last_index
