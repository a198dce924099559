-- Compile: its refusals (`compile_refusals`), the answer, and the table slice at exit.
use Rattle.std.specs.Prelude.{ℕ, List, [], ◌∷◌, ◌++◌, Bool, length, ltb}
use Rattle.words.specs.Lists.{written_over}
use Rattle.words.specs.Limits.{states_most, table_most}
use Rattle.words.specs.Refusal.{Refusals, refusal}
use Rattle.words.specs.Alphabet.{alphabet_refusals}
use Rattle.words.specs.ExpressionWords.{expression_refusals}
use Rattle.words.specs.Answer.{Answer, answer_of, exit_of}
use Rattle.automaton.specs.Transition.{table_words}
use Rattle.automaton.specs.Numbering.{compiled}

-- the table of a rule
abbrev pub compiled_table : List ℕ → List ℕ → List ℕ
compiled_table a e = table_words (compiled a e)

-- 6: "over 1,024 states"
unfoldable pub too_many_states : List ℕ → List ℕ → Bool
too_many_states a e = ltb states_most (compiled a e).states

-- 25: "table over 2,048 words" (document 02, U7), the length word among them
unfoldable pub too_many_words : List ℕ → List ℕ → Bool
too_many_words a e = ltb table_most (length (compiled_table a e))

-- 7: "table slice shorter than the table"; `table_length` is the slice's length
unfoldable pub table_too_long : List ℕ → List ℕ → ℕ → Bool
table_too_long a e table_length = ltb table_length (length (compiled_table a e))

-- of an alphabet and a rule
abbrev pub rule_refusals : List ℕ → List ℕ → Refusals
rule_refusals a e = alphabet_refusals a ++ (expression_refusals a e ++ ((6, too_many_states a e) ∷ []))

-- and of the rule's table, however long the slice is for it
abbrev pub rule_table_refusals : List ℕ → List ℕ → Refusals
rule_table_refusals a e = rule_refusals a e ++ ((25, too_many_words a e) ∷ [])

abbrev pub compile_refusals : List ℕ → List ℕ → ℕ → Refusals
compile_refusals a e table_length = rule_table_refusals a e ++ ((7, table_too_long a e table_length) ∷ [])

abbrev pub compile_fault : List ℕ → List ℕ → ℕ → ℕ
compile_fault a e table_length = refusal (compile_refusals a e table_length)

-- Compile "answers its word count"
unfoldable pub compile_answer : List ℕ → List ℕ → List ℕ → Answer
compile_answer a e slice = answer_of (compile_fault a e (length slice)) (length (compiled_table a e) ∷ [])

-- the table slice at exit: "Words of the slice behind the table are untouched."
unfoldable pub compile_exit : List ℕ → List ℕ → List ℕ → List ℕ
compile_exit a e slice = exit_of (compile_fault a e (length slice)) (written_over (compiled_table a e) slice) slice
