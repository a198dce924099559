-- The limits (document 01, "Words"), and what is outside of one.
use Rattle.std.specs.Prelude.{ℕ, Bool, ◌||◌, ltb, eqb}

-- "of 0 or over .."
abbrev pub outside : ℕ → ℕ → Bool
outside most n = eqb n 0 || ltb most n

-- "An alphabet has 1 to 64 words and 1 to 16 constants"
abbrev pub alphabet_most : ℕ
alphabet_most = 64

abbrev pub constants_most : ℕ
constants_most = 16

-- "rank, 0 to 4"
abbrev pub rank_most : ℕ
rank_most = 4

-- "a rule 1 to 64 words"
abbrev pub expression_most : ℕ
expression_most = 64

-- "a table at most 1,024 states and 2,048 words"
abbrev pub states_most : ℕ
states_most = 1024

abbrev pub table_most : ℕ
table_most = 2048

-- "the largest compiled table grows to 1,148 words" (document 02, U1), which "now holds for rules without" anything (U7)
abbrev pub compiled_most : ℕ
compiled_most = 1148

-- "a chapter 1 to 4,096 elements"
abbrev pub nodes_most : ℕ
nodes_most = 4096

-- "chapters of height 512 are marked, 513 refused" (document 02, U6)
abbrev pub height_most : ℕ
height_most = 512

-- "Cells are still the ones in the marks, at most 4,194,304" (document 02, U10): so many elements, each with so many states
abbrev pub cells_most : ℕ
cells_most = 4194304
