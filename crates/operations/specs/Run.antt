-- Run: its refusals (`run_refusals`), the answer, and the marks slice at exit. The table of Run, List and Exchange is the one in
-- the slice that they are lent: their contracts apply these definitions to it (`table_in`).
use Rattle.std.specs.Prelude.{ℕ, ◌+◌, ◌*◌, Bool, length, drop, ltb}
use mathlib.Core.List.{List, [], ◌∷◌, ◌++◌, flatten}
use Rattle.std.specs.Int.Count.{ones}
use Rattle.words.specs.Limits.{outside, nodes_most}
use Rattle.words.specs.Refusal.{Refusals, refusal}
use Rattle.words.specs.Alphabet.{alphabet_refusals}
use Rattle.words.specs.Chapter.{tree_refusals, too_high, holes_in}
use Rattle.words.specs.Answer.{Answer, answer_of, exit_of}
use Rattle.automaton.specs.Table.{no_table}
use Rattle.operations.specs.Marks.{size_of, node_sets}

-- 9: "chapter of 0 or over 4,096 elements"
unfoldable pub wrong_count : ℕ → Bool
wrong_count n = outside nodes_most n

-- 12: "fewer marks than elements × S"; `marks_length` is the length of the marks slice
unfoldable pub marks_too_short : List ℕ → ℕ → ℕ → Bool
marks_too_short table n marks_length = ltb marks_length (n * size_of table)

-- of an alphabet and a table: Run, List and Exchange begin with them
abbrev pub table_refusals : List ℕ → List ℕ → Refusals
table_refusals a table = alphabet_refusals a ++ ((8, no_table a table) ∷ [])

-- of a chapter's elements, behind their count: Run, Exchange and `marklist` have them; "24 too high: in Run after 11; in Exchange
-- after 11 for the old" (document 02, U6)
abbrev pub height_refusals : List ℕ → List ℕ → Refusals
height_refusals a ch = tree_refusals a ch ++ ((24, too_high a ch) ∷ [])

-- "26 a hole in a chapter, after 11 and U6's 24" (document 02, U8)
abbrev pub element_refusals : List ℕ → List ℕ → Refusals
element_refusals a ch = height_refusals a ch ++ ((26, holes_in a ch) ∷ [])

-- of n elements and a marks slice of that length: Run and Exchange have them
abbrev pub marked_refusals : List ℕ → List ℕ → ℕ → List ℕ → ℕ → Refusals
marked_refusals a table n ch marks_length = element_refusals a ch ++ ((12, marks_too_short table n marks_length) ∷ [])

abbrev pub run_refusals : List ℕ → List ℕ → List ℕ → ℕ → Refusals
run_refusals a table ch marks_length =
    table_refusals a table ++ ((9, wrong_count (length ch)) ∷ marked_refusals a table (length ch) ch marks_length)

abbrev pub run_fault : List ℕ → List ℕ → List ℕ → ℕ → ℕ
run_fault a table ch marks_length = refusal (run_refusals a table ch marks_length)

-- the marks that an accepted Run leaves: "Marks beyond the chapter are untouched."
unfoldable pub run_marks : List ℕ → List ℕ → List ℕ → List ℕ → List ℕ
run_marks a table ch marks = flatten (node_sets a table ch) ++ drop (length ch * size_of table) marks

-- "the cells, the number of ones in all marks of the chapter"
unfoldable pub cells_in : List ℕ → ℕ
cells_in [] = 0
cells_in (w ∷ ws) = ones w + cells_in ws

-- "Run answers the element count and the cells"
unfoldable pub run_answer : List ℕ → List ℕ → List ℕ → List ℕ → Answer
run_answer a table ch marks =
    answer_of (run_fault a table ch (length marks)) (length ch ∷ cells_in (flatten (node_sets a table ch)) ∷ [])

-- the marks slice at exit
unfoldable pub run_exit : List ℕ → List ℕ → List ℕ → List ℕ → List ℕ
run_exit a table ch marks = exit_of (run_fault a table ch (length marks)) (run_marks a table ch marks) marks
