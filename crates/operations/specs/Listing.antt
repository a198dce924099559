-- List: its refusals (`list_refusals`), the answer, and the list slice at exit.
use Rattle.std.specs.Prelude.{ℕ, suc, List, [], ◌∷◌, ◌++◌, Bool, cond, length, ltb}
use Rattle.words.specs.Lists.{list_from, written_over}
use Rattle.words.specs.Refusal.{Refusals, refusal}
use Rattle.words.specs.Answer.{Answer, answer_of, exit_of}
use Rattle.automaton.specs.StateSet.{StateSet, contains}
use Rattle.operations.specs.Marks.{size_of, final_of, stored_set}
use Rattle.operations.specs.Run.{wrong_count, marks_too_short, table_refusals}

-- 13: "list slice shorter than the element count"
unfoldable pub list_too_short : ℕ → ℕ → Bool
list_too_short n list_length = ltb list_length n

-- `marks_length` and `list_length` are the lengths of the marks and of the list slice
abbrev pub list_refusals : List ℕ → List ℕ → ℕ → ℕ → ℕ → Refusals
list_refusals a table n marks_length list_length =
    table_refusals a table ++ ((9, wrong_count n) ∷ (12, marks_too_short table n marks_length) ∷ (13, list_too_short n list_length) ∷ [])

abbrev pub list_fault : List ℕ → List ℕ → ℕ → ℕ → ℕ → ℕ
list_fault a table n marks_length list_length = refusal (list_refusals a table n marks_length list_length)

-- the numbers, from i on, of the state sets that hold the final state: "A hit is an element whose final state is marked."
unfoldable pub matches_in : ℕ → ℕ → List StateSet → List ℕ
matches_in final i [] = []
matches_in final i (r ∷ rs) = let rest = matches_in final (suc i) rs in cond (contains r final) (i ∷ rest) rest

-- "hit numbers ascending" of n elements with these marks
unfoldable pub matches_of : List ℕ → ℕ → List ℕ → List ℕ
matches_of table n marks = matches_in (final_of table) 0 (list_from (stored_set (size_of table) marks) 0 n)

-- "answers how many"
unfoldable pub list_answer : List ℕ → List ℕ → ℕ → List ℕ → List ℕ → Answer
list_answer a table n marks slice =
    answer_of (list_fault a table n (length marks) (length slice)) (length (matches_of table n marks) ∷ [])

-- the list slice at exit: "leaves the rest untouched"
unfoldable pub list_exit : List ℕ → List ℕ → ℕ → List ℕ → List ℕ → List ℕ
list_exit a table n marks slice =
    exit_of (list_fault a table n (length marks) (length slice)) (written_over (matches_of table n marks) slice) slice
