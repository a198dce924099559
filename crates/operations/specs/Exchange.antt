-- Exchange: its refusals (`exchange_refusals`, and 27), which nodes are recomputed (document 01's worked out) and from what, the answer,
-- both slices and the record of totals at exit. Nothing is assumed of the stored marks, nor of the record.
use Rattle.std.specs.Prelude.{ℕ, suc, ◌+◌, ◌*◌, Bool, not, cond, ◌||◌, length, get_or, take, drop, ltb}
use mathlib.Core.List.{List, [], ◌∷◌, ◌++◌, flatten, map}
use Rattle.words.specs.Lists.{list_from}
use Rattle.words.specs.Limits.{nodes_most}
use Rattle.words.specs.Refusal.{Refusals, refusal, some_holds}
use Rattle.words.specs.Chapter.{tree_refusals, too_high, holes_in}
use Rattle.words.specs.Postfix.{arity, span_of, is_ancestor, splice, value_on, stack_after, stack_given}
use Rattle.words.specs.Answer.{Answer, answer_of, exit_of}
use Rattle.automaton.specs.StateSet.{StateSet}
use Rattle.operations.specs.Marks.{size_of, node_set, node_sets, stored_set, same_words, refit}
use Rattle.operations.specs.ExchangeCall.{ExchangeCall}
use Rattle.operations.specs.Run.{wrong_count, marks_too_short, table_refusals, marked_refusals}
use Rattle.operations.specs.Totals.{Totals, totals_of, totals_exit, moved_totals, wrong_totals}

-- 9: "also if the used count exceeds the chapter slice"
unfoldable pub wrong_used_count : ℕ → ℕ → Bool
wrong_used_count n chapter_length = wrong_count n || ltb chapter_length n

-- 14: "no such element"
unfoldable pub no_element : ℕ → ℕ → Bool
no_element n i = not (ltb i n)

-- 15: "replacement of 0 or over 4,096 words, or no tree over the alphabet"
unfoldable pub no_replacement : List ℕ → List ℕ → Bool
no_replacement a xs = wrong_count (length xs) || some_holds (tree_refusals a xs)

-- 16: "result over 4,096 elements, the chapter slice or the marks slice", for a result of n elements
unfoldable pub result_too_long : List ℕ → ℕ → ℕ → ℕ → Bool
result_too_long table n chapter_length marks_length = ltb nodes_most n || ltb chapter_length n || marks_too_short table n marks_length

-- of a change in n used elements; "24 .. after 16 for the result" (document 02, U6); "26 a hole .. in a replacement, directly after
-- 15" (U8)
abbrev pub change_refusals : List ℕ → List ℕ → ℕ → List ℕ → ℕ → ℕ → ℕ → List ℕ → Refusals
change_refusals a table n used chapter_length marks_length i xs =
    (14, no_element n i) ∷ (15, no_replacement a xs) ∷ (26, holes_in a xs)
    ∷ (16, result_too_long table (length (splice a used i xs)) chapter_length marks_length)
    ∷ (24, too_high a (splice a used i xs)) ∷ []

-- of a call with this used count n and these used elements, slices of these lengths, an element and a replacement: all but 27, which
-- asks for marks and the record (below)
abbrev pub exchange_refusals : List ℕ → List ℕ → ℕ → List ℕ → ℕ → ℕ → ℕ → List ℕ → Refusals
exchange_refusals a table n used chapter_length marks_length i xs =
    table_refusals a table
    ++ ((9, wrong_used_count n chapter_length)
    ∷ (marked_refusals a table n used marks_length ++ change_refusals a table n used chapter_length marks_length i xs))

abbrev pub exchange_fault : List ℕ → List ℕ → ℕ → List ℕ → ℕ → ℕ → ℕ → List ℕ → ℕ
exchange_fault a table n used chapter_length marks_length i xs = refusal (exchange_refusals a table n used chapter_length marks_length i xs)

-- a node behind an exchange: its stored state set is kept, or its state set is recomputed
pub data Outcome : Type 0 where
  kept recomputed : StateSet → Outcome

abbrev pub set_in : Outcome → StateSet
set_in (kept r) = r
set_in (recomputed r) = r

abbrev pub is_recomputed : Outcome → ℕ
is_recomputed (kept r) = 0
is_recomputed (recomputed r) = 1

-- "the number worked out"
unfoldable pub recomputed_in : List Outcome → ℕ
recomputed_in [] = 0
recomputed_in (o ∷ os) = is_recomputed o + recomputed_in os

-- n nodes from j on that are not recomputed
abbrev pub kept_from : (ℕ → StateSet) → ℕ → ℕ → List Outcome
kept_from stored j n = list_from (λ i. kept (stored i)) j n

-- The nodes from j on, behind the replaced subtree, where `above` tells its ancestors. The stack holds the state sets of
-- the roots so far: those just recomputed, otherwise those stored. A node that is no ancestor keeps its state set. An
-- ancestor is recomputed; if its state set is as stored, work ends there, otherwise it continues.
unfoldable pub propagate : List ℕ → List ℕ → (ℕ → StateSet) → (ℕ → Bool) → ℕ → List ℕ → List StateSet → List Outcome
propagate a table stored above j [] stack = []
propagate a table stored above j (w ∷ ws) stack =
    let beside = kept (stored j) ∷ propagate a table stored above (suc j) ws (stored j ∷ drop (arity a w) stack) in
    let new = value_on a (node_set table) w stack in
    let last = recomputed new ∷ kept_from stored (suc j) (length ws) in
    let onward = recomputed new ∷ propagate a table stored above (suc j) ws (new ∷ drop (arity a w) stack) in
    let ancestor = cond (same_words new (stored j)) last onward in
    cond (above j) ancestor beside

-- the state set of a tree's root: the only one that is left on the stack
unfoldable pub root_set : List ℕ → List ℕ → List ℕ → StateSet
root_set a table xs = get_or (stack_after a (node_set table) xs []) 0 []

-- "If the replacement root's marks equal the old element's, no ancestor is worked out"
unfoldable pub outcomes_behind : List ℕ → List ℕ → (ℕ → StateSet) → List ℕ → ℕ → List ℕ → List Outcome
outcomes_behind a table stored used i xs =
    let unchanged = kept_from stored (i + 1) (length (drop (i + 1) used)) in
    let changed =
    propagate a table stored (is_ancestor a used i) (i + 1) (drop (i + 1) used)
    (root_set a table xs ∷ stack_given a stored 0 (take (span_of a used i).start used) []) in
    cond (same_words (root_set a table xs) (stored i)) unchanged changed

-- all nodes of the new tree, where `stored` gives each used element's stored state set
unfoldable pub outcomes_after : List ℕ → List ℕ → (ℕ → StateSet) → List ℕ → ℕ → List ℕ → List Outcome
outcomes_after a table stored used i xs =
    kept_from stored 0 (span_of a used i).start ++ (map recomputed (node_sets a table xs) ++ outcomes_behind a table stored used i xs)

module _ (c : ExchangeCall) where
  -- the used elements
  abbrev pub used : List ℕ
  used = take c.count c.chapter

  -- what the words of a call are refused for, whatever the record holds: all but 27
  abbrev pub words_refusals : Refusals
  words_refusals =
      exchange_refusals c.alphabet c.table c.count used (length c.chapter) (length c.marks) c.element c.replacement

  unfoldable pub words_fault : ℕ
  words_fault = refusal words_refusals

  unfoldable pub new_tree : List ℕ
  new_tree = splice c.alphabet used c.element c.replacement

  -- "Stored marks count as they stand": those of node i of the old tree
  abbrev pub stored_in : ℕ → StateSet
  stored_in i = stored_set (size_of c.table) c.marks i

  unfoldable pub outcomes : List Outcome
  outcomes = outcomes_after c.alphabet c.table stored_in used c.element c.replacement

  -- "The answer is the new element count and the number worked out"
  abbrev pub exchange_values : List ℕ
  exchange_values = length new_tree ∷ recomputed_in outcomes ∷ []

  -- the two slices behind an accepted call
  unfoldable pub new_chapter : List ℕ
  new_chapter = refit c.count new_tree c.chapter

  unfoldable pub new_marks : List ℕ
  new_marks = refit (c.count * size_of c.table) (flatten (map set_in outcomes)) c.marks

  -- the totals of "the used elements and their stored marks" (document 02, U10), before the exchange and behind it
  unfoldable pub old_totals : Totals
  old_totals = totals_of c.table (list_from stored_in 0 c.count)

  unfoldable pub new_totals : Totals
  new_totals = totals_of c.table (map set_in outcomes)

  -- with the record t that it is lent
  module _ (t : Totals) where
    -- "27 any of the three would come out of an exchange below zero or above that figure, last of all" (document 02, U10)
    abbrev pub refusals_of : Refusals
    refusals_of = words_refusals ++ ((27, wrong_totals t old_totals new_totals) ∷ [])

    unfoldable pub fault : ℕ
    fault = refusal refusals_of

    unfoldable pub exchange_answer : Answer
    exchange_answer = answer_of fault exchange_values

    -- the chapter slice at exit
    unfoldable pub exchange_chapter : List ℕ
    exchange_chapter = exit_of fault new_chapter c.chapter

    -- the marks slice at exit
    unfoldable pub exchange_marks : List ℕ
    exchange_marks = exit_of fault new_marks c.marks

    -- the record at exit: it is "changed by each exchange, every total by the difference that the exchange makes"
    unfoldable pub exchange_totals : Totals
    exchange_totals = totals_exit fault (moved_totals t old_totals new_totals) t
