-- Refusals that speak of the length of a result, and of how many elements are used.
use mathlib.Core.Path.{◌≡◌, ap, sym}
use mathlib.Core.Bool.{false}
use mathlib.Core.List.{List}
use Prim.Native.Nat.{ℕ, ◌+◌, ◌-◌, ◌*◌, ◌<◌, ◌≤◌}
use lib.ListN.{length, take}
use lib.Seq.{length-take-le}
use Rattle.words.specs.Limits.{nodes_most}
use Rattle.words.specs.Shape.{Span}
use Rattle.words.specs.Postfix.{arity, span_of, splice}
use Rattle.words.specs.Chapter.{tree_fault}
use Rattle.words.proofs.AcceptedTree.{accepted-tree}
use Rattle.words.proofs.PostfixLaws.{start-le, splice-count}
use Rattle.operations.specs.Marks.{size_of}
use Rattle.operations.specs.Run.{wrong_count}
use Rattle.operations.specs.Exchange.{wrong_used_count, no_replacement, result_too_long}
use Rattle.operations.proofs.ValueLaws.{words-most}
use Rattle.operations.proofs.AcceptedLaws.{count-right, used-count-right, replacement-right, result-right}

-- the result's length: what stands before the element's subtree, the replacement, and what stands behind
pub result_length : (a used : List ℕ) (i : ℕ) (xs : List ℕ) (s : Span) → i < length used → s ≡ span_of a used i
    → length (splice a used i xs) ≡ s.start + length xs + (length used - i - 1)
result_length a used i xs s h e = sym (splice-count (arity a) used i s.start xs h (ap (λ (s : Span). s.start) e))

pub begins_before : (a used : List ℕ) (i : ℕ) (s : Span) → s ≡ span_of a used i → s.start ≤ i
begins_before a used i s e = rw e (start-le (arity a) used i)

-- a replacement is a tree of at most 4,096 words
pub replacement_few : (a xs : List ℕ) → no_replacement a xs ≡ false → length xs ≤ nodes_most
replacement_few a xs h = (replacement-right a xs h).counted.few

pub replacement_tree : (a xs : List ℕ) → no_replacement a xs ≡ false → tree_fault a xs ≡ 0
replacement_tree a xs h = accepted-tree a xs (replacement-right a xs h).tree

-- a result that fits has at most 4,096 elements
pub result_few : (table : List ℕ) (n chapter_length marks_length : ℕ) → result_too_long table n chapter_length marks_length ≡ false
    → n ≤ nodes_most
result_few table n chapter_length marks_length h = (result-right table n chapter_length marks_length h).few

-- a count that is right is at most 4,096
pub count_few : (n : ℕ) → wrong_count n ≡ false → n ≤ nodes_most
count_few n h = (count-right n h).few

-- a state set has at most 64 words
pub words_few : (table : List ℕ) (n : ℕ) → n ≤ nodes_most → n * size_of table ≤ 262144
words_few table n h = words-most table n h

-- so many elements are used as the count says
pub used_length : (n : ℕ) (chapter : List ℕ) → wrong_used_count n (length chapter) ≡ false → length (take n chapter) ≡ n
used_length n chapter h = length-take-le n chapter (used-count-right n (length chapter) h).within

pub used_few : (n : ℕ) (chapter : List ℕ) → wrong_used_count n (length chapter) ≡ false → length (take n chapter) ≤ nodes_most
used_few n chapter h = rw (used_length n chapter h) (used-count-right n (length chapter) h).counted.few

-- what judging a change asks of its parts
pub ruleset change_parts = (result_length, begins_before, replacement_few, replacement_tree, result_few)
