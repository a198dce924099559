-- What is known of a tree whose marks are judged as Run judges them: sizes, room for the sets of its pending roots, and its nodes.
use mathlib.Core.Path.{◌≡◌, ap, ◌∙◌}
use mathlib.Core.Bool.{false}
use mathlib.Core.List.{List}
use Prim.Native.Nat.{ℕ, ◌+◌, ◌-◌, ◌*◌, ◌<◌, ◌≤◌}
use native.Mathlib.Omega.{arith}
use native.Mathlib.Nat.{suc-mul}
use lib.ListN.{length, take, drop}
use borrow.Author.Tests.{ltb-false}
use Rattle.words.specs.Limits.{nodes_most, height_most}
use Rattle.words.specs.Chapter.{tree_fault, too_high}
use Rattle.words.specs.Postfix.{arity, height_of, roots_of}
use Rattle.words.proofs.AcceptedAlphabet.{alphabet-accepted, arity-most}
use Rattle.words.proofs.AcceptedTree.{tree-accepted}
use Rattle.words.proofs.PendingRoots.{roots-pending}
use Rattle.operations.specs.Marks.{size_of, stored_set}
use Rattle.operations.proofs.AcceptedLaws.{RunAccepted, run-accepted}
use Rattle.operations.proofs.MarksLaws.{length-stored_set}
use Rattle.sets.specs.Size.{set_most, marks_most}
use Rattle.sets.proofs.SizeLaws.{set-small, words-few}
use Rattle.sets.proofs.StoredLaws.{row_inside, stored-part}
use Rattle.forecast.specs.Room.{sets_most}
use Rattle.forecast.specs.Behind.{Marked}

-- 24
pub low-height : (a ch : List ℕ) → too_high a ch ≡ false → height_of a ch ≤ height_most
unfolding too_high
low-height a ch h = ltb-false height_most (height_of a ch) h

module _ {a table ch marks : List ℕ} (ok : Marked a table ch marks) where
  facts : RunAccepted a table ch (length marks)
  facts = run-accepted a table ch (length marks) ok.accepted

  pub run-tree : tree_fault a ch ≡ 0
  run-tree = facts.marked.tree

  pub run-few : length ch ≤ nodes_most
  run-few = facts.counted.few

  pub run-size : size_of table ≤ set_most
  run-size = set-small a table facts.checked.automaton

  pub run_room : (i : ℕ) → length (roots_of a ch i) ≤ sets_most
  run_room i =
      let h = low-height a ch facts.marked.low in
      omega (
        arith,
        h,
        roots-pending (arity a) (arity-most (alphabet-accepted a facts.checked.alphabet)) ch i (tree-accepted a ch run-tree).shape,
      )

  -- node i's words in the marks
  module _ (i : ℕ) (l : i < length ch) (size : ℕ) (s : size ≡ size_of table) where
    pub row_fits : i * size + size ≤ length marks
    row_fits = rw s (row_inside i (length ch) (size_of table) (length marks) l facts.marked.marks)

    pub row_small : i * size + size ≤ marks_most
    row_small = row_inside i (length ch) size marks_most l (words-few (length ch) size run-few (rw s run-size))

    pub row_is : take (i * size + size - i * size) (drop (i * size) marks) ≡ stored_set (size_of table) marks i
    row_is = stored-part size (size_of table) marks i s

    pub row-size : length (take (i * size + size - i * size) (drop (i * size) marks)) ≡ size_of table
    row-size =
        ap length row_is ∙ length-stored_set (size_of table) marks i (rw (suc-mul i (size_of table), ← s) row_fits)
