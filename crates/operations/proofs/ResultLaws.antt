-- The result of an accepted Exchange passes Run's refusals.
use mathlib.Core.Path.{◌≡◌}
use mathlib.Core.Bool.{true}
use mathlib.Core.List.{List, ◌++◌}
use Prim.Native.Nat.{ℕ, ◌+◌, ◌<◌}
use native.Mathlib.Omega.{arith}
use lib.ListN.{length, take, drop, length-append, take-append-drop}
use Rattle.words.specs.Lists.{all}
use Rattle.words.specs.Chapter.{is_node}
use Rattle.words.specs.Shape.{splice_by}
use Rattle.words.specs.Postfix.{arity, span_of, splice}
use Rattle.words.proofs.TestLaws.{all_left, all_right, all_append}
use Rattle.words.proofs.AcceptedTree.{AcceptedTree, tree-accepted, accepted-tree}
use Rattle.words.proofs.PostfixLaws.{splice-tree}
use Rattle.words.proofs.HoleLaws.{splice-holes}
use Rattle.operations.proofs.AcceptedLaws.{RunAccepted, ExchangeAccepted}

module _ (a table used : List ℕ) (chapter_length marks_length i : ℕ) (xs : List ℕ)
    (k : ExchangeAccepted a table (length used) used chapter_length marks_length i xs) where
  abbrev start : ℕ
  start = (span_of a used i).start

  old : AcceptedTree a used
  old = tree-accepted a used k.marked.tree

  new : AcceptedTree a xs
  new = k.change.replacement.tree

  nodes : all (is_node a) (splice a used i xs) ≡ true
  unfolding splice_by
  nodes =
      let ends : (j : ℕ) → all (is_node a) (take j used ++ drop j used) ≡ true = λ j. rw (take-append-drop j used) old.nodes in
      all_append (is_node a) (take start used) (xs ++ drop (i + 1) used)
      (all_left (is_node a) (take start used) (drop start used) (ends start))
      (all_append (is_node a) xs (drop (i + 1) used) new.nodes
      (all_right (is_node a) (take (i + 1) used) (drop (i + 1) used) (ends (i + 1))))

  some : 0 < length (splice a used i xs)
  unfolding splice_by
  some = let l = k.change.replacement.counted.some in simp length-append (omega arith)

  pub result-accepted : RunAccepted a table (splice a used i xs) marks_length
  result-accepted = record {
    checked = k.checked;
    counted = record { some = some; few = k.change.fits.few };
    marked = record {
      tree = accepted-tree a (splice a used i xs)
          (record { nodes = nodes; shape = splice-tree (arity a) used i old.shape k.change.element xs new.shape });
      low = k.change.low;
      free = splice-holes a used i xs k.marked.free k.change.free;
      marks = k.change.fits.marks;
    };
  }
