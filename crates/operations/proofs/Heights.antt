-- Document 02's U6 holds: a span's height is that of its tree, the result's height is read in three runs with one stack, and
-- accepted chapters are at most 512 high.
use Prim.Native.Nat.{ℕ, ◌+◌, ◌≤◌}
use mathlib.Core.Path.{◌≡◌, ap, ◌∙◌}
use mathlib.Core.Bool.{false}
use mathlib.Core.List.{List}
use lib.ListN.{length, take, drop}
use lib.Dec.{ltb}
use borrow.Author.Tests.{ltb-false}
use Rattle.words.specs.Limits.{alphabet_most, height_most}
use Rattle.words.specs.Word.{node_kind, word_of}
use Rattle.words.specs.Tree.{Tree, height}
use Rattle.words.specs.Shape.{splice_by}
use Rattle.words.specs.Postfix.{arity, height_of, span_of, subtree_of}
use Rattle.words.specs.Chapter.{too_high}
use Rattle.words.proofs.RelabelLaws.{height-relabel}
use Rattle.words.proofs.AcceptedTree.{tree-accepted}
use Rattle.words.proofs.HeightLaws.{height-tree, root-span, height-runs}
use Rattle.words.proofs.AnswerLaws.{accepted-values}
use Rattle.language.specs.Expression.{SubjectOf}
use Rattle.language.proofs.SubjectLaws.{word_tree, subject-words}
use Rattle.operations.specs.Run.{run_fault, run_answer}
use Rattle.operations.specs.Exchange.{fault, new_tree, exchange_answer}
use Rattle.operations.specs.Demands.{Heights}
use Rattle.operations.proofs.AcceptedLaws.{run-accepted, call-accepted}

-- the words of a tree have its height
height-subject : (a ws : List ℕ) (t : Tree) → length a ≤ alphabet_most → SubjectOf a ws t → height_of a ws ≡ height t
height-subject a ws t m h =
    height-tree (arity a) ws (word_tree t) (subject-words a m ws t h) ∙ height-relabel (λ s. word_of node_kind s) t

-- 24 does not apply
low : (a ch : List ℕ) → too_high a ch ≡ false → height_of a ch ≤ height_most
unfolding too_high
low a ch h = ltb-false height_most (height_of a ch) h

pub heights : Heights
unfolding too_high splice_by run_answer exchange_answer new_tree
heights = record {
  span = λ a ch i t m h. height-subject a (subtree_of a ch i) t m h;
  root = λ a ch i h e. root-span (arity a) ch i (tree-accepted a ch h).shape e;
  result = λ a ch i xs. height-runs (arity a) (take (span_of a ch i).start ch) xs (drop (i + 1) ch);
  judged = λ a ch t m h. ap (ltb height_most) (height-subject a ch t m h);
  run = λ a table ch marks n cells h.
      low a ch (run-accepted a table ch (length marks) (accepted-values (run_fault a table ch (length marks)) _ _ h).0).marked.low;
  exchange = λ c t n m h.
      let k = call-accepted c t (accepted-values (fault c t) _ _ h).0 in
      (low _ _ k.marked.low, low _ _ k.change.low);
}
