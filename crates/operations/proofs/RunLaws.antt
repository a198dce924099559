-- What an accepted Run leaves: the state sets of the tree, in a slice of the same length; and a node's state set is that of its
-- subtree's tree.
use mathlib.Core.Path.{◌≡◌, ap, ◌∙◌}
use mathlib.Core.List.{List, [], flatten}
use Prim.Native.Nat.{ℕ, ◌*◌, ◌<◌, ◌≤◌}
use native.Mathlib.Omega.{arith}
use lib.ListN.{length, get_or, take, drop, length-append, length-drop}
use lib.Seq.{take_at}
use Rattle.words.specs.Limits.{alphabet_most}
use Rattle.words.specs.Tree.{Tree}
use Rattle.words.specs.Postfix.{subtree_of}
use Rattle.language.specs.Expression.{SubjectOf}
use Rattle.language.proofs.SubjectSubtreeLaws.{value-subject}
use Rattle.automaton.specs.Transition.{automaton_of}
use Rattle.automaton.specs.StateSet.{state_set}
use Rattle.automaton.proofs.TreeSets.{tree_set}
use Rattle.operations.specs.Marks.{size_of, final_of, node_set, node_sets}
use Rattle.operations.specs.Run.{run_fault, run_marks, run_exit}
use Rattle.operations.specs.Listing.{matches_in, matches_of}
use Rattle.operations.proofs.MarksLaws.{length-flatten, sized-node_sets, length-node_sets, stored-node_sets}

module _ (a table p : List ℕ) where
  pub length-words : length (flatten (node_sets a table p)) ≡ length p * size_of table
  length-words =
      length-flatten (size_of table) (node_sets a table p) (sized-node_sets a table p)
      ∙ ap (λ (n : ℕ). n * size_of table) (length-node_sets a table p)

  pub run-writes : (marks : List ℕ) → take (length p * size_of table) (run_marks a table p marks) ≡ flatten (node_sets a table p)
  unfolding run_marks
  run-writes marks = take_at (flatten (node_sets a table p)) (drop (length p * size_of table) marks) (length p * size_of table) length-words

  pub run_length : (marks : List ℕ) → length p * size_of table ≤ length marks → length (run_marks a table p marks) ≡ length marks
  unfolding run_marks
  run_length marks h =
      length-append (flatten (node_sets a table p)) (drop (length p * size_of table) marks)
      ∙ rw (length-words, length-drop (length p * size_of table) marks) (omega arith)

  pub run-exit : (marks : List ℕ) → run_fault a table p (length marks) ≡ 0 → run_exit a table p marks ≡ run_marks a table p marks
  unfolding run_exit
  run-exit marks h = rw h

  -- List's numbers over a slice that begins with the tree's state sets
  pub matches-node_sets : (marks : List ℕ) → take (length p * size_of table) marks ≡ flatten (node_sets a table p)
      → matches_of table (length p) marks ≡ matches_in (final_of table) 0 (node_sets a table p)
  unfolding matches_of
  matches-node_sets marks h = ap (matches_in (final_of table) 0) (stored-node_sets a table p marks h)

  -- the state set of a node is that of its subtree's tree
  pub node-tree : length a ≤ alphabet_most → (i : ℕ) (t : Tree) → i < length p → SubjectOf a (subtree_of a p i) t
      → get_or (node_sets a table p) i [] ≡ tree_set (automaton_of table) t
  unfolding node_sets node_set
  node-tree few i t l k = value-subject a few (λ f rs. state_set (automaton_of table) f rs) p i [] t l k
