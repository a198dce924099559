-- Run with any table that 8 lets pass, compiled or not: a bit of the marks is set exactly if its state is reached, at an
-- element from its children's marks, and by the tree of its subtree. A table that Compile writes is such a table (TableSlices).
use Prim.Native.Nat.{ℕ, ◌*◌, ◌<◌, ◌≤◌}
use mathlib.Core.Path.{◌≡◌, sym, ap, ◌∙◌, subst}
use mathlib.Core.Logic.{◌↔◌}
use mathlib.Core.Bool.{true}
use mathlib.Core.List.{List, [], ◌∷◌, map}
use native.Mathlib.Omega.{arith}
use lib.ListN.{length, get_or, take, drop}
use Rattle.words.specs.Tree.{Tree}
use Rattle.words.specs.Limits.{alphabet_most}
use Rattle.words.specs.Chapter.{symbol_of}
use Rattle.words.specs.Postfix.{arity, subtree_of, children_of}
use Rattle.words.specs.ExactlyOne.{ExactlyOne}
use Rattle.words.specs.Answer.{accepted}
use Rattle.words.proofs.AcceptedAlphabet.{alphabet-accepted}
use Rattle.words.proofs.AcceptedTree.{AcceptedTree, tree-accepted}
use Rattle.words.proofs.ChildLaws.{values-children}
use Rattle.words.proofs.StackLaws.{Right}
use Rattle.words.proofs.AnswerLaws.{accepted-values}
use Rattle.language.specs.Expression.{SubjectOf}
use Rattle.language.proofs.SubjectSubtreeLaws.{exactly-one-subtree}
use Rattle.automaton.specs.Transition.{automaton_of}
use Rattle.automaton.specs.StateSet.{StateSet, contains}
use Rattle.automaton.specs.Reached.{Reaches}
use Rattle.automaton.specs.Table.{is_table}
use Rattle.automaton.proofs.ClosureLaws.{TargetsBelow, targets-below, state_set-reached, state_set-beyond}
use Rattle.automaton.proofs.TreeSets.{tree_set, tree_set-reaches}
use Rattle.automaton.proofs.TableLaws.{is_table-automaton}
use Rattle.operations.specs.Marks.{size_of, node_set, ReachedSet, node_sets, stored_set}
use Rattle.operations.specs.Run.{run_fault, run_marks, run_answer, run_exit}
use Rattle.operations.proofs.AcceptedLaws.{RunAccepted, run-accepted}
use Rattle.operations.proofs.MarksLaws.{length-node_set, sized-node_sets, length-node_sets, stored_set-flatten, stored-right}
use Rattle.operations.proofs.RunLaws.{run-writes, run-exit, node-tree}

-- ---- any table

module _ (a table : List ℕ) (few : length a ≤ alphabet_most) (checked : is_table a table ≡ true) where
  below : TargetsBelow (automaton_of table).states (automaton_of table).transitions
  below = targets-below (is_table-automaton a (omega arith) table checked)

  pub node_set-reached : (w : ℕ) (rs : List StateSet) → ReachedSet table (symbol_of w) rs (node_set table w rs)
  unfolding node_set
  node_set-reached w rs = record {
    size = length-node_set table w rs;
    reached = state_set-reached (automaton_of table) (symbol_of w) rs below;
    beyond = state_set-beyond (automaton_of table) (symbol_of w) rs below;
  }

-- ---- an accepted Run

-- what stands in a marks slice for every element of the chapter
pub record MarkedChapter (a table ch marks : List ℕ) : Type 0 where
  -- each element's words follow from those of its children
  pub sets : (i : ℕ) → i < length ch
      → ReachedSet table (symbol_of (get_or ch i 0)) (map (stored_set (size_of table) marks) (children_of a ch i))
      (stored_set (size_of table) marks i)
  -- its subtree is the words of exactly one tree, and its words hold the states that this tree reaches
  pub subtrees : (i : ℕ) → i < length ch → ExactlyOne (SubjectOf a (subtree_of a ch i))
  pub reaches : (i : ℕ) (t : Tree) → i < length ch → SubjectOf a (subtree_of a ch i) t → (q : ℕ)
      → (contains (stored_set (size_of table) marks i) q ≡ true) ↔ Reaches (automaton_of table).transitions q t

module _ (a table ch marks : List ℕ) (n cells : ℕ) (h : run_answer a table ch marks ≡ accepted (n ∷ cells ∷ [])) where
  fine : run_fault a table ch (length marks) ≡ 0
  unfolding run_answer
  fine = (accepted-values (run_fault a table ch (length marks)) _ _ h).0

  run : RunAccepted a table ch (length marks)
  run = run-accepted a table ch (length marks) fine

  few : length a ≤ alphabet_most
  few = (alphabet-accepted a run.checked.alphabet).counted.few

  tree : AcceptedTree a ch
  tree = tree-accepted a ch run.marked.tree

  -- the words of element i at exit
  abbrev set : ℕ → StateSet
  set i = stored_set (size_of table) (run_exit a table ch marks) i

  set-right : Right (arity a) (node_set table) set 0 ch []
  set-right =
      stored-right a table ch (run_exit a table ch marks)
      (ap (take (length ch * size_of table)) (run-exit a table ch marks fine) ∙ run-writes a table ch marks)

  set-tree : (i : ℕ) (t : Tree) → i < length ch → SubjectOf a (subtree_of a ch i) t → set i ≡ tree_set (automaton_of table) t
  unfolding run_marks
  set-tree i t l k =
      ap (λ (m : List ℕ). stored_set (size_of table) m i) (run-exit a table ch marks fine)
      ∙ stored_set-flatten (size_of table) (node_sets a table ch) (drop (length ch * size_of table) marks) i
      (sized-node_sets a table ch) (rw (length-node_sets a table ch) l)
      ∙ node-tree a table ch few i t l k

  pub run-marked : MarkedChapter a table ch (run_exit a table ch marks)
  run-marked = record {
    sets = λ i l.
        let rs = map set (children_of a ch i) in
        subst (ReachedSet table (symbol_of (get_or ch i 0)) rs) (sym (values-children (arity a) ch (node_set table) set set-right i l))
        (node_set-reached a table few run.checked.automaton (get_or ch i 0) rs);
    subtrees = λ i l. exactly-one-subtree a few ch i tree.nodes tree.shape l;
    reaches = λ i t l k q.
        rw (set-tree i t l k) (tree_set-reaches (automaton_of table) (below a table few run.checked.automaton) t q);
  }
