-- What is known of a tree over the alphabet and of what Run accepts: the sizes, and each word's kind.
use mathlib.Core.Path.{◌≡◌, subst}
use mathlib.Core.Bool.{true}
use mathlib.Core.List.{List, ◌∷◌}
use Prim.Native.Nat.{ℕ, suc, ◌*◌, ◌<◌, ◌≤◌}
use native.Mathlib.Omega.{arith}
use lib.ListN.{length, get_or, take, drop}
use lib.Seq.{split_at}
use Rattle.words.specs.Limits.{alphabet_most, rank_most, table_most}
use Rattle.words.specs.Word.{node_kind, kind_of}
use Rattle.words.specs.Alphabet.{rank_of}
use Rattle.words.specs.Lists.{all}
use Rattle.words.specs.Chapter.{symbol_of, is_node}
use Rattle.words.specs.Postfix.{arity}
use Rattle.words.proofs.TestLaws.{and-true, all_right}
use Rattle.words.proofs.WordLaws.{IsNode, is_node-facts}
use Rattle.words.proofs.AcceptedAlphabet.{AcceptedAlphabet, alphabet-accepted}
use Rattle.words.proofs.AcceptedTree.{tree-accepted}
use Rattle.automaton.specs.Table.{is_table}
use Rattle.automaton.proofs.TableLaws.{is_table-tables}
use Rattle.operations.specs.Marks.{size_of}
use Rattle.operations.proofs.AcceptedLaws.{RunAccepted, run-accepted}
use Rattle.sets.specs.Size.{set_most}
use Rattle.sets.proofs.SizeLaws.{set-small}
use Rattle.nodes.specs.Nodes.{BoundedTree, Workable}

-- ---- a tree

module _ {a ch : List ℕ} (g : BoundedTree a ch) (i : ℕ) (l : i < length ch) where
  node-word : IsNode a (get_or ch i 0)
  node-word =
      let w = get_or ch i 0 in
      let h = (tree-accepted a ch g.accepted).nodes in
      let t = subst (λ (k : List ℕ). all (is_node a) k ≡ true) (split_at ch i 0 l) h in
      is_node-facts a w
      (and-true (is_node a w) (all (is_node a) (drop (suc i) ch)) (all_right (is_node a) (take i ch) (w ∷ drop (suc i) ch) t)).0

  -- its words are nodes, and a node takes as many children as its symbol's rank
  pub node-kind : kind_of (get_or ch i 0) ≡ node_kind
  node-kind = node-word.kind

  pub node-rank : arity a (get_or ch i 0) ≡ rank_of a (symbol_of (get_or ch i 0))
  node-rank = node-word.arity-rank

-- ---- what Run accepts

module _ {a table ch : List ℕ} {marks_length : ℕ} (g : Workable a table ch marks_length) where
  run-facts : RunAccepted a table ch marks_length
  run-facts = run-accepted a table ch marks_length g.accepted

  alphabet-facts : AcceptedAlphabet a
  alphabet-facts = alphabet-accepted a run-facts.checked.alphabet

  pub alphabet-few : length a ≤ alphabet_most
  alphabet-few = alphabet-facts.counted.few

  pub ranks-most : (f : ℕ) → rank_of a f ≤ rank_most
  ranks-most = alphabet-facts.ranks

  pub table-checked : is_table a table ≡ true
  table-checked = run-facts.checked.automaton

  pub bounded-tree : BoundedTree a ch
  bounded-tree = record { accepted = run-facts.marked.tree; few = run-facts.counted.few }

  pub workable-marks : length ch * size_of table ≤ marks_length
  workable-marks = run-facts.marked.marks

  -- no state set has more words than there may be, and no table
  pub workable-size : size_of table ≤ set_most
  workable-size = set-small a table table-checked

  pub table-few : length table ≤ table_most
  table-few = ((is_table-tables a (omega (arith, alphabet-few)) table).0 table-checked).fits

-- marks of the same length serve as well
pub workable-long : {a table ch : List ℕ} {m n : ℕ} → n ≡ m → Workable a table ch m → Workable a table ch n
workable-long e w = rw e w
