-- The words of an accepted tree are nodes; and totals of which there are no more than all nodes have may be added.
use mathlib.Core.Path.{◌≡◌, subst}
use mathlib.Core.Bool.{true}
use mathlib.Core.List.{List, ◌∷◌}
use Prim.Native.Nat.{ℕ, suc, ◌<◌}
use native.Mathlib.Omega.{arith}
use lib.ListN.{length, get_or, take, drop}
use lib.Seq.{split_at}
use Rattle.words.specs.Word.{node_kind, kind_of}
use Rattle.words.specs.Lists.{all}
use Rattle.words.specs.Chapter.{is_node, tree_fault}
use Rattle.words.proofs.TestLaws.{and-true, all_right}
use Rattle.words.proofs.WordLaws.{is_node-facts}
use Rattle.words.proofs.AcceptedTree.{tree-accepted}
use Rattle.operations.specs.Totals.{Totals}
use Rattle.totals.specs.Countable.{Few}
use Rattle.totals.specs.Sum.{Addable}

pub word-kind : (a ch : List ℕ) → tree_fault a ch ≡ 0 → (i : ℕ) → i < length ch → kind_of (get_or ch i 0) ≡ node_kind
word-kind a ch fine i l =
    let w = get_or ch i 0 in
    let h = (tree-accepted a ch fine).nodes in
    let t = subst (λ (k : List ℕ). all (is_node a) k ≡ true) (split_at ch i 0 l) h in
    (is_node-facts a w
    (and-true (is_node a w) (all (is_node a) (drop (suc i) ch)) (all_right (is_node a) (take i ch) (w ∷ drop (suc i) ch) t)).0).kind

pub few-addable : (s t : Totals) → Few s → Few t → Addable s t
few-addable s t g h = record {
  elements-fit = omega (arith, g.elements-few, h.elements-few);
  hits-fit = omega (arith, g.hits_few, h.hits_few);
  cells_fit = omega (arith, g.cells-few, h.cells-few);
}
