-- What holds of the words of a chapter that refusals 10 and 11 let pass, and back.
use mathlib.Core.Path.{◌≡◌, refl}
use mathlib.Core.Bool.{true, false}
use mathlib.Core.List.{List}
use Prim.Native.Nat.{ℕ}
use borrow.Author.Tests.{not-false}
use Rattle.words.specs.Lists.{all}
use Rattle.words.specs.Postfix.{one_tree, not_one_tree}
use Rattle.words.specs.Chapter.{is_node, not_nodes, tree_refusals, tree_fault}
use Rattle.words.proofs.RefusalLaws.{condition_of, none-applies, none-refusal}

pub record AcceptedTree (a ch : List ℕ) : Type 0 where
  -- 10
  pub nodes : all (is_node a) ch ≡ true
  -- 11
  pub shape : one_tree a ch ≡ true

module _ (a ch : List ℕ) where
  pub tree-accepted : tree_fault a ch ≡ 0 → AcceptedTree a ch
  unfolding not_nodes not_one_tree
  tree-accepted h =
      let not_so : (n : ℕ) → condition_of n (tree_refusals a ch) ≡ false = none-applies (tree_refusals a ch) refl h in
      record { nodes = not-false (all (is_node a) ch) (not_so 10); shape = not-false (one_tree a ch) (not_so 11) }

  pub accepted-tree : AcceptedTree a ch → tree_fault a ch ≡ 0
  unfolding not_nodes not_one_tree
  accepted-tree g = none-refusal (tree_refusals a ch) (rw (g.nodes, g.shape))
