-- The value of a tree, for the laws that a stack reading of its postfix words finds it.
use Prim.Native.Nat.{ℕ}
use mathlib.Core.List.{List, [], ◌∷◌}
use Rattle.words.specs.Tree.{Tree, Trees, node, none, more}

-- a value for each node from its number and its children's values, from left to right
module _ {A : Type 0} (value : ℕ → List A → A) where
  abbrev mutual
    pub fold : Tree → A
    fold (node n ts) = value n (fold_all ts)

    pub fold_all : Trees → List A
    fold_all none = []
    fold_all (more t ts) = fold t ∷ fold_all ts
