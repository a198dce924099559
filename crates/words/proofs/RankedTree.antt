-- Trees of words that postfix order can hold, for the laws that postfix words are those of exactly one tree.
use Prim.Native.Nat.{ℕ}
use mathlib.Core.Path.{◌≡◌}
use Rattle.words.specs.Tree.{Tree, Trees, node, none, more, number}

-- every node of a tree of words has as many children as its word takes
module _ (arity : ℕ → ℕ) where
  abbrev mutual
    pub Ranked : Tree → Type 0
    Ranked (node w ts) = (arity w ≡ number ts) × RankedAll ts

    pub RankedAll : Trees → Type 0
    RankedAll none = Unit {0}
    RankedAll (more t ts) = Ranked t × RankedAll ts
