-- Ordered trees whose nodes carry a number: a symbol in a subject tree, a word in the tree that postfix words make.
use Rattle.std.specs.Prelude.{ℕ, suc, max, List, [], ◌∷◌, ◌++◌}

mutual
  pub data Tree : Type 0 where
    node : ℕ → Trees → Tree

  -- a node's children (document 01's parts), from left to right
  pub data Trees : Type 0 where
    none : Trees
    more : Tree → Trees → Trees

abbrev pub label : Tree → ℕ
label (node n ts) = n

abbrev pub children : Tree → Trees
children (node n ts) = ts

abbrev pub number : Trees → ℕ
number none = 0
number (more t ts) = suc (number ts)

-- the numbers in postfix order, "parts first and from left to right"
abbrev mutual
  pub postfix : Tree → List ℕ
  postfix (node n ts) = postfix_all ts ++ (n ∷ [])

  pub postfix_all : Trees → List ℕ
  postfix_all none = []
  postfix_all (more t ts) = postfix t ++ postfix_all ts

-- "a lone element having 1" (document 02, U6), otherwise one more than the highest child; 0 where there are no trees
abbrev mutual
  pub height : Tree → ℕ
  height (node n ts) = suc (height_all ts)

  pub height_all : Trees → ℕ
  height_all none = 0
  height_all (more t ts) = max (height t) (height_all ts)
