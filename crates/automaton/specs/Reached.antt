-- Which states are reached (document 01, "Marks"): at a node from its children's state sets, and by a whole tree.
use Rattle.std.specs.Prelude.{ℕ, ◌≡◌, true}
use mathlib.Core.List.{List, [], ◌∷◌, Memᴰ}
use Rattle.words.specs.Tree.{Tree, Trees, node, none, more}
use Rattle.automaton.specs.Transition.{Transition, on_symbol, epsilon}
use Rattle.automaton.specs.StateSet.{StateSet, all_contained}

-- "by a move on the element's symbol whose part states are all marked in its parts, or by empty moves from such a state"
pub data Reached (ts : List Transition) (f : ℕ) (rs : List StateSet) : ℕ → Type 0 where
  by_symbol : {q : ℕ} {ps : List ℕ} → Memᴰ (on_symbol f ps q) ts → all_contained ps rs ≡ true → Reached ts f rs q
  by_epsilon : {p q : ℕ} → Memᴰ (epsilon p q) ts → Reached ts f rs p → Reached ts f rs q

-- the same by a whole tree
mutual
  pub data Reaches (ts : List Transition) : ℕ → Tree → Type 0 where
    on_node : {f q : ℕ} {ps : List ℕ} {us : Trees} → Memᴰ (on_symbol f ps q) ts → ReachesAll ts ps us → Reaches ts q (node f us)
    on_epsilon : {p q : ℕ} {t : Tree} → Memᴰ (epsilon p q) ts → Reaches ts p t → Reaches ts q t

  pub data ReachesAll (ts : List Transition) : List ℕ → Trees → Type 0 where
    on_none : ReachesAll ts [] none
    on_more : {p : ℕ} {ps : List ℕ} {t : Tree} {us : Trees} → Reaches ts p t → ReachesAll ts ps us → ReachesAll ts (p ∷ ps) (more t us)
