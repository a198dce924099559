-- The state set that the nodes of a tree make bottom-up, each from its children's, holds exactly the states that the tree
-- reaches.
use mathlib.Core.Path.{◌≡◌, refl}
use mathlib.Core.Logic.{◌↔◌}
use mathlib.Core.Bool.{true, false≢true}
use mathlib.Core.List.{List, [], ◌∷◌}
use Prim.Native.Nat.{ℕ}
use Rattle.words.specs.Tree.{Tree, Trees, node, none, more}
use Rattle.words.proofs.TreeFold.{fold, fold_all}
use Rattle.words.proofs.TestLaws.{and-true, true-and}
use Rattle.automaton.specs.Transition.{Transition, Automaton}
use Rattle.automaton.specs.StateSet.{StateSet, contains, all_contained, state_set}
use Rattle.automaton.specs.Reached.{Reached, by_symbol, by_epsilon, Reaches, ReachesAll, on_node, on_epsilon, on_none, on_more}
use Rattle.automaton.proofs.PassLaws.{ClosedUnder, In}
use Rattle.automaton.proofs.ClosureLaws.{TargetsBelow, state_set-closed, state_set-reached}

-- the state set of a tree, and those of a node's children
abbrev pub tree_set : Automaton → Tree → StateSet
tree_set A t = fold (λ f rs. state_set A f rs) t

abbrev tree_sets : Automaton → Trees → List StateSet
tree_sets A us = fold_all (λ f rs. state_set A f rs) us

-- where the children's sets hold what the children reach, a node's set holds what its tree reaches
reached-reaches : (ts : List Transition) (f : ℕ) (us : Trees) (rs : List StateSet)
    → ((ps : List ℕ) → all_contained ps rs ≡ true → ReachesAll ts ps us) → {q : ℕ} → Reached ts f rs q → Reaches ts q (node f us)
reached-reaches ts f us rs h (by_symbol {ps = ps} m e) = on_node m (h ps e)
reached-reaches ts f us rs h (by_epsilon m d) = on_epsilon m (reached-reaches ts f us rs h d)

module _ (A : Automaton) (below : TargetsBelow A.states A.transitions) where
  mutual
    unfolding all_contained

    contained-reaches : (t : Tree) (q : ℕ) → In (tree_set A t) q → Reaches A.transitions q t
    contained-reaches (node f us) q e =
        reached-reaches A.transitions f us (tree_sets A us) (λ ps h. all_contained-reaches us ps h)
        ((state_set-reached A f (tree_sets A us) below q).0 e)

    all_contained-reaches : (us : Trees) (ps : List ℕ) → all_contained ps (tree_sets A us) ≡ true → ReachesAll A.transitions ps us
    all_contained-reaches none [] h = on_none
    all_contained-reaches none (p ∷ ps) h = absurd (false≢true h)
    all_contained-reaches (more t us) [] h = absurd (false≢true h)
    all_contained-reaches (more t us) (p ∷ ps) h =
        let b = and-true (contains (tree_set A t) p) (all_contained ps (tree_sets A us)) h in
        on_more (contained-reaches t p b.0) (all_contained-reaches us ps b.1)

  tree_set-closed : (t : Tree) → ClosedUnder A.transitions (In (tree_set A t))
  tree_set-closed (node f us) = state_set-closed A f (tree_sets A us) below

  mutual
    unfolding all_contained

    reaches-contained : {q : ℕ} {t : Tree} → Reaches A.transitions q t → In (tree_set A t) q
    reaches-contained (on_node {f = f} {q = q} {us = us} m rs) =
        (state_set-reached A f (tree_sets A us) below q).1 (by_symbol m (reaches_all-contained rs))
    reaches-contained (on_epsilon {p = p} {q = q} {t = t} m r) = tree_set-closed t p q m (reaches-contained r)

    reaches_all-contained : {ps : List ℕ} {us : Trees} → ReachesAll A.transitions ps us → all_contained ps (tree_sets A us) ≡ true
    reaches_all-contained on_none = refl
    reaches_all-contained (on_more {p = p} {ps = ps} {t = t} {us = us} r rs) =
        true-and (contains (tree_set A t) p) (all_contained ps (tree_sets A us)) (reaches-contained r) (reaches_all-contained rs)

  -- a state is in a tree's set exactly if the tree reaches it
  pub tree_set-reaches : (t : Tree) (q : ℕ) → (contains (tree_set A t) q ≡ true) ↔ Reaches A.transitions q t
  tree_set-reaches t q = (contained-reaches t q, reaches-contained)
