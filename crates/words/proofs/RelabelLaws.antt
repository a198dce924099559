-- A tree with other numbers at its nodes: its postfix order, its height, and how many children stand at each place.
use mathlib.Core.Path.{◌≡◌, refl, ap, ap₂, ◌∙◌, sym}
use mathlib.Core.List.{List, [], ◌∷◌, ◌++◌, map}
use Prim.Native.Nat.{ℕ, suc, max}
use Rattle.words.specs.Tree.{Tree, Trees, node, none, more, number, postfix, postfix_all, height, height_all}
use Rattle.words.proofs.ListLaws.{map-append}

module _ (f : ℕ → ℕ) where
  abbrev mutual
    pub relabel : Tree → Tree
    relabel (node n ts) = node (f n) (relabel_all ts)

    pub relabel_all : Trees → Trees
    relabel_all none = none
    relabel_all (more t ts) = more (relabel t) (relabel_all ts)

  pub number-relabel : (ts : Trees) → number (relabel_all ts) ≡ number ts
  number-relabel none = refl
  number-relabel (more t ts) = ap suc (number-relabel ts)

  mutual
    pub height-relabel : (t : Tree) → height (relabel t) ≡ height t
    height-relabel (node n ts) = ap suc (height-relabel_all ts)

    height-relabel_all : (ts : Trees) → height_all (relabel_all ts) ≡ height_all ts
    height-relabel_all none = refl
    height-relabel_all (more t ts) = ap₂ max (height-relabel t) (height-relabel_all ts)

  mutual
    pub postfix-relabel : (t : Tree) → postfix (relabel t) ≡ map f (postfix t)
    postfix-relabel (node n ts) = ap (λ (l : List ℕ). l ++ f n ∷ []) (postfix-relabel_all ts) ∙ sym (map-append f (postfix_all ts) (n ∷ []))

    postfix-relabel_all : (ts : Trees) → postfix_all (relabel_all ts) ≡ map f (postfix_all ts)
    postfix-relabel_all none = refl
    postfix-relabel_all (more t ts) =
        ap₂ (λ (l k : List ℕ). l ++ k) (postfix-relabel t) (postfix-relabel_all ts) ∙ sym (map-append f (postfix t) (postfix_all ts))
