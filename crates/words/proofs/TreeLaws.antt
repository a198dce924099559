-- Words that pass the shape check are the postfix words of exactly one tree in which every word has as many children as it
-- takes. The stack reading that puts each word over its children builds it.
use mathlib.Core.Path.{◌≡◌, refl, ap, ap₂, ◌∙◌, sym, subst}
use mathlib.Core.Bool.{true}
use mathlib.Core.List.{List, [], ◌∷◌, ◌++◌, reverse, reverse-cons, reverse-reverse, append_assoc, append-nil, head-eq_of_cons-eq}
use Prim.Native.Nat.{ℕ, suc, ◌+◌, ◌-◌, ◌≤◌}
use native.Mathlib.Omega.{arith}
use native.Mathlib.Numerals.{add-one}
use lib.ListN.{length, take, drop, length-drop, length-reverse, take-append-drop}
use lib.Seq.{length-take-le}
use lib.Dec.{leb}
use borrow.Author.Tests.{leb-true, eqb-true}
use Rattle.words.specs.Lists.{All}
use Rattle.words.specs.Tree.{Tree, Trees, node, none, more, number, postfix, postfix_all}
use Rattle.words.specs.Shape.{trees_by, one_tree_by, stack_after_by}
use Rattle.words.specs.ExactlyOne.{ExactlyOne}
use Rattle.words.proofs.TestLaws.{picked}
use Rattle.words.proofs.AllLaws.{each_take, each-drop, each-reverse}
use Rattle.words.proofs.RankedTree.{Ranked, RankedAll}
use Rattle.words.proofs.TreeFold.{fold, fold_all}
use Rattle.words.proofs.ReadingLaws.{stack-tree}

-- a tree that the words are read as
pub record TreeOf (arity : ℕ → ℕ) (ws : List ℕ) (t : Tree) : Type 0 where
  pub ranked : Ranked arity t
  pub words : postfix t ≡ ws

-- ---- a list of trees as a node's children

abbrev row : List Tree → Trees
row [] = none
row (t ∷ ts) = more t (row ts)

-- a word over its children: the value with which the words are read as a tree
abbrev pub built : ℕ → List Tree → Tree
built w ts = node w (row ts)

mutual
  fold-built : (t : Tree) → fold built t ≡ t
  fold-built (node w ts) = ap (node w) (row-built ts)

  row-built : (ts : Trees) → row (fold_all built ts) ≡ ts
  row-built none = refl
  row-built (more t ts) = ap₂ more (fold-built t) (row-built ts)

number-row : (ts : List Tree) → number (row ts) ≡ length ts
number-row [] = refl
number-row (t ∷ ts) = ap suc (number-row ts)

-- ---- a stack of trees, the last on top

abbrev on_stack : List Tree → List ℕ
on_stack [] = []
on_stack (t ∷ s) = on_stack s ++ postfix t

on_stack-append : (l s : List Tree) → on_stack (l ++ s) ≡ on_stack s ++ on_stack l
on_stack-append [] s = sym (append-nil (on_stack s))
on_stack-append (t ∷ l) s = ap (λ (x : List ℕ). x ++ postfix t) (on_stack-append l s) ∙ append_assoc (on_stack s) (on_stack l) (postfix t)

-- the words of a row of trees are those of the stack that has its last tree on top
on_stack-row : (l : List Tree) → on_stack (reverse l) ≡ postfix_all (row l)
on_stack-row [] = refl
on_stack-row (t ∷ l) =
    ap on_stack (reverse-cons t l) ∙ on_stack-append (reverse l) (t ∷ [])
    ∙ ap (λ (x : List ℕ). postfix t ++ x) (on_stack-row l)

module _ (arity : ℕ → ℕ) where
  ranked-row : (l : List Tree) → All (Ranked arity) l → RankedAll arity (row l)
  ranked-row [] h = tt
  ranked-row (t ∷ l) h = (h.0, ranked-row l h.1)

  -- a stack of n trees whose words are ws
  record Stack (ws : List ℕ) (n : ℕ) (s : List Tree) : Type 0 where
    ranked : All (Ranked arity) s
    words : on_stack s ≡ ws
    height : length s ≡ n

  -- one word more takes its children from the stack
  module _ (w : ℕ) (s : List Tree) (r : arity w ≤ length s) (h : All (Ranked arity) s) where
    abbrev children : List Tree
    children = reverse (take (arity w) s)

    row_number : arity w ≡ number (row children)
    row_number = sym (number-row children ∙ length-reverse (take (arity w) s) ∙ length-take-le (arity w) s r)

    more-ranked : All (Ranked arity) (built w children ∷ drop (arity w) s)
    more-ranked =
        let P = Ranked arity in
        ((row_number, ranked-row children (each-reverse P (take (arity w) s) (each_take P (arity w) s h))), each-drop P (arity w) s h)

    more-words : on_stack (built w children ∷ drop (arity w) s) ≡ on_stack s ++ w ∷ []
    more-words =
        sym (append_assoc (on_stack (drop (arity w) s)) (postfix_all (row children)) (w ∷ []))
        ∙ ap (λ (x : List ℕ). (on_stack (drop (arity w) s) ++ x) ++ w ∷ [])
        (sym (on_stack-row children) ∙ ap on_stack (reverse-reverse (take (arity w) s)))
        ∙ ap (λ (x : List ℕ). x ++ w ∷ [])
        (sym (on_stack-append (take (arity w) s) (drop (arity w) s)) ∙ ap on_stack (take-append-drop (arity w) s))

  -- words that make n trees on a stack are read as the words of n trees
  read-stack : (ws : List ℕ) (s : List Tree) (n : ℕ) → All (Ranked arity) s → trees_by arity (length s) ws n ≡ true
      → (s' : List Tree) × Stack (on_stack s ++ ws) n s'
  unfolding trees_by
  read-stack [] s n h e = (s, record { ranked = h; words = sym (append-nil (on_stack s)); height = eqb-true (length s) n e })
  read-stack (w ∷ ws) s n h e =
      let r = arity w in
      let p = picked (leb r (length s)) (trees_by arity (length s - r + 1) ws n) e in
      let le : r ≤ length s = leb-true r (length s) p.0 in
      let q : length s - r + 1 ≡ suc (length (drop r s)) = rw (length-drop r s) (add-one (length s - r)) in
      let b =
      read-stack ws (built w (reverse (take r s)) ∷ drop r s) n (more-ranked w s le h)
      (subst (λ (x : ℕ). trees_by arity x ws n ≡ true) q p.1) in
      let g : on_stack (built w (reverse (take r s)) ∷ drop r s) ++ ws ≡ on_stack s ++ w ∷ ws =
      ap (λ (x : List ℕ). x ++ ws) (more-words w s le h) ∙ append_assoc (on_stack s) (w ∷ []) ws in
      (b.0, record { ranked = b.1.ranked; words = b.1.words ∙ g; height = b.1.height })

  stack-one : (ws : List ℕ) (s : List Tree) → Stack ws 1 s → (t : Tree) × TreeOf arity ws t
  stack-one ws [] k = absurd (let z = k.height in omega arith)
  stack-one ws (t ∷ []) k = (t, record { ranked = k.ranked.0; words = k.words })
  stack-one ws (t ∷ u ∷ s) k = absurd (let z = k.height in omega arith)

  -- reading a tree's words by `built` gives the tree back, so no two trees have the same words
  tree-read : (ws : List ℕ) (t : Tree) → TreeOf arity ws t → stack_after_by arity built ws [] ≡ t ∷ []
  tree-read ws t h =
      ap (λ (l : List ℕ). stack_after_by arity built l []) (sym h.words) ∙ stack-tree arity built t [] h.ranked
      ∙ ap (λ (x : Tree). x ∷ []) (fold-built t)

  -- "exactly one tree remains"
  pub exactly-one-tree : (ws : List ℕ) → one_tree_by arity ws ≡ true → ExactlyOne (TreeOf arity ws)
  exactly-one-tree ws h =
      let b = read-stack ws [] 1 tt h in
      let k = stack-one ws b.0 b.1 in
      record {
        the = k.0;
        has = k.1;
        only = λ t g. head-eq_of_cons-eq (sym (tree-read ws t g) ∙ tree-read ws k.0 k.1);
      }
