-- Reading the postfix words of a tree with a stack puts one value on it, the tree's fold; the words of a tree pass the shape
-- check.
use mathlib.Core.Path.{◌≡◌, refl, ap, ap₂, ◌∙◌, sym}
use mathlib.Core.Bool.{true}
use mathlib.Core.List.{List, [], ◌∷◌, reverse, reverse_aux, reverse_aux-eq, reverse-reverse}
use Prim.Native.Nat.{ℕ, suc, ◌+◌, ◌-◌}
use native.Mathlib.Omega.{arith}
use lib.ListN.{length, take, drop, length-reverse}
use lib.Seq.{take_at, drop_at}
use borrow.Author.Tests.{eq-eqb}
use Rattle.words.specs.Tree.{Tree, Trees, node, none, more, number, postfix, postfix_all}
use Rattle.words.specs.Shape.{trees_by, one_tree_by, value_on_by, stack_after_by}
use Rattle.words.proofs.RankedTree.{Ranked, RankedAll}
use Rattle.words.proofs.TreeFold.{fold, fold_all}
use Rattle.words.proofs.PostfixLaws.{trees-append, trees-snoc}
use Rattle.words.proofs.StackLaws.{stack-append}

module _ {A : Type 0} (value : ℕ → List A → A) where
  length-fold_all : (ts : Trees) → length (fold_all value ts) ≡ number ts
  length-fold_all none = refl
  length-fold_all (more t ts) = ap suc (length-fold_all ts)

-- values that were put on a stack one by one come off it again, from left to right
pub take-pushed : {A : Type 0} (vs s : List A) (n : ℕ) → n ≡ length vs → reverse (take n (reverse_aux vs s)) ≡ vs
take-pushed vs s n e = rw (reverse_aux-eq vs s, take_at (reverse vs) s n (length-reverse vs ∙ sym e)) (reverse-reverse vs)

pub drop-pushed : {A : Type 0} (vs s : List A) (n : ℕ) → n ≡ length vs → drop n (reverse_aux vs s) ≡ s
drop-pushed vs s n e = rw (reverse_aux-eq vs s) (drop_at (reverse vs) s n (length-reverse vs ∙ sym e))

module _ {A : Type 0} (arity : ℕ → ℕ) (value : ℕ → List A → A) where
  abbrev on : ℕ → List A → A
  on = value_on_by arity value

  abbrev stk : List ℕ → List A → List A
  stk = stack_after_by arity value

  -- a word takes the values of the trees before it
  on-trees : (w : ℕ) (ts : Trees) (s : List A) → arity w ≡ number ts → on w (reverse_aux (fold_all value ts) s) ≡ fold value (node w ts)
  unfolding value_on_by
  on-trees w ts s e = ap (value w) (take-pushed (fold_all value ts) s (arity w) (e ∙ sym (length-fold_all value ts)))

  left-trees : (w : ℕ) (ts : Trees) (s : List A) → arity w ≡ number ts → drop (arity w) (reverse_aux (fold_all value ts) s) ≡ s
  left-trees w ts s e = drop-pushed (fold_all value ts) s (arity w) (e ∙ sym (length-fold_all value ts))

  -- a tree's words put its value on the stack, and those of a row of trees their values, the last on top
  mutual
    unfolding stack_after_by

    pub stack-tree : (t : Tree) (s : List A) → Ranked arity t → stk (postfix t) s ≡ fold value t ∷ s
    stack-tree (node w ts) s r =
        stack-append arity value (postfix_all ts) (w ∷ []) s
        ∙ ap (stk (w ∷ [])) (stack-trees ts s r.1)
        ∙ ap₂ (λ (x : A) (y : List A). x ∷ y) (on-trees w ts s r.0) (left-trees w ts s r.0)

    stack-trees : (ts : Trees) (s : List A) → RankedAll arity ts → stk (postfix_all ts) s ≡ reverse_aux (fold_all value ts) s
    stack-trees none s r = refl
    stack-trees (more t ts) s r =
        stack-append arity value (postfix t) (postfix_all ts) s
        ∙ ap (stk (postfix_all ts)) (stack-tree t s r.0)
        ∙ stack-trees ts (fold value t ∷ s) r.1

-- the shape check passes a tree's words: they make one tree more, and those of a row as many as it has
module _ (arity : ℕ → ℕ) where
  mutual
    unfolding trees_by

    trees-tree : (t : Tree) (d : ℕ) → Ranked arity t → trees_by arity d (postfix t) (d + 1) ≡ true
    trees-tree (node w ts) d r =
        let n = r.0 in
        let e : d + number ts - arity w + 1 ≡ d + 1 = omega arith in
        rw (← e) (trees-snoc arity (postfix_all ts) d w (d + number ts) (trees-trees ts d r.1) (omega arith))

    trees-trees : (ts : Trees) (d : ℕ) → RankedAll arity ts → trees_by arity d (postfix_all ts) (d + number ts) ≡ true
    trees-trees none d r = eq-eqb d (d + 0) (omega arith)
    trees-trees (more t ts) d r =
        let e : d + 1 + number ts ≡ d + suc (number ts) = omega arith in
        rw (← e) (trees-append arity (postfix t) (postfix_all ts) d (d + 1) (d + 1 + number ts) (trees-tree t d r.0)
        (trees-trees ts (d + 1) r.1))

  pub one_tree-tree : (t : Tree) → Ranked arity t → one_tree_by arity (postfix t) ≡ true
  one_tree-tree t r = trees-tree t 0 r
