-- A node's value is the fold of the tree that its subtree's words make: it depends on the subtree alone.
use mathlib.Core.Path.{◌≡◌, refl, ap, ◌∙◌, sym}
use mathlib.Core.List.{List, [], ◌∷◌, head-eq_of_cons-eq}
use Prim.Native.Nat.{ℕ, zero, suc, ◌+◌, ◌<◌}
use native.Mathlib.Omega.{arith}
use native.Mathlib.Numerals.{add-one}
use lib.ListN.{length, get_or, take, drop, take-append-drop}
use Rattle.words.specs.Tree.{Tree}
use Rattle.words.specs.Shape.{span_of_by, subtree_of_by, value_on_by, values_by, stack_after_by}
use Rattle.words.proofs.TreeFold.{fold}
use Rattle.words.proofs.StackLaws.{stack-append}
use Rattle.words.proofs.ReadingLaws.{stack-tree}
use Rattle.words.proofs.TreeLaws.{TreeOf}

module _ {A : Type 0} (arity : ℕ → ℕ) (value : ℕ → List A → A) where
  -- behind the words up to word i the stack has its value on top
  stack_top : (ws : List ℕ) (i : ℕ) (s : List A) (d : A) → i < length ws
      → stack_after_by arity value (take (suc i) ws) s
      ≡ get_or (values_by arity value ws s) i d ∷ drop (arity (get_or ws i 0)) (stack_after_by arity value (take i ws) s)
  unfolding stack_after_by values_by
  stack_top [] i s d h = absurd (omega arith)
  stack_top (w ∷ ws) zero s d h = refl
  stack_top (w ∷ ws) (suc i) s d h = stack_top ws i (value_on_by arity value w s ∷ drop (arity w) s) d (omega arith)

  -- what stands before the subtree makes no difference
  stack-subtree : (ws : List ℕ) (i : ℕ) (t : Tree) → TreeOf arity (subtree_of_by arity ws i) t
      → stack_after_by arity value (take (i + 1) ws) []
      ≡ fold value t ∷ stack_after_by arity value (take (span_of_by arity ws i).start (take (i + 1) ws)) []
  stack-subtree ws i t h =
      let front = take (span_of_by arity ws i).start (take (i + 1) ws) in
      ap (λ (l : List ℕ). stack_after_by arity value l []) (sym (take-append-drop (span_of_by arity ws i).start (take (i + 1) ws)))
      ∙ stack-append arity value front (subtree_of_by arity ws i) []
      ∙ ap (λ (l : List ℕ). stack_after_by arity value l (stack_after_by arity value front [])) (sym h.words)
      ∙ stack-tree arity value t (stack_after_by arity value front []) h.ranked

  pub value-subtree : (ws : List ℕ) (i : ℕ) (d : A) (t : Tree) → i < length ws → TreeOf arity (subtree_of_by arity ws i) t
      → get_or (values_by arity value ws []) i d ≡ fold value t
  value-subtree ws i d t hi h =
      head-eq_of_cons-eq
      (sym (stack_top ws i [] d hi) ∙ ap (λ (n : ℕ). stack_after_by arity value (take n ws) []) (sym (add-one i)) ∙ stack-subtree ws i t h)
