-- One exchange: where the stored state sets are those of the old tree, the outcomes have those of the new tree.
use mathlib.Core.Path.{◌≡◌, refl, ap, ap₂, ◌∙◌, sym, subst}
use mathlib.Core.Bool.{true}
use mathlib.Core.List.{List, [], ◌∷◌, ◌++◌, map}
use Prim.Native.Nat.{ℕ, ◌+◌, ◌<◌}
use native.Mathlib.Omega.{arith}
use native.Mathlib.Nat.{zero-add}
use native.Mathlib.Numerals.{add-one}
use lib.ListN.{length, get_or, take, drop, take-append-drop}
use lib.Seq.{take-suc, length-take-le}
use Rattle.words.specs.Lists.{list_from}
use Rattle.words.specs.Shape.{splice_by}
use Rattle.words.specs.Postfix.{arity, one_tree, span_of, splice, values, stack_after}
use Rattle.words.proofs.TestLaws.{Tested, holds, fails, tested}
use Rattle.words.proofs.ListLaws.{map-append}
use Rattle.words.proofs.PostfixLaws.{start-le, front-sub, sub-tree}
use Rattle.words.proofs.StackLaws.{values-append, stack-append, read, Read, Right, right-list}
use Rattle.words.proofs.StackLaws.{right-stack, right-left, right-right, right-last}
use Rattle.words.proofs.HoldingLaws.{holding-first}
use Rattle.automaton.specs.StateSet.{StateSet}
use Rattle.operations.specs.Marks.{node_set, node_sets, same_words}
use Rattle.operations.specs.Exchange.{recomputed, set_in, kept_from, root_set, outcomes_behind, outcomes_after}
use Rattle.operations.proofs.MarksLaws.{same-words}
use Rattle.operations.proofs.PropagateLaws.{sets-kept, propagate-right}

pub sets-recomputed : (rs : List StateSet) → map set_in (map recomputed rs) ≡ rs
sets-recomputed [] = refl
sets-recomputed (r ∷ rs) = ap (λ (t : List StateSet). r ∷ t) (sets-recomputed rs)

-- the only state set that is left on the stack behind a tree
pub root-read : (a table xs : List ℕ) (h : one_tree a xs ≡ true) → root_set a table xs ≡ (read (arity a) (node_set table) xs h).root
unfolding root_set
root-read a table xs h = ap (λ (l : List StateSet). get_or l 0 []) (read (arity a) (node_set table) xs h).alone

module _ (a table : List ℕ) (stored : ℕ → StateSet) (used : List ℕ) (element : ℕ) (xs : List ℕ)
    (h : one_tree a used ≡ true) (he : element < length used) (hx : one_tree a xs ≡ true)
    (right : Right (arity a) (node_set table) stored 0 used []) where
  abbrev rule : ℕ → List StateSet → StateSet
  rule = node_set table

  front : List ℕ
  front = take (span_of a used element).start used

  old : List ℕ
  old = drop (span_of a used element).start (take (element + 1) used)

  behind : List ℕ
  behind = drop (element + 1) used

  σ : List StateSet
  σ = stack_after a rule front []

  new-tree : Read (arity a) rule xs
  new-tree = read (arity a) rule xs hx

  old-tree : Read (arity a) rule old
  unfolding old
  old-tree = read (arity a) rule old (sub-tree (arity a) used element h he)

  -- the stack behind the old subtree
  stack-old : stack_after a rule (take (element + 1) used) [] ≡ old-tree.root ∷ σ
  unfolding old front σ
  stack-old =
      ap (λ (l : List ℕ). stack_after a rule l []) (sym (front-sub (arity a) used element h he))
      ∙ stack-append (arity a) rule front old [] ∙ old-tree.stack-on σ

  right-front : Right (arity a) rule stored 0 front []
  unfolding front
  right-front =
      right-left (arity a) rule stored front (drop (span_of a used element).start used) 0 []
      (subst (λ (l : List ℕ). Right (arity a) rule stored 0 l []) (sym (take-append-drop (span_of a used element).start used)) right)

  right-taken : Right (arity a) rule stored 0 (take (element + 1) used ++ drop (element + 1) used) []
  right-taken = subst (λ (l : List ℕ). Right (arity a) rule stored 0 l []) (sym (take-append-drop (element + 1) used)) right

  right-behind : Right (arity a) rule stored (element + 1) behind (old-tree.root ∷ σ)
  unfolding behind
  right-behind =
      let n : 0 + length (take (element + 1) used) ≡ element + 1 = zero-add _ ∙ length-take-le (element + 1) used (omega arith) in
      subst (λ (t : List StateSet). Right (arity a) rule stored (element + 1) behind t) stack-old
      (subst (λ (i : ℕ). Right (arity a) rule stored i behind (stack_after a rule (take (element + 1) used) [])) n
      (right-right (arity a) rule stored (take (element + 1) used) behind 0 [] right-taken))

  right-node : stored element ≡ old-tree.root
  right-node =
      let u : take (element + 1) used ≡ take element used ++ get_or used element 0 ∷ [] =
      ap (λ (i : ℕ). take i used) (add-one element) ∙ take-suc used element 0 he in
      let n : 0 + length (take element used) ≡ element = zero-add _ ∙ length-take-le element used (omega arith) in
      let r = right-left (arity a) rule stored (take (element + 1) used) (drop (element + 1) used) 0 [] right-taken in
      ap stored (sym n)
      ∙ right-last (arity a) rule stored (take element used) (get_or used element 0) 0 [] σ old-tree.root
      (subst (λ (l : List ℕ). Right (arity a) rule stored 0 l []) u r)
      (ap (λ (l : List ℕ). stack_after a rule l []) (sym u) ∙ stack-old)

  behind-right : map set_in (outcomes_behind a table stored used element xs) ≡ values a rule behind (new-tree.root ∷ σ)
  unfolding outcomes_behind behind front σ new-tree
  behind-right = go (tested (same_words (root_set a table xs) (stored element)))
    where
      root : root_set a table xs ≡ new-tree.root
      root = root-read a table xs hx

      go : Tested (same_words (root_set a table xs) (stored element))
          → map set_in (outcomes_behind a table stored used element xs) ≡ values a rule behind (new-tree.root ∷ σ)
      go (holds same) =
          let q : old-tree.root ≡ new-tree.root = sym right-node ∙ sym (same-words (root_set a table xs) (stored element) same) ∙ root in
          rw same
          (sets-kept stored (length behind) (element + 1)
          ∙ right-list (arity a) rule stored behind (element + 1) (old-tree.root ∷ σ) right-behind
          ∙ ap (λ (r : StateSet). values a rule behind (r ∷ σ)) q)
      go (fails other) =
          rw (other, right-stack (arity a) rule stored front 0 [] right-front, root)
          (propagate-right a table used element stored behind (element + 1) [] σ old-tree.root new-tree.root refl
          (holding-first (arity a) used element) right-behind)

  pub outcomes-right : map set_in (outcomes_after a table stored used element xs) ≡ node_sets a table (splice a used element xs)
  unfolding outcomes_after node_sets splice_by front behind σ
  outcomes-right =
      let le = start-le (arity a) used element in
      let n : length front ≡ (span_of a used element).start = length-take-le (span_of a used element).start used (omega arith) in
      let kept-front : map set_in (kept_from stored 0 (span_of a used element).start) ≡ values a rule front [] =
      sets-kept stored (span_of a used element).start 0 ∙ ap (list_from stored 0) (sym n)
      ∙ right-list (arity a) rule stored front 0 [] right-front in
      map-append set_in (kept_from stored 0 (span_of a used element).start)
      (map recomputed (values a rule xs []) ++ outcomes_behind a table stored used element xs)
      ∙ ap₂ (λ (l k : List StateSet). l ++ k) kept-front
      (map-append set_in (map recomputed (values a rule xs [])) (outcomes_behind a table stored used element xs)
      ∙ ap₂ (λ (l k : List StateSet). l ++ k) (sets-recomputed (values a rule xs [])) behind-right)
      ∙ sym
      (values-append (arity a) rule front (xs ++ behind) []
      ∙ ap (λ (l : List StateSet). values a rule front [] ++ l)
      (values-append (arity a) rule xs behind σ
      ∙ ap₂ (λ (l : List StateSet) (t : List StateSet). l ++ values a rule behind t) (new-tree.values-on σ) (new-tree.stack-on σ)))
