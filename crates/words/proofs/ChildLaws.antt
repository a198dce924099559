-- Laws of a node's children: the roots so far, that no node of a tree lacks children, and that every value follows from the
-- children's.
use mathlib.Core.Path.{◌≡◌, refl, ap, ◌∙◌, sym, subst}
use mathlib.Core.Bool.{true}
use mathlib.Core.List.{List, [], ◌∷◌, ◌++◌, map, reverse, append_assoc}
use Prim.Native.Nat.{ℕ, zero, suc, ◌+◌, ◌-◌, ◌<◌, ◌≤◌}
use native.Mathlib.Omega.{arith}
use native.Mathlib.Nat.{zero-add, add-zero, add-suc, suc-add}
use native.Mathlib.Numerals.{add-one}
use lib.ListN.{length, get_or, take, drop, length-drop}
use lib.Seq.{take-suc, split_at, length-take-le}
use lib.Dec.{leb}
use borrow.Author.Tests.{eqb-true}
use Rattle.words.specs.Lists.{AllBelow}
use Rattle.words.specs.Shape.{trees_by, one_tree_by, value_on_by, stack_after_by, stack_given_by, roots_by, children_of_by}
use Rattle.words.proofs.TestLaws.{picked}
use Rattle.words.proofs.ListLaws.{map-take, map-drop, map-reverse}
use Rattle.words.proofs.AllLaws.{each_take, each-drop, each-reverse, below_more}
use Rattle.words.proofs.PostfixLaws.{trees-split, trees-unsnoc}
use Rattle.words.proofs.StackLaws.{Right, right-right, right-left, right-stack}

-- the stack of given values is the stack of node numbers, looked up
pub stack-numbers : {A : Type 0} (arity : ℕ → ℕ) (f : ℕ → A) (ws : List ℕ) (j : ℕ) (ns : List ℕ)
    → stack_given_by arity f j ws (map f ns) ≡ map f (stack_given_by arity (λ k. k) j ws ns)
unfolding stack_given_by
stack-numbers arity f [] j ns = refl
stack-numbers {A} arity f (w ∷ ws) j ns =
    ap (λ (t : List A). stack_given_by arity f (suc j) ws (f j ∷ t)) (sym (map-drop f (arity w) ns))
    ∙ stack-numbers arity f ws (suc j) (j ∷ drop (arity w) ns)

-- one word more
given-snoc : {A : Type 0} (arity : ℕ → ℕ) (f : ℕ → A) (ws : List ℕ) (w j : ℕ) (s : List A)
    → stack_given_by arity f j (ws ++ w ∷ []) s ≡ f (j + length ws) ∷ drop (arity w) (stack_given_by arity f j ws s)
unfolding stack_given_by
given-snoc arity f [] w j s = rw add-zero
given-snoc arity f (v ∷ ws) w j s = rw (add-suc, ← suc-add) (given-snoc arity f ws w (suc j) (f j ∷ drop (arity v) s))

-- the stack is as high as there are trees
pub given-height : {A : Type 0} (arity : ℕ → ℕ) (f : ℕ → A) (ws : List ℕ) (j : ℕ) (s : List A) (n : ℕ)
    → trees_by arity (length s) ws n ≡ true → length (stack_given_by arity f j ws s) ≡ n
unfolding trees_by stack_given_by
given-height arity f [] j s n h = eqb-true (length s) n h
given-height arity f (w ∷ ws) j s n h =
    let r = arity w in
    let p = picked (leb r (length s)) (trees_by arity (length s - r + 1) ws n) h in
    let q : length s - r + 1 ≡ suc (length (drop r s)) = rw (length-drop r s) (add-one (length s - r)) in
    given-height arity f ws (suc j) (f j ∷ drop r s) n (subst (λ (x : ℕ). trees_by arity x ws n ≡ true) q p.1)

-- the stack names earlier nodes only
stack-below : (arity : ℕ → ℕ) (ws : List ℕ) (j : ℕ) (ns : List ℕ) → AllBelow j ns
    → AllBelow (j + length ws) (stack_given_by arity (λ k. k) j ws ns)
unfolding stack_given_by
stack-below arity [] j ns h = rw add-zero h
stack-below arity (w ∷ ws) j ns h =
    let rest = drop (arity w) ns in
    rw (add-suc, ← suc-add)
    (stack-below arity ws (suc j) (j ∷ rest) (omega arith, below_more j (suc j) (omega arith) rest (each-drop (λ x. x < j) (arity w) ns h)))

module _ (arity : ℕ → ℕ) (ws : List ℕ) where
  -- node j in the place of its children
  pub roots-more : (j : ℕ) → j < length ws → roots_by arity ws (suc j) ≡ j ∷ drop (arity (get_or ws j 0)) (roots_by arity ws j)
  roots-more j h =
      let w = get_or ws j 0 in
      let n : 0 + length (take j ws) ≡ j = zero-add _ ∙ length-take-le j ws (omega arith) in
      ap (λ (l : List ℕ). stack_given_by arity (λ k. k) 0 l []) (take-suc ws j 0 h) ∙ given-snoc arity (λ k. k) (take j ws) w 0 []
      ∙ ap (λ (i : ℕ). i ∷ drop (arity w) (roots_by arity ws j)) n

  pub roots-below : (j : ℕ) → j ≤ length ws → AllBelow j (roots_by arity ws j)
  roots-below j h =
      subst (λ (n : ℕ). AllBelow n (roots_by arity ws j)) (zero-add _ ∙ length-take-le j ws h) (stack-below arity (take j ws) 0 [] tt)

  -- no more roots than nodes
  pub roots_few : (j : ℕ) → j ≤ length ws → length (roots_by arity ws j) ≤ j
  unfolding stack_given_by
  roots_few zero h = omega arith
  roots_few (suc j) h =
      let ih = roots_few j (omega arith) in
      rw (roots-more j h) (omega (arith, length-drop (arity (get_or ws j 0)) (roots_by arity ws j)))

  -- no node lacks children
  pub arity-fits : (i : ℕ) → one_tree_by arity ws ≡ true → i < length ws → arity (get_or ws i 0) ≤ length (roots_by arity ws i)
  arity-fits i h l =
      let w = get_or ws i 0 in
      let p = trees-split arity (take i ws ++ w ∷ []) (drop (suc i) ws) 0 1
      (subst (λ (t : List ℕ). trees_by arity 0 t 1 ≡ true)
      (split_at ws i 0 l ∙ sym (append_assoc (take i ws) (w ∷ []) (drop (suc i) ws))) h) in
      let b = trees-unsnoc arity (take i ws) 0 w p.0 p.1 in
      rw (given-height arity (λ k. k) (take i ws) 0 [] b.0 b.1) b.2

  -- children are earlier nodes
  pub children-below : (i : ℕ) → i ≤ length ws → AllBelow i (children_of_by arity ws i)
  unfolding children_of_by
  children-below i h =
      let taken = take (arity (get_or ws i 0)) (roots_by arity ws i) in
      each-reverse (λ x. x < i) taken (each_take (λ x. x < i) (arity (get_or ws i 0)) (roots_by arity ws i) (roots-below i h))

  module _ {A : Type 0} (value : ℕ → List A → A) (f : ℕ → A) where
    -- a node's value from its children's is the one from the values that its word takes from the stack
    pub children-value : (i : ℕ) (stack : List A) → map f (roots_by arity ws i) ≡ stack
        → value (get_or ws i 0) (map f (children_of_by arity ws i)) ≡ value_on_by arity value (get_or ws i 0) stack
    unfolding value_on_by children_of_by
    children-value i stack e =
        let r = arity (get_or ws i 0) in
        let roots = roots_by arity ws i in
        ap (value (get_or ws i 0)) (map-reverse f (take r roots) ∙ ap reverse (map-take f r roots ∙ ap (take r) e))

    -- every value is the one that the children's give: "from its parts' marks"
    pub values-children : Right arity value f 0 ws [] → (i : ℕ) → i < length ws
        → f i ≡ value (get_or ws i 0) (map f (children_of_by arity ws i))
    values-children right i h =
        let n : 0 + length (take i ws) ≡ i = zero-add _ ∙ length-take-le i ws (omega arith) in
        let rest = get_or ws i 0 ∷ drop (suc i) ws in
        let r : Right arity value f 0 (take i ws ++ rest) [] =
        subst (λ (l : List ℕ). Right arity value f 0 l []) (split_at ws i 0 h) right in
        let s : stack_after_by arity value (take i ws) [] ≡ map f (roots_by arity ws i) =
        sym (right-stack arity value f (take i ws) 0 [] (right-left arity value f (take i ws) rest 0 [] r))
        ∙ stack-numbers arity f (take i ws) 0 [] in
        ap f (sym n) ∙ (right-right arity value f (take i ws) rest 0 [] r).0
        ∙ sym (children-value i (stack_after_by arity value (take i ws) []) (sym s))
