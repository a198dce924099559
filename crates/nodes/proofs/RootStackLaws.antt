-- The stack of roots in an array: what a pop and a push do, and that it fits.
use mathlib.Core.Path.{◌≡◌, refl, ap, ap₂, ◌∙◌, sym, subst}
use mathlib.Core.List.{List, [], ◌∷◌, ◌++◌, reverse, map, reverse-cons, append_assoc}
use Prim.Native.Nat.{ℕ, suc, ◌+◌, ◌-◌, ◌<◌, ◌≤◌}
use native.Mathlib.Omega.{arith}
use native.Mathlib.Numerals.{add-one}
use lib.ListN.{length, get_or, take, drop, set, replicate, length-append, length-drop, length-reverse}
use lib.Seq.{length-take-le, take-append-add}
use Rattle.words.specs.Shape.{stack_given_by}
use Rattle.words.specs.Postfix.{arity, roots_of}
use Rattle.words.proofs.AcceptedTree.{tree-accepted}
use Rattle.words.proofs.ListLaws.{map-append, map-take, take-reverse, take-pushed-at}
use Rattle.words.proofs.ChildLaws.{roots-more, roots-below, arity-fits, roots_few}
use Rattle.words.proofs.AllLaws.{map_below, below_more, each_append, each_take, each-reverse}
use Rattle.automaton.specs.StateSet.{StateSet}
use Rattle.operations.specs.Marks.{size_of, stored_set}
use Rattle.nodes.specs.declared.stack.Roots.{Roots}
use Rattle.nodes.specs.Nodes.{Held, Pushable, BoundedTree, Stackable, stack_base}
use Rattle.nodes.specs.Marking.{Represented}

-- r nodes are taken and one is put in their place: one store
held-push : (array : List ℕ) (height : ℕ) (nodes : List ℕ) (r x : ℕ) → Held array height nodes → r ≤ length nodes
    → height < length array
    → Held (set array (height - r) x) (height - r + 1) (take (length nodes - r) nodes ++ x ∷ [])
held-push array height nodes r x g fits inside =
    let left = take (length nodes - r) nodes in
    let place : height - r ≡ stack_base + (length nodes - r) = omega (arith, g.height-is) in
    record {
      words =
          take-pushed-at array height (height - r) x g.words (omega arith) (omega arith)
          ∙ ap (λ (l : List ℕ). l ++ x ∷ [])
          (ap (λ (k : ℕ). take k (replicate stack_base 0 ++ nodes)) place
          ∙ take-append-add (replicate stack_base 0) nodes (length nodes - r))
          ∙ append_assoc (replicate stack_base 0) left (x ∷ []);
      height-is = omega (arith, place, length-append left (x ∷ []), length-take-le (length nodes - r) nodes (omega arith));
    }

module _ (a ch : List ℕ) (tree : BoundedTree a ch) (i : ℕ) (inside : i < length ch) (r : ℕ)
    (e : r ≡ arity a (get_or ch i 0)) where
  -- no node lacks children
  children-fit : r ≤ length (roots_of a ch i)
  children-fit = omega (arith, e, arity-fits (arity a) ch i (tree-accepted a ch tree.accepted).shape inside)

  -- node i in the place of its children
  roots-next : roots_of a ch (i + 1) ≡ i ∷ drop r (roots_of a ch i)
  roots-next =
      ap (roots_of a ch) (add-one i) ∙ roots-more (arity a) ch i inside ∙ ap (λ (k : ℕ). i ∷ drop k (roots_of a ch i)) (sym e)

-- ---- representatives

-- the roots themselves
pub represent-roots : {a table ch marks : List ℕ} {i : ℕ} {roots : Roots} → i ≤ length ch
    → Held roots.nodes roots.height (reverse (roots_of a ch i)) → Represented a table ch i marks roots
represent-roots {a} {table} {ch} {marks} {i} h g =
    record {
      nodes = reverse (roots_of a ch i);
      held = g;
      count = length-reverse (roots_of a ch i);
      below = each-reverse (λ x. x < i) (roots_of a ch i) (roots-below (arity a) ch i h);
      same = refl;
    }

module _ {a table ch : List ℕ} {i : ℕ} {marks : List ℕ} {stack : Roots} (g : Represented a table ch i marks stack)
    (tree : BoundedTree a ch)
    (inside : i < length ch) (r : ℕ) (e : r ≡ arity a (get_or ch i 0)) where
  abbrev roots : List ℕ
  roots = roots_of a ch i

  abbrev nodes : List ℕ
  nodes = g.nodes

  pub nodes-fit : r ≤ length g.nodes
  nodes-fit = omega (arith, children-fit a ch tree i inside r e, g.count)

  stack-fits : r ≤ stack.height
  stack-fits = let f = nodes-fit in omega (arith, g.held.height-is)

  -- the stack has a place above its top
  pub stack-height : stack.height < length stack.nodes
  stack-height =
      let few = tree.few in
      let f = roots_few (arity a) ch i (omega arith) in
      omega (arith, g.held.height-is, g.count, stack.long)

  -- node i is put in the place of its children, or an earlier node
  pub stack-pushable : (node : ℕ) → node < i + 1 → Pushable stack.nodes stack.height r node
  stack-pushable node low =
      let few = tree.few in
      record { few = omega arith; fits = stack-fits; height-inside = stack-height; small = omega (arith, stack.long) }

  -- the node has the same words; earlier words have not changed
  module _ (node : ℕ) (low : node < i + 1) (marks' : List ℕ)
      (kept : (j : ℕ) → j < i → stored_set (size_of table) marks' j ≡ stored_set (size_of table) marks j)
      (own : stored_set (size_of table) marks' i ≡ stored_set (size_of table) marks' node) where
    abbrev stored : ℕ → StateSet
    stored = stored_set (size_of table) marks'

    abbrev left : List ℕ
    left = take (length g.nodes - r) g.nodes

    same : map (stored_set (size_of table) marks') g.nodes ≡ map (stored_set (size_of table) marks') (reverse (roots_of a ch i))
    same =
        map_below stored (stored_set (size_of table) marks) i nodes g.below kept ∙ g.same
        ∙ sym (map_below stored (stored_set (size_of table) marks) i (reverse roots)
        (each-reverse (λ x. x < i) roots (roots-below (arity a) ch i (omega arith))) kept)

    same_left : map (stored_set (size_of table) marks') left ≡ map (stored_set (size_of table) marks') (reverse (drop r (roots_of a ch i)))
    same_left =
        map-take stored (length nodes - r) nodes ∙ ap (take (length nodes - r)) same
        ∙ sym (map-take stored (length nodes - r) (reverse roots))
        ∙ ap (map stored) (ap (λ (k : ℕ). take (k - r) (reverse roots)) g.count ∙ take-reverse r roots)

    pub represented-more : {stack' : Roots} → stack'.height ≡ stack.height - r + 1 → stack'.nodes ≡ set stack.nodes (stack.height - r) node
        → Represented a table ch (i + 1) marks' stack'
    represented-more p q =
        let next = roots-next a ch tree i inside r e in
        record {
          nodes = left ++ node ∷ [];
          held = rw (p, q) (held-push stack.nodes stack.height nodes r node g.held nodes-fit stack-height);
          count =
              length-append left (node ∷ []) ∙ ap (λ (k : ℕ). k + 1) (length-take-le (length nodes - r) nodes (omega arith))
              ∙ add-one (length nodes - r) ∙ ap (λ (k : ℕ). suc (k - r)) g.count ∙ sym (ap length next ∙ ap suc (length-drop r roots));
          below =
              each_append (λ x. x < i + 1) left (node ∷ [])
              (below_more i (i + 1) (omega arith) left (each_take (λ x. x < i) (length nodes - r) nodes g.below)) (low, tt);
          same =
              map-append stored left (node ∷ []) ∙ ap₂ (λ (l : List StateSet) (x : StateSet). l ++ x ∷ []) same_left (sym own)
              ∙ sym (ap (map stored) (ap reverse next ∙ reverse-cons i (drop r roots))
              ∙ map-append stored (reverse (drop r roots)) (i ∷ []));
        }

-- ---- the roots of the first nodes, one after the other

pub record Stacking (a ch : List ℕ) (stack : Roots) (count i : ℕ) : Type 0 where
  pub high : i ≤ count
  pub held : Held stack.nodes stack.height (reverse (roots_of a ch i))

pub stacking-none : {a ch : List ℕ} {count : ℕ} {stack : Roots} → stack.height ≡ stack_base → Stackable a ch count stack.nodes → Stacking a ch stack count 0
unfolding stack_given_by
stacking-none e g = record { high = omega arith; held = record { words = rw e g.zeros; height-is = e } }

module _ {a ch : List ℕ} {count : ℕ} {array₀ : List ℕ} (pre : Stackable a ch count array₀) {stack : Roots} {i : ℕ}
    (g : Stacking a ch stack count i) where
  itself : i ≤ length ch → Represented a ch ch i stack.nodes stack
  itself h = represent-roots h g.held

  module _ (l : i < count) (r : ℕ) (e : r ≡ arity a (get_or ch i 0)) where
    inside : i < length ch
    inside = omega (arith, pre.within)

    pub stacking-pushable : Pushable stack.nodes stack.height r i
    stacking-pushable = stack-pushable (itself (omega (arith, inside))) pre.tree inside r e i (omega arith)

    pub stacking-more : {stack' : Roots} → stack'.height ≡ stack.height - r + 1 → stack'.nodes ≡ set stack.nodes (stack.height - r) i
        → Stacking a ch stack' count (i + 1)
    stacking-more {stack'} p q =
        let roots = roots_of a ch i in
        let rep = itself (omega (arith, inside)) in
        let pushed =
        held-push stack.nodes stack.height (reverse roots) r i g.held
        (omega (arith, children-fit a ch pre.tree i inside r e, length-reverse roots))
        (stack-height rep pre.tree inside r e) in
        let same : take (length (reverse roots) - r) (reverse roots) ++ i ∷ [] ≡ reverse (roots_of a ch (i + 1))
        = ap (λ (l : List ℕ). l ++ i ∷ []) (ap (λ (k : ℕ). take (k - r) (reverse roots)) (length-reverse roots) ∙ take-reverse r roots)
        ∙ sym (ap reverse (roots-next a ch pre.tree i inside r e) ∙ reverse-cons i (drop r roots)) in
        record {
          high = omega arith;
          held = rw (p, q) (subst (Held (set stack.nodes (stack.height - r) i) (stack.height - r + 1)) same pushed);
        }

  pub stacking-end : count ≤ i → Held stack.nodes stack.height (reverse (roots_of a ch count))
  stacking-end l =
      let high = g.high in
      let q : i ≡ count = omega arith in
      rw (← q) g.held
