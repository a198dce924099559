-- The set of a node from those of its children, which are topmost in an array.
use mathlib.Core.Path.{◌≡◌, refl, ap, ap₂, ◌∙◌, sym}
use mathlib.Core.List.{List, [], ◌∷◌, ◌++◌, reverse, map}
use Prim.Native.Nat.{ℕ, zero, suc, ◌+◌, ◌-◌, ◌*◌, ◌%◌, ◌<◌, ◌≤◌}
use native.Mathlib.Omega.{arith}
use native.Mathlib.Nat.{add-mul, add-zero, zero-add, mul-le-mul_left}
use lib.ListN.{length, get_or, take, drop, replicate, length-append, length-drop}
use lib.Seq.{take_at, take_all, drop-drop}
use Rattle.words.specs.Lists.{list_from}
use Rattle.words.specs.Word.{node_kind, kind_of, symbol_range}
use Rattle.words.specs.Limits.{rank_most}
use Rattle.words.specs.Shape.{value_on_by}
use Rattle.words.specs.Postfix.{arity, value_on}
use Rattle.words.proofs.ListLaws.{length-list_from, get_or-list_from, map-list_from, list_from-offset}
use Rattle.words.proofs.WordLaws.{IsNode, is_node-facts}
use Rattle.words.proofs.AcceptedAlphabet.{AcceptedAlphabet, alphabet-accepted, arity-most}
use Rattle.automaton.specs.StateSet.{StateSet, state_set}
use Rattle.automaton.specs.Transition.{automaton_of}
use Rattle.automaton.proofs.TableLaws.{is_table-states}
use Rattle.operations.specs.Marks.{size_of, node_set, stored_set}
use Rattle.operations.proofs.MarksLaws.{length-node_set}
use Rattle.sets.specs.Size.{set_most}
use Rattle.sets.proofs.SizeLaws.{set-small}
use Rattle.sets.proofs.StoredLaws.{row_inside}
use Rattle.closures.specs.Closure.{Closures}
use Rattle.step.specs.NodeSteppable.{RowsInside, child_sets}
use Rattle.step.specs.Node.{Steppable as NodeStep}
use Rattle.forecast.specs.declared.pile.Pile.{Pile}
use Rattle.forecast.specs.declared.pile.Work.{Work}
use Rattle.forecast.specs.Room.{sets_most, pile_length}
use Rattle.forecast.specs.Pile.{stack_in, stack_of, Puttable, Kept, Steppable}
use Rattle.forecast.proofs.StackInLaws.{top-stack_in, put-inside}

-- the numbers of as many nodes as a node has children at most
abbrev four : List ℕ
four = 0 ∷ 1 ∷ 2 ∷ 3 ∷ []

first-numbers : (n : ℕ) → n ≤ rank_most → take n four ≡ list_from (λ k. k) 0 n
first-numbers zero h = refl
first-numbers (suc zero) h = refl
first-numbers (suc (suc zero)) h = refl
first-numbers (suc (suc (suc zero))) h = refl
first-numbers (suc (suc (suc (suc zero)))) h = refl
first-numbers (suc (suc (suc (suc (suc n))))) h = absurd (omega arith)

-- sets by their number behind the first p
stored-behind : (size : ℕ) (array : List ℕ) (p k : ℕ) → stored_set size (drop (p * size) array) k ≡ stored_set size array (p + k)
unfolding stored_set
stored-behind size array p k =
    ap (take size) (drop-drop (k * size) (p * size) array ∙ ap (λ (n : ℕ). drop n array) (sym (add-mul p k size)))

list_from-same : {A : Type 0} (f g : ℕ → A) (n j : ℕ) → ((k : ℕ) → f k ≡ g k) → list_from f j n ≡ list_from g j n
list_from-same f g zero j h = refl
list_from-same {A} f g (suc n) j h = ap₂ (λ (x : A) (l : List A). x ∷ l) (h j) (list_from-same f g n (suc j) h)

module _ {a table index : List ℕ} {w : ℕ} {pile : Pile} {work : Work} (g : Steppable a table index w pile work) where
  node-facts : IsNode a w
  node-facts = is_node-facts a w g.node

  pub step-kind : kind_of w ≡ node_kind
  step-kind = node-facts.kind

  alphabet-facts : AcceptedAlphabet a
  alphabet-facts = alphabet-accepted a g.kept.alphabet

  module _ (size : ℕ) (s : size ≡ size_of table) (children : ℕ) (r : children ≡ arity a w) where
    pub few-children : children ≤ rank_most
    few-children = omega (arith, r, arity-most alphabet-facts w)

    pub children-fit : children ≤ pile.height
    children-fit = omega (arith, r, g.fits)

    pub step-puttable : Puttable pile children size
    step-puttable = record {
      fits = children-fit;
      low = rw r g.low;
      small = rw s (set-small a table g.kept.checked);
    }

    abbrev below : ℕ
    below = pile.height - children

    -- the part of the array from the first child's set on
    abbrev part : List ℕ
    part = take (pile_length - below * size) (drop (below * size) pile.sets)

    part-is : part ≡ drop (below * size) pile.sets
    part-is =
        take_all (pile_length - below * size) (drop (below * size) pile.sets) (omega (arith, length-drop (below * size) pile.sets, pile.long))

    numbers : take children four ≡ list_from (λ k. k) 0 children
    numbers = first-numbers children few-children

    pub children-are : children ≡ length (take children four)
    children-are = sym (ap length numbers ∙ length-list_from (λ k. k) children 0)

    child-row : (k : ℕ) → k < children → k * size + size ≤ length part
    child-row k l =
        let fit = children-fit in
        let high = g.high in
        let p : (below + k) * size + size ≤ pile_length =
        row_inside (below + k) sets_most size pile_length (omega arith) (mul-le-mul_left sets_most step-puttable.small) in
        rw (part-is, length-drop (below * size) pile.sets, pile.long) (omega (arith, p, add-mul below k size))

    child-inside : RowsInside (size_of table) part (take children four)
    child-inside k h =
        let l : k < children = omega (arith, children-are) in
        let e : get_or (take children four) k 0 ≡ k =
        ap (λ (l : List ℕ). get_or l k 0) numbers ∙ get_or-list_from (λ k. k) 0 children 0 k l ∙ zero-add k in
        rw (e, ← s) (child-row k l)

    pub step-node : NodeStep table index (w % symbol_range) part (take children four) work.closures work.pending
    step-node = record {
      node = record {
        indexed = record {
          alphabet = a;
          short = alphabet-facts.counted.few;
          checked = g.kept.checked;
          indexed = g.kept.indexed;
        };
        symbol-below = omega arith;
        rank = sym node-facts.arity-rank ∙ sym r ∙ children-are;
        rows = child-inside;
      };
      closures = g.kept.closures;
      fits = omega (arith, is_table-states a table g.kept.checked, work.long);
    }

    pub part-inside : below * size ≤ length pile.sets
    part-inside = let l = put-inside step-puttable in omega arith

    pub part_small : below * size ≤ pile_length
    part_small = omega (arith, part-inside, pile.long)

    -- ---- what is worked out

    abbrev v : StateSet
    v = value_on a (node_set table) w (stack_of (size_of table) pile)

    child-sets : child_sets (size_of table) part (take children four) ≡ reverse (take (arity a w) (stack_of (size_of table) pile))
    child-sets =
        let f = stored_set (size_of table) pile.sets in
        let h : below + children ≡ pile.height = let fit = children-fit in omega arith in
        ap (map (stored_set (size_of table) part)) numbers
        ∙ map-list_from (λ k. k) (stored_set (size_of table) part) children 0
        ∙ list_from-same (stored_set (size_of table) part) (λ k. f (below + k)) children 0
        (λ k. ap (λ (l : List ℕ). stored_set (size_of table) l k) part-is
        ∙ ap (λ (n : ℕ). stored_set (size_of table) (drop (below * n) pile.sets) k) s ∙ stored-behind (size_of table) pile.sets below k)
        ∙ list_from-offset f below children 0 ∙ ap (λ (j : ℕ). list_from f j children) (add-zero below)
        ∙ sym (top-stack_in (size_of table) pile.sets below children)
        ∙ ap₂ (λ (n m : ℕ). reverse (take n (stack_in (size_of table) pile.sets m))) r h

    module _ (set : StateSet)
        (e : set ≡ state_set (automaton_of table) (w % symbol_range) (child_sets (size_of table) part (take children four))
        ++ replicate (set_most - size_of table) 0) where
      pub set_is : set ≡ value_on a (node_set table) w (stack_of (size_of table) pile) ++ replicate (set_most - size_of table) 0
      unfolding node_set value_on_by
      set_is =
          e
          ∙ ap (λ (rs : List StateSet). state_set (automaton_of table) (w % symbol_range) rs ++ replicate (set_most - size_of table) 0)
          child-sets

      length-value : length v ≡ size
      unfolding value_on_by
      length-value = length-node_set table w _ ∙ sym s

      set_front : take size set ≡ v
      set_front = ap (take size) set_is ∙ take_at v _ size length-value

      pub set-length : size ≡ length (take size set)
      set-length = sym (ap length set_front ∙ length-value)

      pub set_long : size ≤ length set
      set_long = rw (set_is, length-append v (replicate (set_most - size_of table) 0)) (omega (arith, length-value))

      pub set-puttable : Puttable pile children (length (take size set))
      set-puttable = rw (← set-length) step-puttable

      pub set-put : (pile' : Pile)
          → stack_of (length (take size set)) pile' ≡ take size set ∷ drop children (stack_of (length (take size set)) pile)
          → stack_of (size_of table) pile'
          ≡ value_on a (node_set table) w (stack_of (size_of table) pile) ∷ drop (arity a w) (stack_of (size_of table) pile)
      set-put pile' q =
          let n : length (take size set) ≡ size_of table = sym set-length ∙ s in
          ap (λ (k : ℕ). stack_of k pile') (sym n) ∙ q
          ∙ ap₂ (λ (x : StateSet) (k : ℕ). x ∷ drop children (stack_of k pile)) set_front n
          ∙ ap (λ (m : ℕ). v ∷ drop m (stack_of (size_of table) pile)) r

      pub set-height : {h : ℕ} → h ≡ pile.height - children + 1 → h ≡ pile.height - arity a w + 1
      set-height e = e ∙ ap (λ (k : ℕ). pile.height - k + 1) r

  pub kept-later : {work' : Work} → Closures table work'.closures → Kept a table index work'
  kept-later h = record {
    alphabet = g.kept.alphabet;
    checked = g.kept.checked;
    indexed = g.kept.indexed;
    closures = h;
  }
