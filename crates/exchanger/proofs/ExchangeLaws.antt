-- The loops of an accepted Exchange leave the state sets of the outcomes in the marks and answer how many are recomputed,
-- whatever the stored marks are; and the words of the chapter are those of the new tree.
use mathlib.Core.Path.{◌≡◌, refl, ap, ap₂, ◌∙◌, sym, subst}
use mathlib.Core.Bool.{Bool, true, false, not, cond}
use mathlib.Core.List.{List, [], ◌∷◌, ◌++◌, flatten, map}
use Prim.Native.Nat.{ℕ, zero, suc, ◌+◌, ◌-◌, ◌*◌, ◌<◌, ◌≤◌}
use native.Mathlib.Omega.{arith}
use native.Mathlib.Nat.{add-zero}
use native.Mathlib.Numerals.{add-one}
use lib.ListN.{length, get_or, take, drop, length-map, length-append, get_or-append}
use lib.Seq.{paste, slice, get_or-drop, get_or-append-add, get_or-set_same, get_or-set_other, take-take}
use Rattle.words.specs.Lists.{list_from}
use Rattle.words.specs.Shape.{splice_by}
use Rattle.words.specs.Postfix.{arity, is_ancestor, splice}
use Rattle.words.proofs.TestLaws.{Tested, holds, fails, tested}
use Rattle.words.proofs.ListLaws.{length-list_from}
use Rattle.words.proofs.PostfixLaws.{length-splice}
use Rattle.words.proofs.HoldingLaws.{holding-first}
use Rattle.automaton.specs.StateSet.{StateSet}
use Rattle.operations.specs.Marks.{size_of, stored_set, same_words, refit}
use Rattle.operations.specs.ExchangeCall.{ExchangeCall}
use Rattle.operations.specs.Exchange.{set_in, recomputed_in, used, words_fault, new_tree, stored_in, outcomes, new_chapter, new_marks}
use Rattle.operations.specs.Recomputation.{start_in}
use Rattle.operations.proofs.AcceptedLaws.{words-accepted}
use Rattle.operations.proofs.MarksLaws.{length-flatten, take-refit}
use Rattle.operations.proofs.FromChildren.{follows-length, follows-outcomes}
use Rattle.nodes.specs.Nodes.{set_from, marked_from}
use Rattle.nodes.proofs.LoopLaws.{node_set_at}
use Rattle.nodes.proofs.LoopLaws as loops
use Rattle.nodes.proofs.MarkLaws.{MarksHolding, holding-set, set_from-rows, marked_from-rows}
use Rattle.nodes.proofs.MarkedSets.{marked_sets, length-marked_sets}
use Rattle.std.specs.declared.ops.ControlFlow.TheVariants.{Continue, Break}
use Rattle.propagation.specs.declared.Progress.{Progress}
use Rattle.propagation.specs.Propagation.{propagate_step, propagate_from, initial}
use Rattle.propagation.proofs.PropagateNodeLaws.{recomputed-is, step-ancestor, propagate-continues, propagate-stops}
use Rattle.updates.specs.Updating.{updated_from}
use Rattle.exchanger.proofs.PropagateSets.{propagate_sets}
use Rattle.exchanger.proofs.ExchangeLoops.{moved_sets, replaced_sets, updated_sets, updated_sets-outcomes}
use Rattle.exchanger.proofs.ExchangeLoops.{length-moved_sets, words-behind}
use Rattle.exchanger.proofs.PropagateSetsLaws.{PropagatingSets, Same, propagate-propagate_sets}
use Rattle.exchanger.proofs.TailLaws.{tail-filled}
use Rattle.exchanger.proofs.CallNumberLaws.{total_count, moved_chapter, CallNumbers, call-numbers, length-used, chapter-movable}
use Rattle.exchanger.proofs.MovedLaws.{gap_sets, behind_use}

-- the marks at exit, and the number worked out
pub record ExchangeLeft (c : ExchangeCall) (marks' : List ℕ) (count : ℕ) : Type 0 where
  pub words : marks' ≡ new_marks c
  pub count-is : count ≡ recomputed_in (outcomes c)

module _ (c : ExchangeCall) (ok : words_fault c ≡ 0) where
  abbrev a : List ℕ
  a = c.alphabet

  abbrev table : List ℕ
  table = c.table

  -- the used elements
  abbrev ch : List ℕ
  ch = used c

  abbrev element : ℕ
  element = c.element

  abbrev xs : List ℕ
  xs = c.replacement

  abbrev size : ℕ
  size = size_of table

  abbrev stored : ℕ → StateSet
  stored = stored_in c

  abbrev s : ℕ
  s = start_in c

  abbrev tree : List ℕ
  tree = splice a ch element xs

  abbrev gap : List StateSet
  gap = gap_sets c ok

  abbrev total : ℕ
  total = total_count c s

  abbrev rest : List ℕ
  rest = behind_use (c.count * size) (total * size) c.marks

  abbrev above : ℕ → Bool
  above i = is_ancestor a ch element (i - (s + length xs) + (element + 1))

  facts : CallNumbers c s size
  facts = call-numbers c ok s refl size refl

  he : element < length ch
  he = rw (length-used c ok) (words-accepted c ok).change.element

  abbrev replaced : ℕ → List StateSet
  replaced = replaced_sets a table stored ch element xs gap

  -- how many nodes the replacement has below its root
  abbrev m : ℕ
  m = length xs - 1

  some : length xs ≡ suc m
  some = let l = facts.some in omega arith

  length-gap : length gap ≡ length xs
  length-gap =
      length-append (list_from stored s m) (stored element ∷ []) ∙ ap (λ (i : ℕ). i + 1) (length-list_from stored m s) ∙ add-one m ∙ sym some

  length_moved : length (moved_sets a table stored ch element xs gap) ≡ length tree
  length_moved =
      let g = words-accepted c ok in
      let shape = g.change.replacement.tree.shape in
      let some = g.change.replacement.counted.some in
      length-moved_sets a table stored ch element xs gap he shape some length-gap ∙ sym (length-splice (arity a) ch element xs he)

  length-replaced : (k : ℕ) → length (replaced k) ≡ length tree
  length-replaced k = length-marked_sets a table tree s k (moved_sets a table stored ch element xs gap) ∙ length_moved

  -- the replacement's nodes, worked out in the marks
  module _ (moved : List ℕ) (held : MarksHolding (size_of table) moved (moved_sets a table stored ch element xs gap) rest) where
    replaced-holds : (k : ℕ) → k ≤ length xs → MarksHolding size (marked_from a table tree s k moved) (replaced k) rest
    replaced-holds k h =
        let t = length_moved in
        let l = length-splice (arity a) ch element xs he in
        marked_from-rows a table tree moved (moved_sets a table stored ch element xs gap) rest s k held (omega arith) (omega arith)

    -- before the root is worked out, and behind it
    abbrev before : List ℕ
    before = marked_from a table tree s m moved

    abbrev work : List ℕ
    work = marked_from a table tree s (suc m) moved

    abbrev rows : List StateSet
    rows = replaced (suc m)

    before-holds : MarksHolding size before (replaced m) rest
    before-holds = replaced-holds m (omega (arith, some))

    work-holds : MarksHolding size work rows rest
    work-holds = replaced-holds (suc m) (omega (arith, some))

    -- the old element's set stands at the root's place as long as the root is not worked out
    root_kept : (k : ℕ) → k ≤ m → node_set_at (replaced k) (s + m) ≡ stored element
    unfolding marked_sets
    root_kept zero h =
        let front = list_from stored 0 s in
        let behind = list_from stored (element + 1) (length (drop (element + 1) ch)) in
        let at : length (list_from stored s m) ≡ m = length-list_from stored m s in
        ap (λ (i : ℕ). node_set_at (front ++ (gap ++ behind)) (i + m)) (sym (length-list_from stored s 0))
        ∙ get_or-append-add front (gap ++ behind) m []
        ∙ get_or-append gap behind [] m (rw length-gap (omega (arith, some)))
        ∙ ap (λ (i : ℕ). node_set_at gap i) (sym (add-zero m) ∙ ap (λ (i : ℕ). i + 0) (sym at))
        ∙ get_or-append-add (list_from stored s m) (stored element ∷ []) 0 []
    root_kept (suc k) h =
        get_or-set_other (replaced k) (s + k) (s + m) _ [] (omega arith) ∙ root_kept k (omega arith)

    abbrev left : ℕ
    left = length (drop (element + 1) ch)

    length-tree : length tree ≡ s + (length xs + left)
    length-tree = length-splice (arity a) ch element xs he

    abbrev v : StateSet
    v = loops.set_from_sets a table tree (s + m) (replaced m)

    abbrev new : StateSet
    new = set_from a table tree before (s + m)

    abbrev old : StateSet
    old = stored_set size before (s + m)

    -- the root's words are compared with the old element's
    new_is : new ≡ v
    new_is =
        set_from-rows a table tree before (replaced m) rest (s + m) before-holds
        (omega (arith, some, length-replaced m, length-tree)) (omega (arith, some, length-tree))

    old-is : old ≡ stored element
    old-is =
        holding-set size before (replaced m) rest (s + m) before-holds (omega (arith, some, length-replaced m, length-tree))
        ∙ root_kept m (omega arith)

    root_is : node_set_at rows (s + length xs - 1) ≡ v
    unfolding marked_sets
    root_is =
        let at : s + length xs - 1 ≡ s + m = omega (arith, some) in
        ap (node_set_at rows) at ∙ get_or-set_same (replaced m) (s + m) v [] (omega (arith, some, length-replaced m, length-tree))

    tests : same_words (node_set_at rows (s + length xs - 1)) (stored element) ≡ same_words new old
    tests = ap₂ same_words (root_is ∙ sym new_is) (sym old-is)

    behind : (t : Progress) → t.reach ≡ 1 → t.recomputed ≡ length xs
        → Same a table tree ch element rest above
        (propagate_from a table tree (suc (s + m)) left work t) (propagate_sets a table tree above (s + length xs) left rows (length xs))
    behind t r e =
        let g = words-accepted c ok in
        let at : PropagatingSets a table tree ch element rest above (s + length xs) (element + 1) 0 left work rows = record {
          words =
              λ t. sym (get_or-drop (s + length xs) tree t 0)
              ∙ ap (λ (l : List ℕ). get_or l t 0)
              (words-behind a table stored ch element xs gap he g.change.replacement.tree.shape
              g.change.replacement.counted.some length-gap)
              ∙ get_or-drop (element + 1) ch t 0;
          ancestors = λ t. ap (is_ancestor a ch element) (omega arith);
          holding = holding-first (arity a) ch element;
          inside = omega (arith, length-tree);
          rows_inside = omega (arith, length-tree, length-replaced (suc m));
          sets = work-holds;
        } in
        let first : suc (s + m) ≡ s + length xs = omega (arith, some) in
        rw first
        (subst
        (λ (i : ℕ). Same a table tree ch element rest above (propagate_from a table tree (s + length xs) left work t)
        (propagate_sets a table tree above (s + length xs) left rows i))
        e (propagate-propagate_sets a table tree ch element rest above left (s + length xs) (element + 1) 0 work rows t r at))

    -- ---- both loops

    abbrev propagated : List ℕ × ℕ
    propagated = propagate_from a table tree (s + m) (suc left) before (initial m)

    updated-is : updated_from a table tree s (s + length xs - 1) moved ≡ propagated
    unfolding updated_from
    updated-is =
        let at : s + length xs - 1 ≡ s + m = omega (arith, some) in
        let count : s + length xs - 1 - s ≡ m = omega (arith, some) in
        let more : length tree - (s + m) ≡ suc left = omega (arith, some, length-tree) in
        ap₂ (λ (i k : ℕ). propagate_from a table tree i (length tree - i) (marked_from a table tree s k moved) (initial k)) at count
        ∙ ap (λ (i : ℕ). propagate_from a table tree (s + m) i before (initial m)) more

    -- the root is worked out, and the loop is behind it
    step-root : (b : Bool) → same_words new old ≡ b
        → (work, cond (not b) (Continue (record { reach = 1; recomputed = m + 1 })) (Break (m + 1)))
        ≡ propagate_step a table tree (s + m) before (initial m)
    unfolding marked_from
    step-root b h =
        step-ancestor a table tree (s + m) before (initial m) _ refl (omega arith) (work, not b)
        (recomputed-is a table tree (s + m) before b h)

    abbrev onward : List StateSet × ℕ
    onward = propagate_sets a table tree above (s + length xs) left rows (length xs)

    sets-is : updated_sets a table stored ch element xs gap ≡ cond (same_words new old) (rows, length xs) onward
    unfolding updated_sets
    sets-is =
        ap
        (λ (i : ℕ). cond (same_words (node_set_at (replaced i) (s + length xs - 1)) (stored element)) (replaced i, length xs)
        (propagate_sets a table tree above (s + length xs) left (replaced i) (length xs)))
        some
        ∙ ap (λ (b : Bool). cond b (rows, length xs) onward) tests

    exchanged : Same a table tree ch element rest above (updated_from a table tree s (s + length xs - 1) moved)
        (updated_sets a table stored ch element xs gap)
    exchanged = rw (updated-is, sets-is) (go (tested (same_words new old)))
      where
        count : m + 1 ≡ length xs
        count = omega (arith, some)

        go : Tested (same_words new old)
            → Same a table tree ch element rest above propagated (cond (same_words new old) (rows, length xs) onward)
        go (holds b) =
            rw (propagate-stops a table tree (s + m) before (initial m) left work _ (step-root true b), b)
            (record { sets = work-holds; count = count })
        go (fails b) =
            rw (propagate-continues a table tree (s + m) before (initial m) left work _ (step-root false b), b) (behind _ refl count)

    pub left-outcomes : (marks' : List ℕ) (count : ℕ)
        → (marks', count)
        ≡ updated_from a table tree (start_in c)
        (start_in c + length xs - 1) moved
        → ExchangeLeft c marks' count
    unfolding outcomes new_tree new_marks refit
    left-outcomes marks' count q =
        let g = words-accepted c ok in
        let os = outcomes c in
        let same : Same a table tree ch element rest above (marks', count) (map set_in os, recomputed_in os) =
        rw (
          q,
          ← updated_sets-outcomes a table stored ch element xs gap he g.change.replacement.tree.shape
              g.change.replacement.counted.some length-gap,
        ) exchanged in
        let many : length os ≡ length tree =
        follows-length a table tree [] os (follows-outcomes a table stored ch element xs he g.change.replacement.tree.shape) in
        let long : length (flatten (map set_in os)) ≡ total * size =
        length-flatten size (map set_in os) same.sets.sized
        ∙ ap (λ (i : ℕ). i * size) (length-map os set_in ∙ many ∙ sym facts.total) in
        record {
          words =
              same.sets.words
              ∙ ap (λ (i : ℕ). flatten (map set_in os) ++ behind_use (c.count * size) i c.marks) (sym long);
          count-is = same.count;
        }

-- ---- the chapter

module _ (c : ExchangeCall) (ok : words_fault c ≡ 0) where
  abbrev place : ℕ
  place = start_in c

  pub chapter-left : (moved filled : List ℕ) → moved ≡ moved_chapter c (start_in c)
      → filled ≡ paste moved (start_in c) c.replacement (length c.replacement)
      → filled ≡ new_chapter c
  unfolding new_tree new_chapter splice_by
  chapter-left moved filled p q =
      let g = call-numbers c ok place refl (size_of c.table) refl in
      let low = g.low in
      let inside = g.inside in
      let xs = c.replacement in
      let tail = slice (c.element + 1) c.count c.chapter in
      q ∙ ap (λ (l : List ℕ). paste l place xs (length xs)) p
      ∙ tail-filled c.chapter c.count (c.element + 1) (place + length xs)
      (chapter-movable c ok place refl (size_of c.table) refl) place xs refl
      ∙ ap (λ (l : List ℕ). refit c.count (l ++ (xs ++ tail)) c.chapter) (sym (take-take place c.count c.chapter (omega arith)))

  -- the new tree's words are those in use
  pub nodes-left : (filled : List ℕ) → filled ≡ new_chapter c → take (total_count c (start_in c)) filled ≡ new_tree c
  unfolding new_chapter
  nodes-left filled p =
      let g = call-numbers c ok place refl (size_of c.table) refl in
      ap₂ take g.total p ∙ take-refit c.count (new_tree c) c.chapter
