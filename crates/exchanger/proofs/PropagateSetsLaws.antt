-- The loop behind a replaced subtree works in the marks and tells ancestors by a counter. It does what the loop over the list of
-- state sets does, which asks who is an ancestor.
use mathlib.Core.Path.{◌≡◌, refl, ap, ap₂, ◌∙◌, sym, subst}
use mathlib.Core.Bool.{Bool, true, false}
use mathlib.Core.List.{List}
use Prim.Native.Nat.{ℕ, zero, suc, ◌+◌, ◌-◌, ◌<◌, ◌≤◌}
use native.Mathlib.Omega.{arith}
use native.Mathlib.Decide.{dec_le}
use native.Mathlib.Nat.{add-zero, add-suc, suc-add}
use lib.ListN.{length, get_or, set, length-set}
use Rattle.words.specs.Postfix.{arity, is_ancestor}
use Rattle.words.proofs.TestLaws.{Tested, holds, fails, tested}
use Rattle.words.proofs.HoldingLaws.{HoldingTree, takes-others, holding-others, takes-holding, holding-ancestor}
use Rattle.automaton.specs.StateSet.{StateSet}
use Rattle.operations.specs.Marks.{size_of, stored_set, same_words}
use Rattle.nodes.specs.Nodes.{set_from, marked_at}
use Rattle.nodes.proofs.LoopLaws.{node_set_at}
use Rattle.nodes.proofs.LoopLaws as loops
use Rattle.nodes.proofs.MarkLaws.{MarksHolding, holding-set, set_from-rows, marked_at-rows}
use Rattle.propagation.specs.declared.Progress.{Progress}
use Rattle.propagation.specs.Propagation.{propagate_from}
use Rattle.propagation.proofs.PropagateNodeLaws.{recomputed-is, recomputed-same, step-beside}
use Rattle.propagation.proofs.PropagateNodeLaws.{step-ancestor, propagate-continues, propagate-stops}
use Rattle.exchanger.proofs.PropagateSets.{propagate_sets, propagate_sets-beside, propagate_sets-last, propagate_sets-onward}

-- two functions that agree from i and from j on
module _ {A : Type 0} (f g : ℕ → A) (i j : ℕ) (h : (t : ℕ) → f (i + t) ≡ g (j + t)) where
  here : f i ≡ g j
  here = ap f (sym (add-zero i)) ∙ h 0 ∙ ap g (add-zero j)

  later : (t : ℕ) → f (suc i + t) ≡ g (suc j + t)
  later t = ap f (suc-add i t ∙ sym (add-suc i t)) ∙ h (suc t) ∙ ap g (add-suc j t ∙ sym (suc-add j t))

module _ (a table ch used : List ℕ) (element : ℕ) (rest : List ℕ) (above : ℕ → Bool) where
  abbrev size : ℕ
  size = size_of table

  -- the loop is at node i of the new tree, which was node j of the old one; n nodes are left
  pub record PropagatingSets (i j d n : ℕ) (marks : List ℕ) (rows : List StateSet) : Type 0 where
    pub words : (t : ℕ) → get_or ch (i + t) 0 ≡ get_or used (j + t) 0
    pub ancestors : (t : ℕ) → above (i + t) ≡ is_ancestor a used element (j + t)
    pub holding : HoldingTree (arity a) used element j d
    pub inside : i + n ≤ length ch
    pub rows_inside : i + n ≤ length rows
    pub sets : MarksHolding (size_of table) marks rows rest

  -- the marks hold the state sets, and the counts are the same
  pub record Same (c : List ℕ × ℕ) (u : List StateSet × ℕ) : Type 0 where
    pub sets : MarksHolding (size_of table) c.0 u.0 rest
    pub count : c.1 ≡ u.1

  abbrev propagates : ℕ → ℕ → List ℕ → Progress → List ℕ × ℕ
  propagates = propagate_from a table ch

  abbrev propagates_sets : ℕ → ℕ → List StateSet → ℕ → List StateSet × ℕ
  propagates_sets = propagate_sets a table ch above

  abbrev Goal : ℕ → Type 0
  Goal n =
      (i j d : ℕ) (marks : List ℕ) (rows : List StateSet) (t : Progress) → t.reach ≡ suc d → PropagatingSets i j d n marks rows
      → Same (propagates i n marks t) (propagates_sets i n rows t.recomputed)

  module _ (n : ℕ) (ih : Goal n) (i j d : ℕ) (marks : List ℕ) (rows : List StateSet) (t : Progress) (reached : t.reach ≡ suc d)
      (g : PropagatingSets i j d (suc n) marks rows) where
    abbrev r : ℕ
    r = arity a (get_or ch i 0)

    word : arity a (get_or used j 0) ≡ r
    word = ap (arity a) (sym (here (λ k. get_or ch k 0) (λ k. get_or used k 0) i j g.words))

    above-here : above i ≡ is_ancestor a used element j
    above-here = here above (is_ancestor a used element) i j g.ancestors

    -- the loop at the next node
    next : (d' : ℕ) (marks' : List ℕ) (rows' : List StateSet) → HoldingTree (arity a) used element (suc j) d' → length rows' ≡ length rows
        → MarksHolding size marks' rows' rest → PropagatingSets (suc i) (suc j) d' n marks' rows'
    next d' marks' rows' y l s =
        let inside = g.inside in
        let rows_inside = g.rows_inside in
        record {
          words = later (λ k. get_or ch k 0) (λ k. get_or used k 0) i j g.words;
          ancestors = later above (is_ancestor a used element) i j g.ancestors;
          holding = y;
          inside = omega arith;
          rows_inside = omega arith;
          sets = s;
        }

    beside : r ≤ d → Same (propagates i (suc n) marks t) (propagates_sets i (suc n) rows t.recomputed)
    beside l =
        let l' : arity a (get_or used j 0) ≤ d = rw word l in
        let y : HoldingTree (arity a) used element (suc j) (d - r + 1) =
        subst (λ (k : ℕ). HoldingTree (arity a) used element (suc j) (d - k + 1)) word
        (holding-others (arity a) used element j d g.holding l') in
        let t' : Progress = record { reach = t.reach - r + 1; recomputed = t.recomputed } in
        let p : propagates i (suc n) marks t ≡ propagates (suc i) n marks t' =
        propagate-continues a table ch i marks t n marks t' (step-beside a table ch i marks t r refl (omega arith)) in
        let q : propagates_sets i (suc n) rows t.recomputed ≡ propagates_sets (suc i) n rows t.recomputed =
        propagate_sets-beside a table ch above i n rows t.recomputed
        (above-here ∙ takes-others (arity a) used element j d g.holding l') in
        rw (p, q) (ih (suc i) (suc j) (d - r + 1) marks rows t' (omega arith) (next (d - r + 1) marks rows y refl g.sets))

    ancestor : d < r → Same (propagates i (suc n) marks t) (propagates_sets i (suc n) rows t.recomputed)
    ancestor l = go (tested (same_words new old))
      where
        new : StateSet
        new = set_from a table ch marks i

        old : StateSet
        old = stored_set size marks i

        l' : d < arity a (get_or used j 0)
        l' = rw word l

        is-above : above i ≡ true
        is-above = above-here ∙ takes-holding (arity a) used element j d g.holding l'

        inside : i ≤ length ch
        inside = let h = g.inside in omega arith

        inside-rows : i < length rows
        inside-rows = let h = g.rows_inside in omega arith

        tests : same_words (loops.set_from_sets a table ch i rows) (node_set_at rows i) ≡ same_words new old
        tests =
            ap₂ same_words
            (sym (set_from-rows a table ch marks rows rest i g.sets (omega (arith, inside-rows)) inside))
            (sym (holding-set size marks rows rest i g.sets inside-rows))

        go : Tested (same_words new old) → Same (propagates i (suc n) marks t) (propagates_sets i (suc n) rows t.recomputed)
        go (holds b) =
            let p : propagates i (suc n) marks t ≡ (marks, t.recomputed + 1) =
            propagate-stops a table ch i marks t n marks (t.recomputed + 1)
            (step-ancestor a table ch i marks t r refl (omega arith) (marks, false) (recomputed-same a table ch i marks b)) in
            let q : propagates_sets i (suc n) rows t.recomputed ≡ (rows, t.recomputed + 1) =
            propagate_sets-last a table ch above i n rows t.recomputed is-above (tests ∙ b) in
            rw (p, q) (record { sets = g.sets; count = refl })
        go (fails b) =
            let t' : Progress = record { reach = 1; recomputed = t.recomputed + 1 } in
            let marks' = marked_at a table ch i marks in
            let rows' = set rows i (loops.set_from_sets a table ch i rows) in
            let p : propagates i (suc n) marks t ≡ propagates (suc i) n marks' t' =
            propagate-continues a table ch i marks t n marks' t'
            (step-ancestor a table ch i marks t r refl (omega arith) (marks', true) (recomputed-is a table ch i marks false b)) in
            let q : propagates_sets i (suc n) rows t.recomputed ≡ propagates_sets (suc i) n rows' (t.recomputed + 1) =
            propagate_sets-onward a table ch above i n rows t.recomputed is-above (tests ∙ b) in
            rw (p, q)
            (ih (suc i) (suc j) 0 marks' rows' t' refl
            (next 0 marks' rows' (holding-ancestor (arity a) used element j d g.holding l') (length-set rows i _)
            (marked_at-rows a table ch marks rows rest i g.sets inside-rows inside)))

  pub propagate-propagate_sets : (n : ℕ) → Goal n
  unfolding propagate_from propagate_sets
  propagate-propagate_sets zero i j d marks rows t reached g = record { sets = g.sets; count = refl }
  propagate-propagate_sets (suc n) i j d marks rows t reached g = choose (dec_le (arity a (get_or ch i 0)) d) (propagate-propagate_sets n)
    where
      choose : Dec (arity a (get_or ch i 0) ≤ d) → Goal n
          → Same (propagates i (suc n) marks t) (propagates_sets i (suc n) rows t.recomputed)
      choose (yes l) ih = beside n ih i j d marks rows t reached g l
      choose (no l) ih = ancestor n ih i j d marks rows t reached g (omega arith)
